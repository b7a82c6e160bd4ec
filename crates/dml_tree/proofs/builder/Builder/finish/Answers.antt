use Rattle.std.proofs.Common.{◌∙◌, ap}
use Rattle.dml_tree.specs.Grammar.{end_refusal, key_wanted}
use Rattle.dml_tree.specs.Building.{brackets, wanted}
use Rattle.dml_tree.proofs.Builders.{end_of_last}
use Rattle.dml_tree.proofs.builder.Builder.finish.Goals as goal

pub returns-in-Some-pop-clause-fault : goal.returns-in-Some-pop-clause-fault
returns-in-Some-pop-clause-fault c =
    ap (λ k. end_refusal (wanted k) (brackets c.args.self.opened.items) c.args.end) c.in_default.is
    ∙ ap (λ os. end_refusal key_wanted (brackets os) c.args.end) c.in-Some-pop.ensures.items
    ∙ end_of_last c.pop.new.self.items c.in-Some-pop.list c.args.end
