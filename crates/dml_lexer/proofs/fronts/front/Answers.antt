use Rattle.std.proofs.Common.{subst, sym, ◌∷◌}
use Rattle.std.specs.Prelude.{None, ◌+◌}
use Rattle.dml_lexer.specs.FirstFront.{BeginsFront}
use Rattle.dml_lexer.proofs.Runs.{comment_begins}
use Rattle.dml_lexer.proofs.fronts.front.Goals as goal

pub returns-in-35 : goal.returns-in-35
returns-in-35 c =
    subst (λ first. BeginsFront None (1 + c.len_before.result) (first ∷ c.args.more.now)) (sym c.in-35.is)
    (comment_begins c.args.more.now c.len_before.result c.len_before.ensures.run c.len_before.ensures.within)
