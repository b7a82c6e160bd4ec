use Rattle.std.proofs.Common.{refl}
use Rattle.dml_tree.specs.Building.{IsClosed}
use Rattle.dml_tree.proofs.Grammars.{push_key}
use Rattle.dml_tree.proofs.Builders.{on_ok, if_err, close_goes_on, right_refused}
use Rattle.dml_tree.proofs.builder.Builder.key_at.Goals as goal

pub returns-in_ok-text-in-Word-clause-goes_on : goal.returns-in_ok-text-in-Word-clause-goes_on
returns-in_ok-text-in-Word-clause-goes_on c =
    let old = c.args.self.now in
    record {
      file = refl;
      holds = λ ts h. push_key old.file c.args.bytes.now 0 ts old.opened.items old.attributes.items c.args.token.now
          (record { text = c.in_ok-text-in-Word.text; place = record { file = old.file; at = c.args.token.now.from } }) h
          (record { word = c.in-Word.is; text = c.in_ok-text-in-Word.ensures; at = refl });
    }

pub returns-in-RightBracket-clause-goes_on : goal.returns-in-RightBracket-clause-goes_on
returns-in-RightBracket-clause-goes_on c =
    on_ok c.close_list.result _ _ (λ (closed : IsClosed c.args.self.now c.close_list.new.self). close_goes_on c.args.bytes.now c.args.token.now c.args.self.now c.close_list.new.self c.requires.no_key c.in-RightBracket.is closed) c.close_list.ensures.closed

pub returns-in-RightBracket-clause-fault : goal.returns-in-RightBracket-clause-fault
returns-in-RightBracket-clause-fault c =
    if_err c.close_list.result _ _ (λ f h. right_refused c.args.self.now.opened.items c.args.token.now f c.in-RightBracket.is h) c.close_list.ensures.fault
