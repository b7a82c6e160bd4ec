use Rattle.std.proofs.Common.{◌≡◌, ap, ◌∙◌, arith}
use Rattle.turn_table.specs.declared.view.View.{View}
use Rattle.turn_table.specs.Passes.{view_of, mark_of}
use Rattle.turn_table.specs.Shapes.{is_cleared}
use Rattle.turn_table.specs.Views.{mark}
use Rattle.turn_table.proofs.Lookups.{remembered}
use Rattle.turn_examples.proofs.crossing.work.Goals as goal

pub returns-clause-rises : goal.returns-clause-rises
returns-clause-rises c =
    let v = view_of c.args.pass.now in let told = c.load-n.ensures.mark in
    let kept : mark_of c.try_take.new.pass 0 ≡ mark v 0 = ap (λ (w : View). mark w 0) c.in_ok-turn.ensures.turn.1
    ∙ remembered (is_cleared v.shape 0) v.marks 0 (ap (λ sh. is_cleared sh 0 0) c.requires.pass.shaped) in omega arith
