use Rattle.std.proofs.Common.{All, subst, arith}
use Rattle.turn_table.specs.declared.pass.Pass.{Pass}
use Rattle.turn_table.specs.Passes.{IsSeated, IsNew}
use Rattle.turn_table.specs.Turned.{table_of}
use Rattle.turn_examples.specs.Balls.{ball_shape}
use Rattle.turn_examples.proofs.Lasts.{all_snoc}
use Rattle.turn_examples.proofs.ball.open.Goals as goal

pub returns : goal.returns
returns c =
    let P : Pass → Type 0 = λ p. IsSeated (table_of c.in-Ok.made.0) ball_shape p × IsNew p in
    let s = all_snoc P c.pop.new.self.items c.in-Some.second (subst (All P) c.in-Some.ensures.items c.in-Ok.ensures.passes) in
    let f = all_snoc P c.pop-2.new.self.items c.in-Some-pop.first (subst (All P) c.in-Some-pop.ensures.items s.1) in
    let made = c.in-Ok.ensures.made in let fit = c.in-Ok.made.1.ok.1 in (
      f.0.0,
      f.0.1.holds,
      s.0.0,
      s.0.1.holds,
      made.0,
      (let a = made.1 in let b = c.in-Some.ensures.cases in let d = c.in-Some-pop.ensures.cases in omega arith),
      (let a = made.1 in let b = c.pop.ensures.capacity in let d = c.pop-2.ensures.capacity in omega arith),
    )
