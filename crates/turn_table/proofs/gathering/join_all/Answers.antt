use Rattle.std.proofs.Common.{◌≡◌, All, length, sym, ap, subst, ◌∙◌, arith}
use Rattle.turn_table.specs.declared.pass.Pass.{Pass}
use Rattle.turn_table.specs.declared.view.View.{View}
use Rattle.turn_table.specs.Passes.{view_of, only, IsSeated, HoldsNone}
use Rattle.turn_table.specs.Views.{held}
use Rattle.turn_table.proofs.CellLists.{all_snoc}
use Rattle.turn_table.proofs.Passing.{joins}
use Rattle.turn_table.proofs.gathering.join_all.Goals as goal

pub into_seat-requires : goal.into_seat-requires
into_seat-requires g c =
    let P : Pass → Type 0 = λ p. IsSeated c.args.shared.now.table_id (g.V.Tenant.shape c.args.shared.now.key) p × HoldsNone p in
    let here = (all_snoc P c.pop.new.self.items c.in-Some.pass (subst (All P) c.in-Some.ensures.items c.loop-pass.invariant.passes)).0 in
    (view_of c.in-Some.pass, here.0.seated)

pub join_seat-requires : goal.join_seat-requires
join_seat-requires g c =
    let P : Pass → Type 0 = λ p. IsSeated c.args.shared.now.table_id (g.V.Tenant.shape c.args.shared.now.key) p × HoldsNone p in
    let here = (all_snoc P c.pop.new.self.items c.in-Some.pass (subst (All P) c.in-Some.ensures.items c.loop-pass.invariant.passes)).0 in
    let w = c.into_seat.result.me.0 in
    let same : view_of c.in-Some.pass ≡ w = ap only c.into_seat.ensures.2 in (
      c.loop-pass.invariant.table ∙ c.requires.table,
      c.into_seat.ensures.0 ∙ here.0.table,
      c.into_seat.ensures.3,
      c.requires.words,
      joins g.V.Tenant c.args.shared.now.key c.loop-pass.root.id c.loop-pass.root.me.0 c.into_seat.result.id w c.loop-pass.invariant.root.0
          (let a = here.0.lives in let b = here.0.number in let n : (view_of c.in-Some.pass).number ≡ w.number = ap (λ (v : View). v.number) same in omega arith)
          (λ q. ap (λ v. held v q) (sym same) ∙ here.1 q),
    )

pub loop-pass-preserved : goal.loop-pass-preserved
loop-pass-preserved g c =
    let P : Pass → Type 0 = λ p. IsSeated c.args.shared.now.table_id (g.V.Tenant.shape c.args.shared.now.key) p × HoldsNone p in
    let inv = c.loop-pass.invariant in let me = c.join_seat.ensures.2 in
    record {
      table = c.join_seat.ensures.0 ∙ inv.table;
      root = (ap (λ m. m.0.is_root) me ∙ inv.root.0, ap (λ m. m.1) me ∙ inv.root.1, ap (λ m. m.0.made) me ∙ inv.root.2);
      back = (let b = inv.back in let l = ap (λ m. length m.0.back) me in let d = c.in-Some.ensures.cases in omega arith);
      passes = (all_snoc P c.pop.new.self.items c.in-Some.pass (subst (All P) c.in-Some.ensures.items inv.passes)).1;
    }
