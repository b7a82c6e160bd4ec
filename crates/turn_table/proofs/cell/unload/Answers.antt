use Rattle.std.proofs.Common.{◌≡◌, ℕ, false, get_or, set, sym, ap, subst, ◌∙◌, inl, inr, ⊎_elim, arith, get_or-set_other}
use Rattle.std.specs.Slots.{slots_items, slots_filled}
use mathlib.Core.Option.{some, some-injective}
use lib.ListN.{get_elem?}
use Rattle.turn_table.specs.declared.cell.Cell.TheVariants.{Value}
use Rattle.turn_table.proofs.Lookups.{alike}
use Rattle.turn_table.proofs.Hands.{is_value}
use Rattle.turn_table.proofs.Passing.{at_end}
use Rattle.turn_table.proofs.CellLists.{unset_here}
use Rattle.turn_table.proofs.cell.unload.Goals as goal

pub into_value-requires : goal.into_value-requires
into_value-requires g c = let h = c.requires.cells.valued c.loop-p.p c.loop-p-test.true in
    is_value c.take-in-loop-p.result h.0 (some-injective c.take-in-loop-p.result (Value h.0) (sym c.take-in-loop-p.ensures.value ∙ ap (λ l. get_elem? l c.loop-p.p) c.loop-p.invariant.items ∙ h.1))

pub loop-p-preserved : goal.loop-p-preserved
loop-p-preserved g c =
    let inv = c.loop-p.invariant in let o = c.take-in-loop-p.ensures.others in let p = c.loop-p.p in let was = slots_filled c.loop-p.closed.slots in
    record {
      items = o.0 ∙ inv.items;
      len = o.2 ∙ inv.len;
      taken = λ k h. ap (λ l. get_or l k false) o.1 ∙ alike k p
          (λ same. subst (λ (q : ℕ). get_or (set was q false) k false ≡ false) same (unset_here was k))
          (λ ne. get_or-set_other was p k false false ne ∙ inv.taken k (⊎_elim (λ b. inl (omega arith)) (λ e. inr e) h));
      left = λ k lo hi. ap (λ l. get_or l k false) o.1 ∙ get_or-set_other was p k false false (λ same. omega arith) ∙ inv.left k (omega arith) hi;
      count = (let a = c.push_reserved.ensures.len in let b = inv.count in omega arith);
      space = (let a = c.push_reserved.ensures.capacity in let b = inv.space in omega arith);
      values = λ q y at. ⊎_elim
          (λ old. inv.values q y old)
          (λ new. let ok = c.loop-p.room.ok.0 in let b = inv.count in let here : q ≡ p = (let n = new.1 in omega arith) in
          ap (get_elem? (slots_items c.args.closed.slots)) here ∙ sym (ap (λ l. get_elem? l p) inv.items) ∙ c.take-in-loop-p.ensures.value ∙ ap some (c.into_value.ensures ∙ ap (λ x. Value x) new.0))
          (at_end c.loop-p.room.items c.into_value.result y q (ap (λ l. get_elem? l q) (sym c.push_reserved.ensures.items) ∙ at));
    }
