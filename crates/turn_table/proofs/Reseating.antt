-- A pass after a step of its seat.
use Rattle.std.proofs.Common.{◌≡◌, ◌≢◌, ℕ, List, [], ◌∷◌, sym, ap, subst, ◌∙◌, arith}
use Rattle.atomic_table.specs.Seated.{TableId}
use Rattle.atomic_table.specs.Table.{Me}
use Rattle.turn_table.specs.declared.cell.Cell.{Cell}
use Rattle.turn_table.specs.declared.pass.Pass.{Pass}
use Rattle.turn_table.specs.declared.view.Shape.{Shape}
use Rattle.turn_table.specs.declared.view.View.{View}
use Rattle.turn_table.specs.Passes.{only, view_of, IsSeated}
use Rattle.turn_table.proofs.Lookups.{alike}

-- the view that a pass has after its seat went back
pub viewing : (p : Pass) (w : View) → p.badge.views ≡ w ∷ [] → view_of p ≡ w
viewing p w e = ap only e

pub reseated : (z : TableId) (shape : Shape) (p q : Pass) (w : View) → IsSeated z shape p → q.badge.table_id ≡ z → q.badge.views ≡ w ∷ [] → q.number ≡ p.number
    → w.number ≡ (view_of p).number → w.shape ≡ (view_of p).shape → IsSeated z shape q
reseated z shape p q w s table views number same same_shape = record {
  table = table;
  seated = views ∙ ap (λ v. v ∷ []) (sym (viewing q w views));
  number = ap (λ (v : View). v.number) (viewing q w views) ∙ same ∙ s.number ∙ sym number;
  lives = let a = s.lives in omega (arith, number);
  shaped = ap (λ (v : View). v.shape) (viewing q w views) ∙ same_shape ∙ s.shaped;
  slots = s.slots;
  words = s.words;
}

-- after a try the pass has won or lost
back : {A : Type 0} (P : A → Type 0) (x y : A) → y ≡ x → P x → P y
back P x y e = subst P (sym e)

pub after_try : {T : Type 0} (P : Me (Cell T) View → Type 0) (found : ℕ) (me won lost : Me (Cell T) View) → (found ≡ 0 → me ≡ won) × (found ≢ 0 → me ≡ lost) → P won → P lost → P me
after_try P found me won lost h a b = alike found 0 (λ z. back P won me (h.0 z) a) (λ nz. back P lost me (h.1 nz) b)

-- the same, where the seat's view and hand are known together
pub reseated_by : {S : Type 0} (z : TableId) (shape : Shape) (p q : Pass) (me : Me S View) (w : View) (l : List (ℕ × S)) → IsSeated z shape p → q.badge.table_id ≡ z → q.badge.views ≡ me.0 ∷ [] → q.number ≡ p.number
    → me ≡ (w, l) → w.number ≡ (view_of p).number → w.shape ≡ (view_of p).shape → IsSeated z shape q
reseated_by z shape p q me w l s table views number e = reseated z shape p q w s table (views ∙ ap (λ (m : Me _ View). m.0 ∷ []) e) number

pub viewing_by : {S : Type 0} (q : Pass) (me : Me S View) (w : View) (l : List (ℕ × S)) → q.badge.views ≡ me.0 ∷ [] → me ≡ (w, l) → view_of q ≡ w
viewing_by q me w l views e = viewing q w (views ∙ ap (λ (m : Me _ View). m.0 ∷ []) e)
