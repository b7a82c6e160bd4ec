-- For crates above: what a view still says after a step at another place.
use Rattle.std.proofs.Common.{◌≡◌, ◌≢◌, ℕ, ◌<◌, not, ◌∷◌, ap, inl, inr, ⊎_elim, arith}
use Rattle.turn_table.specs.declared.view.View.{View}
use Rattle.turn_table.specs.Changes.{at}
use Rattle.turn_table.specs.Shapes.{Speaks, spoken}
use Rattle.turn_table.specs.Views.{held, note, is_spoken_for, giving}
use Rattle.turn_table.proofs.Lookups.{at_else, remembered}
use Rattle.turn_table.proofs.Words.{speaks_for}

still_held : (v : View) (p q a : ℕ) → a ≡ q → q ≢ p → 0 < held v q → 0 < at ((p, 0) ∷ v.held) a
still_held v p q a e ne some = let same = at_else v.held p 0 a (λ x. ne (omega arith)) in let there : held v a ≡ held v q = ap (held v) e in omega arith

-- a note of a word that speaks of a place which is still held stays where another place's turn is given
pub notes_stay : (v : View) (p c q : ℕ) → Speaks v.shape c q → q ≢ p → 0 < held v q → note (giving v p) c ≡ note v c
notes_stay v p c q says ne some = remembered (λ w. not (is_spoken_for v.shape (at ((p, 0) ∷ v.held)) w)) v.notes c
    (ap not (speaks_for v.shape (at ((p, 0) ∷ v.held)) c
    (⊎_elim (λ e. inl (still_held v p q (spoken v.shape c).0 e ne some)) (λ e. inr (still_held v p q (spoken v.shape c).1 e ne some)) says.1)))
