-- What is owed and marked in the miniature crossing meets the laws of a tenant.
use Rattle.std.specs.Prelude.{◌≡◌, ℕ, suc, ◌⊎◌, true, cond}
use Rattle.std.proofs.Common.{sym, ap, ◌∙◌, inl, ⊎_elim, arith, eq-eqb, ne_eqb}
use mathlib.Core.Logic.{dite}
use native.Mathlib.Decide.{ℕ_discrete}
use Rattle.turn_table.specs.Changes.{put}
use Rattle.turn_table.specs.Shapes.{Speaks, is_cleared}
use Rattle.turn_examples.specs.declared.crossing.Part.{Part}
use Rattle.turn_examples.specs.Crossing.{crossing_shape, Owes, Keeps, Marked}

pub owes_on : (f g : ℕ → ℕ) (p : ℕ) (x : Part) → ((c : ℕ) → Speaks crossing_shape c p → f c ≡ g c) → Owes f p x → Owes g p x
owes_on f g p x same owed c says = sym (same c says) ∙ owed c says

pub marked_less : (m n : ℕ → ℕ) (p : ℕ) (x : Part) → ((c : ℕ) → (n c ≡ 0) ⊎ (n c ≡ m c)) → Marked m p x → Marked n p x
marked_less m n p x less marked is_barrier some = ⊎_elim (λ none. absurd (omega arith)) (λ same. let h = marked is_barrier (omega arith) in omega arith) (less 0)

pub marked_none : (m : ℕ → ℕ) (p : ℕ) (x : Part) → ((c : ℕ) → is_cleared crossing_shape p c ≡ true → m c ≡ 0) → Marked m p x
marked_none m p x none is_barrier some = let h = none 0 (ap (λ q. is_cleared crossing_shape q 0) is_barrier) in absurd (omega arith)

pub marked_more : (f m : ℕ → ℕ) (p : ℕ) (x : Part) (c : ℕ) → Keeps f → Owes f p x → Marked m p x → Marked (put m c (suc (f c))) p x
marked_more f m p x c kept owed marked is_barrier some = dite (ℕ_discrete 0 c)
    (λ same. let at : put m c (suc (f c)) 0 ≡ suc (f c) = ap (λ b. cond b (suc (f c)) (m 0)) (eq-eqb 0 c same) in let there : f 0 ≡ f c = ap f same in
    let round = owed 1 (omega arith, inl (sym is_barrier)) in omega arith)
    (λ other. let at : put m c (suc (f c)) 0 ≡ m 0 = ap (λ b. cond b (suc (f c)) (m 0)) (ne_eqb 0 c other) in let h = marked is_barrier (omega arith) in omega arith)
