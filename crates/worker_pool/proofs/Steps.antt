-- Lists of which the first items have changed.
use Rattle.std.proofs.Common.{◌≡◌, ℕ, ◌+◌, ◌<◌, ◌≤◌, nat_eq, List, length, set, get_or, refl, sym, ap, ◌∙◌, subst, inl, inr, arith, eqb-true, Some, slice_get}
use Rattle.std.proofs.lemmas.Option.{get_or_from_slice_get}
use Rattle.event_order.proofs.Pending.{test_cases}
use Rattle.core_rules.proofs.Lists.{not_equal, one_of, get_known, got_at, set_length, set_here, set_there}

module _ {T : Type 0} (law : T → T → Type 0) where
  -- the law holds of each item below the place before and after, and the others are the same
  pub record IsUpTo (place : ℕ) (old new : List T) : Type 0 where
    pub long : length new ≡ length old
    pub past : (w : ℕ) (a b : T) → w < place → slice_get old w ≡ Some a → slice_get new w ≡ Some b → law a b
    pub rest : (w : ℕ) → place ≤ w → slice_get new w ≡ slice_get old w

  pub up_none : (xs : List T) → IsUpTo 0 xs xs
  up_none xs = record { long = refl; past = λ w a b early one two. absurd (omega arith); rest = λ w late. refl }

  pub up_more : (place : ℕ) (old new : List T) (a b : T) → IsUpTo place old new → slice_get new place ≡ Some a → law a b → IsUpTo (place + 1) old (set new place b)
  up_more place old new a b q own met =
      let known : place < length new = get_known new place a own in
      let was : slice_get old place ≡ Some a = sym (q.rest place (omega arith)) ∙ own in
      record {
        long = set_length new place b ∙ q.long;
        past = λ w x y early one two. elim (test_cases (nat_eq w place)) [
          | inl t ↦ (let here : w ≡ place = eqb-true w place t in
              let first : a ≡ x = one_of a x (sym was ∙ (ap (slice_get old) (sym here) ∙ one)) in
              let second : b ≡ y = one_of b y (sym (set_here new place b known) ∙ (ap (slice_get (set new place b)) (sym here) ∙ two)) in
              subst (λ z. law z y) first (subst (λ z. law a z) second met))
          | inr f ↦ (let apart : w ≡ place → ⊥ = not_equal w place f in
              let less : w < place = omega arith in
              q.past w x y less one (sym (set_there new place w b known apart) ∙ two))
        ];
        rest = λ w late. (let apart : w ≡ place → ⊥ = (λ e. omega (arith, late)) in set_there new place w b known apart ∙ q.rest w (omega (arith, late)));
      }

  pub up_all : (place : ℕ) (old new : List T) → length old ≤ place → IsUpTo place old new → (w : ℕ) (a b : T) → slice_get old w ≡ Some a → slice_get new w ≡ Some b → law a b
  up_all place old new end q w a b one two = (let known = get_known old w a one in q.past w a b (omega (arith, known, end)) one two)

-- an item that is read
pub read_at : {T : Type 0} (xs : List T) (i : ℕ) (x : T) → i < length xs → x ≡ get_or xs i x → slice_get xs i ≡ Some x
read_at xs i x known is =
    let found = got_at xs i known in
    let same : get_or xs i x ≡ found.0 = get_or_from_slice_get xs i found.0 x found.1 in
    found.1 ∙ ap (λ z. Some z) (sym (is ∙ same))
