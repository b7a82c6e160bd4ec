-- Keys that are at most another: the other does not come before them.
use Rattle.std.proofs.Common.{◌≡◌, Bool, true, false, sym, ◌∙◌, subst, inl, inr}
use Rattle.event_order.specs.declared.key.Key.{Key}
use Rattle.event_order.specs.Order.{comes_before, IsBefore}
use Rattle.event_order.proofs.Order.{before_trans, before_cases, before_irrefl, before_asym}
use Rattle.event_order.proofs.Pending.{test_cases}

clash : (b : Bool) → b ≡ true → b ≡ false → ⊥
clash b t f = let wrong : true ≡ false = sym t ∙ f in cc

not_before : (a b : Key) → (IsBefore a b → ⊥) → comes_before a b ≡ false
not_before a b h = elim (test_cases (comes_before a b)) [ inl t ↦ absurd (h t) | inr f ↦ f ]

pub at_most_itself : (a : Key) → comes_before a a ≡ false
at_most_itself a = not_before a a (before_irrefl a)

pub at_most_later : (a b : Key) → IsBefore a b → comes_before b a ≡ false
at_most_later a b h = not_before b a (before_asym a b h)

pub at_most_trans : (a b c : Key) → comes_before b a ≡ false → comes_before c b ≡ false → comes_before c a ≡ false
at_most_trans a b c p q = not_before c a (λ h. elim (before_cases b c) [
  | inl earlier ↦ clash _ (before_trans b c a earlier h) p
  | inr s ↦ elim s [ inl same ↦ clash _ (subst (λ k. IsBefore k a) (sym same) h) p | inr later ↦ clash _ later q ]
])

-- of two different keys the one that is at most the other comes before it
pub before_other : (a b : Key) → (a ≡ b → ⊥) → comes_before b a ≡ false → IsBefore a b
before_other a b apart h = elim (before_cases a b) [
  | inl earlier ↦ earlier
  | inr s ↦ elim s [ inl same ↦ absurd (apart same) | inr later ↦ absurd (clash _ later h) ]
]
