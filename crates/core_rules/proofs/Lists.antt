-- Lists with one item put in, and what is found in them.
use Rattle.std.proofs.Common.{◌≡◌, ℕ, zero, suc, ◌<◌, ◌⊎◌, true, false, cond, nat_eq, List, [], ◌∷◌, length, map, set, refl, sym, ap, ◌∙◌, inl, inr, arith, eq-eqb, eqb-true, Some, None, option_map, slice_get}
use Rattle.event_order.specs.Pending.{Among}
use Rattle.event_order.proofs.Pending.{test_cases}

pub not_equal : (a b : ℕ) → nat_eq a b ≡ false → a ≡ b → ⊥
not_equal a b f same = (let t : nat_eq a b ≡ true = eq-eqb a b same in absurd (cc))

pub differ_test : (a b : ℕ) → (a ≡ b → ⊥) → nat_eq a b ≡ false
differ_test a b differ = elim (test_cases (nat_eq a b)) [ inl t ↦ absurd (differ (eqb-true a b t)) | inr f ↦ f ]

next_same : (a b : ℕ) → nat_eq (suc a) (suc b) ≡ nat_eq a b
next_same a b = elim (test_cases (nat_eq a b)) [
  | inl t ↦ let e : suc a ≡ suc b = ap (λ n. suc n) (eqb-true a b t) in eq-eqb (suc a) (suc b) e ∙ sym t
  | inr f ↦ differ_test (suc a) (suc b) (λ e. let same : a ≡ b = omega arith in let t : nat_eq a b ≡ true = eq-eqb a b same in absurd (cc)) ∙ sym f
]

module _ {T : Type 0} where
  pub one_of : (a b : T) → Some a ≡ Some b → a ≡ b
  one_of a b same = cc

  pub none_some : (a : T) → None ≡ Some a → ⊥
  none_some a same = cc

  pub get_known : (xs : List T) (i : ℕ) (x : T) → slice_get xs i ≡ Some x → i < length xs
  get_known [] i x at = absurd (cc)
  get_known (y ∷ ys) zero x at = omega arith
  get_known (y ∷ ys) (suc i) x at = (let rest = get_known ys i x at in omega arith)

  pub got_at : (xs : List T) (i : ℕ) → i < length xs → (x : T) × (slice_get xs i ≡ Some x)
  got_at [] i h = absurd (omega arith)
  got_at (x ∷ xs) zero h = (x, refl)
  got_at (x ∷ xs) (suc i) h = got_at xs i (omega arith)

  pub set_length : (xs : List T) (i : ℕ) (v : T) → length (set xs i v) ≡ length xs
  set_length [] i v = refl
  set_length (x ∷ xs) zero v = refl
  set_length (x ∷ xs) (suc i) v = (let rest = set_length xs i v in ap (λ n. suc n) rest)

  pub set_at : (xs : List T) (i k : ℕ) (v : T) → i < length xs → slice_get (set xs i v) k ≡ cond (nat_eq k i) (Some v) (slice_get xs k)
  set_at [] i k v h = absurd (omega arith)
  set_at (x ∷ xs) zero zero v h = refl
  set_at (x ∷ xs) zero (suc k) v h = let f : nat_eq (suc k) 0 ≡ false = differ_test (suc k) 0 (λ e. omega arith) in rw f refl
  set_at (x ∷ xs) (suc i) zero v h = let f : nat_eq 0 (suc i) ≡ false = differ_test 0 (suc i) (λ e. omega arith) in rw f refl
  set_at (x ∷ xs) (suc i) (suc k) v h = set_at xs i k v (omega arith) ∙ ap (λ b. cond b (Some v) (slice_get xs k)) (sym (next_same k i))

  pub set_here : (xs : List T) (i : ℕ) (v : T) → i < length xs → slice_get (set xs i v) i ≡ Some v
  set_here xs i v h = (let t : nat_eq i i ≡ true = eq-eqb i i refl in set_at xs i i v h ∙ rw t refl)

  pub set_there : (xs : List T) (i k : ℕ) (v : T) → i < length xs → (k ≡ i → ⊥) → slice_get (set xs i v) k ≡ slice_get xs k
  set_there xs i k v h differ = (let f : nat_eq k i ≡ false = differ_test k i differ in set_at xs i k v h ∙ rw f refl)

pub get_map : {T U : Type 0} (f : T → U) (xs : List T) (k : ℕ) → slice_get (map f xs) k ≡ option_map f (slice_get xs k)
get_map f [] k = refl
get_map f (x ∷ xs) zero = refl
get_map f (x ∷ xs) (suc k) = get_map f xs k

pub map_length : {T U : Type 0} (f : T → U) (xs : List T) → length (map f xs) ≡ length xs
map_length f [] = refl
map_length f (x ∷ xs) = (let rest = map_length f xs in ap (λ n. suc n) rest)

pub listed : (xs : List ℕ) (c : ℕ) → Among c xs ⊎ (Among c xs → ⊥)
listed [] c = inr (λ a. a)
listed (x ∷ xs) c = elim (test_cases (nat_eq c x)) [
  | inl t ↦ inl (inl (eqb-true c x t))
  | inr f ↦ elim (listed xs c) [
    | inl a ↦ inl (inr a)
    | inr none ↦ inr (λ a. elim a [ inl e ↦ not_equal c x f e | inr b ↦ none b ])
  ]
]
