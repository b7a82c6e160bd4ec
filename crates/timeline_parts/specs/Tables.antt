-- Tables: lists of items with numbers, which rise.
use Rattle.std.specs.Prelude.{ℕ, ◌≡◌, ◌<◌, Bool, cond, nat_eq, List, [], ◌∷◌, map, Option, Some, None}
use Rattle.event_order.specs.Pending.{Among}

-- the numbers of the items
abbrev pub numbers_of : {T : Type 0} → List (ℕ × T) → List ℕ
numbers_of items = map (λ x. x.0) items

-- each number is below all that follow it
abbrev pub AreRising : List ℕ → Type 0
AreRising [] = Unit {0}
AreRising (n ∷ ns) = ((k : ℕ) → Among k ns → n < k) × AreRising ns

abbrev pub AreNumbered : {T : Type 0} → List (ℕ × T) → Type 0
AreNumbered items = AreRising (numbers_of items)

-- the item with this number
abbrev pub item_at : {T : Type 0} → ℕ → List (ℕ × T) → Option T
item_at n [] = None
item_at n (x ∷ xs) = cond (nat_eq n x.0) (Some x.1) (item_at n xs)

-- the table with the function applied to the item with this number
abbrev pub change : {T : Type 0} → ℕ → (T → T) → ℕ × T → ℕ × T
change n f x = cond (nat_eq n x.0) (x.0, f x.1) x

abbrev pub changed : {T : Type 0} → ℕ → (T → T) → List (ℕ × T) → List (ℕ × T)
changed n f items = map (change n f) items
