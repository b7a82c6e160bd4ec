-- Lists of items in the order of their keys: how pending events are seen.
use Rattle.std.specs.Prelude.{◌≡◌, cond, ◌⊎◌, List, [], ◌∷◌}
use Rattle.event_order.specs.declared.key.Key.{Key}
use Rattle.event_order.specs.Order.{comes_before, IsBefore}

-- the list with one more item, before the first that has a greater key
abbrev pub put : {T : Type 0} → (T → Key) → T → List T → List T
put key x [] = x ∷ []
put key x (y ∷ ys) = cond (comes_before (key x) (key y)) (x ∷ y ∷ ys) (y ∷ put key x ys)

-- the second list with the items of the first, put one by one
abbrev pub put_all : {T : Type 0} → (T → Key) → List T → List T → List T
put_all key [] ys = ys
put_all key (x ∷ xs) ys = put_all key xs (put key x ys)

-- the list has this item
abbrev pub Among : {T : Type 0} → T → List T → Type 0
Among x [] = ⊥
Among x (y ∷ ys) = (x ≡ y) ⊎ Among x ys

-- each item comes before all that follow it
abbrev pub IsRising : {T : Type 0} → (T → Key) → List T → Type 0
IsRising key [] = Unit {0}
IsRising {T} key (x ∷ xs) = ((y : T) → Among y xs → IsBefore (key x) (key y)) × IsRising key xs

-- no two items have one key
abbrev pub IsApart : {T : Type 0} → (T → Key) → List T → Type 0
IsApart key [] = Unit {0}
IsApart {T} key (x ∷ xs) = ((y : T) → Among y xs → key x ≡ key y → ⊥) × IsApart key xs
