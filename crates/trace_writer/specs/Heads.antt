-- How far several histories were written, and which entry of each comes next. No public clause cites this file.
use Rattle.std.specs.Prelude.{ℕ, suc, ◌≡◌, ◌<◌, ◌≤◌, nat_eq, nat_lt, cond, true, List, [], ◌∷◌, ◌++◌, drop, Option, None, Some, slice_get}
use Rattle.std.specs.List.{sum_by}
use Rattle.std.specs.Ordering.{nat_cmp, ordering_then}
use Rattle.std.specs.declared.cmp.Ordering.{Ordering}
use Rattle.std.specs.declared.cmp.Reverse.{Reverse}
use Rattle.event_order.specs.Order.{key_cmp}
use Rattle.event_order.specs.Pending.{Among}
use Rattle.ssf_model.specs.declared.event.Entry.{Entry}
use Rattle.trace_writer.specs.declared.heads.Head.{Head}
use Rattle.trace_writer.specs.Merging.{entries_before, in_key_order}

-- which of two entries goes first: by their keys, and then by their histories
abbrev pub head_cmp : Head → Head → Ordering
head_cmp a b = ordering_then (key_cmp a.key b.key) (ordering_then (nat_cmp a.history b.history) (nat_cmp a.at b.at))

abbrev pub head_order : Reverse Head → Reverse Head → Ordering
head_order x y = head_cmp y.0 x.0

-- the entry at a place of a history as a head, where there is one below the bound
abbrev pub head_of : ℕ → ℕ → ℕ → Option Entry → List (Reverse Head)
head_of below i a None = []
head_of below i a (Some e) = cond (nat_lt e.key.time below) (record { 0 = record { key = e.key; history = i; at = a } } ∷ []) []

abbrev pub entry_at : ℕ → Option (List Entry) → Option Entry
entry_at a None = None
entry_at a (Some history) = slice_get history a

abbrev pub head_at : List (List Entry) → ℕ → ℕ → ℕ → List (Reverse Head)
head_at histories below i a = head_of below i a (entry_at a (slice_get histories i))

-- what is left of histories below a bound, one after another; `at` gives the place in each from which on it is left
abbrev pub left_from : ℕ → (ℕ → ℕ) → List (List Entry) → List Entry
left_from below at [] = []
left_from below at (history ∷ histories) = entries_before below (drop (at 0) history) ++ left_from below (λ i. at (suc i)) histories

-- the same in the order of the keys
abbrev pub left_in_order : List (List Entry) → ℕ → (ℕ → ℕ) → List Entry
left_in_order histories below at = in_key_order (left_from below at histories)

-- the next entry of a history, which is below the bound
pub record IsHead (histories : List (List Entry)) (below : ℕ) (at : ℕ → ℕ) (h : Head) : Type 0 where
  pub history : List Entry
  pub entry : Entry
  pub is_history : slice_get histories h.history ≡ Some history
  pub place : h.at ≡ at h.history
  pub is_entry : slice_get history h.at ≡ Some entry
  pub key : h.key ≡ entry.key
  pub early : nat_lt entry.key.time below ≡ true

-- the places after the next entry of history i was written
abbrev pub moved : (ℕ → ℕ) → ℕ → ℕ → ℕ
moved at i j = cond (nat_eq j i) (suc (at j)) (at j)

-- 1 for a head of history i
abbrev pub is_of : ℕ → Reverse Head → ℕ
is_of i h = cond (nat_eq h.0.history i) 1 0

-- these are the next entries of the first n histories
pub record AreHeads (histories : List (List Entry)) (below : ℕ) (at : ℕ → ℕ) (n : ℕ) (heads : List (Reverse Head)) : Type 0 where
  pub sound : (h : Reverse Head) → Among h heads → IsHead histories below at h.0 × (h.0.history < n)
  pub complete : (i : ℕ) (history : List Entry) (entry : Entry) → i < n → slice_get histories i ≡ Some history → slice_get history (at i) ≡ Some entry → nat_lt entry.key.time below ≡ true
      → (h : Reverse Head) × Among h heads × (h.0.history ≡ i)
  pub once : (i : ℕ) → sum_by (is_of i) heads ≤ 1
