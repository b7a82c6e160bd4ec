-- How a table is kept. No public clause cites this file.
use Rattle.std.specs.Prelude.{ℕ, ◌≡◌, ◌<◌, Bool, false, ◌&&◌, nat_eq, nat_le, List, [], ◌∷◌, map, Option, Some, None}
use Rattle.std.specs.declared.cmp.Ordering.{Ordering}
use Rattle.std.specs.Ordering.{nat_cmp, ordering_then}
use Rattle.std.specs.List.{take_while}
use Rattle.std.specs.Map.{lookup}
use Rattle.std.specs.BTreeMap.{is_at}
use Rattle.std.specs.Option.{option_eq}
use Rattle.session_table.specs.declared.entry.Sockets.{Sockets}
use Rattle.session_table.specs.declared.entry.Entry.{Entry}
use Rattle.session_table.specs.declared.table.Deadline.{Deadline}
use Rattle.session_table.specs.Entries.{accepts_at, opens_at}

abbrev pub deadline_cmp : Deadline → Deadline → Ordering
deadline_cmp a b = ordering_then (nat_cmp a.at b.at) (nat_cmp a.number b.number)

-- the numbers of the first of these deadlines, those that are at most now
abbrev pub passed_numbers : (now : ℕ) → List Deadline → List ℕ
passed_numbers now deadlines = map (λ (d : Deadline). d.number) (take_while (λ (d : Deadline). nat_le d.at now) deadlines)

abbrev pub is_number : ℕ → Option ℕ → Bool
is_number n None = false
is_number n (Some m) = nat_eq m n

module _ {S : Type 0} where
  -- the session of a number, by the map
  abbrev pub kept_at : List (ℕ × Entry S) → ℕ → Option (Entry S)
  kept_at es n = lookup (is_at (nat_cmp n)) es

  abbrev pub passes : (Entry S → Bool) → Option (Entry S) → Bool
  passes test None = false
  passes test (Some x) = test x

  -- the session has this deadline
  abbrev pub is_due_at : Deadline → Entry S → Bool
  is_due_at q x = nat_eq x.number q.number && option_eq nat_eq x.deadline (Some q.at)

  -- the numbers under which the sessions stand rise, and they are theirs
  abbrev pub AreAbove : ℕ → List (ℕ × Entry S) → Type 0
  AreAbove n [] = Unit {0}
  AreAbove n (e ∷ es) = (n < e.0) × AreAbove n es

  abbrev pub AreKept : List (ℕ × Entry S) → Type 0
  AreKept [] = Unit {0}
  AreKept (e ∷ es) = (e.1.number ≡ e.0) × AreAbove e.0 es × AreKept es

  -- under these ends stands the number of the one session that passes the test with them, and no number where none does
  abbrev pub AreUnder : (Sockets → Entry S → Bool) → (ℕ → Option (Entry S)) → (Sockets → Option ℕ) → Type 0
  AreUnder test kept under = (q : Sockets) (n : ℕ) → is_number n (under q) ≡ passes (test q) (kept n)

  -- each session stands under its number, under its ends as an accepted one or as an opened one, and under its deadline,
  -- where it has one
  pub record IsIndexed (es : List (ℕ × Entry S)) (accepted opened : Sockets → Option ℕ) (deadlines : Deadline → Bool) : Type 0 where
    pub kept : AreKept es
    pub accepts : AreUnder accepts_at (kept_at es) accepted
    pub opens : AreUnder opens_at (kept_at es) opened
    pub dues : (q : Deadline) → deadlines q ≡ passes (is_due_at q) (kept_at es q.number)
