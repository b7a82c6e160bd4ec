-- The table of a host's TCP sessions: a list in order of creation.
use Rattle.std.specs.Prelude.{ℕ, ◌≡◌, Bool, true, false, ◌&&◌, not, nat_eq, nat_le, nat_lt, List, [], ◌∷◌, Option, Some, None, is_none, map, min, if◌then◌else◌}
use Rattle.std.specs.List.{filter, find}
use Rattle.std.specs.Option.{option_map, option_or}
use Rattle.session_table.specs.declared.entry.Sockets.{Sockets}
use Rattle.session_table.specs.declared.entry.Entry.{Entry}

abbrev pub same_sockets : Sockets → Sockets → Bool
same_sockets a b = nat_eq a.own b.own && (nat_eq a.own_port b.own_port && (nat_eq a.peer b.peer && nat_eq a.peer_port b.peer_port))

-- the earlier of two times, where there is one
abbrev pub earlier : Option ℕ → Option ℕ → Option ℕ
earlier None b = b
earlier (Some a) None = Some a
earlier (Some a) (Some b) = Some (min a b)

-- a deadline is at most now
abbrev pub has_passed : (now : ℕ) → Option ℕ → Bool
has_passed now None = false
has_passed now (Some deadline) = nat_le deadline now

module _ {S : Type 0} where
  -- a session was accepted, and not opened by the host
  abbrev pub is_accepted : Entry S → Bool
  is_accepted x = is_none x.client

  abbrev pub is_numbered : ℕ → Entry S → Bool
  is_numbered number x = nat_eq x.number number

  -- the session of this number
  abbrev pub numbered : ℕ → List (Entry S) → Option (Entry S)
  numbered number entries = find (is_numbered number) entries

  -- the accepted session between these ends, and the opened one
  abbrev pub accepts_at : Sockets → Entry S → Bool
  accepts_at sockets x = same_sockets sockets x.sockets && is_accepted x

  abbrev pub opens_at : Sockets → Entry S → Bool
  opens_at sockets x = same_sockets sockets x.sockets && not (is_accepted x)

  abbrev pub number_at : (Entry S → Bool) → List (Entry S) → Option ℕ
  number_at test entries = option_map (λ (x : Entry S). x.number) (find test entries)

  -- the number of the session to which a packet between these ends goes: the accepted one, and where there is none the
  -- opened one
  abbrev pub found : Sockets → List (Entry S) → Option ℕ
  found sockets entries = option_or (number_at (accepts_at sockets) entries) (number_at (opens_at sockets) entries)

  -- the least deadline, where some session has one
  abbrev pub least : List (Entry S) → Option ℕ
  least [] = None
  least (x ∷ xs) = earlier x.deadline (least xs)

  -- the numbers of the sessions whose deadline is at most now, in their order
  abbrev pub due : (now : ℕ) → List (Entry S) → List ℕ
  due now entries = map (λ (x : Entry S). x.number) (filter (λ (x : Entry S). has_passed now x.deadline) entries)

  -- with one session more, in its place by numbers
  abbrev pub placed : Entry S → List (Entry S) → List (Entry S)
  placed x [] = x ∷ []
  placed x (y ∷ ys) = if nat_lt x.number y.number then x ∷ y ∷ ys else y ∷ placed x ys

  -- without the session of this number
  abbrev pub without : ℕ → List (Entry S) → List (Entry S)
  without number entries = filter (λ (x : Entry S). not (is_numbered number x)) entries

  -- no session has the number of this one, and none that was accepted, or none that was opened, as this one was, is between
  -- the same ends
  pub record IsNew (x : Entry S) (entries : List (Entry S)) : Type 0 where
    pub number : numbered x.number entries ≡ None
    pub accepted : is_accepted x ≡ true → find (accepts_at x.sockets) entries ≡ None
    pub opened : is_accepted x ≡ false → find (opens_at x.sockets) entries ≡ None
