-- The table of a host's sessions, seen as the list of them, and what its calls make of it.
use Rattle.std.specs.Prelude.{ℕ, ◌≡◌, Bool, true, false, nat_lt, List, [], ◌∷◌, map, Option, Some, None, if◌then◌else◌}
use Rattle.std.specs.List.{count_by}
use Rattle.ssf_model.specs.Reaction.{Each}
use Rattle.session_table.specs.declared.entry.Entry.{Entry}
use Rattle.session_table.specs.declared.entry.Sockets.{Sockets as TableSockets}
use Rattle.tcp_rules.specs.Sessions.{End, deadline_of, state_of}
use Rattle.host_sessions.specs.declared.sessions.Turned.{Turned}
use Rattle.host_rules.specs.declared.sockets.Sockets.{Sockets}
use Rattle.host_rules.specs.Hosts.{EntryFields}
use Rattle.host_rules.specs.Entries.{same_sockets, is_accepted, is_due, is_closed, ends}

-- the session of a number has a deadline that has passed
abbrev pub is_due_at : (now : ℕ) → Option EntryFields → Bool
is_due_at now None = false
is_due_at now (Some x) = is_due now x

-- what became of a session at its turn, after which it keeps this
abbrev pub turned_of : EntryFields → End → Turned
turned_of x after = record { sockets = x.sockets; client = x.client; over = ends (state_of x.session) (state_of after) }

-- How the table is kept. No public clause but the type's own view cites what follows.
-- the two ends of a session, as the table has them
abbrev pub table_sockets : Sockets → TableSockets
table_sockets s = record { own = s.own; own_port = s.own_port; peer = s.peer; peer_port = s.peer_port }

-- a session of the table, without the deadline by which it is found
abbrev pub entry_view : Entry End → EntryFields
entry_view e = record {
  number = e.number;
  sockets = record { own = e.sockets.own; own_port = e.sockets.own_port; peer = e.sockets.peer; peer_port = e.sockets.peer_port };
  client = e.client;
  session = e.session;
}

abbrev pub entries_of : List (Entry End) → List EntryFields
entries_of table = map entry_view table

-- each session stands under its deadline, and so many were accepted
pub record IsTabled (table : List (Entry End)) (accepted : ℕ) : Type 0 where
  pub deadlines : Each (λ (e : Entry End). e.deadline ≡ deadline_of e.session) table
  pub accepted_is : accepted ≡ count_by is_accepted (entries_of table)

-- with one session more, in its place by numbers
abbrev pub put_in : EntryFields → List EntryFields → List EntryFields
put_in x [] = x ∷ []
put_in x (y ∷ ys) = if nat_lt x.number y.number then x ∷ y ∷ ys else y ∷ put_in x ys

-- a session comes back after its turn, unless it is closed
abbrev pub back_in : EntryFields → List EntryFields → List EntryFields
back_in x xs = if is_closed (state_of x.session) then xs else put_in x xs

-- two sessions are not between the same ends, or one of them was accepted, and the other was not
abbrev pub IsApart : EntryFields → EntryFields → Type 0
IsApart x y = same_sockets y.sockets x.sockets ≡ true → is_accepted y ≡ is_accepted x → ⊥

-- no session has the number of this one, and each is apart from it
pub record IsFresh (x : EntryFields) (xs : List EntryFields) : Type 0 where
  pub number : Each (λ (y : EntryFields). y.number ≡ x.number → ⊥) xs
  pub apart : Each (IsApart x) xs
