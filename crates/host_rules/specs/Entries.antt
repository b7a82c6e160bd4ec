-- The table of a host's TCP sessions: a list in order of creation.
use Rattle.std.specs.Prelude.{ℕ, Bool, true, false, ◌&&◌, not, nat_eq, nat_le, List, [], ◌∷◌, map, Option, Some, None, is_none, min, if◌then◌else◌}
use Rattle.std.specs.List.{filter, find}
use Rattle.sim_base.specs.declared.records.TcpState.{TcpState}
use Rattle.sim_base.specs.declared.records.TcpState.TheVariants.{TimeWait, Closed}
use Rattle.tcp_rules.specs.Sessions.{End, deadline_of, state_of}
use Rattle.host_rules.specs.Hosts.{Sockets, EntryFields}

abbrev pub same_sockets : Sockets → Sockets → Bool
same_sockets a b = nat_eq a.own b.own && (nat_eq a.own_port b.own_port && (nat_eq a.peer b.peer && nat_eq a.peer_port b.peer_port))

-- the first session between these ends
unfoldable pub found : Sockets → List EntryFields → Option EntryFields
found sockets entries = find (λ (x : EntryFields). same_sockets x.sockets sockets) entries

-- the session of this number
unfoldable pub numbered : ℕ → List EntryFields → Option EntryFields
numbered number entries = find (λ (x : EntryFields). nat_eq x.number number) entries

-- a session was accepted, and not opened by the host
abbrev pub is_accepted : EntryFields → Bool
is_accepted x = is_none x.client

-- Deadlines.
abbrev pub has_passed : (now : ℕ) → Option ℕ → Bool
has_passed now None = false
has_passed now (Some deadline) = nat_le deadline now

abbrev pub is_due : (now : ℕ) → EntryFields → Bool
is_due now x = has_passed now (deadline_of x.session)

-- the numbers of the sessions whose deadline has passed, in order of creation
unfoldable pub due : (now : ℕ) → List EntryFields → List ℕ
due now entries = map (λ (x : EntryFields). x.number) (filter (is_due now) entries)

abbrev pub earlier : Option ℕ → Option ℕ → Option ℕ
earlier None b = b
earlier (Some a) None = Some a
earlier (Some a) (Some b) = Some (min a b)

-- the least deadline, where some session has one
unfoldable pub least : List EntryFields → Option ℕ
least [] = None
least (x ∷ xs) = earlier (deadline_of x.session) (least xs)

-- Changes.
abbrev pub changed : ℕ → End → EntryFields → EntryFields
changed number session x = record x { session = (if nat_eq x.number number then session else x.session) }

-- what the session of this number keeps becomes this
abbrev pub with_session : ℕ → End → List EntryFields → List EntryFields
with_session number session entries = map (changed number session) entries

abbrev pub is_other : ℕ → EntryFields → Bool
is_other number x = not (nat_eq x.number number)

abbrev pub without : ℕ → List EntryFields → List EntryFields
without number entries = filter (is_other number) entries

abbrev pub is_closed : TcpState → Bool
is_closed Closed = true
is_closed _ = false

-- after a rule a session that is closed is removed
unfoldable pub settled : ℕ → End → List EntryFields → List EntryFields
settled number session entries = if is_closed (state_of session) then without number entries else with_session number session entries

-- a transfer is over for its client in TIME_WAIT, and in CLOSED
abbrev pub is_over : TcpState → Bool
is_over TimeWait = true
is_over Closed = true
is_over _ = false

abbrev pub ends : TcpState → TcpState → Bool
ends old new = is_over new && not (is_over old)
