-- The valid states of a host, and what packets carry.
use Rattle.std.specs.Prelude.{ℕ, ◌≡◌, ◌+◌, ◌*◌, ◌^◌, ◌<◌, ◌≤◌, Bool, true, false, ◌||◌, nat_eq, List, [], ◌∷◌, ◌++◌, length, map, Option, Some, None}
use Rattle.std.specs.List.{count_by, sum}
use Rattle.std.specs.Option.{ForSome}
use Rattle.event_order.specs.Pending.{Among}
use Rattle.sim_base.specs.declared.records.ClientRow.{ClientRow}
use Rattle.sim_base.specs.Traffic.{IsClient}
use Rattle.ssf_model.specs.declared.wait.Wait.{Wait}
use Rattle.ssf_model.specs.declared.wait.Wait.TheVariants.{On, For, OnFor, Forever}
use Rattle.ssf_model.specs.Reaction.{Each, LongestDelay}
use Rattle.net_iface.specs.InterfaceFields.{InterfaceFields, IsRated}
use Rattle.ip_layer.specs.Forwarding.{has_address}
use Rattle.tcp_rules.specs.Segments.{IsTimedTcp}
use Rattle.tcp_rules.specs.Sessions.{End, Client, Server, state_of}
use Rattle.tcp_rules.specs.Limits.{IsEnd}
use Rattle.traffic.specs.Progress.{IsProgress}
use Rattle.host_rules.specs.declared.rows.HostRows.{HostRows}
use Rattle.host_rules.specs.declared.rows.HostPort.{HostPort}
use Rattle.host_rules.specs.Hosts.{EntryFields, Stack, HostFields}
use Rattle.host_rules.specs.Sending.{own_addresses}
use Rattle.host_rules.specs.Entries.{same_sockets, is_accepted, is_closed}
use Rattle.host_rules.specs.Hearing.{MostAccepted}
use Rattle.host_rules.specs.Reacting.{Role, Receiver, Clock, Client as ClientRole, roles, is_timed_role}

-- R holds of each element and each later one
abbrev pub EachPair : {A : Type 0} → (A → A → Type 0) → List A → Type 0
EachPair R [] = Unit {0}
EachPair R (x ∷ xs) = Each (R x) xs × EachPair R xs

-- Rows.
-- the most transfers of a host: client sessions times servers
abbrev pub MostTransfers : ℕ
MostTransfers = 50000

-- a client session starts within 10^15 ticks, and waits no longer between datagrams
pub record IsTimedClient (row : ClientRow) : Type 0 where
  pub ranges : IsClient row
  pub start : row.start + row.window ≤ LongestDelay
  pub interval : row.interval ≤ LongestDelay

pub record AreRows (rows : HostRows) : Type 0 where
  pub tcp : IsTimedTcp rows.tcp
  pub ports : Each (λ (port : HostPort). IsRated port.bitrate rows.tcp.frequency port.buffer) rows.ports
  pub clients : Each IsTimedClient rows.clients
  pub transfers : length rows.clients * length rows.servers ≤ MostTransfers

-- Channels, processes and waits.
-- a receiver waits for packets, the clock to be poked or for a deadline, and a client session for a time; before its start
-- each waits for nothing
abbrev pub IsWaitOf : HostRows → Role → Wait → Type 0
IsWaitOf rows (Receiver port) (On channels) = channels ≡ port.in_channel ∷ []
IsWaitOf rows (Receiver port) (For ticks) = ⊥
IsWaitOf rows (Receiver port) (OnFor channels ticks) = ⊥
IsWaitOf rows (Receiver port) Forever = Unit {0}
IsWaitOf rows Clock (On channels) = channels ≡ rows.poke_in ∷ []
IsWaitOf rows Clock (For ticks) = ⊥
IsWaitOf rows Clock (OnFor channels ticks) = channels ≡ rows.poke_in ∷ []
IsWaitOf rows Clock Forever = Unit {0}
IsWaitOf rows (ClientRole client row) (On channels) = ⊥
IsWaitOf rows (ClientRole client row) (For ticks) = Unit {0}
IsWaitOf rows (ClientRole client row) (OnFor channels ticks) = ⊥
IsWaitOf rows (ClientRole client row) Forever = Unit {0}

abbrev pub AreWaits : HostRows → List Role → List Wait → Type 0
AreWaits rows [] [] = Unit {0}
AreWaits rows [] (wait ∷ waits) = ⊥
AreWaits rows (role ∷ others) [] = ⊥
AreWaits rows (role ∷ others) (wait ∷ waits) = IsWaitOf rows role wait × AreWaits rows others waits

-- the out-channels of an interface's link are among these
abbrev pub HasOuts : List ℕ → HostPort → Type 0
HasOuts outs port = Each (λ (out : ℕ × ℕ). Among out.1 outs) port.outs

-- the in-channels are those of the interfaces and then the poke's, with rising numbers; the out-channels are among the
-- entity's; and there is a process for each role
pub record IsPlaced (rows : HostRows) (ins outs : List ℕ) (timed : List Bool) (waits : List Wait) : Type 0 where
  pub in_channels : ins ≡ map (λ (port : HostPort). port.in_channel) rows.ports ++ rows.poke_in ∷ []
  pub rising : EachPair (λ (a b : ℕ). a < b) ins
  pub poke : Among rows.poke_out outs
  pub ways : Each (HasOuts outs) rows.ports
  pub timed_is : timed ≡ map is_timed_role (roles rows)
  pub waits_are : AreWaits rows (roles rows) waits

-- What events change.
-- an interface has what its row says, and sends all that it took within 10^15 ticks after the latest time
pub record IsInterfaceOf (frequency : ℕ) (port : HostPort) (interface : InterfaceFields) : Type 0 where
  pub bitrate : interface.bitrate ≡ port.bitrate
  pub frequency_is : interface.frequency ≡ frequency
  pub buffer : interface.buffer ≡ port.buffer
  pub soon : interface.free ≤ 10 ^ 18 + 10 ^ 15

abbrev pub AreInterfaces : ℕ → List HostPort → List InterfaceFields → Type 0
AreInterfaces frequency [] [] = Unit {0}
AreInterfaces frequency [] (interface ∷ interfaces) = ⊥
AreInterfaces frequency (port ∷ ports) [] = ⊥
AreInterfaces frequency (port ∷ ports) (interface ∷ interfaces) = IsInterfaceOf frequency port interface × AreInterfaces frequency ports interfaces

-- a session that was accepted is a server's, and one that was opened a client's
abbrev pub IsKindOf : Option ℕ → End → Type 0
IsKindOf None (Client c) = ⊥
IsKindOf None (Server s) = Unit {0}
IsKindOf (Some client) (Client c) = Unit {0}
IsKindOf (Some client) (Server s) = ⊥

-- a session has a number that was given, and is not closed; its own address is one of the host's, or 0; a transfer's own
-- port is below that of the next one
pub record IsEntry (rows : HostRows) (opened made : ℕ) (x : EntryFields) : Type 0 where
  pub number : x.number < made
  pub ranges : IsEnd x.session
  pub running : is_closed (state_of x.session) ≡ false
  pub kind : IsKindOf x.client x.session
  pub own : (nat_eq x.sockets.own 0 || has_address (own_addresses rows) x.sockets.own) ≡ true
  pub client : ForSome x.client (λ client. client < length rows.clients)
  pub own_port : ForSome x.client (λ client. x.sockets.own_port < 10000 + opened)

-- a session before another was created earlier; where both have the same ends it was accepted, and the other was not
pub record IsEarlier (x y : EntryFields) : Type 0 where
  pub number : x.number < y.number
  pub ends : same_sockets x.sockets y.sockets ≡ true → (is_accepted x ≡ true) × (is_accepted y ≡ false)

-- with each transfer its client session was given one server more, and no session is given more servers than there are
pub record IsStack (rows : HostRows) (s : Stack) : Type 0 where
  pub interfaces : AreInterfaces rows.tcp.frequency rows.ports s.interfaces
  pub servers : s.apps.servers ≡ rows.servers
  pub progress : IsProgress s.apps
  pub given : length s.apps.given ≡ length rows.clients
  pub left : length s.left ≡ length rows.clients
  pub opened : s.opened ≤ sum s.apps.given
  pub entries : Each (IsEntry rows s.opened s.made) s.sessions
  pub order : EachPair IsEarlier s.sessions
  pub accepted : count_by is_accepted s.sessions ≤ MostAccepted
  pub few : length s.sessions ≤ count_by is_accepted s.sessions + s.opened

-- a host is valid with its entity's in-channels and out-channels, its processes and their waits
pub record IsHost (s : HostFields) (ins outs : List ℕ) (timed : List Bool) (waits : List Wait) : Type 0 where
  pub rows : AreRows s.rows
  pub placed : IsPlaced s.rows ins outs timed waits
  pub starts : Each (λ start. start ≤ LongestDelay) s.starts
  pub stack : IsStack s.rows s.stack
