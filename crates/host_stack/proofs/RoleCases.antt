-- The role of a process by its number.
use Rattle.std.proofs.Common.{◌≡◌, ◌∙◌, ◌↔◌, ℕ, ◌≤◌, Bool, List, Option, Some, None, refl, sym, ap, subst}
use Rattle.std.specs.Prelude.{slice_get, slice_index, IsTrue}
use Rattle.sim_base.specs.declared.records.ClientRow.{ClientRow}
use Rattle.host_rules.specs.declared.rows.HostRows.{HostRows}
use Rattle.host_rules.specs.declared.rows.HostPort.{HostPort}
use Rattle.ssf_model.specs.declared.wait.Wait.{Wait}
use Rattle.ssf_model.specs.declared.wait.Wake.{Wake}
use Rattle.ssf_model.specs.Reaction.{Outcome, Each, LongestDelay}
use Rattle.ip_layer.specs.Packets.{PacketFields}
use Rattle.host_rules.specs.Hosts.{HostFields}
use Rattle.host_rules.specs.Reacting.{Role, Receiver as ReceiverRole, Clock as ClockRole, Client as ClientRole, roles, receiver_reply, clock_reply, client_reply, reply_of, outcome, host_reaction}
use Rattle.host_rules.specs.Limits.{AreRows, IsPlaced, IsStack, IsHost}
use Rattle.host_roles.specs.declared.roles.Process.TheVariants.{Receiver, Clock, Client}
use Rattle.host_roles.specs.Processes.{IsRoleOf}

role_none : (rows : HostRows) (o : Option Role) → IsRoleOf rows None o → o ≡ None
role_none rows None is = refl
role_none rows (Some role) is = absurd is

role_clock : (rows : HostRows) (o : Option Role) → IsRoleOf rows (Some Clock) o → o ≡ Some ClockRole
role_clock rows None is = absurd is
role_clock rows (Some (ReceiverRole port)) is = absurd is
role_clock rows (Some ClockRole) is = refl
role_clock rows (Some (ClientRole client row)) is = absurd is

role_receiver : (rows : HostRows) (place : ℕ) (port : HostPort) (o : Option Role) → IsRoleOf rows (Some (Receiver place)) o → slice_get rows.ports place ≡ Some port → o ≡ Some (ReceiverRole port)
role_receiver rows place port None is at = absurd is
role_receiver rows place port (Some (ReceiverRole other)) is at = let same : Some other ≡ Some port = sym is ∙ at in let e : other ≡ port = cc in ap (λ (p : HostPort). Some (ReceiverRole p)) e
role_receiver rows place port (Some ClockRole) is at = absurd is
role_receiver rows place port (Some (ClientRole client row)) is at = absurd is

role_client : (rows : HostRows) (number : ℕ) (row : ClientRow) (o : Option Role) → IsRoleOf rows (Some (Client number)) o → slice_get rows.clients number ≡ Some row → o ≡ Some (ClientRole number row)
role_client rows number row None is at = absurd is
role_client rows number row (Some (ReceiverRole other)) is at = absurd is
role_client rows number row (Some ClockRole) is at = absurd is
role_client rows number row (Some (ClientRole client other)) is at =
    let same : Some other ≡ Some row = sym is.1 ∙ at in
    let e : other ≡ row = cc in
    ap (λ (n : ℕ). Some (ClientRole n other)) is.0 ∙ ap (λ (r : ClientRow). Some (ClientRole number r)) e

-- what a host does is what the role of the process does
does : (P : Outcome HostFields PacketFields → Type 0) (s : HostFields) (i now : ℕ) (wake : Wake PacketFields) (o : Option Role) → slice_get (roles s.rows) i ≡ o → P (outcome s (reply_of s o now wake))
    → P (host_reaction s i now wake)
unfolding host_reaction
does P s i now wake o e h = subst (λ (p : Option Role). P (outcome s (reply_of s p now wake))) (sym e) h

pub none_does : (P : Outcome HostFields PacketFields → Type 0) (s : HostFields) (i now : ℕ) (wake : Wake PacketFields) → IsRoleOf s.rows None (slice_get (roles s.rows) i) → P (outcome s (reply_of s None now wake))
    → P (host_reaction s i now wake)
none_does P s i now wake is h = does P s i now wake None (role_none s.rows (slice_get (roles s.rows) i) is) h

pub clock_does : (P : Outcome HostFields PacketFields → Type 0) (s : HostFields) (i now : ℕ) (wake : Wake PacketFields) → IsRoleOf s.rows (Some Clock) (slice_get (roles s.rows) i)
    → P (outcome s (clock_reply s.rows now wake s.stack)) → P (host_reaction s i now wake)
clock_does P s i now wake is h = does P s i now wake (Some ClockRole) (role_clock s.rows (slice_get (roles s.rows) i) is) h

pub receiver_does : (P : Outcome HostFields PacketFields → Type 0) (s : HostFields) (i now : ℕ) (wake : Wake PacketFields) (place : ℕ) (port : HostPort) → IsRoleOf s.rows (Some (Receiver place)) (slice_get (roles s.rows) i)
    → slice_get s.rows.ports place ≡ Some port → P (outcome s (receiver_reply s.rows port now wake s.stack)) → P (host_reaction s i now wake)
receiver_does P s i now wake place port is at h = does P s i now wake (Some (ReceiverRole port)) (role_receiver s.rows place port (slice_get (roles s.rows) i) is at) h

pub client_does : (P : Outcome HostFields PacketFields → Type 0) (s : HostFields) (i now : ℕ) (wake : Wake PacketFields) (client : ℕ) (row : ClientRow) (start : ℕ) → IsRoleOf s.rows (Some (Client client)) (slice_get (roles s.rows) i)
    → slice_get s.rows.clients client ≡ Some row → start ≡ slice_index s.starts client → P (outcome s (client_reply s.rows start client row now wake s.stack)) → P (host_reaction s i now wake)
client_does P s i now wake client row start is at e h =
    does P s i now wake (Some (ClientRole client row)) (role_client s.rows client row (slice_get (roles s.rows) i) is at) (subst (λ (t : ℕ). P (outcome s (client_reply s.rows t client row now wake s.stack))) e h)

-- a host fits its entity where its rows do
pub host_is : (s : HostFields) (ins outs : List ℕ) (timed : List Bool) (waits : List Wait) (b : Bool) → AreRows s.rows → Each (λ start. start ≤ LongestDelay) s.starts → IsStack s.rows s.stack
    → (IsTrue b ↔ IsPlaced s.rows ins outs timed waits) → (IsTrue b ↔ IsHost s ins outs timed waits)
host_is s ins outs timed waits b ranges starts stack placed = (
  (λ t. record { rows = ranges; placed = placed.0 t; starts = starts; stack = stack }),
  (λ host. placed.1 host.placed),
)
