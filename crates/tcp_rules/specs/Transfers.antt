-- A transfer over a network that may lose, repeat, delay and reorder segments.
use Rattle.std.specs.Prelude.{◌≡◌, ◌⊎◌, ℕ, ◌+◌, ◌<◌, ◌≤◌, true, Option, Some, None, is_some, List, [], ◌∷◌, ◌++◌, slice_get, if◌then◌else◌}
use Rattle.sim_base.specs.declared.records.TcpConfig.{TcpConfig}
use Rattle.sim_base.specs.SegmentFields.{SegmentFields}
use Rattle.tcp_rules.specs.Segments.{Turn, span, sent_of, syn_segment}
use Rattle.tcp_rules.specs.Clients.{ClientFields, connected, client_segment, client_timeout}
use Rattle.tcp_rules.specs.Servers.{ServerFields, accepted, covers, server_segment, server_timeout}

-- a client, a server that accepted its SYN, and all that each ever sent
pub record World : Type 0 where
  pub client : ClientFields
  pub server : ServerFields
  pub from_client : List SegmentFields
  pub from_server : List SegmentFields

-- at some tick, any segment that was ever sent comes to the end that it was sent to, or the deadline
-- of an end passes
pub data Step : Type 0 where
  ToClient : (which now : ℕ) → Step
  ToServer : (which now : ℕ) → Step
  ClientTimeout : (now : ℕ) → Step
  ServerTimeout : (now : ℕ) → Step

abbrev pub client_did : World → Turn ClientFields → World
client_did w t = record w { client = t.after; from_client = w.from_client ++ sent_of t.acts }

abbrev pub server_did : World → Turn ServerFields → World
server_did w t = record w { server = t.after; from_server = w.from_server ++ sent_of t.acts }

abbrev pub client_gets : World → (now : ℕ) → Option SegmentFields → World
client_gets w now None = w
client_gets w now (Some s) = client_did w (client_segment w.client s now)

abbrev pub server_gets : World → (now : ℕ) → Option SegmentFields → World
server_gets w now None = w
server_gets w now (Some s) = server_did w (server_segment w.server s now)

abbrev pub after_step : World → Step → World
after_step w (ToClient which now) = client_gets w now (slice_get w.from_server which)
after_step w (ToServer which now) = server_gets w now (slice_get w.from_client which)
after_step w (ClientTimeout now) = if is_some w.client.deadline then client_did w (client_timeout w.client now) else w
after_step w (ServerTimeout now) = if is_some w.server.deadline then server_did w (server_timeout w.server now) else w

abbrev pub after_steps : World → List Step → World
after_steps w [] = w
after_steps w (step ∷ steps) = after_steps (after_step w step) steps

-- a transfer of so many bytes is opened at one tick, and its SYN accepted at another
abbrev pub beginning : (mine theirs : TcpConfig) → (bytes opened accepted : ℕ) → World
beginning mine theirs bytes opened accepted_at =
    let c = connected mine bytes opened in
    let s = accepted theirs (syn_segment mine) accepted_at in
    record { client = c.after; server = s.after; from_client = sent_of c.acts; from_server = sent_of s.acts }

-- a position lies in a segment, or in one of a list
abbrev pub LiesIn : ℕ → SegmentFields → Type 0
LiesIn position s = (s.seq ≤ position) × (position < s.seq + span s)

abbrev pub LiesAmong : ℕ → List SegmentFields → Type 0
LiesAmong position [] = ⊥
LiesAmong position (s ∷ ss) = LiesIn position s ⊎ LiesAmong position ss

-- what holds after any steps of a transfer of so many bytes from a client whose ISS this is: no more is delivered than
-- the client has, and only what stands right after its SYN, in order; each position that the server no longer waits for lies in a segment that the client sent, where a SYN
-- and a FIN take one position each; and the client takes nothing for acknowledged that the server still waits for
pub record IsSound (iss bytes : ℕ) (w : World) : Type 0 where
  pub delivered : w.server.delivered ≤ bytes
  pub in_order : iss + 1 + w.server.delivered ≤ w.server.rcv
  pub sent : (position : ℕ) → iss ≤ position → position < w.server.rcv → LiesAmong position w.from_client
  pub acknowledged : w.client.una ≤ w.server.rcv

-- a server has passed and keeps, from a first position on, only positions of these segments
pub record HoldsOnly (first : ℕ) (segments : List SegmentFields) (s : ServerFields) : Type 0 where
  pub passed : (position : ℕ) → first ≤ position → position < s.rcv → LiesAmong position segments
  pub keeps : (position : ℕ) → covers s.kept position ≡ true → LiesAmong position segments
  pub fin : (position : ℕ) → s.fin ≡ Some position → LiesAmong position segments
