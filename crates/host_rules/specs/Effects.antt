-- What a part of an action does: what it makes of the host, what it writes, and what it tells, in order.
use Rattle.std.specs.Prelude.{List, [], ◌∷◌, ◌++◌}
use Rattle.sim_base.specs.declared.records.Reason.{Reason}
use Rattle.ssf_model.specs.declared.event.Line.{Line}
use Rattle.ssf_model.specs.declared.event.Line.TheVariants.{Dropped}
use Rattle.ssf_model.specs.declared.out.Written.{Written}
use Rattle.ip_layer.specs.Packets.{PacketFields}
use Rattle.host_rules.specs.Hosts.{Stack}

pub record Effect : Type 0 where
  pub stack : Stack
  pub writes : List (Written PacketFields)
  pub lines : List Line

-- nothing is done
abbrev pub quiet : Stack → Effect
quiet stack = record { stack = stack; writes = []; lines = [] }

-- a line is told
abbrev pub telling : Line → Stack → Effect
telling line stack = record { stack = stack; writes = []; lines = line ∷ [] }

-- the one and then the other
abbrev pub followed_by : Effect → Effect → Effect
followed_by first next = record { stack = next.stack; writes = first.writes ++ next.writes; lines = first.lines ++ next.lines }

-- the one, and then what is done by the host that it leaves
abbrev pub and_then : Effect → (Stack → Effect) → Effect
and_then first next = followed_by first (next first.stack)

-- a packet is dropped
abbrev pub dropped : Reason → PacketFields → Stack → Effect
dropped reason packet stack = telling (Dropped reason packet.tcp packet.bytes) stack
