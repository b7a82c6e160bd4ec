-- What a host keeps.
use Rattle.std.specs.Prelude.{ℕ, List, [], ◌∷◌, Option, map, length, replicate}
use Rattle.sim_base.specs.declared.records.ClientRow.{ClientRow}
use Rattle.rand_pcg.specs.Lcg.{Lcg}
use Rattle.rand_pcg.specs.Pcg.{pcg32_of_seed}
use Rattle.rand_core.specs.Pcg32Seed.{pcg32_seed}
use Rattle.net_iface.specs.InterfaceFields.{InterfaceFields}
use Rattle.tcp_rules.specs.Sessions.{End}
use Rattle.traffic.specs.Progress.{Progress, at_first}
use Rattle.traffic.specs.Starts.{drawn_start}
pub use Rattle.host_rules.specs.declared.sockets.Sockets.{Sockets}
use Rattle.host_rules.specs.declared.rows.HostRows.{HostRows}
use Rattle.host_rules.specs.declared.rows.HostPort.{HostPort}

-- a TCP session: its number among all that the host ever had, its ends, the client session that opened it, which one that
-- was accepted has not, and what it keeps
pub record EntryFields : Type 0 where
  pub number : ℕ
  pub sockets : Sockets
  pub client : Option ℕ
  pub session : End

-- what events change of a host: its interfaces; which servers its client sessions were given; what each of them that uses
-- UDP has left to send to the last of these; the TCP sessions in order of creation; how many of them it opened itself; and
-- how many it ever had
pub record Stack : Type 0 where
  pub interfaces : List InterfaceFields
  pub apps : Progress
  pub left : List ℕ
  pub sessions : List EntryFields
  pub opened : ℕ
  pub made : ℕ

-- a host: its rows, the ticks at which its client sessions start, and what events change of it
pub record HostFields : Type 0 where
  pub rows : HostRows
  pub starts : List ℕ
  pub stack : Stack

-- Before the first event.
-- the starts of these client sessions, drawn one after another
abbrev pub starts_from : Lcg → List ClientRow → List ℕ
starts_from generator [] = []
starts_from generator (client ∷ clients) =
    let drawn = drawn_start generator client.start client.window in drawn.0 ∷ starts_from drawn.1 clients

-- the generator of a host is seeded by its number
unfoldable pub starts_of : HostRows → List ℕ
starts_of rows = starts_from (pcg32_of_seed (pcg32_seed 16 rows.number)) rows.clients

-- an interface that is idle
abbrev pub idle_interface : ℕ → HostPort → InterfaceFields
idle_interface frequency port = record { bitrate = port.bitrate; frequency = frequency; buffer = port.buffer; free = 0 }

abbrev pub first_stack : HostRows → Stack
first_stack rows = record {
  interfaces = map (idle_interface rows.tcp.frequency) rows.ports;
  apps = at_first rows.clients rows.servers;
  left = replicate (length rows.clients) 0;
  sessions = [];
  opened = 0;
  made = 0;
}

abbrev pub first_host : HostRows → HostFields
first_host rows = record { rows = rows; starts = starts_of rows; stack = first_stack rows }
