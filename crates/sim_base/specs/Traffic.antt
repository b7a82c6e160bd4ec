-- The ranges of what hosts are configured with, and the time that bytes take to leave.
use Rattle.std.specs.Prelude.{ℕ, ◌≡◌, ◌*◌, ◌≤◌, ◌^◌}
use Rattle.std.specs.Int.{div_ceil}
use Rattle.sim_base.specs.declared.records.TcpConfig.{TcpConfig}
use Rattle.sim_base.specs.declared.records.ClientRow.{ClientRow}

-- the ticks in which so many bytes leave, at a bitrate in bit/s and a frequency in ticks a second, rounded up
abbrev pub ticks_of : ℕ → ℕ → ℕ → ℕ
ticks_of bitrate frequency bytes = div_ceil (8 * bytes * frequency) bitrate

-- the settings of TCP that a model may give to a host
pub record IsTcp (frequency : ℕ) (tcp : TcpConfig) : Type 0 where
  pub iss : tcp.iss ≤ 2 ^ 30
  pub mss : (1 ≤ tcp.mss) × (tcp.mss ≤ 65495)
  pub receive : (1 ≤ tcp.receive) × (tcp.receive ≤ 65535)
  pub send : (1 ≤ tcp.send) × (tcp.send ≤ 65535)
  pub tries : tcp.tries ≤ 100
  pub msl : tcp.msl ≤ 10 ^ 18
  pub frequency_is : tcp.frequency ≡ frequency

-- a client session that a model may give to a host
pub record IsClient (client : ClientRow) : Type 0 where
  pub start : client.start ≤ 10 ^ 18
  pub window : client.window ≤ 10 ^ 18
  pub file : client.file ≤ 2 ^ 30
  pub datagram : (1 ≤ client.datagram) × (client.datagram ≤ 65507)
  pub interval : client.interval ≤ 10 ^ 18
