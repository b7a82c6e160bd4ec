-- An interface of a host: what a contract sees of it, and the ranges of its fields.
use Rattle.std.specs.Prelude.{ℕ, ◌+◌, ◌≤◌, ◌^◌}
use Rattle.sim_base.specs.Traffic.{ticks_of}

-- bits a second, ticks a second, the bytes of the buffer, and the tick at which all is sent
pub record InterfaceFields : Type 0 where
  pub bitrate : ℕ
  pub frequency : ℕ
  pub buffer : ℕ
  pub free : ℕ

-- the ranges in which an interface is made, where a full buffer and one byte leave in at most 10^15 ticks
pub record IsRated (bitrate frequency buffer : ℕ) : Type 0 where
  pub some_bitrate : 1 ≤ bitrate
  pub most_bitrate : bitrate ≤ 10 ^ 12
  pub some_frequency : 1 ≤ frequency
  pub most_frequency : frequency ≤ 10 ^ 12
  pub some_buffer : 1 ≤ buffer
  pub most_buffer : buffer ≤ 2 ^ 31
  pub short : ticks_of bitrate frequency (buffer + 1) ≤ 10 ^ 15

-- what every interface keeps, whatever it was offered at ticks of at most 10^18
pub record IsInterface (i : InterfaceFields) : Type 0 where
  pub rated : IsRated i.bitrate i.frequency i.buffer
  pub soon : i.free ≤ 10 ^ 18 + 10 ^ 15
