-- A packet of IP without options (RFC 791), with the header of UDP (RFC 768) or TCP (RFC 9293).
use Rattle.std.specs.Prelude.{ℕ, ◌≡◌, ◌+◌, ◌≤◌, Bool, false, Option, is_some}
use Rattle.std.specs.Option.{ForSome}
use Rattle.sim_base.specs.SegmentFields.{SegmentFields, IsSegment}

-- the addresses, whether TCP or UDP, the time to live, the ports, the bytes with all headers, and the segment of TCP
pub record PacketFields : Type 0 where
  pub src : ℕ
  pub dst : ℕ
  pub tcp : Bool
  pub ttl : ℕ
  pub src_port : ℕ
  pub dst_port : ℕ
  pub bytes : ℕ
  pub segment : Option SegmentFields

-- a packet of TCP has a segment and 40 bytes of headers; one of UDP has none and at least 28 bytes
pub record IsPacket (packet : PacketFields) : Type 0 where
  pub protocol : is_some packet.segment ≡ packet.tcp
  pub segment : ForSome packet.segment IsSegment
  pub tcp_bytes : ForSome packet.segment (λ segment. packet.bytes ≡ 40 + segment.length)
  pub udp_bytes : packet.tcp ≡ false → 28 ≤ packet.bytes
