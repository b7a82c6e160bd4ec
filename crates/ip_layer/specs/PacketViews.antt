-- What a contract sees of a packet: the record of its fields.
use Rattle.ip_layer.specs.Packets.{PacketFields}
use Rattle.ip_layer.specs.declared.packet.Packet.TheInside.{Inside}

abbrev pub packet_view : Inside → PacketFields
packet_view p = record {
  src = p.src;
  dst = p.dst;
  tcp = p.tcp;
  ttl = p.ttl;
  src_port = p.src_port;
  dst_port = p.dst_port;
  bytes = p.bytes;
  segment = p.segment;
}

abbrev pub packet_inside : PacketFields → Inside
packet_inside p = record {
  src = p.src;
  dst = p.dst;
  tcp = p.tcp;
  ttl = p.ttl;
  src_port = p.src_port;
  dst_port = p.dst_port;
  bytes = p.bytes;
  segment = p.segment;
}
