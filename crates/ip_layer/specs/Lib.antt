pub mod Packets
pub mod Forwarding
pub mod PacketViews
