-- Where the packets come from that a host writes.
use Rattle.std.specs.Prelude.{ℕ, ◌≡◌, ◌⊎◌, true, ◌||◌, nat_eq}
use Rattle.ssf_model.specs.declared.wait.Wake.{Wake}
use Rattle.ssf_model.specs.declared.wait.Wake.TheVariants.{Begin, Timer, Message}
use Rattle.ssf_model.specs.declared.out.Written.{Written}
use Rattle.ssf_model.specs.declared.out.Written.TheVariants.{Channel, Timer as TimerWrite}
use Rattle.ip_layer.specs.Packets.{PacketFields}
use Rattle.ip_layer.specs.Forwarding.{has_address, passed_on}
use Rattle.host_rules.specs.declared.rows.HostRows.{HostRows}
use Rattle.host_rules.specs.Sending.{own_addresses}

-- one of the host's addresses, or 0
abbrev pub IsOwnAddress : HostRows → ℕ → Type 0
IsOwnAddress rows address = (nat_eq address 0 || has_address (own_addresses rows) address) ≡ true

-- the packet that woke the process, as it leaves a host that passes it on
abbrev pub IsPassedOn : Wake PacketFields → PacketFields → Type 0
IsPassedOn Begin packet = ⊥
IsPassedOn Timer packet = ⊥
IsPassedOn (Message channel came) packet = packet ≡ passed_on came

-- a packet of the host's own, as it leaves the host that makes it
abbrev pub IsOwn : HostRows → PacketFields → Type 0
IsOwn rows packet = IsOwnAddress rows packet.src × (packet.ttl ≡ 64)

-- a packet is the host's own, or passed on
abbrev pub IsFrom : HostRows → Wake PacketFields → PacketFields → Type 0
IsFrom rows wake packet = IsOwn rows packet ⊎ IsPassedOn wake packet

-- a fact about the packet of a write
abbrev pub Brings : (PacketFields → Type 0) → Written PacketFields → Type 0
Brings P (Channel channel delay packet) = P packet
Brings P (TimerWrite process delay ticket) = ⊥
