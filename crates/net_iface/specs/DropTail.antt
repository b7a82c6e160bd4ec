-- The drop-tail rule: packets leave in the order in which they came, at the bitrate, and one for
-- which the buffer has no room is dropped.
use Rattle.std.specs.Prelude.{ℕ, ◌+◌, ◌-◌, ◌*◌, ◌/◌, max, nat_le, Bool, if◌then◌else◌}
use Rattle.sim_base.specs.Traffic.{ticks_of}
use Rattle.net_iface.specs.InterfaceFields.{InterfaceFields}
use Rattle.net_iface.specs.declared.interface.Offer.{Offer}
use Rattle.net_iface.specs.declared.interface.Offer.TheVariants.{Sent, Dropped}

-- the ticks until all is sent
abbrev pub wait : InterfaceFields → ℕ → ℕ
wait i now = max i.free now - now

-- the bytes that are still to be sent, rounded down
abbrev pub queued : InterfaceFields → ℕ → ℕ
queued i now = wait i now * i.bitrate / (8 * i.frequency)

-- whether the buffer has room for so many bytes more
abbrev pub has_room : InterfaceFields → ℕ → ℕ → Bool
has_room i bytes now = nat_le (queued i now + bytes) i.buffer

-- the ticks until the last bit of a packet that is taken has left
abbrev pub delay : InterfaceFields → ℕ → ℕ → ℕ
delay i bytes now = wait i now + ticks_of i.bitrate i.frequency bytes

-- what becomes of a packet of so many bytes
unfoldable pub offered : InterfaceFields → ℕ → ℕ → Offer
offered i bytes now = if has_room i bytes now then Sent (delay i bytes now) else Dropped

-- the interface afterwards
unfoldable pub after_offer : InterfaceFields → ℕ → ℕ → InterfaceFields
after_offer i bytes now = if has_room i bytes now then record i { free = now + delay i bytes now } else i

-- a fact about the delay of a packet that is taken
abbrev pub IfSent : Offer → (ℕ → Type 0) → Type 0
IfSent (Sent ticks) P = P ticks
IfSent Dropped P = Unit {0}
