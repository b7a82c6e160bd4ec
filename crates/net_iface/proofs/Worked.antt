-- Worked rows of the drop-tail rule: 8,000,000 bit/s, 10^9 ticks a second and a buffer of 2,000 bytes.
use Rattle.std.proofs.Common.{◌≡◌, ℕ, refl}
use Rattle.net_iface.specs.InterfaceFields.{InterfaceFields}
use Rattle.net_iface.specs.DropTail.{offered, after_offer}
use Rattle.net_iface.specs.declared.interface.Offer.TheVariants.{Sent, Dropped}

abbrev interface : ℕ → InterfaceFields
interface free = record { bitrate = 8000000; frequency = 1000000000; buffer = 2000; free = free }

idle : offered (interface 0) 1500 0 ≡ Sent 1500000
unfolding offered
idle = refl

full : offered (interface 1500000) 1500 0 ≡ Dropped
unfolding offered
full = refl

exactly_full : offered (interface 1500000) 500 0 ≡ Sent 2000000
unfolding offered
exactly_full = refl

later : after_offer (interface 2000000) 600 1400000 ≡ interface 2600000
unfolding after_offer
later = refl
