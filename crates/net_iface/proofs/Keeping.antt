-- An offer keeps the ranges of an interface.
use Rattle.std.proofs.Common.{◌≡◌, ℕ, ◌+◌, ◌-◌, ◌*◌, ◌/◌, ◌^◌, ◌≤◌, Bool, true, false, if◌then◌else◌, refl, arith}
use Rattle.std.proofs.lemmas.Bool.{leb-true}
use Rattle.sim_base.specs.Traffic.{ticks_of}
use Rattle.net_iface.specs.InterfaceFields.{InterfaceFields, IsInterface}
use Rattle.net_iface.specs.DropTail.{wait, queued, has_room, delay, after_offer}
use Rattle.net_iface.proofs.DelayBounds.{delay_short}

after_test : (i : InterfaceFields) (free : ℕ) (b : Bool) → (b ≡ true → free ≤ 10 ^ 18 + 10 ^ 15) → IsInterface i → IsInterface (if b then record i { free = free } else i)
after_test i free true soon is = record { rated = is.rated; soon = soon refl }
after_test i free false soon is = is

pub offer_keeps : (i : InterfaceFields) (bytes now : ℕ) → now ≤ 10 ^ 18 → IsInterface i → IsInterface (after_offer i bytes now)
unfolding after_offer
offer_keeps i bytes now in_time is =
    after_test i (now + delay i bytes now) (has_room i bytes now) (λ room.
    let short : wait i now + ticks_of i.bitrate i.frequency bytes ≤ 10 ^ 15 = delay_short i.bitrate i.frequency i.buffer (wait i now) bytes is.rated (leb-true (queued i now + bytes) i.buffer room) in
    omega arith) is
