-- A packet that the buffer takes leaves as soon as a full buffer and one byte would.
use Rattle.std.proofs.Common.{ℕ, ◌^◌, ◌+◌, ◌*◌, ◌/◌, ◌<◌, ◌≤◌, arith}
use Rattle.std.proofs.Math.Nat.{lt-mul-div-succ, mul-le-mul_left, lt_of_mul-lt-mul_right}
use Rattle.std.proofs.lemmas.Grind.{div_ceil_times}
use Rattle.sim_base.specs.Traffic.{ticks_of}
use Rattle.net_iface.specs.InterfaceFields.{IsRated}

-- the same with products in place of quotients
products_bound : (b f most wait bytes q t u : ℕ) → wait * b < 8 * f * (q + 1) → t * b < 8 * bytes * f + b → 8 * (most + 1) * f ≤ u * b → 8 * f * (q + bytes) ≤ 8 * f * most → (wait + t) * b < (u + 1) * b
products_bound b f most wait bytes q t u waited sent whole room = omega arith

delay-le-ticks_of : (b f most wait bytes : ℕ) → 0 < b → 0 < 8 * f → wait * b / (8 * f) + bytes ≤ most → wait + ticks_of b f bytes ≤ ticks_of b f (most + 1)
delay-le-ticks_of b f most wait bytes some_b some_f room =
    let waited = lt-mul-div-succ (wait * b) some_f in
    let sent = div_ceil_times (8 * bytes * f) b some_b in
    let whole = div_ceil_times (8 * (most + 1) * f) b some_b in
    let held = mul-le-mul_left (8 * f) room in
    let below = products_bound b f most wait bytes (wait * b / (8 * f)) (ticks_of b f bytes) (ticks_of b f (most + 1)) waited sent.1 whole.0 held in
    omega (arith, lt_of_mul-lt-mul_right b below)

-- so its delay is at most 10^15
pub delay_short : (b f most wait bytes : ℕ) → IsRated b f most → wait * b / (8 * f) + bytes ≤ most → wait + ticks_of b f bytes ≤ 10 ^ 15
delay_short b f most wait bytes rated room =
    let some_f = rated.some_frequency in
    omega (arith, delay-le-ticks_of b f most wait bytes rated.some_bitrate (omega (arith, some_f)) room, rated.short)
