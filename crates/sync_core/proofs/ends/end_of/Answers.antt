use Rattle.std.proofs.Common.{◌≡◌, ◌+◌, ◌-◌, ◌/◌, ◌<◌, ◌≤◌, ℕ, length, map, get_or, sym, ◌∙◌, subst, arith}
use Rattle.timeline_parts.proofs.Tables.{IsHalved, halved_more, halved_less, halved_none}
use Rattle.core_rules.specs.Cores.{channel_in}
use Rattle.sync_core.proofs.FoundEnds.{channel_here, channels_length, end_here, end_none, end_any, no_end}
use Rattle.sync_core.proofs.ends.end_of.Goals as goal
use Rattle.sync_core.proofs.ends.end_of.Goals.{else-low-ends-via-then-low-ends+else-ends-low, else-low-ends-via-else-low-ends}

pub loop-low-preserved-then-ends-middle : goal.loop-low-preserved-then-ends-middle
loop-low-preserved-then-ends-middle c =
    let ends = c.args.ends.now in
    let low = c.loop-low.low in
    let high = c.loop-low.high in
    let middle : ℕ = low + (high - low) / 2 in
    let now = c.loop-low.invariant in
    let below : middle < high = omega (arith, c.loop-low-test.true) in
    let there : middle < length ends = omega (arith, below, now.1) in
    let named : middle < length (map channel_in ends) = omega (arith, there, channels_length ends) in
    let less : get_or (map channel_in ends) middle 0 < c.args.channel = omega (arith, channel_here ends middle no_end there, c.if-ends-middle.true) in
    (omega (arith, below), now.1, halved_more (map channel_in ends) c.args.channel low high middle c.requires now.2 named less)

pub loop-low-preserved : goal.loop-low-preserved
loop-low-preserved c =
    let ends = c.args.ends.now in
    let low = c.loop-low.low in
    let high = c.loop-low.high in
    let middle : ℕ = low + (high - low) / 2 in
    let now = c.loop-low.invariant in
    let below : middle < high = omega (arith, c.loop-low-test.true) in
    let there : middle < length ends = omega (arith, below, now.1) in
    let least : c.args.channel ≤ get_or (map channel_in ends) middle 0 = omega (arith, channel_here ends middle no_end there, c.if-ends-middle.false) in
    (omega arith, omega (arith, there), halved_less (map channel_in ends) c.args.channel low high middle c.requires now.2 least)

pub returns-else-low-ends : goal.returns-else-low-ends
returns-else-low-ends c =
    let ends = c.args.ends.now in
    let low = c.loop-low.low in
    let same : c.loop-low.high ≡ low = omega (arith, c.loop-low-test.false, c.loop-low.invariant.0) in
    let half : IsHalved (map channel_in ends) c.args.channel low low = subst (λ h. IsHalved (map channel_in ends) c.args.channel low h) same c.loop-low.invariant.2 in
    sym (end_none ends c.args.channel (λ a. elim c.else-low-ends.branch [
      | else-low-ends-via-then-low-ends+else-ends-low w ↦
          halved_none (map channel_in ends) c.args.channel low half
          (λ l e. w.if-ends-low.false (sym (channel_here ends low no_end (omega (arith, l, channels_length ends))) ∙ e)) c.requires a
      | else-low-ends-via-else-low-ends w ↦
          halved_none (map channel_in ends) c.args.channel low half (λ l e. omega (arith, l, channels_length ends, w.if-low-ends.false)) c.requires a
    ]))

pub returns-then-ends-low : goal.returns-then-ends-low
returns-then-ends-low c =
    let ends = c.args.ends.now in
    let low = c.loop-low.low in
    let there : low < length ends = omega (arith, c.if-low-ends.true) in
    sym (end_here ends c.args.channel low (get_or ends low no_end) c.requires there (end_any ends low no_end (get_or ends low no_end) there) c.if-ends-low.true)
