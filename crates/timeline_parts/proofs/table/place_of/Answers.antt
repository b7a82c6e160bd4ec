use Rattle.std.proofs.Common.{◌≡◌, ◌+◌, ◌-◌, ◌/◌, ◌<◌, ◌≤◌, ℕ, length, get_or, sym, ◌∙◌, subst, arith}
use Rattle.timeline_parts.specs.Tables.{numbers_of}
use Rattle.timeline_parts.proofs.Tables.{IsHalved, number_here, numbers_length, halved_more, halved_less, halved_none}
use Rattle.timeline_parts.proofs.table.place_of.Goals as goal
use Rattle.timeline_parts.proofs.table.place_of.Goals.{else-low-items-via-then-low-items+else-items-low, else-low-items-via-else-low-items}

pub loop-low-preserved-then-items-middle : goal.loop-low-preserved-then-items-middle
loop-low-preserved-then-items-middle g c =
    let items = c.args.items.now in
    let low = c.loop-low.low in
    let high = c.loop-low.high in
    let middle : ℕ = low + (high - low) / 2 in
    let now = c.loop-low.invariant in
    let below : middle < high = omega (arith, c.loop-low-test.true) in
    let there : middle < length items = omega (arith, below, now.1) in
    let named : middle < length (numbers_of items) = omega (arith, there, numbers_length items) in
    let less : get_or (numbers_of items) middle 0 < c.args.number = omega (arith, number_here items middle c.index-items-middle.result there, c.if-items-middle.true) in
    (omega (arith, below), now.1, halved_more (numbers_of items) c.args.number low high middle c.requires now.2 named less)

pub loop-low-preserved : goal.loop-low-preserved
loop-low-preserved g c =
    let items = c.args.items.now in
    let low = c.loop-low.low in
    let high = c.loop-low.high in
    let middle : ℕ = low + (high - low) / 2 in
    let now = c.loop-low.invariant in
    let below : middle < high = omega (arith, c.loop-low-test.true) in
    let there : middle < length items = omega (arith, below, now.1) in
    let least : c.args.number ≤ get_or (numbers_of items) middle 0 = omega (arith, number_here items middle c.index-items-middle.result there, c.if-items-middle.false) in
    (omega arith, omega (arith, there), halved_less (numbers_of items) c.args.number low high middle c.requires now.2 least)

pub returns-else-low-items-clause-none : goal.returns-else-low-items-clause-none
returns-else-low-items-clause-none g c = λ a.
    let items = c.args.items.now in
    let low = c.loop-low.low in
    let same : c.loop-low.high ≡ low = omega (arith, c.loop-low-test.false, c.loop-low.invariant.0) in
    let half : IsHalved (numbers_of items) c.args.number low low = subst (λ h. IsHalved (numbers_of items) c.args.number low h) same c.loop-low.invariant.2 in
    elim c.else-low-items.branch [
      | else-low-items-via-then-low-items+else-items-low w ↦
          halved_none (numbers_of items) c.args.number low half
          (λ l e. w.if-items-low.false (sym (number_here items low w.index-items-low.result (omega (arith, l, numbers_length items))) ∙ e)) c.requires a
      | else-low-items-via-else-low-items w ↦
          halved_none (numbers_of items) c.args.number low half (λ l e. omega (arith, l, numbers_length items, w.if-low-items.false)) c.requires a
    ]
