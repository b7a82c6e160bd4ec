use Rattle.std.proofs.Common.{◌≡◌, ◌∙◌, ℕ, false, cond, min, get_or}
use Rattle.std.proofs.lemmas.List.{get_or_default}
use Rattle.timeline_parts.specs.declared.ends.InEnd.{InEnd}
use Rattle.timeline.proofs.Loops.{held_next}
use Rattle.timeline.proofs.bounds.least_held.Goals as goal
use Rattle.timeline.proofs.bounds.least_held.Goals.{then-end, else-end}

abbrev none : ℕ × InEnd
none = (0, record { place = 0; appointed = false; taken = 0; held = 0 })

pub loop-end-preserved : goal.loop-end-preserved
loop-end-preserved c =
    let ends = c.args.ends.now in
    let i = c.loop-end.end-index in
    let x : ℕ × InEnd = get_or ends i none in
    let old = c.loop-end.bound in
    let here : x ≡ get_or ends i x = get_or_default ends i none x c.loop-end-test.true in
    elim c.if-end.branch [
      | then-end w ↦
          let is : c.if-end.bound ≡ cond x.1.appointed (min old x.1.held) old = rw w.if-end.true (w.bound-is ∙ w.min-bound.ensures) in
          held_next c.args.entered ends i x old c.if-end.bound c.loop-end-test.true here c.loop-end.invariant is
      | else-end w ↦
          let is : c.if-end.bound ≡ cond x.1.appointed (min old x.1.held) old = rw w.if-end.false w.bound-is in
          held_next c.args.entered ends i x old c.if-end.bound c.loop-end-test.true here c.loop-end.invariant is
    ]
