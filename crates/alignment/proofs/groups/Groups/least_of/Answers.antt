use Rattle.std.proofs.Common.{arith}
use Rattle.alignment.proofs.Growing.{smoothed_then}
use Rattle.alignment.proofs.groups.Groups.least_of.Goals as goal

pub loop-at-preserved : goal.loop-at-preserved
loop-at-preserved c =
    let lower = c.lift-at.ensures.lesser in
    let count = c.lift-at.ensures.smoothed.count in
    let within = c.loop-at.invariant.within in
    record {
      smoothed = smoothed_then c.args.self.now c.loop-at.self c.lift-at.new.self c.args.entity c.loop-at.at c.lift-at.result c.loop-at.invariant.smoothed c.lift-at.ensures.smoothed;
      within = omega arith;
    }
