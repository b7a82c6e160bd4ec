use Rattle.std.proofs.Common.{◌≡◌, take, map}
use Rattle.timeline_tests.specs.Tame.{first_count}
use Rattle.timeline_tests.proofs.node.first_counts.Given as goal

abbrev pub invariant-loop-cross : goal.invariant-loop-cross
invariant-loop-cross l = l.counts.items ≡ map first_count (take l.cross-index l.fn.outs)
