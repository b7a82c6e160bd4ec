use Rattle.std.proofs.Common.{arith}
use Rattle.timeline_tests.proofs.Tame.{rising_short}
use Rattle.timeline_tests.proofs.node.rise.Goals as goal

pub returns-in-len1 : goal.returns-in-len1
returns-in-len1 c = λ _. rising_short c.args.crosses.now (let h = c.in-len1.len_below in omega (arith, h))
