use Rattle.std.proofs.Common.{sym}
use Rattle.net_layout.proofs.arms.push_arm.Goals as goal

pub arm_at-requires-clause-link : goal.arm_at-requires-clause-link
arm_at-requires-clause-link c = (c.requires.network.interfaces c.args.interface c.requires.interface).link c.in-Some.at (sym c.in-Some.ensures)

pub arm_at-requires-clause-place : goal.arm_at-requires-clause-place
arm_at-requires-clause-place c = (c.requires.network.interfaces c.args.interface c.requires.interface).place c.in-Some.at (sym c.in-Some.ensures)
