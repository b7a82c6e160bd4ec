use Rattle.std.proofs.Common.{◌+◌, Some}
use Rattle.sync_core.proofs.Tries.{some_over, some_crossed}
use Rattle.sync_core.proofs.core_parts.Core.drive_some.Goals as goal

pub returns-clause-over : goal.returns-clause-over
returns-clause-over g c = some_over (Some (c.args.self.now.barrier.round + c.args.crossings)) c.go_on.new.self c.go_on.result c.go_on.ensures.due c.go_on.ensures.apart

pub returns-clause-crossed : goal.returns-clause-crossed
returns-clause-crossed g c = some_crossed (c.args.self.now.barrier.round + c.args.crossings) c.go_on.new.self c.go_on.result c.go_on.ensures.due c.go_on.ensures.apart
