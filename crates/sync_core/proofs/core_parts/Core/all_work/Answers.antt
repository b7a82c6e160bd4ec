use Rattle.sync_core.proofs.Marking.{work_all}
use Rattle.sync_core.proofs.core_parts.Core.all_work.Goals as goal

pub returns : goal.returns
returns g c =
    work_all c.args.self.now c.count.result c.all.result c.count.ensures c.all.ensures.executes c.all.ensures.posts c.all.ensures.takes c.all.ensures.enters c.all.ensures.reports c.all.ensures.over
