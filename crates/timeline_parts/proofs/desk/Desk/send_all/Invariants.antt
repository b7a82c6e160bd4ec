use Rattle.timeline_parts.specs.RouteMap.{route}
use Rattle.timeline_parts.specs.Sending.{sent_on}
use Rattle.timeline_parts.proofs.Sent.{Partway}
use Rattle.timeline_parts.proofs.desk.Desk.send_all.Given as goal

abbrev pub invariant-loop-write : goal.invariant-loop-write
invariant-loop-write g l = Partway l.fn.parent (sent_on (route l.fn.routes.by_out) l.fn.entity l.fn.processes) l.fn.writes l.write-index
    l.fn.self.counts.items l.fn.self.ends.items l.fn.self.written.items l.self.counts.items l.self.ends.items l.self.written.items
