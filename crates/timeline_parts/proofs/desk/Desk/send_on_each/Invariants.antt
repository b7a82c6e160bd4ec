use Rattle.std.proofs.Common.{◌∷◌, []}
use Rattle.ssf_model.specs.Channels.{message}
use Rattle.timeline_parts.proofs.Sent.{Partway}
use Rattle.timeline_parts.proofs.desk.Desk.send_on_each.Given as goal

abbrev pub invariant-loop-mapping : goal.invariant-loop-mapping
invariant-loop-mapping g l = Partway l.fn.parent (λ m. message l.fn.delay l.fn.payload m ∷ []) l.fn.mappings l.mapping-index
    l.fn.self.counts.items l.fn.self.ends.items l.fn.self.written.items l.self.counts.items l.self.ends.items l.self.written.items
