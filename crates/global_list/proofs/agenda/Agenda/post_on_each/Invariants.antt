use Rattle.std.proofs.Common.{◌∷◌, []}
use Rattle.ssf_model.specs.Channels.{message}
use Rattle.global_list.proofs.Posts.{Partway}
use Rattle.global_list.proofs.agenda.Agenda.post_on_each.Given as goal

abbrev pub invariant-loop-mapping : goal.invariant-loop-mapping
invariant-loop-mapping g l = Partway l.fn.parent (λ m. message l.fn.delay l.fn.payload m ∷ []) l.fn.mappings l.mapping-index l.fn.self.counts.items l.fn.self.pending l.self.counts.items l.self.pending
