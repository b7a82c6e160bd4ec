use Rattle.std.proofs.Common.{ap, sym, ◌∙◌}
use Rattle.std.specs.List.{slice_get}
use Rattle.pending_queue.specs.Queue.{Queue}
use Rattle.pending_queue.proofs.QueueLemmas.{rises, first_none, first_some, first_sorted}
use Rattle.pending_queue.proofs.pending.Pending.least.Goals as goal

pub returns-clause-none : goal.returns-clause-none
returns-clause-none g c = first_none c.first.result c.args.self.now.items (c.first.ensures.value ∙ ap (λ l. slice_get l 0) c.deref.ensures.value ∙ sym (first_sorted g.T.Keyed.key_of c.self.inside.items.items c.self.invariant) ∙ ap (λ (q : Queue g.row.T.Denot). slice_get q.items 0) c.self.view_is)

pub returns-clause-least : goal.returns-clause-least
returns-clause-least g c = first_some c.first.result c.args.self.now.items (c.first.ensures.value ∙ ap (λ l. slice_get l 0) c.deref.ensures.value ∙ sym (first_sorted g.T.Keyed.key_of c.self.inside.items.items c.self.invariant) ∙ ap (λ (q : Queue g.row.T.Denot). slice_get q.items 0) c.self.view_is)

pub returns-clause-rising : goal.returns-clause-rising
returns-clause-rising g c = rises g.T.Keyed.key_of c.self.inside.items.items _ c.args.self.now c.self.invariant c.self.view_is
