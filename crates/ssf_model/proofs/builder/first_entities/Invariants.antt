use Rattle.std.proofs.Common.{◌≡◌, ◌+◌}
use Rattle.ssf_model.specs.Drafts.{all_timers, first_entities}
use Rattle.ssf_model.proofs.builder.first_entities.Given as goal

abbrev pub invariant-loop-draft : goal.invariant-loop-draft
invariant-loop-draft g l = (l.entities.items ≡ first_entities l.fn.first l.yielded) × (l.next ≡ l.fn.first + all_timers l.yielded)
