use Rattle.std.proofs.Common.{◌≡◌, map}
use Rattle.std.specs.List.{range_with_len}
use Rattle.ssf_model.specs.Drafts.{start}
use Rattle.ssf_model.proofs.builder.start_events.Given as goal

abbrev pub invariant-loop-entity : goal.invariant-loop-entity
invariant-loop-entity g l = l.events.items ≡ map start (range_with_len 0 l.entity)
