-- After the processes before the index acted: the entity is valid, and the rest comes to the whole.
use Rattle.std.proofs.Common.{◌≡◌, map}
use Rattle.ssf_model.specs.Reaction.{is_timed, wait_of}
use Rattle.ssf_model.specs.Deliver.{delivered}
use Rattle.ssf_model.proofs.Delivering.{Halfway, rest_of}
use Rattle.ssf_model.proofs.entity.Entity.deliver.Given as goal

abbrev pub invariant-loop-index : goal.invariant-loop-index
invariant-loop-index g l =
    (Halfway (delivered (g.B.Behaviour.reaction l.behaviour) l.event.key.time l.event.kind 0 l.fn.self.state l.fn.self.processes)
    (rest_of (g.B.Behaviour.reaction l.behaviour) l.event.key.time l.event.kind l.index l.self.state l.self.processes)
    l.fn.self.processes l.fn.out.writes l.fn.out.lines l.index l.self.processes l.out.writes l.out.lines)
    × (g.B.Behaviour.valid l.behaviour l.self.state l.self.in_channels l.self.out_channels (map is_timed l.self.processes) (map wait_of l.self.processes))
    × (l.self.in_channels ≡ l.fn.self.in_channels) × (l.self.out_channels ≡ l.fn.self.out_channels)
