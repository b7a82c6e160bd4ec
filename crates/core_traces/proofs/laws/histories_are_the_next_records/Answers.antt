use Rattle.std.proofs.Common.{◌∙◌}
use Rattle.core_rules.proofs.Lists.{map_length}
use Rattle.core_traces.specs.Kept.{history_in}
use Rattle.core_traces.proofs.Merging.{next_records}
use Rattle.core_traces.proofs.Room.{can_merge}
use Rattle.core_traces.proofs.laws.histories_are_the_next_records.Goals as goal

pub returns-clause-each : goal.returns-clause-each
returns-clause-each g c = λ b plan until kept line net fits in_time budget core from q. map_length history_in core.timelines ∙ q.sound.timelines

pub returns-clause-can : goal.returns-clause-can
returns-clause-can g c = λ b plan nets mode lines threshold until budget from kept core names fits aligned in_time most q size.
    can_merge (g.B.Behaviour.reaction b) (g.B.Behaviour.valid b) (g.B.Behaviour.carried b) (g.met.B.Behaviour.sound b) (g.met.B.Behaviour.modest b) plan until in_time fits kept nets mode lines threshold aligned budget most core from q names size

pub returns-clause-next : goal.returns-clause-next
returns-clause-next g c = λ b plan until kept line net fits in_time budget core from q f entries order safe p.
    next_records (g.B.Behaviour.reaction b) (g.B.Behaviour.valid b) (g.B.Behaviour.carried b) (g.met.B.Behaviour.sound b) (g.met.B.Behaviour.modest b) plan until in_time fits kept line net budget core from q f entries order safe p
