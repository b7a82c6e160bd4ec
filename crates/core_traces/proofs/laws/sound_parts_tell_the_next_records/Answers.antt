use Rattle.std.proofs.Common.{◌∙◌}
use Rattle.core_rules.proofs.Lists.{map_length}
use Rattle.core_traces.specs.Kept.{history_in}
use Rattle.core_traces.proofs.Merging.{next_records}
use Rattle.core_traces.proofs.Room.{can_merge}
use Rattle.core_traces.proofs.Ends.{safe_in_budget, budget_ends}
use Rattle.alignment.specs.Alignment.{line_of, timeline_count}
use Rattle.sync_facts.specs.Nets.{net_of}
use Rattle.core_traces.proofs.Unreported.{without_reports, as_from, all_whole, all_few, all_windows}
use Rattle.core_traces.proofs.laws.sound_parts_tell_the_next_records.Goals as goal

pub returns-clause-each : goal.returns-clause-each
returns-clause-each g c = λ b plan until kept line net fits in_time budget core from q. map_length history_in core.timelines ∙ q.sound.timelines

pub returns-clause-can : goal.returns-clause-can
returns-clause-can g c = λ b plan nets mode lines threshold until budget from kept core names fits aligned in_time most q size.
    can_merge (g.B.Behaviour.reaction b) (g.B.Behaviour.valid b) (g.B.Behaviour.carried b) (g.met.B.Behaviour.sound b) (g.met.B.Behaviour.modest b) plan until in_time fits kept nets mode lines threshold aligned budget most (without_reports core) from
    (as_from (g.B.Behaviour.reaction b) (g.B.Behaviour.valid b) (g.B.Behaviour.carried b) (g.met.B.Behaviour.sound b) (g.met.B.Behaviour.modest b) plan until in_time fits kept (line_of lines) (net_of plan (line_of lines) (timeline_count lines) threshold) budget core from q) names size

pub returns-clause-next : goal.returns-clause-next
returns-clause-next g c = λ b plan until kept line net fits in_time budget core from q f entries order safe p. next_records (g.B.Behaviour.reaction b) (g.B.Behaviour.valid b) (g.B.Behaviour.carried b) (g.met.B.Behaviour.sound b) (g.met.B.Behaviour.modest b) plan until in_time fits kept line net budget (without_reports core) from (as_from (g.B.Behaviour.reaction b) (g.B.Behaviour.valid b) (g.B.Behaviour.carried b) (g.met.B.Behaviour.sound b) (g.met.B.Behaviour.modest b) plan until in_time fits kept line net budget core from q) f entries order safe p

pub returns-clause-whole : goal.returns-clause-whole
returns-clause-whole g c = λ b plan until kept line net fits in_time budget core from q ended entries p. all_whole (g.B.Behaviour.reaction b) (g.B.Behaviour.valid b) (g.B.Behaviour.carried b) (g.met.B.Behaviour.sound b) (g.met.B.Behaviour.modest b) plan until in_time fits kept line net budget core from q ended entries p

pub returns-clause-few : goal.returns-clause-few
returns-clause-few g c = λ b plan until kept line net fits in_time budget core from q ended. all_few (g.B.Behaviour.reaction b) (g.B.Behaviour.valid b) (g.B.Behaviour.carried b) (g.met.B.Behaviour.sound b) (g.met.B.Behaviour.modest b) plan until in_time fits kept line net budget core from q ended

pub returns-clause-windows : goal.returns-clause-windows
returns-clause-windows g c = λ b plan until kept line net fits in_time budget core from q ended. all_windows (g.B.Behaviour.reaction b) (g.B.Behaviour.valid b) (g.B.Behaviour.carried b) (g.met.B.Behaviour.sound b) (g.met.B.Behaviour.modest b) plan until in_time fits kept line net budget core from q ended

pub returns-clause-within : goal.returns-clause-within
returns-clause-within g c = λ b plan until kept line net fits in_time budget core from q. safe_in_budget (g.B.Behaviour.reaction b) (g.B.Behaviour.valid b) (g.B.Behaviour.carried b) (g.met.B.Behaviour.sound b) (g.met.B.Behaviour.modest b) plan until in_time fits kept line net budget (without_reports core) from (as_from (g.B.Behaviour.reaction b) (g.B.Behaviour.valid b) (g.B.Behaviour.carried b) (g.met.B.Behaviour.sound b) (g.met.B.Behaviour.modest b) plan until in_time fits kept line net budget core from q)

pub returns-clause-ends : goal.returns-clause-ends
returns-clause-ends g c = λ b plan until kept line net fits in_time budget core from q i ends. budget_ends (g.B.Behaviour.reaction b) (g.B.Behaviour.valid b) (g.B.Behaviour.carried b) (g.met.B.Behaviour.sound b) (g.met.B.Behaviour.modest b) plan until in_time fits kept line net budget (without_reports core) from (as_from (g.B.Behaviour.reaction b) (g.B.Behaviour.valid b) (g.B.Behaviour.carried b) (g.met.B.Behaviour.sound b) (g.met.B.Behaviour.modest b) plan until in_time fits kept line net budget core from q) i (record { timeline = ends.timeline; own = ends.own; over = ends.over; least = ends.least })
