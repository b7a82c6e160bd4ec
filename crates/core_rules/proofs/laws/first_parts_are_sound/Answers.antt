use Rattle.std.proofs.Common.{arith}
use Rattle.event_order.specs.Machine.{within}
use Rattle.event_order.proofs.Steps.{le_test}
use Rattle.alignment.specs.Alignment.{line_of, timeline_count}
use Rattle.alignment.proofs.Numbering.{line_below}
use Rattle.alignment.proofs.Lawful.{together_each}
use Rattle.sync_facts.specs.Nets.{net_of}
use Rattle.sync_facts.proofs.Nets.{aligned_net}
use Rattle.sync_facts.proofs.Shares.{shared_within}
use Rattle.core_rules.proofs.Begins.{first_is_sound, first_of_run}
use Rattle.core_rules.proofs.laws.first_parts_are_sound.Goals as goal

pub returns-clause-lines : goal.returns-clause-lines
returns-clause-lines g c = λ b plan nets mode lines threshold until budget fits aligned in_time.
    let size = aligned.entities in
    let together = together_each plan nets mode lines fits.wired aligned in
    let net = aligned_net (g.B.Behaviour.valid b) (g.B.Behaviour.carried b) plan fits (line_of lines) (timeline_count lines) threshold together (λ e h. line_below lines e (omega arith)) in
    record {
      shared = shared_within (g.B.Behaviour.reaction b) (g.B.Behaviour.valid b) (g.B.Behaviour.carried b) (g.met.B.Behaviour.sound b) (g.met.B.Behaviour.modest b) plan until in_time fits (line_of lines) (net_of plan (line_of lines) (timeline_count lines) threshold) net budget;
      aligned = together;
      keeps = λ k low. le_test k.round budget low;
    }

pub returns-clause-sound : goal.returns-clause-sound
returns-clause-sound g c = λ b plan lines threshold until budget kept core fits in_time most on first.
    first_is_sound (g.B.Behaviour.reaction b) plan fits lines threshold until budget in_time most kept on.shared core first

pub returns-clause-run : goal.returns-clause-run
returns-clause-run g c = λ b plan nets mode lines threshold until budget core fits aligned in_time most first.
    let size = aligned.entities in
    let together = together_each plan nets mode lines fits.wired aligned in
    let net = aligned_net (g.B.Behaviour.valid b) (g.B.Behaviour.carried b) plan fits (line_of lines) (timeline_count lines) threshold together (λ e h. line_below lines e (omega arith)) in
    first_of_run (g.B.Behaviour.reaction b) plan fits lines threshold until budget in_time most (within budget)
    (shared_within (g.B.Behaviour.reaction b) (g.B.Behaviour.valid b) (g.B.Behaviour.carried b) (g.met.B.Behaviour.sound b) (g.met.B.Behaviour.modest b) plan until in_time fits (line_of lines) (net_of plan (line_of lines) (timeline_count lines) threshold) net budget)
    core first (record {
      shared = shared_within (g.B.Behaviour.reaction b) (g.B.Behaviour.valid b) (g.B.Behaviour.carried b) (g.met.B.Behaviour.sound b) (g.met.B.Behaviour.modest b) plan until in_time fits (line_of lines) (net_of plan (line_of lines) (timeline_count lines) threshold) net budget;
      aligned = together;
      keeps = λ k low. le_test k.round budget low;
    })
