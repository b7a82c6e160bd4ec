use Rattle.std.proofs.Common.{arith}
use Rattle.alignment.specs.Alignment.{line_of, timeline_count}
use Rattle.alignment.proofs.Numbering.{line_below}
use Rattle.alignment.proofs.Lawful.{together_each}
use Rattle.sync_facts.proofs.Nets.{aligned_net}
use Rattle.plan_shares.proofs.Between.{lookahead_same}
use Rattle.plan_shares.proofs.laws.alignments_make_nets.Goals as goal

pub returns-clause-aligned : goal.returns-clause-aligned
returns-clause-aligned g c = together_each

pub returns-clause-net : goal.returns-clause-net
returns-clause-net g c = λ b plan nets mode lines threshold fits aligned.
    let size = aligned.entities in
    aligned_net (g.B.Behaviour.valid b) (g.B.Behaviour.carried b) plan fits (line_of lines) (timeline_count lines) threshold (together_each plan nets mode lines fits.wired aligned) (λ e h. line_below lines e (omega arith))

pub returns-clause-lookahead : goal.returns-clause-lookahead
returns-clause-lookahead g c = lookahead_same
