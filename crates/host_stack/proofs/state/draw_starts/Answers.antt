use Rattle.std.proofs.Common.{◌∙◌, ℕ, List, length, ap, arith}
use Rattle.sim_base.specs.declared.records.ClientRow.{ClientRow}
use Rattle.rand_pcg.specs.Pcg.{pcg32_of_seed}
use Rattle.rand_core.specs.Pcg32Seed.{pcg32_seed}
use Rattle.host_rules.specs.Hosts.{starts_from, starts_of}
use Rattle.host_stack.proofs.Starting.{starts_last, starts_length}
use Rattle.host_stack.proofs.state.draw_starts.Goals as goal

pub returns-clause-starts : goal.returns-clause-starts
unfolding starts_of
returns-clause-starts c =
    let generator = pcg32_of_seed (pcg32_seed 16 c.args.rows.now.number) in
    starts_last generator c.as_slice-clients.result.now c.loop-client.client-index c.loop-client.starts.items c.loop-client.stream (omega arith) c.loop-client.invariant
    ∙ ap (λ (clients : List ClientRow). starts_from generator clients) c.as_slice-clients.ensures

pub returns-clause-count : goal.returns-clause-count
returns-clause-count c =
    let generator = pcg32_of_seed (pcg32_seed 16 c.args.rows.now.number) in
    let clients = c.as_slice-clients.result.now in
    ap (λ (starts : List ℕ). length starts)
    (starts_last generator clients c.loop-client.client-index c.loop-client.starts.items c.loop-client.stream (omega arith) c.loop-client.invariant)
    ∙ starts_length generator clients ∙ ap (λ (rows : List ClientRow). length rows) c.as_slice-clients.ensures
