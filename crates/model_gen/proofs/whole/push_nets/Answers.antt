use Rattle.std.proofs.Common.{ℕ, ◌∙◌}
use Rattle.model_gen.specs.Campus.{lines, net_of}
use Rattle.model_gen.proofs.Steps.{one_more}
use Rattle.model_gen.proofs.whole.push_nets.Goals as goal

pub loop-i-preserved : goal.loop-i-preserved
loop-i-preserved c =
    c.in_ok-push_net.ensures ∙ one_more (λ (i : ℕ). lines 2 (net_of i)) c.args.out.now.items c.loop-i.out.items c.loop-i.i c.loop-i.invariant
