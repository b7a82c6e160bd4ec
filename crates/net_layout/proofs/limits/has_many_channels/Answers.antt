use Rattle.std.proofs.Common.{◌≡◌, ◌+◌, ◌-◌, ◌*◌, ℕ, ltb, length, sym, ap, ◌∙◌, arith}
use Rattle.std.proofs.lemmas.Bool.{lt-ltb}
use Rattle.net_graph.specs.Networks.{link_at}
use Rattle.net_layout.specs.Wiring.{wires_of, first_channel}
use Rattle.net_layout.specs.Faults.{has_many_channels}
use Rattle.net_layout.proofs.Counting.{channels_more, channels_part, channels_all, many_attached}
use Rattle.net_layout.proofs.limits.has_many_channels.Goals as goal

pub returns-then-attached-gt-MOST_ATTACHED : goal.returns-then-attached-gt-MOST_ATTACHED
unfolding has_many_channels
returns-then-attached-gt-MOST_ATTACHED c =
    let network = c.args.network.now in
    let l : ℕ = c.loop-link.link in
    let n : ℕ = length (link_at network l).attached in
    let many = many_attached n (omega (arith, c.attached_count-attached.ensures)) in
    let part = channels_part network l (omega arith) in
    sym (lt-ltb 262144 (first_channel network + length (wires_of network)) (omega (arith, many, part)))

pub returns-then-count-gt-MOST_CHANNELS : goal.returns-then-count-gt-MOST_CHANNELS
unfolding has_many_channels
returns-then-count-gt-MOST_CHANNELS c =
    let network = c.args.network.now in
    let l : ℕ = c.loop-link.link in
    let n : ℕ = length (link_at network l).attached in
    let product : c.attached_count-attached.result * c.saturating_sub.result ≡ n * (n - 1) =
    ap (λ (x : ℕ). c.attached_count-attached.result * x) c.saturating_sub.ensures ∙ ap (λ (x : ℕ). x * (x - 1)) c.attached_count-attached.ensures in
    let part = channels_part network l (omega arith) in
    sym (lt-ltb 262144 (first_channel network + length (wires_of network)) (omega (arith, product, part, c.loop-link.invariant.counted, c.if-count-gt-MOST_CHANNELS.true)))

pub loop-link-preserved : goal.loop-link-preserved
loop-link-preserved c =
    let network = c.args.network.now in
    let l : ℕ = c.loop-link.link in
    let n : ℕ = length (link_at network l).attached in
    let product : c.attached_count-attached.result * c.saturating_sub.result ≡ n * (n - 1) =
    ap (λ (x : ℕ). c.attached_count-attached.result * x) c.saturating_sub.ensures ∙ ap (λ (x : ℕ). x * (x - 1)) c.attached_count-attached.ensures in
    record {
      counted = omega (arith, product, channels_more network l, c.loop-link.invariant.counted);
      few = omega (arith, c.if-count-gt-MOST_CHANNELS.false);
    }

pub returns : goal.returns
unfolding has_many_channels
returns c =
    let end : c.loop-link.link ≡ length c.args.network.now.links = omega arith in
    ap (λ (n : ℕ). ltb 262144 n) (c.loop-link.invariant.counted ∙ channels_all c.args.network.now c.loop-link.link end)
