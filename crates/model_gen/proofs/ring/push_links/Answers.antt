use Rattle.std.proofs.Common.{ℕ, ◌++◌, ap, ◌∙◌}
use Rattle.model_gen.specs.Draws.{delay}
use Rattle.model_gen.specs.Campus.{lines, ring_link}
use Rattle.model_gen.proofs.Steps.{none_written, one_written}
use Rattle.model_gen.proofs.ring.push_links.Goals as goal

pub loop-i-init : goal.loop-i-init
loop-i-init c = none_written c.args.seed (λ (i : ℕ). lines 2 (ring_link c.args.size i (delay c.args.seed i))) c.args.out.now.items _ c.generator-generator.ensures

pub loop-i-preserved : goal.loop-i-preserved
loop-i-preserved c =
    let seed = c.args.seed in
    let size = c.args.size in
    let i = c.loop-i.i in
    let out = c.loop-i.out.items in
    let before = c.loop-i.invariant in
    let drawn = c.draw_next-draw.ensures in
    one_written seed (λ (n : ℕ). lines 2 (ring_link size n (delay seed n))) c.args.out.now.items out _ _ _ i before
    (c.in_ok-push_link.ensures ∙ ap (λ (d : ℕ). out ++ lines 2 (ring_link size i d)) (drawn.delay seed i before.drawn))
    (drawn.generator seed i before.drawn)
