use Rattle.std.proofs.Common.{ℕ, ◌++◌, ap, ◌∙◌}
use Rattle.model_gen.specs.Draws.{server_net}
use Rattle.model_gen.specs.Campus.{lines, pattern_of}
use Rattle.model_gen.proofs.Steps.{none_written, one_written}
use Rattle.model_gen.proofs.traffic.push_patterns.Goals as goal

pub loop-i-init : goal.loop-i-init
loop-i-init c = none_written c.args.seed (λ (i : ℕ). lines 4 (pattern_of i (server_net c.args.seed c.args.size i))) c.args.out.now.items _ c.generator-generator.ensures

pub loop-i-preserved : goal.loop-i-preserved
loop-i-preserved c =
    let seed = c.args.seed in
    let size = c.args.size in
    let i = c.loop-i.i in
    let out = c.loop-i.out.items in
    let before = c.loop-i.invariant in
    let drawn = c.draw_next-draw.ensures in
    one_written seed (λ (n : ℕ). lines 4 (pattern_of n (server_net seed size n))) c.args.out.now.items out _ _ _ i before
    (c.in_ok-push_pattern.ensures ∙ ap (λ (s : ℕ). out ++ lines 4 (pattern_of i s)) (drawn.server_net seed i before.drawn))
    (drawn.generator seed i before.drawn)
