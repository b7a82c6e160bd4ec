use Rattle.std.proofs.Common.{get_or, [], ◌∷◌}
use Rattle.timeline_parts.specs.Parts.{channel_of}
use Rattle.sync_steps.specs.declared.steps.Step.TheVariants.{Post}
use Rattle.sync_steps.proofs.Taking.{no_cross, cross_is}
use Rattle.core_rules.specs.Stepping.{is_enabled}
use Rattle.sync_core.proofs.Listing.{listed_more, mapped_more}
use Rattle.sync_core.proofs.core_parts.Core.add_posts_of.Goals as goal

pub loop-cross-preserved : goal.loop-cross-preserved
loop-cross-preserved g c =
    let xs = c.outs-outs.result.now in
    let x = get_or xs c.loop-cross.cross-index no_cross in
    listed_more (is_enabled c.args.self.now) c.args.steps.now.items c.loop-cross.steps.items c.add.new.steps.items _ (Post c.args.number (channel_of x) ∷ []) _ c.loop-cross.invariant c.in_ok-add.ensures
    (mapped_more (λ cross. Post c.args.number (channel_of cross)) xs c.loop-cross.cross-index x c.loop-cross-test.true (cross_is xs c.loop-cross.cross-index c.loop-cross-test.true))
