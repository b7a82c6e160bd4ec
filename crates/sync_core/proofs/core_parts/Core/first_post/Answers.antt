use Rattle.std.proofs.Common.{◌≡◌, sym, ap, ◌∙◌, subst, get_or, List, map, Some, None, slice_get}
use Rattle.std.specs.List.{filter}
use Rattle.timeline_parts.specs.declared.part.Cross.{Cross}
use Rattle.timeline_parts.specs.Parts.{channel_of}
use Rattle.sync_steps.specs.declared.steps.Step.TheVariants.{Post}
use Rattle.sync_steps.proofs.Taking.{no_cross, cross_is}
use Rattle.core_rules.specs.Stepping.{is_enabled}
use Rattle.sync_core.specs.Cores.{core_of}
use Rattle.sync_core.proofs.Firsts.{first_found, first_passed, own_is, number_inside}
use Rattle.sync_core.proofs.Making.{timeline_at}
use Rattle.sync_core.proofs.core_parts.Core.first_post.Goals as goal

pub returns-then-can : goal.returns-then-can
returns-then-can g c = λ t own.
    let core = core_of c.self.inside.parts in
    let here = timeline_at core c.args.number c.index.result.now (number_inside core c.args.self.now c.args.number c.self.view_is c.requires.number) c.index.ensures in
    let is = own_is core c.args.self.now c.args.number c.index.result.now t c.self.view_is here own in
    let xs = c.outs-outs.result.now in
    let x = get_or xs c.loop-cross.cross-index no_cross in
    let found = first_found (is_enabled c.args.self.now) (λ cross. Post c.args.number (channel_of cross)) xs c.loop-cross.cross-index x c.loop-cross.invariant c.loop-cross-test.true (cross_is xs c.loop-cross.cross-index c.loop-cross-test.true) (sym c.can.ensures ∙ c.if-can.true) in
    let outs : xs ≡ t.outs = c.outs-outs.ensures ∙ ap (λ u. u.outs) is in
    sym (subst (λ (ys : List Cross). slice_get (filter (is_enabled c.args.self.now) (map (λ cross. Post c.args.number (channel_of cross)) ys)) 0 ≡ Some (Post c.args.number (channel_of x))) outs found)

pub returns : goal.returns
returns g c = λ t own.
    let core = core_of c.self.inside.parts in
    let here = timeline_at core c.args.number c.index.result.now (number_inside core c.args.self.now c.args.number c.self.view_is c.requires.number) c.index.ensures in
    let is = own_is core c.args.self.now c.args.number c.index.result.now t c.self.view_is here own in
    let xs = c.outs-outs.result.now in
    let passed = first_passed (is_enabled c.args.self.now) (λ cross. Post c.args.number (channel_of cross)) xs c.loop-cross.cross-index c.loop-cross.invariant c.loop-cross-test.false in
    let outs : xs ≡ t.outs = c.outs-outs.ensures ∙ ap (λ u. u.outs) is in
    sym (subst (λ (ys : List Cross). slice_get (filter (is_enabled c.args.self.now) (map (λ cross. Post c.args.number (channel_of cross)) ys)) 0 ≡ None) outs passed)
