use Rattle.std.proofs.Common.{◌≡◌, true, rules}
use Rattle.sync_steps.specs.declared.steps.Step.TheVariants.{Enter}
use Rattle.sync_core.specs.Cores.{core_of}
use Rattle.sync_core.proofs.Making.{there_inside, timeline_at, test_outside, enter_is}
use Rattle.sync_core.proofs.core_parts.Core.can_enter.Goals as goal

pub may_enter-requires-after_bounds : goal.may_enter-requires-after_bounds
may_enter-requires-after_bounds g c κs within =
    let core = core_of c.self.inside.parts in
    let has : c.has.result ≡ true = search rules in
    let there = there_inside core c.args.self.now c.args.number c.has.result c.self.view_is c.has.ensures has in
    let own = timeline_at core c.args.number c.index.result.now there c.index.ensures in
    (c.self.invariant.each c.args.number c.index.result.now own).crosses

pub returns : goal.returns
returns g c =
    let core = core_of c.self.inside.parts in
    let has : c.has.result ≡ true = search rules in
    let there = there_inside core c.args.self.now c.args.number c.has.result c.self.view_is c.has.ensures has in
    let own = timeline_at core c.args.number c.index.result.now there c.index.ensures in
    test_outside core c.args.self.now (Enter c.args.number) _ c.may_enter.result c.self.view_is (enter_is core c.args.number c.index.result.now own) c.may_enter.ensures
