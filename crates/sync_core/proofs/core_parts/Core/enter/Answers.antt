use Rattle.std.proofs.Common.{◌≡◌, true, rules}
use Rattle.sync_steps.specs.declared.steps.Step.TheVariants.{Enter}
use Rattle.core_rules.specs.Stepping.{with_timeline}
use Rattle.sync_core.specs.Cores.{core_of}
use Rattle.sync_core.proofs.Keeping.{ordered_timeline}
use Rattle.sync_core.proofs.Making.{made_outside, enabled_outside, was_enabled, there_inside, timeline_at, enter_is, enter_keeps_or, entered_made}
use Rattle.sync_core.proofs.core_parts.Core.enter.Goals as goal

pub invariant_of-self : goal.invariant_of-self
invariant_of-self g c =
    let core = core_of c.self.inside.parts in
    let has : c.has.result ≡ true = search rules in
    let there = there_inside core c.args.self.now c.args.number c.has.result c.self.view_is c.has.ensures has in
    let own = timeline_at core c.args.number c.index_mut.result.now there c.index_mut.ensures.value in
    ordered_timeline core c.args.number c.index_mut.result.now c.enter_from.new.timeline own
    (enter_keeps_or core.until core.barrier.window c.index_mut.result.now c.enter_from.new.timeline c.enter_from.result c.enter_from.ensures.did c.enter_from.ensures.kept) c.self.invariant

pub returns-clause-cause : goal.returns-clause-cause
returns-clause-cause g c =
    let core = core_of c.self.inside.parts in
    let has : c.has.result ≡ true = search rules in
    let there = there_inside core c.args.self.now c.args.number c.has.result c.self.view_is c.has.ensures has in
    let own = timeline_at core c.args.number c.index_mut.result.now there c.index_mut.ensures.value in
    enabled_outside core c.args.self.now (Enter c.args.number) _ c.enter_from.result c.self.view_is (enter_is core c.args.number c.index_mut.result.now own) c.enter_from.ensures.cause

pub returns-clause-made : goal.returns-clause-made
returns-clause-made g c = λ did.
    let core = core_of c.self.inside.parts in
    let has : c.has.result ≡ true = search rules in
    let there = there_inside core c.args.self.now c.args.number c.has.result c.self.view_is c.has.ensures has in
    let own = timeline_at core c.args.number c.index_mut.result.now there c.index_mut.ensures.value in
    made_outside g.B.Behaviour.reaction g.B.Behaviour.valid core c.args.self.now (with_timeline c.args.number c.enter_from.new.timeline core) (Enter c.args.number) c.self.view_is
    (entered_made core c.args.number c.index_mut.result.now c.enter_from.new.timeline own (was_enabled c.enter_from.result _ c.enter_from.ensures.cause did) (c.enter_from.ensures.did did))
