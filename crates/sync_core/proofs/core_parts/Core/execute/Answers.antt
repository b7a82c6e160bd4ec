use Rattle.std.proofs.Common.{◌≡◌, refl, true, rules}
use Rattle.sync_steps.specs.declared.steps.Step.TheVariants.{Execute}
use Rattle.core_rules.specs.Stepping.{with_timeline}
use Rattle.sync_core.specs.Cores.{core_of}
use Rattle.sync_core.proofs.Keeping.{ordered_timeline}
use Rattle.sync_core.proofs.Making.{may_inside, made_outside, cause_outside, there_inside, timeline_at, execute_is, execute_keeps, spent_in, spent_outside}
use Rattle.sync_core.proofs.core_parts.Core.execute.Goals as goal

pub execute_next-requires-clause-may : goal.execute_next-requires-clause-may
execute_next-requires-clause-may g c κs within =
    let core = core_of c.self.inside.parts in
    let has : c.has.result ≡ true = search rules in
    let there = there_inside core c.args.self.now c.args.number c.has.result c.self.view_is c.has.ensures has in
    let own = timeline_at core c.args.number c.index_mut.result.now there c.index_mut.ensures.value in
    ((may_inside g.B.Behaviour.reaction g.B.Behaviour.valid core c.args.self.now c.self.view_is c.requires.may).each c.args.number c.index_mut.result.now own).run

pub invariant_of-self : goal.invariant_of-self
invariant_of-self g c =
    let core = core_of c.self.inside.parts in
    let has : c.has.result ≡ true = search rules in
    let there = there_inside core c.args.self.now c.args.number c.has.result c.self.view_is c.has.ensures has in
    let own = timeline_at core c.args.number c.index_mut.result.now there c.index_mut.ensures.value in
    ordered_timeline core c.args.number c.index_mut.result.now c.execute_next.new.timeline own
    (execute_keeps core.until (g.B.Behaviour.reaction c.self.inside.parts.behaviour) c.index_mut.result.now c.execute_next.new.timeline c.execute_next.result c.execute_next.ensures.made c.execute_next.ensures.kept c.execute_next.ensures.spent)
    c.self.invariant

pub returns-clause-cause : goal.returns-clause-cause
returns-clause-cause g c =
    let core = core_of c.self.inside.parts in
    let has : c.has.result ≡ true = search rules in
    let there = there_inside core c.args.self.now c.args.number c.has.result c.self.view_is c.has.ensures has in
    let own = timeline_at core c.args.number c.index_mut.result.now there c.index_mut.ensures.value in
    cause_outside c.execute_next.result core c.args.self.now (Execute c.args.number) _ c.self.view_is (execute_is core c.args.number c.index_mut.result.now own) c.execute_next.ensures.cause

pub returns-clause-made : goal.returns-clause-made
returns-clause-made g c = λ did.
    let core = core_of c.self.inside.parts in
    let has : c.has.result ≡ true = search rules in
    let there = there_inside core c.args.self.now c.args.number c.has.result c.self.view_is c.has.ensures has in
    let own = timeline_at core c.args.number c.index_mut.result.now there c.index_mut.ensures.value in
    made_outside g.B.Behaviour.reaction g.B.Behaviour.valid core c.args.self.now (with_timeline c.args.number c.execute_next.new.timeline core) (Execute c.args.number) c.self.view_is
    (record { timeline = c.index_mut.result.now; next = c.execute_next.new.timeline; own = own; free = c.execute_next.ensures.due did; run = c.execute_next.ensures.made did; is = refl })

pub returns-clause-refused : goal.returns-clause-refused
returns-clause-refused g c =
    let core = core_of c.self.inside.parts in
    let has : c.has.result ≡ true = search rules in
    let there = there_inside core c.args.self.now c.args.number c.has.result c.self.view_is c.has.ensures has in
    let own = timeline_at core c.args.number c.index_mut.result.now there c.index_mut.ensures.value in
    spent_outside core c.args.self.now (with_timeline c.args.number c.execute_next.new.timeline core) c.args.number c.execute_next.result c.self.view_is
    (spent_in core (with_timeline c.args.number c.execute_next.new.timeline core) c.args.number c.index_mut.result.now c.execute_next.new.timeline c.execute_next.result own refl
    c.execute_next.ensures.free c.execute_next.ensures.spent c.execute_next.ensures.order)
