use Rattle.std.proofs.Common.{◌≡◌, true, rules}
use Rattle.sync_steps.specs.declared.steps.Step.TheVariants.{Report}
use Rattle.sync_steps.proofs.Allowed.{crosses_have_ends}
use Rattle.core_rules.specs.Stepping.{with_barrier}
use Rattle.sync_core.specs.Cores.{core_of}
use Rattle.sync_core.proofs.Making.{may_inside, made_outside, cause_outside, there_inside, timeline_at, report_is, ok_enabled, reported_made}
use Rattle.sync_core.proofs.core_parts.Core.report.Goals as goal

pub report_to-requires-clause-ends : goal.report_to-requires-clause-ends
report_to-requires-clause-ends g c κs within =
    let core = core_of c.self.inside.parts in
    let has : c.has.result ≡ true = search rules in
    let there = there_inside core c.args.self.now c.args.number c.has.result c.self.view_is c.has.ensures has in
    let own = timeline_at core c.args.number c.index.result.now there c.index.ensures in
    crosses_have_ends c.index.result.now (c.self.invariant.each c.args.number c.index.result.now own).crosses

pub report_to-requires-clause-cross : goal.report_to-requires-clause-cross
report_to-requires-clause-cross g c κs within =
    let core = core_of c.self.inside.parts in
    let has : c.has.result ≡ true = search rules in
    let there = there_inside core c.args.self.now c.args.number c.has.result c.self.view_is c.has.ensures has in
    let own = timeline_at core c.args.number c.index.result.now there c.index.ensures in
    ((may_inside g.B.Behaviour.reaction g.B.Behaviour.valid core c.args.self.now c.self.view_is c.requires.may).each c.args.number c.index.result.now own).known

pub returns-clause-cause : goal.returns-clause-cause
returns-clause-cause g c =
    let core = core_of c.self.inside.parts in
    let has : c.has.result ≡ true = search rules in
    let there = there_inside core c.args.self.now c.args.number c.has.result c.self.view_is c.has.ensures has in
    let own = timeline_at core c.args.number c.index.result.now there c.index.ensures in
    cause_outside c.report_to.result core c.args.self.now (Report c.args.number) _ c.self.view_is (report_is core c.args.number c.index.result.now own) c.report_to.ensures.cause

pub returns-clause-made : goal.returns-clause-made
returns-clause-made g c = λ did.
    let core = core_of c.self.inside.parts in
    let has : c.has.result ≡ true = search rules in
    let there = there_inside core c.args.self.now c.args.number c.has.result c.self.view_is c.has.ensures has in
    let own = timeline_at core c.args.number c.index.result.now there c.index.ensures in
    made_outside g.B.Behaviour.reaction g.B.Behaviour.valid core c.args.self.now (with_barrier c.report_to.new.barrier core) (Report c.args.number) c.self.view_is
    (reported_made core c.args.number c.index.result.now c.report_to.new.barrier own (ok_enabled c.report_to.result _ c.report_to.ensures.cause did) (c.report_to.ensures.did did))
