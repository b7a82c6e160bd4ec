use Rattle.std.proofs.Common.{◌≡◌, ◌<◌, refl, true, rules, subst, sym}
use Rattle.sync_steps.specs.declared.steps.Step.TheVariants.{Take}
use Rattle.core_rules.specs.Stepping.{with_timeline, with_mail_of}
use Rattle.sync_core.specs.Cores.{core_of}
use Rattle.sync_core.proofs.Keeping.{ordered_timeline, ordered_mail}
use Rattle.sync_core.proofs.Making.{may_inside, made_outside, cause_outside, there_inside, timeline_at, mail_in, take_is, take_keeps_or, ok_enabled}
use Rattle.sync_core.proofs.core_parts.Core.take.Goals as goal

pub take_between-requires-clause-own : goal.take_between-requires-clause-own
take_between-requires-clause-own g c κs within =
    let core = core_of c.self.inside.parts in
    let has : c.has.result ≡ true = search rules in
    let there = there_inside core c.args.self.now c.args.number c.has.result c.self.view_is c.has.ensures has in
    let may = may_inside g.B.Behaviour.reaction g.B.Behaviour.valid core c.args.self.now c.self.view_is c.requires.may in
    let own = timeline_at core c.args.number c.index_mut.result.now there c.index_mut.ensures.value in
    let its = mail_in core c.args.number c.index_mut-2.result.now (subst (λ n. c.args.number < n) (sym may.mails) there) c.index_mut-2.ensures.value in
    (may.each c.args.number c.index_mut.result.now own).own c.index_mut-2.result.now its

pub take_between-requires-clause-new : goal.take_between-requires-clause-new
take_between-requires-clause-new g c κs within =
    let core = core_of c.self.inside.parts in
    let has : c.has.result ≡ true = search rules in
    let there = there_inside core c.args.self.now c.args.number c.has.result c.self.view_is c.has.ensures has in
    let may = may_inside g.B.Behaviour.reaction g.B.Behaviour.valid core c.args.self.now c.self.view_is c.requires.may in
    let own = timeline_at core c.args.number c.index_mut.result.now there c.index_mut.ensures.value in
    let its = mail_in core c.args.number c.index_mut-2.result.now (subst (λ n. c.args.number < n) (sym may.mails) there) c.index_mut-2.ensures.value in
    (may.each c.args.number c.index_mut.result.now own).new c.index_mut-2.result.now its

pub invariant_of-self : goal.invariant_of-self
invariant_of-self g c =
    let core = core_of c.self.inside.parts in
    let has : c.has.result ≡ true = search rules in
    let there = there_inside core c.args.self.now c.args.number c.has.result c.self.view_is c.has.ensures has in
    let own = timeline_at core c.args.number c.index_mut.result.now there c.index_mut.ensures.value in
    ordered_mail (with_timeline c.args.number c.take_between.new.timeline core) c.args.number c.take_between.new.mail
    (ordered_timeline core c.args.number c.index_mut.result.now c.take_between.new.timeline own
    (take_keeps_or core.until c.index_mut.result.now c.take_between.new.timeline c.index_mut-2.result.now c.take_between.new.mail c.take_between.result c.take_between.ensures.did c.take_between.ensures.kept_timeline) c.self.invariant)

pub returns-clause-cause : goal.returns-clause-cause
returns-clause-cause g c =
    let core = core_of c.self.inside.parts in
    let has : c.has.result ≡ true = search rules in
    let there = there_inside core c.args.self.now c.args.number c.has.result c.self.view_is c.has.ensures has in
    let may = may_inside g.B.Behaviour.reaction g.B.Behaviour.valid core c.args.self.now c.self.view_is c.requires.may in
    let own = timeline_at core c.args.number c.index_mut.result.now there c.index_mut.ensures.value in
    let its = mail_in core c.args.number c.index_mut-2.result.now (subst (λ n. c.args.number < n) (sym may.mails) there) c.index_mut-2.ensures.value in
    cause_outside c.take_between.result core c.args.self.now (Take c.args.number) _ c.self.view_is (take_is core c.args.number c.index_mut.result.now c.index_mut-2.result.now own its) c.take_between.ensures.cause

pub returns-clause-made : goal.returns-clause-made
returns-clause-made g c = λ did.
    let core = core_of c.self.inside.parts in
    let has : c.has.result ≡ true = search rules in
    let there = there_inside core c.args.self.now c.args.number c.has.result c.self.view_is c.has.ensures has in
    let may = may_inside g.B.Behaviour.reaction g.B.Behaviour.valid core c.args.self.now c.self.view_is c.requires.may in
    let own = timeline_at core c.args.number c.index_mut.result.now there c.index_mut.ensures.value in
    let its = mail_in core c.args.number c.index_mut-2.result.now (subst (λ n. c.args.number < n) (sym may.mails) there) c.index_mut-2.ensures.value in
    made_outside g.B.Behaviour.reaction g.B.Behaviour.valid core c.args.self.now (with_mail_of c.args.number c.take_between.new.mail (with_timeline c.args.number c.take_between.new.timeline core)) (Take c.args.number) c.self.view_is
    (record {
      timeline = c.index_mut.result.now;
      next = c.take_between.new.timeline;
      own = own;
      mail = c.index_mut-2.result.now;
      emptied = c.take_between.new.mail;
      own_mail = its;
      may = ok_enabled c.take_between.result _ c.take_between.ensures.cause did;
      taken = c.take_between.ensures.did did;
      is = refl;
    })
