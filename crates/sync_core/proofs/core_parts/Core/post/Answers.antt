use Rattle.std.proofs.Common.{refl}
use Rattle.sync_steps.specs.declared.steps.Step.TheVariants.{Post}
use Rattle.core_rules.specs.Stepping.{with_timeline, with_mail_of}
use Rattle.sync_core.specs.Cores.{core_of}
use Rattle.sync_core.proofs.Keeping.{ordered_timeline, ordered_mail}
use Rattle.sync_core.proofs.Making.{may_inside, made_outside, cause_outside, timeline_at, mail_in, post_is, post_keeps_or, ok_enabled, receiver_inside, end_joined, end_listed}
use Rattle.sync_core.proofs.core_parts.Core.post.Goals as goal

pub post_between-requires-clause-out : goal.post_between-requires-clause-out
post_between-requires-clause-out g c κs within =
    let core = core_of c.self.inside.parts in
    let may = may_inside g.B.Behaviour.reaction g.B.Behaviour.valid core c.args.self.now c.self.view_is c.requires.may in
    let found = receiver_inside core c.args.self.now c.args.number c.args.channel c.receiver.result c.in-Some.receiver c.self.view_is c.receiver.ensures c.in-Some.is in
    let end = end_joined (g.B.Behaviour.valid core.behaviour) (g.B.Behaviour.reaction core.behaviour) core c.args.number c.args.channel c.in-Some.receiver may found in
    let own = timeline_at core c.args.number c.index_mut.result.now end.sender c.index_mut.ensures.value in
    let its = mail_in core c.in-Some.receiver c.index_mut-2.result.now end.receiver c.index_mut-2.ensures.value in
    end.out c.index_mut.result.now own

pub post_between-requires-clause-mail : goal.post_between-requires-clause-mail
post_between-requires-clause-mail g c κs within =
    let core = core_of c.self.inside.parts in
    let may = may_inside g.B.Behaviour.reaction g.B.Behaviour.valid core c.args.self.now c.self.view_is c.requires.may in
    let found = receiver_inside core c.args.self.now c.args.number c.args.channel c.receiver.result c.in-Some.receiver c.self.view_is c.receiver.ensures c.in-Some.is in
    let end = end_joined (g.B.Behaviour.valid core.behaviour) (g.B.Behaviour.reaction core.behaviour) core c.args.number c.args.channel c.in-Some.receiver may found in
    let own = timeline_at core c.args.number c.index_mut.result.now end.sender c.index_mut.ensures.value in
    let its = mail_in core c.in-Some.receiver c.index_mut-2.result.now end.receiver c.index_mut-2.ensures.value in
    end.into c.index_mut-2.result.now its

pub post_between-requires-clause-joined : goal.post_between-requires-clause-joined
post_between-requires-clause-joined g c κs within =
    let core = core_of c.self.inside.parts in
    let may = may_inside g.B.Behaviour.reaction g.B.Behaviour.valid core c.args.self.now c.self.view_is c.requires.may in
    let found = receiver_inside core c.args.self.now c.args.number c.args.channel c.receiver.result c.in-Some.receiver c.self.view_is c.receiver.ensures c.in-Some.is in
    let end = end_joined (g.B.Behaviour.valid core.behaviour) (g.B.Behaviour.reaction core.behaviour) core c.args.number c.args.channel c.in-Some.receiver may found in
    let own = timeline_at core c.args.number c.index_mut.result.now end.sender c.index_mut.ensures.value in
    let its = mail_in core c.in-Some.receiver c.index_mut-2.result.now end.receiver c.index_mut-2.ensures.value in
    end.posted c.index_mut.result.now c.index_mut-2.result.now own its

pub invariant_of-self : goal.invariant_of-self
invariant_of-self g c =
    let core = core_of c.self.inside.parts in
    let may = may_inside g.B.Behaviour.reaction g.B.Behaviour.valid core c.args.self.now c.self.view_is c.requires.may in
    let found = receiver_inside core c.args.self.now c.args.number c.args.channel c.receiver.result c.in-Some.receiver c.self.view_is c.receiver.ensures c.in-Some.is in
    let end = end_joined (g.B.Behaviour.valid core.behaviour) (g.B.Behaviour.reaction core.behaviour) core c.args.number c.args.channel c.in-Some.receiver may found in
    let own = timeline_at core c.args.number c.index_mut.result.now end.sender c.index_mut.ensures.value in
    let its = mail_in core c.in-Some.receiver c.index_mut-2.result.now end.receiver c.index_mut-2.ensures.value in
    ordered_mail (with_timeline c.args.number c.post_between.new.timeline core) c.in-Some.receiver c.post_between.new.mail
    (ordered_timeline core c.args.number c.index_mut.result.now c.post_between.new.timeline own
    (post_keeps_or core.until c.args.channel c.index_mut.result.now c.post_between.new.timeline c.index_mut-2.result.now c.post_between.new.mail c.post_between.result c.post_between.ensures.did c.post_between.ensures.kept_timeline) c.self.invariant)

pub returns-clause-cause : goal.returns-clause-cause
returns-clause-cause g c =
    let core = core_of c.self.inside.parts in
    let may = may_inside g.B.Behaviour.reaction g.B.Behaviour.valid core c.args.self.now c.self.view_is c.requires.may in
    let found = receiver_inside core c.args.self.now c.args.number c.args.channel c.receiver.result c.in-Some.receiver c.self.view_is c.receiver.ensures c.in-Some.is in
    let end = end_joined (g.B.Behaviour.valid core.behaviour) (g.B.Behaviour.reaction core.behaviour) core c.args.number c.args.channel c.in-Some.receiver may found in
    let own = timeline_at core c.args.number c.index_mut.result.now end.sender c.index_mut.ensures.value in
    let its = mail_in core c.in-Some.receiver c.index_mut-2.result.now end.receiver c.index_mut-2.ensures.value in
    let listed = end_listed (g.B.Behaviour.valid core.behaviour) (g.B.Behaviour.reaction core.behaviour) core c.args.number c.args.channel c.in-Some.receiver may found in
    cause_outside c.post_between.result core c.args.self.now (Post c.args.number c.args.channel) _ c.self.view_is
    (post_is core c.args.number c.args.channel _ c.index_mut.result.now c.index_mut-2.result.now listed refl own its) c.post_between.ensures.cause

pub returns-clause-made : goal.returns-clause-made
returns-clause-made g c = λ did.
    let core = core_of c.self.inside.parts in
    let may = may_inside g.B.Behaviour.reaction g.B.Behaviour.valid core c.args.self.now c.self.view_is c.requires.may in
    let found = receiver_inside core c.args.self.now c.args.number c.args.channel c.receiver.result c.in-Some.receiver c.self.view_is c.receiver.ensures c.in-Some.is in
    let end = end_joined (g.B.Behaviour.valid core.behaviour) (g.B.Behaviour.reaction core.behaviour) core c.args.number c.args.channel c.in-Some.receiver may found in
    let own = timeline_at core c.args.number c.index_mut.result.now end.sender c.index_mut.ensures.value in
    let its = mail_in core c.in-Some.receiver c.index_mut-2.result.now end.receiver c.index_mut-2.ensures.value in
    let listed = end_listed (g.B.Behaviour.valid core.behaviour) (g.B.Behaviour.reaction core.behaviour) core c.args.number c.args.channel c.in-Some.receiver may found in
    made_outside g.B.Behaviour.reaction g.B.Behaviour.valid core c.args.self.now (with_mail_of c.in-Some.receiver c.post_between.new.mail (with_timeline c.args.number c.post_between.new.timeline core)) (Post c.args.number c.args.channel) c.self.view_is
    (record {
      end = record { channel = c.args.channel; sender = c.args.number; receiver = c.in-Some.receiver };
      listed = listed;
      sender = refl;
      timeline = c.index_mut.result.now;
      next = c.post_between.new.timeline;
      own = own;
      mail = c.index_mut-2.result.now;
      filled = c.post_between.new.mail;
      its_mail = its;
      may = ok_enabled c.post_between.result _ c.post_between.ensures.cause did;
      posted = c.post_between.ensures.did did;
      is = refl;
    })
