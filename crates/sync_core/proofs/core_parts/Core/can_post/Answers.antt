use Rattle.std.proofs.Common.{refl}
use Rattle.sync_steps.specs.declared.steps.Step.TheVariants.{Post}
use Rattle.sync_core.specs.Cores.{core_of}
use Rattle.sync_core.proofs.Making.{may_inside, test_outside, timeline_at, mail_in, post_is, receiver_inside, end_joined, end_listed}
use Rattle.sync_core.proofs.core_parts.Core.can_post.Goals as goal

pub may_post-requires-clause-until : goal.may_post-requires-clause-until
may_post-requires-clause-until g c κs within =
    let core = core_of c.self.inside.parts in
    let may = may_inside g.B.Behaviour.reaction g.B.Behaviour.valid core c.args.self.now c.self.view_is c.requires.may in
    let found = receiver_inside core c.args.self.now c.args.number c.args.channel c.receiver.result c.in-Some.receiver c.self.view_is c.receiver.ensures c.in-Some.is in
    let end = end_joined (g.B.Behaviour.valid core.behaviour) (g.B.Behaviour.reaction core.behaviour) core c.args.number c.args.channel c.in-Some.receiver may found in
    let own = timeline_at core c.args.number c.index.result.now end.sender c.index.ensures in
    let its = mail_in core c.in-Some.receiver c.index-2.result.now end.receiver c.index-2.ensures in
    (c.self.invariant.each c.args.number c.index.result.now own).last

pub may_post-requires-clause-out : goal.may_post-requires-clause-out
may_post-requires-clause-out g c κs within =
    let core = core_of c.self.inside.parts in
    let may = may_inside g.B.Behaviour.reaction g.B.Behaviour.valid core c.args.self.now c.self.view_is c.requires.may in
    let found = receiver_inside core c.args.self.now c.args.number c.args.channel c.receiver.result c.in-Some.receiver c.self.view_is c.receiver.ensures c.in-Some.is in
    let end = end_joined (g.B.Behaviour.valid core.behaviour) (g.B.Behaviour.reaction core.behaviour) core c.args.number c.args.channel c.in-Some.receiver may found in
    let own = timeline_at core c.args.number c.index.result.now end.sender c.index.ensures in
    let its = mail_in core c.in-Some.receiver c.index-2.result.now end.receiver c.index-2.ensures in
    end.out c.index.result.now own

pub may_post-requires-clause-crosses : goal.may_post-requires-clause-crosses
may_post-requires-clause-crosses g c κs within =
    let core = core_of c.self.inside.parts in
    let may = may_inside g.B.Behaviour.reaction g.B.Behaviour.valid core c.args.self.now c.self.view_is c.requires.may in
    let found = receiver_inside core c.args.self.now c.args.number c.args.channel c.receiver.result c.in-Some.receiver c.self.view_is c.receiver.ensures c.in-Some.is in
    let end = end_joined (g.B.Behaviour.valid core.behaviour) (g.B.Behaviour.reaction core.behaviour) core c.args.number c.args.channel c.in-Some.receiver may found in
    let own = timeline_at core c.args.number c.index.result.now end.sender c.index.ensures in
    let its = mail_in core c.in-Some.receiver c.index-2.result.now end.receiver c.index-2.ensures in
    (c.self.invariant.each c.args.number c.index.result.now own).crosses

pub may_post-requires-clause-mail : goal.may_post-requires-clause-mail
may_post-requires-clause-mail g c κs within =
    let core = core_of c.self.inside.parts in
    let may = may_inside g.B.Behaviour.reaction g.B.Behaviour.valid core c.args.self.now c.self.view_is c.requires.may in
    let found = receiver_inside core c.args.self.now c.args.number c.args.channel c.receiver.result c.in-Some.receiver c.self.view_is c.receiver.ensures c.in-Some.is in
    let end = end_joined (g.B.Behaviour.valid core.behaviour) (g.B.Behaviour.reaction core.behaviour) core c.args.number c.args.channel c.in-Some.receiver may found in
    let own = timeline_at core c.args.number c.index.result.now end.sender c.index.ensures in
    let its = mail_in core c.in-Some.receiver c.index-2.result.now end.receiver c.index-2.ensures in
    end.into c.index-2.result.now its

pub may_post-requires-clause-joined : goal.may_post-requires-clause-joined
may_post-requires-clause-joined g c κs within =
    let core = core_of c.self.inside.parts in
    let may = may_inside g.B.Behaviour.reaction g.B.Behaviour.valid core c.args.self.now c.self.view_is c.requires.may in
    let found = receiver_inside core c.args.self.now c.args.number c.args.channel c.receiver.result c.in-Some.receiver c.self.view_is c.receiver.ensures c.in-Some.is in
    let end = end_joined (g.B.Behaviour.valid core.behaviour) (g.B.Behaviour.reaction core.behaviour) core c.args.number c.args.channel c.in-Some.receiver may found in
    let own = timeline_at core c.args.number c.index.result.now end.sender c.index.ensures in
    let its = mail_in core c.in-Some.receiver c.index-2.result.now end.receiver c.index-2.ensures in
    end.posted c.index.result.now c.index-2.result.now own its

pub returns : goal.returns
returns g c =
    let core = core_of c.self.inside.parts in
    let may = may_inside g.B.Behaviour.reaction g.B.Behaviour.valid core c.args.self.now c.self.view_is c.requires.may in
    let found = receiver_inside core c.args.self.now c.args.number c.args.channel c.receiver.result c.in-Some.receiver c.self.view_is c.receiver.ensures c.in-Some.is in
    let end = end_joined (g.B.Behaviour.valid core.behaviour) (g.B.Behaviour.reaction core.behaviour) core c.args.number c.args.channel c.in-Some.receiver may found in
    let own = timeline_at core c.args.number c.index.result.now end.sender c.index.ensures in
    let its = mail_in core c.in-Some.receiver c.index-2.result.now end.receiver c.index-2.ensures in
    let listed = end_listed (g.B.Behaviour.valid core.behaviour) (g.B.Behaviour.reaction core.behaviour) core c.args.number c.args.channel c.in-Some.receiver may found in
    test_outside core c.args.self.now (Post c.args.number c.args.channel) _ c.may_post.result c.self.view_is
    (post_is core c.args.number c.args.channel _ c.index.result.now c.index-2.result.now listed refl own its) c.may_post.ensures
