use Rattle.std.proofs.Common.{sym, ◌∙◌}
use Rattle.sync_core.proofs.Marking.{made_work, work_after, crossed_after, has_marks}
use Rattle.sync_core.proofs.core_parts.Core.mark_after.Goals as goal

pub mark_at-requires-clause-timeline : goal.mark_at-requires-clause-timeline
mark_at-requires-clause-timeline g c κs within =
    let core = c.requires.made.0 in
    (made_work (g.B.Behaviour.reaction core.behaviour) c.args.step core c.args.self.now c.requires.made.1 c.requires.may.mails c.in-Some.timeline c.taker.result (sym c.own_timeline.ensures ∙ c.in-Some.is) c.taker.ensures).0

pub mark_at-requires-clause-receiver : goal.mark_at-requires-clause-receiver
mark_at-requires-clause-receiver g c κs within =
    let core = c.requires.made.0 in
    (made_work (g.B.Behaviour.reaction core.behaviour) c.args.step core c.args.self.now c.requires.made.1 c.requires.may.mails c.in-Some.timeline c.taker.result (sym c.own_timeline.ensures ∙ c.in-Some.is) c.taker.ensures).1

pub mark_at-requires-clause-marks : goal.mark_at-requires-clause-marks
mark_at-requires-clause-marks g c κs within =
    let core = c.requires.made.0 in
    let p = made_work (g.B.Behaviour.reaction core.behaviour) c.args.step core c.args.self.now c.requires.made.1 c.requires.may.mails c.in-Some.timeline c.taker.result (sym c.own_timeline.ensures ∙ c.in-Some.is) c.taker.ensures in
    has_marks core c.args.self.now c.args.work.now p.2.many c.requires.made.2

pub returns-in-Some : goal.returns-in-Some
returns-in-Some g c =
    let core = c.requires.made.0 in
    work_after (g.B.Behaviour.reaction core.behaviour) c.args.step core c.args.self.now c.args.work.now c.mark_at.new.work c.requires.made.1 c.requires.may.mails c.in-Some.timeline c.taker.result
    (sym c.own_timeline.ensures ∙ c.in-Some.is) c.taker.ensures c.requires.made.2 c.mark_at.ensures

pub returns-in-None : goal.returns-in-None
returns-in-None g c =
    let core = c.requires.made.0 in
    crossed_after (g.B.Behaviour.reaction core.behaviour) c.args.step core c.args.self.now c.args.work.now c.mark_crossed.new.self c.requires.made.1 (sym c.own_timeline.ensures ∙ c.in-None.is) c.requires.made.2 c.mark_crossed.ensures
