use Rattle.std.proofs.Common.{◌≡◌, ◌<◌, true, rules, subst, sym}
use Rattle.sync_steps.specs.declared.steps.Step.TheVariants.{Take}
use Rattle.sync_core.specs.Cores.{core_of}
use Rattle.sync_core.proofs.Making.{there_inside, timeline_at, test_outside, may_inside, mail_in, take_is}
use Rattle.sync_core.proofs.core_parts.Core.can_take.Goals as goal

pub has_mail-requires-after_bounds : goal.has_mail-requires-after_bounds
has_mail-requires-after_bounds g c κs within =
    let core = core_of c.self.inside.parts in
    let has : c.has.result ≡ true = search rules in
    let there = there_inside core c.args.self.now c.args.number c.has.result c.self.view_is c.has.ensures has in
    let own = timeline_at core c.args.number c.index.result.now there c.index.ensures in
    let may = may_inside g.B.Behaviour.reaction g.B.Behaviour.valid core c.args.self.now c.self.view_is c.requires.may in
    let its = mail_in core c.args.number c.index-2.result.now (subst (λ n. c.args.number < n) (sym may.mails) there) c.index-2.ensures in
    (may.each c.args.number c.index.result.now own).own c.index-2.result.now its

pub returns : goal.returns
returns g c =
    let core = core_of c.self.inside.parts in
    let has : c.has.result ≡ true = search rules in
    let there = there_inside core c.args.self.now c.args.number c.has.result c.self.view_is c.has.ensures has in
    let own = timeline_at core c.args.number c.index.result.now there c.index.ensures in
    let may = may_inside g.B.Behaviour.reaction g.B.Behaviour.valid core c.args.self.now c.self.view_is c.requires.may in
    let its = mail_in core c.args.number c.index-2.result.now (subst (λ n. c.args.number < n) (sym may.mails) there) c.index-2.ensures in
    test_outside core c.args.self.now (Take c.args.number) _ c.has_mail.result c.self.view_is (take_is core c.args.number c.index.result.now c.index-2.result.now own its) c.has_mail.ensures
