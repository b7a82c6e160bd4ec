use Rattle.std.proofs.Common.{◌+◌, ◌∙◌, sym, refl, arith, length}
use Rattle.run_laws.proofs.Opens.{fits_open}
use Rattle.global_list.specs.Standing.{standing}
use Rattle.global_list.proofs.Standings.{can_go_on, own_reaction}
use Rattle.list_run.proofs.Pieces.{of_err, err_by, rose_later, same_fault}
use Rattle.list_run.proofs.UnderWay.{way_opened, way_next, way_same, way_part, way_traced, way_cut, way_over, way_over_cut, not_begun, next_named}
use Rattle.list_run.proofs.running.run_list.Goals as goal

pub returns-in_err-list-clause-part : goal.returns-in_err-list-clause-part
returns-in_err-list-clause-part g c =
    let plan = c.args.plan in
    of_err _ (not_begun (g.B.Behaviour.reaction plan.behaviour) plan c.args.names.now c.args.until c.args.budget (fits_open _ _ plan c.requires.plan) (g.K.Sink.held c.args.out.now))

pub returns-in_default-clause-part : goal.returns-in_default-clause-part
returns-in_default-clause-part g c =
    let plan = c.args.plan in
    not_begun (g.B.Behaviour.reaction plan.behaviour) plan c.args.names.now c.args.until c.args.budget (fits_open _ _ plan c.requires.plan) (g.K.Sink.held c.args.out.now)

pub loop-executed-init : goal.loop-executed-init
loop-executed-init g c =
    let plan = c.args.plan in
    record {
      way = way_opened (g.B.Behaviour.reaction plan.behaviour) plan c.args.names.now c.args.until (standing c.in_ok-list.list) c.in-Ok.gathered.items (g.K.Sink.held c.args.out.now) c.args.tally.now
          (c.in_ok-list.ensures c.args.until) c.in-Ok.ensures.items;
      later = omega arith;
    }

pub write_next-requires-clause-list : goal.write_next-requires-clause-list
write_next-requires-clause-list g c κs within =
    can_go_on g.B.Behaviour.reaction g.B.Behaviour.valid g.B.Behaviour.carried c.args.plan c.args.until c.loop-executed.executed c.requires.plan c.requires.until (omega arith)
    (standing c.loop-executed.list) c.loop-executed.invariant.way.stands.is

pub write_next-requires-clause-named : goal.write_next-requires-clause-named
write_next-requires-clause-named g c κs within =
    let behaviour = c.args.plan.behaviour in
    next_named g.B.Behaviour.reaction g.B.Behaviour.valid g.B.Behaviour.carried c.args.plan c.args.until c.loop-executed.executed (length c.args.names.now.names)
    (g.met.B.Behaviour.sound behaviour) (g.met.B.Behaviour.modest behaviour) c.requires.plan c.requires.until c.requires.named (standing c.loop-executed.list) c.loop-executed.invariant.way.stands.is

pub loop-executed-preserved : goal.loop-executed-preserved
loop-executed-preserved g c =
    let plan = c.args.plan in
    let old = c.loop-executed in
    let now = c.write_next.new in
    let q = g.B.Behaviour.reaction old.list.behaviour in
    let own = own_reaction g.B.Behaviour.reaction plan c.args.until old.executed (standing old.list) old.invariant.way.stands.is in
    record {
      way = way_next (g.B.Behaviour.reaction plan.behaviour) plan c.args.names.now c.args.until q own old.executed (standing old.list) (standing now.list) old.gathered.items now.gathered.items
          (g.K.Sink.held c.args.out.now) (g.K.Sink.held old.out) (g.K.Sink.held now.out) c.args.tally.now old.tally now.tally old.invariant.way
          c.in-Ok-true.ensures.next c.in-Ok-true.ensures.sent c.in-Ok-true.ensures.tally (sym c.in-Ok-true.ensures.more ∙ c.in-Ok-true.field-0-test);
      later = omega (arith, old.invariant.later, c.write_next.ensures.never_falls);
    }

pub returns-in-Err-clause-part : goal.returns-in-Err-clause-part
returns-in-Err-clause-part g c =
    let plan = c.args.plan in
    let old = c.loop-executed in
    let now = c.write_next.new in
    let q = g.B.Behaviour.reaction old.list.behaviour in
    let own = own_reaction g.B.Behaviour.reaction plan c.args.until old.executed (standing old.list) old.invariant.way.stands.is in
    way_part (g.B.Behaviour.reaction plan.behaviour) plan c.args.names.now c.args.until q own old.executed (standing old.list) (standing now.list) old.gathered.items now.gathered.items
    (g.K.Sink.held c.args.out.now) (g.K.Sink.held old.out) (g.K.Sink.held now.out) c.args.tally.now old.tally now.tally old.invariant.way
    c.args.budget (fits_open _ _ plan c.requires.plan) (omega arith) c.in-Err.ensures.part

pub returns-in-Err-clause-cause : goal.returns-in-Err-clause-cause
returns-in-Err-clause-cause g c = λ e. rose_later _ _ _ c.loop-executed.invariant.later (c.in-Err.ensures.cause (same_fault _ _ e))

pub returns-in-Ok-false-clause-trace : goal.returns-in-Ok-false-clause-trace
returns-in-Ok-false-clause-trace g c = λ e.
    let plan = c.args.plan in
    let old = c.loop-executed in
    let now = c.write_next.new in
    let r = g.B.Behaviour.reaction plan.behaviour in
    let q = g.B.Behaviour.reaction old.list.behaviour in
    let own = own_reaction g.B.Behaviour.reaction plan c.args.until old.executed (standing old.list) old.invariant.way.stands.is in
    let none = sym c.in-Ok-false.ensures.more ∙ c.in-Ok-false.field-0-test in
    way_traced r plan c.args.names.now c.args.until c.args.budget (fits_open _ _ plan c.requires.plan) old.executed (standing old.list) now.gathered.items
    (g.K.Sink.held c.args.out.now) (g.K.Sink.held now.out) (g.K.Sink.held c.finish.new.out) c.args.tally.now now.tally (omega arith)
    (way_same r plan c.args.names.now c.args.until q own old.executed (standing old.list) (standing now.list) old.gathered.items now.gathered.items
    (g.K.Sink.held c.args.out.now) (g.K.Sink.held old.out) (g.K.Sink.held now.out) c.args.tally.now old.tally now.tally old.invariant.way c.in-Ok-false.ensures.sent c.in-Ok-false.ensures.tally none)
    (plan.before + old.executed) none refl (c.finish.ensures.all e)

pub returns-in-Ok-false-clause-part : goal.returns-in-Ok-false-clause-part
returns-in-Ok-false-clause-part g c =
    let plan = c.args.plan in
    let old = c.loop-executed in
    let now = c.write_next.new in
    let r = g.B.Behaviour.reaction plan.behaviour in
    let q = g.B.Behaviour.reaction old.list.behaviour in
    let own = own_reaction g.B.Behaviour.reaction plan c.args.until old.executed (standing old.list) old.invariant.way.stands.is in
    let none = sym c.in-Ok-false.ensures.more ∙ c.in-Ok-false.field-0-test in
    err_by c.finish.result
    (way_cut r plan c.args.names.now c.args.until c.args.budget (fits_open _ _ plan c.requires.plan) old.executed (standing old.list) now.gathered.items
    (g.K.Sink.held c.args.out.now) (g.K.Sink.held now.out) (g.K.Sink.held c.finish.new.out) c.args.tally.now now.tally (omega arith)
    (way_same r plan c.args.names.now c.args.until q own old.executed (standing old.list) (standing now.list) old.gathered.items now.gathered.items
    (g.K.Sink.held c.args.out.now) (g.K.Sink.held old.out) (g.K.Sink.held now.out) c.args.tally.now old.tally now.tally old.invariant.way c.in-Ok-false.ensures.sent c.in-Ok-false.ensures.tally none)
    (plan.before + old.executed) none refl)
    c.finish.ensures.part

pub returns-in-Ok-false-clause-cause : goal.returns-in-Ok-false-clause-cause
returns-in-Ok-false-clause-cause g c = λ e. rose_later _ _ _ (omega (arith, c.loop-executed.invariant.later, c.write_next.ensures.never_falls)) (c.finish.ensures.cause e)

pub returns-then-has_next-clause-over : goal.returns-then-has_next-clause-over
returns-then-has_next-clause-over g c = λ e.
    let plan = c.args.plan in
    let old = c.loop-executed in
    way_over (g.B.Behaviour.reaction plan.behaviour) plan c.args.names.now c.args.until c.args.budget (fits_open _ _ plan c.requires.plan) old.executed (standing old.list) old.gathered.items
    (g.K.Sink.held c.args.out.now) (g.K.Sink.held old.out) (g.K.Sink.held c.stop.new.out) c.args.tally.now old.tally (omega arith) old.invariant.way (omega arith)
    (sym c.has_next.ensures ∙ c.if-has_next.true) (c.stop.ensures.all e)

pub returns-then-has_next-clause-part : goal.returns-then-has_next-clause-part
returns-then-has_next-clause-part g c =
    let plan = c.args.plan in
    let old = c.loop-executed in
    err_by c.stop.result
    (way_over_cut (g.B.Behaviour.reaction plan.behaviour) plan c.args.names.now c.args.until c.args.budget (fits_open _ _ plan c.requires.plan) old.executed (standing old.list) old.gathered.items
    (g.K.Sink.held c.args.out.now) (g.K.Sink.held old.out) (g.K.Sink.held c.stop.new.out) c.args.tally.now old.tally (omega arith) old.invariant.way)
    c.stop.ensures.part

pub returns-then-has_next-clause-cause : goal.returns-then-has_next-clause-cause
returns-then-has_next-clause-cause g c = λ e. rose_later _ _ _ c.loop-executed.invariant.later (c.stop.ensures.cause e)

pub returns-clause-trace : goal.returns-clause-trace
returns-clause-trace g c = λ e.
    let plan = c.args.plan in
    let old = c.loop-executed in
    way_traced (g.B.Behaviour.reaction plan.behaviour) plan c.args.names.now c.args.until c.args.budget (fits_open _ _ plan c.requires.plan) old.executed (standing old.list) old.gathered.items
    (g.K.Sink.held c.args.out.now) (g.K.Sink.held old.out) (g.K.Sink.held c.finish-else-has_next.new.out) c.args.tally.now old.tally (omega arith) old.invariant.way
    (plan.before + c.args.budget) (sym c.has_next.ensures ∙ c.if-has_next.false) (omega arith) (c.finish-else-has_next.ensures.all e)

pub returns-clause-part : goal.returns-clause-part
returns-clause-part g c =
    let plan = c.args.plan in
    let old = c.loop-executed in
    err_by c.finish-else-has_next.result
    (way_cut (g.B.Behaviour.reaction plan.behaviour) plan c.args.names.now c.args.until c.args.budget (fits_open _ _ plan c.requires.plan) old.executed (standing old.list) old.gathered.items
    (g.K.Sink.held c.args.out.now) (g.K.Sink.held old.out) (g.K.Sink.held c.finish-else-has_next.new.out) c.args.tally.now old.tally (omega arith) old.invariant.way
    (plan.before + c.args.budget) (sym c.has_next.ensures ∙ c.if-has_next.false) (omega arith))
    c.finish-else-has_next.ensures.part

pub returns-clause-cause : goal.returns-clause-cause
returns-clause-cause g c = λ e. rose_later _ _ _ c.loop-executed.invariant.later (c.finish-else-has_next.ensures.cause e)
