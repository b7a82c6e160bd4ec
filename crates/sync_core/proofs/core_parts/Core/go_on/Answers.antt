use Rattle.std.proofs.Common.{ap, ◌∙◌, subst, drop}
use Rattle.core_rules.specs.Cores.{CoreView}
use Rattle.core_rules.specs.Leading.{AreCoreSteps}
use Rattle.core_rules.proofs.Leads.{none_joins, steps_joined}
use Rattle.sync_core.specs.Driving.{GoesOn}
use Rattle.sync_core.specs.Choosing.{last_round, IsNextTry}
use Rattle.sync_core.proofs.Onward.{more_onward}
use Rattle.sync_core.proofs.Tries.{on_err, begin_stopped, begin_short, begin_differs, way_begins, way_goes_on, way_driven, way_stopped, way_less}
use Rattle.sync_core.proofs.core_parts.Core.go_on.Goals as goal

pub returns-in_err-work-clause-stopped : goal.returns-in_err-work-clause-stopped
returns-in_err-work-clause-stopped g c =
    let b = c.args.self.now.behaviour in
    on_err c.from_residual.result _ (begin_stopped (g.B.Behaviour.reaction b) (g.B.Behaviour.valid b) (g.B.Behaviour.carried b) (g.met.B.Behaviour.sound b) (g.met.B.Behaviour.modest b) (last_round c.args.self.now.barrier.round c.args.crossings) c.args.schedule.now c.args.self.now)

pub returns-in_err-work-clause-steps : goal.returns-in_err-work-clause-steps
returns-in_err-work-clause-steps g c =
    let b = c.args.self.now.behaviour in
    none_joins (g.B.Behaviour.reaction b) (g.B.Behaviour.valid b) (g.B.Behaviour.carried b) (g.met.B.Behaviour.sound b) (g.met.B.Behaviour.modest b) c.args.self.now

pub loop-end-init : goal.loop-end-init
loop-end-init g c =
    let b = c.args.self.now.behaviour in
    record {
      way = way_begins (g.B.Behaviour.reaction b) (g.B.Behaviour.valid b) (g.B.Behaviour.carried b) (g.met.B.Behaviour.sound b) (g.met.B.Behaviour.modest b) (last_round c.args.self.now.barrier.round c.args.crossings) c.args.schedule.now c.args.self.now
          (begin_short c.args.self.now c.args.crossings) (begin_differs c.args.self.now c.args.crossings c.requires.crossings);
      first = c.round-first.ensures ∙ ap (λ (k : CoreView _ _ _). k.barrier.round) c.self.view_is;
      run = c.requires.run;
      work = c.in_ok-work.ensures;
    }

pub returns-in-Some-clause-driven : goal.returns-in-Some-clause-driven
returns-in-Some-clause-driven g c =
    let b = c.args.self.now.behaviour in
    way_driven (g.B.Behaviour.reaction b) (g.B.Behaviour.valid b) (g.B.Behaviour.carried b) (g.met.B.Behaviour.sound b) (g.met.B.Behaviour.modest b) (last_round c.args.self.now.barrier.round c.args.crossings) c.args.schedule.now c.loop-end.used c.args.self.now c.loop-end.self c.loop-end.invariant.way

pub loop-end-smaller : goal.loop-end-smaller
loop-end-smaller g c =
    let b = c.loop-end.self.behaviour in
    way_less (g.B.Behaviour.reaction b) (g.B.Behaviour.valid b) (g.B.Behaviour.carried b) (g.met.B.Behaviour.sound b) (g.met.B.Behaviour.modest b) c.args.schedule.now c.loop-end.used c.try_next.new.used c.loop-end.self c.try_next.new.self c.loop-end.invariant.run
    c.in_ok-try_next.ensures.used c.in_ok-try_next.ensures.tried

pub loop-end-preserved : goal.loop-end-preserved
loop-end-preserved g c =
    let b = c.args.self.now.behaviour in
    let way = c.loop-end.invariant.way in
    let last = last_round c.args.self.now.barrier.round c.args.crossings in
    record {
      way = way_goes_on (g.B.Behaviour.reaction b) (g.B.Behaviour.valid b) (g.B.Behaviour.carried b) (g.met.B.Behaviour.sound b) (g.met.B.Behaviour.modest b) last c.args.schedule.now c.loop-end.used c.try_next.new.used c.args.self.now c.loop-end.self c.try_next.new.self way
          (subst (λ n. GoesOn (last_round n c.args.crossings) c.loop-end.self) c.loop-end.invariant.first c.in_default.ensures.on)
          c.in_ok-try_next.ensures.used
          (subst (λ d. IsNextTry (g.B.Behaviour.reaction d) (drop c.loop-end.used c.args.schedule.now) c.loop-end.self c.try_next.new.self) way.onward.behaviour c.in_ok-try_next.ensures.tried)
          c.try_next.ensures.onward
          (subst (λ d. AreCoreSteps (g.B.Behaviour.valid d) (g.B.Behaviour.carried d) (g.B.Behaviour.reaction d) c.loop-end.self c.try_next.new.self) way.onward.behaviour c.try_next.ensures.steps);
      first = c.loop-end.invariant.first;
      run = c.try_next.ensures.run;
      work = c.in_ok-try_next.ensures.work;
    }

pub returns-in_err-try_next-clause-stopped : goal.returns-in_err-try_next-clause-stopped
returns-in_err-try_next-clause-stopped g c =
    let b = c.args.self.now.behaviour in
    on_err c.from_residual-in_err-try_next.result _ (way_stopped (g.B.Behaviour.reaction b) (g.B.Behaviour.valid b) (g.B.Behaviour.carried b) (g.met.B.Behaviour.sound b) (g.met.B.Behaviour.modest b) (last_round c.args.self.now.barrier.round c.args.crossings) c.args.schedule.now c.loop-end.used c.args.self.now c.loop-end.self c.try_next.new.self
    c.loop-end.invariant.way c.in_err-try_next.ensures.left)

pub returns-in_err-try_next-clause-onward : goal.returns-in_err-try_next-clause-onward
returns-in_err-try_next-clause-onward g c = more_onward c.args.self.now c.loop-end.self c.try_next.new.self c.loop-end.invariant.way.onward c.try_next.ensures.onward

pub returns-in_err-try_next-clause-steps : goal.returns-in_err-try_next-clause-steps
returns-in_err-try_next-clause-steps g c =
    let b = c.args.self.now.behaviour in
    let way = c.loop-end.invariant.way in
    steps_joined (g.B.Behaviour.reaction b) (g.B.Behaviour.valid b) (g.B.Behaviour.carried b) (g.met.B.Behaviour.sound b) (g.met.B.Behaviour.modest b) c.args.self.now c.loop-end.self c.try_next.new.self way.steps
    (subst (λ d. AreCoreSteps (g.B.Behaviour.valid d) (g.B.Behaviour.carried d) (g.B.Behaviour.reaction d) c.loop-end.self c.try_next.new.self) way.onward.behaviour c.try_next.ensures.steps)
