use Rattle.turn_table.specs.Passes.{view_of}
use Rattle.turn_table.specs.Turned.{key_of}
use Rattle.timeline.specs.declared.answers.Ran.TheVariants.{Over as WasOver}
use Rattle.sync_steps.specs.declared.steps.Step.TheVariants.{Execute}
use Rattle.worker_hands.specs.declared.hand.Answer.TheVariants.{Executed}
use Rattle.worker_turns.specs.Passes.{pass_of}
use Rattle.worker_turns.specs.Turning.{most_executed, AreTakes, AreRuns, AreMeetingsOr}
use Rattle.worker_hands.specs.Hands.{IsAsked}
use Rattle.worker_hands.proofs.Asking.{told_then}
use Rattle.worker_turns.proofs.Lists.{on_ok_of}
use Rattle.worker_turns.proofs.Values.{more_of_none}
use Rattle.worker_turns.proofs.Working.{worked_asked, later_asked, asked_three, told_three, told_four, told_five}
use Rattle.worker_turns.proofs.Stepping.{executed_once, met_then, executed_twice, posted_then, taken_only}
use Rattle.worker_turns.proofs.worker.Worker.steps.Goals as goal

pub returns-clause-done : goal.returns-clause-done
returns-clause-done g c =
    worked_asked (key_of c.args.table.now.turns.now).value most_executed c.execute-first.new.left c.execute-second.new.left c.args.table.now.number (view_of (pass_of c.args.self.now)) (view_of c.take.new.pass) (view_of c.execute-first.new.pass) (view_of c.meet.new.pass) (view_of c.execute-second.new.pass) (view_of c.post.new.pass)
    c.take.ensures.tries (more_of_none (key_of c.args.table.now.turns.now).value (view_of c.take.new.pass) (view_of c.execute-first.new.pass) c.execute-first.ensures.tries) c.meet.ensures.tries (more_of_none (key_of c.args.table.now.turns.now).value (view_of c.meet.new.pass) (view_of c.execute-second.new.pass) c.execute-second.ensures.tries) c.post.ensures.tries
    c.args.hand.now c.take.new.hand c.execute-first.new.hand c.meet.new.hand c.execute-second.new.hand c.post.new.hand c.in-Ok.ensures.done (on_ok_of c.execute-first.result _ (IsAsked c.take.new.hand c.execute-first.new.hand (AreRuns most_executed c.execute-first.new.left c.args.table.now.number)) c.in-Ok-first.is c.execute-first.ensures.done) c.in-Ok-meet.ensures.done (on_ok_of c.execute-second.result _ (IsAsked c.meet.new.hand c.execute-second.new.hand (AreRuns c.execute-first.new.left c.execute-second.new.left c.args.table.now.number)) c.in-Ok-second.is c.execute-second.ensures.done) c.in-Ok-post.ensures.done

pub returns-in_default-first-clause-over : goal.returns-in_default-first-clause-over
returns-in_default-first-clause-over g c =
    λ is. later_asked (Execute c.args.table.now.number) (Executed WasOver) c.args.hand.now c.take.new.hand c.execute-first.new.hand (AreTakes (key_of c.args.table.now.turns.now).value c.args.table.now.number (view_of (pass_of c.args.self.now)) (view_of c.take.new.pass)) c.in-Ok.ensures.done (c.execute-first.ensures.over is)

pub returns-in_default-second-clause-over : goal.returns-in_default-second-clause-over
returns-in_default-second-clause-over g c =
    λ is. later_asked (Execute c.args.table.now.number) (Executed WasOver) c.args.hand.now c.meet.new.hand c.execute-second.new.hand (λ made. Unit {0})
    (asked_three c.args.hand.now c.take.new.hand c.execute-first.new.hand c.meet.new.hand (AreTakes (key_of c.args.table.now.turns.now).value c.args.table.now.number (view_of (pass_of c.args.self.now)) (view_of c.take.new.pass)) (AreRuns most_executed c.execute-first.new.left c.args.table.now.number) (AreMeetingsOr (key_of c.args.table.now.turns.now).value c.args.table.now.number (view_of c.execute-first.new.pass) (view_of c.meet.new.pass)) c.in-Ok.ensures.done (on_ok_of c.execute-first.result _ (IsAsked c.take.new.hand c.execute-first.new.hand (AreRuns most_executed c.execute-first.new.left c.args.table.now.number)) c.in-Ok-first.is c.execute-first.ensures.done) c.in-Ok-meet.ensures.done) (c.execute-second.ensures.over is)

pub returns-in_default-first-clause-told : goal.returns-in_default-first-clause-told
returns-in_default-first-clause-told g c = told_then c.args.hand.now c.take.new.hand c.execute-first.new.hand c.take.ensures.told c.execute-first.ensures.told

pub returns-in_default-meet-clause-told : goal.returns-in_default-meet-clause-told
returns-in_default-meet-clause-told g c = told_three c.args.hand.now c.take.new.hand c.execute-first.new.hand c.meet.new.hand c.take.ensures.told c.execute-first.ensures.told c.meet.ensures.told

pub returns-in_default-second-clause-told : goal.returns-in_default-second-clause-told
returns-in_default-second-clause-told g c = told_four c.args.hand.now c.take.new.hand c.execute-first.new.hand c.meet.new.hand c.execute-second.new.hand c.take.ensures.told c.execute-first.ensures.told c.meet.ensures.told c.execute-second.ensures.told

pub returns-in_default-post-clause-told : goal.returns-in_default-post-clause-told
returns-in_default-post-clause-told g c = told_five c.args.hand.now c.take.new.hand c.execute-first.new.hand c.meet.new.hand c.execute-second.new.hand c.post.new.hand c.take.ensures.told c.execute-first.ensures.told c.meet.ensures.told c.execute-second.ensures.told c.post.ensures.told

pub returns-clause-told : goal.returns-clause-told
returns-clause-told g c = told_five c.args.hand.now c.take.new.hand c.execute-first.new.hand c.meet.new.hand c.execute-second.new.hand c.post.new.hand c.take.ensures.told c.execute-first.ensures.told c.meet.ensures.told c.execute-second.ensures.told c.post.ensures.told

pub returns-in_default-clause-steps : goal.returns-in_default-clause-steps
returns-in_default-clause-steps g c = taken_only (key_of c.args.table.now.turns.now).value c.args.table.now.number most_executed c.args.hand.now c.take.new.hand c.take.ensures.steps

pub returns-in_default-first-clause-steps : goal.returns-in_default-first-clause-steps
returns-in_default-first-clause-steps g c = executed_once (key_of c.args.table.now.turns.now).value c.args.table.now.number most_executed c.execute-first.new.left c.execute-first.new.left c.args.hand.now c.take.new.hand c.execute-first.new.hand c.take.ensures.steps c.execute-first.ensures.asked

pub returns-in_default-meet-clause-steps : goal.returns-in_default-meet-clause-steps
returns-in_default-meet-clause-steps g c = met_then (key_of c.args.table.now.turns.now).value c.args.table.now.number most_executed c.execute-first.new.left c.execute-first.new.left c.args.hand.now c.take.new.hand c.execute-first.new.hand c.take.ensures.steps c.execute-first.ensures.asked c.meet.new.hand c.meet.ensures.steps

pub returns-in_default-second-clause-steps : goal.returns-in_default-second-clause-steps
returns-in_default-second-clause-steps g c = executed_twice (key_of c.args.table.now.turns.now).value c.args.table.now.number most_executed c.execute-first.new.left c.execute-second.new.left c.args.hand.now c.take.new.hand c.execute-first.new.hand c.take.ensures.steps c.execute-first.ensures.asked c.meet.new.hand c.meet.ensures.steps c.execute-second.new.hand c.execute-second.ensures.asked

pub returns-in_default-post-clause-steps : goal.returns-in_default-post-clause-steps
returns-in_default-post-clause-steps g c = posted_then (key_of c.args.table.now.turns.now).value c.args.table.now.number most_executed c.execute-first.new.left c.execute-second.new.left c.args.hand.now c.take.new.hand c.execute-first.new.hand c.take.ensures.steps c.execute-first.ensures.asked c.meet.new.hand c.meet.ensures.steps c.execute-second.new.hand c.execute-second.ensures.asked c.post.new.hand c.post.ensures.steps

pub returns-clause-steps : goal.returns-clause-steps
returns-clause-steps g c = posted_then (key_of c.args.table.now.turns.now).value c.args.table.now.number most_executed c.execute-first.new.left c.execute-second.new.left c.args.hand.now c.take.new.hand c.execute-first.new.hand c.take.ensures.steps c.execute-first.ensures.asked c.meet.new.hand c.meet.ensures.steps c.execute-second.new.hand c.execute-second.ensures.asked c.post.new.hand c.post.ensures.steps
