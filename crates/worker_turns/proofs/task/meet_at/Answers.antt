use Rattle.turn_table.specs.Turned.{key_of}
use Rattle.worker_hands.proofs.Asking.{told_then}
use Rattle.worker_turns.proofs.Working.{meetings_twice}
use Rattle.worker_turns.proofs.Stepping.{still_then}
use Rattle.worker_turns.proofs.task.meet_at.Goals as goal

pub returns-in_ok-meet_once-2-clause-done : goal.returns-in_ok-meet_once-2-clause-done
returns-in_ok-meet_once-2-clause-done g c =
    meetings_twice c.args.table.now.number c.args.hand.now c.meet_once.new.hand c.meet_once-then-branch.new.hand c.in_ok-meet_once.ensures.done c.in_ok-meet_once-2.ensures.done

pub returns-in_err-meet_once-2-clause-told : goal.returns-in_err-meet_once-2-clause-told
returns-in_err-meet_once-2-clause-told g c = told_then c.args.hand.now c.meet_once.new.hand c.meet_once-then-branch.new.hand c.meet_once.ensures.told c.meet_once-then-branch.ensures.told

pub returns-in_ok-meet_once-2-clause-told : goal.returns-in_ok-meet_once-2-clause-told
returns-in_ok-meet_once-2-clause-told g c = told_then c.args.hand.now c.meet_once.new.hand c.meet_once-then-branch.new.hand c.meet_once.ensures.told c.meet_once-then-branch.ensures.told

pub returns-in_err-meet_once-2-clause-steps : goal.returns-in_err-meet_once-2-clause-steps
returns-in_err-meet_once-2-clause-steps g c = still_then (key_of c.args.table.now.turns.now).value c.args.table.now.number c.args.hand.now c.meet_once.new.hand c.meet_once-then-branch.new.hand c.meet_once.ensures.steps c.meet_once-then-branch.ensures.steps

pub returns-in_ok-meet_once-2-clause-steps : goal.returns-in_ok-meet_once-2-clause-steps
returns-in_ok-meet_once-2-clause-steps g c = still_then (key_of c.args.table.now.turns.now).value c.args.table.now.number c.args.hand.now c.meet_once.new.hand c.meet_once-then-branch.new.hand c.meet_once.ensures.steps c.meet_once-then-branch.ensures.steps
