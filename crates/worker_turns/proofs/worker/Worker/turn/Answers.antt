use Rattle.turn_table.specs.Passes.{view_of}
use Rattle.turn_table.specs.Turned.{key_of}
use Rattle.worker_turns.specs.Passes.{pass_of}
use Rattle.worker_turns.specs.Turning.{most_executed}
use Rattle.worker_turns.proofs.Turning.{worked_in_turn}
use Rattle.worker_turns.proofs.worker.Worker.turn.Goals as goal

pub returns-clause-worked : goal.returns-clause-worked
returns-clause-worked g c =
    λ is. worked_in_turn (key_of c.args.turns.now).value c.args.timeline (view_of (pass_of c.args.self.now)) (view_of c.try_take.new.pass) (view_of c.bring_timeline-own.new.pass) (view_of (pass_of c.go-turned.new.self)) (view_of c.give_timeline.new.pass)
    c.in-Some.ensures.turn.1 c.bring_timeline-own.ensures.tries c.go-turned.ensures.tries c.give_timeline.ensures.tries most_executed c.args.hand.now c.go-turned.new.hand (c.go-turned.ensures.worked is)
