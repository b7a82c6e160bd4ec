use Rattle.event_order.proofs.Continuing.{longer_event, longer_world}
use Rattle.ssf_model.specs.Run.{machine_of, opening}
use Rattle.run_laws.proofs.laws.longer_runs_begin_alike.Goals as goal

pub returns-clause-events : goal.returns-clause-events
returns-clause-events g c = λ b plan until kept line net later less n e h. longer_event (machine_of (g.B.Behaviour.reaction b) plan.mappings) until later less kept (opening plan) n e h

pub returns-clause-worlds : goal.returns-clause-worlds
returns-clause-worlds g c = λ b plan until kept line net later less n e h. longer_world (machine_of (g.B.Behaviour.reaction b) plan.mappings) until later less kept (opening plan) n e h
