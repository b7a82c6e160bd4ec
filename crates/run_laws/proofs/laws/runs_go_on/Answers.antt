use Rattle.event_order.proofs.Continuing.{goes_on}
use Rattle.ssf_model.specs.Run.{machine_of, opening}
use Rattle.run_laws.proofs.Continuing.{entries_go_on}
use Rattle.run_laws.proofs.laws.runs_go_on.Goals as goal

pub returns-clause-worlds : goal.returns-clause-worlds
returns-clause-worlds g c = λ b plan until kept line net n k. goes_on (machine_of (g.B.Behaviour.reaction b) plan.mappings) until kept (opening plan) n k

pub returns-clause-entries : goal.returns-clause-entries
returns-clause-entries g c = λ b plan until kept line net n k. entries_go_on (g.B.Behaviour.reaction b) plan.mappings until kept (opening plan) n k
