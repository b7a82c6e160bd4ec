use Rattle.host_stack.proofs.Starting.{first_state}
use Rattle.host_stack.proofs.state.parts_of.Goals as goal

pub returns-clause-valid : goal.returns-clause-valid
returns-clause-valid c =
    first_state c.args.rows.now c.in_ok-starts.starts.items c.in_ok-stack.stack c.in_ok-starts.ensures.early c.in_ok-starts.ensures.count c.in_ok-stack.ensures.stack c.in_ok-stack.ensures.progress
