use Rattle.std.proofs.Common.{map}
use Rattle.ssf_model.specs.Reaction.{is_timed}
use Rattle.host_stack.specs.contracts.state.HostState.{the_view}
use Rattle.host_stack.proofs.RoleCases.{host_is}
use Rattle.host_stack.proofs.state.HostState.is_placed.Goals as goal

pub returns : goal.returns
returns c =
    rw (← c.self.view_is)
    (host_is (the_view c.self.inside) c.args.ins.now c.args.outs.now (map is_timed c.args.processes.now) c.args.waits.now c.is_placed.result c.known.ensures c.self.invariant.starts_early c.self.invariant.stack_is c.is_placed.ensures)
