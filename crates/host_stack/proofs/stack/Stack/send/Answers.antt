use Rattle.host_stack.specs.contracts.stack.Stack.{the_view}
use Rattle.host_stack.proofs.stack.Stack.send.Goals as goal

pub returns-clause-stack : goal.returns-clause-stack
returns-clause-stack c = rw (← c.self.view_is) (c.send.ensures.stack (the_view c.self.inside))

pub returns-clause-writes : goal.returns-clause-writes
returns-clause-writes c = rw (← c.self.view_is) (c.send.ensures.writes (the_view c.self.inside))

pub returns-clause-lines : goal.returns-clause-lines
returns-clause-lines c = rw (← c.self.view_is) (c.send.ensures.lines (the_view c.self.inside))
