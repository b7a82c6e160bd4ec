use Rattle.std.proofs.Common.{drop}
use Rattle.host_stack.proofs.Looping.{TimeLoop}
use Rattle.host_stack.proofs.stack.Stack.time_out_all.Given as goal

-- the deadlines so far and those that are left make all
abbrev pub invariant-loop-number : goal.invariant-loop-number
invariant-loop-number l = TimeLoop l.site l.now l.numbers (drop l.number-index l.numbers) l.initial.self l.initial.out l.self l.out
