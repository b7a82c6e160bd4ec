use Rattle.std.proofs.Common.{◌≡◌, ◌++◌}
use Rattle.dml_tree.specs.Printing.{blanks}
use Rattle.dml_tree.proofs.printing.push_blanks.Given as goal

abbrev pub invariant-loop : goal.invariant-loop
invariant-loop l = l.out.items ≡ l.initial.out.items ++ blanks l.counter
