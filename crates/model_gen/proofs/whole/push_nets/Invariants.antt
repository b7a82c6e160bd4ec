use Rattle.std.proofs.Common.{◌≡◌, ◌++◌}
use Rattle.std.specs.List.{flat_map}
use Rattle.model_gen.specs.Campus.{numbers, lines, net_of}
use Rattle.model_gen.proofs.whole.push_nets.Given as goal

abbrev pub invariant-loop-i : goal.invariant-loop-i
invariant-loop-i l = l.out.items ≡ l.fn.out.items ++ flat_map (λ i. lines 2 (net_of i)) (numbers l.i)
