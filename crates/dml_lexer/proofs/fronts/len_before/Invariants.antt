use Rattle.std.proofs.Common.{◌≡◌, ◌+◌, ◌==◌, not, drop}
use Rattle.std.specs.List.{prefix_len}
use Rattle.dml_lexer.proofs.fronts.len_before.Given as goal

abbrev pub invariant-loop-at : goal.invariant-loop-at
invariant-loop-at l = prefix_len (λ byte. not (byte == l.end)) l.bytes ≡ l.at + prefix_len (λ byte. not (byte == l.end)) (drop l.at l.bytes)
