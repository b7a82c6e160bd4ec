use Rattle.std.proofs.Common.{◌≡◌, map, string_bytes, drop}
use Rattle.command_words.specs.Words.{have_values}
use Rattle.command_words.proofs.rule.have_values.Given as goal

-- the options so far have their values
abbrev pub invariant-loop-index : goal.invariant-loop-index
invariant-loop-index l = have_values (map string_bytes l.words) ≡ have_values (map string_bytes (drop l.index l.words))
