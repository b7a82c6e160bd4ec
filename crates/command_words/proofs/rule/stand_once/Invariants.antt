use Rattle.std.proofs.Common.{◌≡◌, map, string_bytes, drop}
use Rattle.command_words.specs.Words.{stand_once}
use Rattle.command_words.proofs.rule.stand_once.Given as goal

-- no option so far stands twice
abbrev pub invariant-loop-index : goal.invariant-loop-index
invariant-loop-index l = stand_once (map string_bytes l.words) ≡ stand_once (map string_bytes (drop l.index l.words))
