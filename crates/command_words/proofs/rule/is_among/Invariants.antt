use Rattle.std.proofs.Common.{◌≡◌, map, string_bytes, drop}
use Rattle.command_words.specs.Table.{is_one_of}
use Rattle.command_words.proofs.rule.is_among.Given as goal

-- the text is none of the words so far
abbrev pub invariant-loop-word : goal.invariant-loop-word
invariant-loop-word l = is_one_of (map string_bytes l.words) l.text ≡ is_one_of (map string_bytes (drop l.word-index l.words)) l.text
