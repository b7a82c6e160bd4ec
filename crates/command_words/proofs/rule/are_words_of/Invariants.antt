use Rattle.std.proofs.Common.{◌≡◌, map, string_bytes, drop}
use Rattle.std.specs.List.{list_all}
use Rattle.command_words.specs.Table.{row}
use Rattle.command_words.specs.Words.{is_word_of}
use Rattle.command_words.proofs.rule.are_words_of.Given as goal

-- the words so far are of the command
abbrev pub invariant-loop-word : goal.invariant-loop-word
invariant-loop-word l = list_all (is_word_of (row l.name)) (map string_bytes l.words) ≡ list_all (is_word_of (row l.name)) (map string_bytes (drop l.word-index l.words))
