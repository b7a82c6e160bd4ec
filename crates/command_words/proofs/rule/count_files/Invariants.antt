use Rattle.std.proofs.Common.{◌≡◌, ◌≤◌, ◌+◌, map, string_bytes, drop, length, false}
use Rattle.command_words.specs.Words.{files_in}
use Rattle.command_words.proofs.rule.count_files.Given as goal

-- the files so far and those that follow are those of the words
abbrev pub invariant-loop-word : goal.invariant-loop-word
invariant-loop-word l = record {
  few : l.count ≤ l.word-index;
  files : length (files_in false (map string_bytes l.words)) ≡ l.count + length (files_in l.behind (map string_bytes (drop l.word-index l.words)));
}
