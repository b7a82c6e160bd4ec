use Rattle.std.proofs.Common.{◌≡◌, map, string_bytes, take, vec_len}
use Rattle.command_words.proofs.options.copies_of.Given as goal

-- the texts so far are copied
abbrev pub invariant-loop-text : goal.invariant-loop-text
invariant-loop-text l = record {
  copied : map string_bytes l.copies.items ≡ map (λ t. t.now) (take l.text-index l.texts);
  len : vec_len l.copies ≡ l.text-index;
}
