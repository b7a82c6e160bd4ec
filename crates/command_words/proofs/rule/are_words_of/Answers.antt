use Rattle.std.proofs.Common.{◌≡◌, ◌∙◌, ap, sym, arith, true, false, string_bytes}
use Rattle.command_words.specs.Table.{row}
use Rattle.command_words.specs.Words.{is_word_of}
use Rattle.command_words.proofs.Tests.{all_fails, all_next, all_past}
use Rattle.command_words.proofs.rule.are_words_of.Goals as goal

pub returns-then-not-is_word_of : goal.returns-then-not-is_word_of
returns-then-not-is_word_of c =
    let fails : is_word_of (row c.args.name) (string_bytes c.word-item.result) ≡ false =
    ap (is_word_of (row c.args.name)) (sym c.as_str.ensures.value) ∙ (sym c.is_word_of.ensures ∙ c.if-not-is_word_of.true) in
    sym (c.loop-word.invariant ∙ all_fails (is_word_of (row c.args.name)) c.args.words.now c.loop-word.word-index c.word-item.result c.loop-word-test.true c.word-item.is fails)

pub loop-word-preserved : goal.loop-word-preserved
loop-word-preserved c =
    let passes : is_word_of (row c.args.name) (string_bytes c.word-item.result) ≡ true =
    ap (is_word_of (row c.args.name)) (sym c.as_str.ensures.value) ∙ (sym c.is_word_of.ensures ∙ c.if-not-is_word_of.false) in
    c.loop-word.invariant ∙ all_next (is_word_of (row c.args.name)) c.args.words.now c.loop-word.word-index c.word-item.result c.loop-word-test.true c.word-item.is passes

pub returns : goal.returns
returns c = sym (c.loop-word.invariant ∙ all_past (is_word_of (row c.args.name)) c.args.words.now c.loop-word.word-index (omega arith))
