use Rattle.std.proofs.Common.{◌≡◌, ◌∙◌, ap, sym, arith, true, false, string_bytes}
use Rattle.command_words.specs.Table.{same_text}
use Rattle.command_words.proofs.Tests.{any_found, any_next, any_past}
use Rattle.command_words.proofs.rule.is_among.Goals as goal

pub returns-then-is_same_text : goal.returns-then-is_same_text
returns-then-is_same_text c =
    let same : same_text c.args.text.now (string_bytes c.word-item.result) ≡ true =
    ap (same_text c.args.text.now) (sym c.as_str.ensures.value) ∙ (sym c.is_same_text.ensures ∙ c.if-is_same_text.true) in
    sym (c.loop-word.invariant ∙ any_found c.args.text.now c.args.words.now c.loop-word.word-index c.word-item.result c.loop-word-test.true c.word-item.is same)

pub loop-word-preserved : goal.loop-word-preserved
loop-word-preserved c =
    let differs : same_text c.args.text.now (string_bytes c.word-item.result) ≡ false =
    ap (same_text c.args.text.now) (sym c.as_str.ensures.value) ∙ (sym c.is_same_text.ensures ∙ c.if-is_same_text.false) in
    c.loop-word.invariant ∙ any_next c.args.text.now c.args.words.now c.loop-word.word-index c.word-item.result c.loop-word-test.true c.word-item.is differs

pub returns : goal.returns
returns c = sym (c.loop-word.invariant ∙ any_past c.args.text.now c.args.words.now c.loop-word.word-index (omega arith))
