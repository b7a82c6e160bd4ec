use Rattle.std.proofs.Common.{◌≡◌, ◌∙◌, ◌+◌, ap₂, sym, arith, true, false, map, string_bytes, drop, List, String, slice_get}
use Rattle.std.specs.declared.alloc.Global.{Global}
use Rattle.command_words.specs.Table.{Text}
use Rattle.command_words.specs.Words.{has_value}
use Rattle.command_words.proofs.Tests.{values_fail, values_next, values_past}
use Rattle.command_words.proofs.rule.have_values.Goals as goal

pub returns-then-not-has_value : goal.returns-then-not-has_value
returns-then-not-has_value c =
    let lacks : has_value (string_bytes c.index-words-index.result) (slice_get (map string_bytes (drop (c.loop-index.index + 1) c.args.words.now)) 0) ≡ false =
    ap₂ (λ (w : Text) (ws : List (String Global)). has_value w (slice_get (map string_bytes ws) 0)) (sym c.as_str.ensures.value) (sym c.behind.ensures)
    ∙ (sym c.has_value.ensures ∙ c.if-not-has_value.true) in
    sym (c.loop-index.invariant ∙ values_fail c.args.words.now c.loop-index.index c.index-words-index.result c.loop-index-test.true c.index-words-index.is lacks)

pub loop-index-preserved : goal.loop-index-preserved
loop-index-preserved c =
    let has_it : has_value (string_bytes c.index-words-index.result) (slice_get (map string_bytes (drop (c.loop-index.index + 1) c.args.words.now)) 0) ≡ true =
    ap₂ (λ (w : Text) (ws : List (String Global)). has_value w (slice_get (map string_bytes ws) 0)) (sym c.as_str.ensures.value) (sym c.behind.ensures)
    ∙ (sym c.has_value.ensures ∙ c.if-not-has_value.false) in
    c.loop-index.invariant ∙ values_next c.args.words.now c.loop-index.index c.index-words-index.result c.loop-index-test.true c.index-words-index.is has_it

pub returns : goal.returns
returns c = sym (c.loop-index.invariant ∙ values_past c.args.words.now c.loop-index.index (omega arith))
