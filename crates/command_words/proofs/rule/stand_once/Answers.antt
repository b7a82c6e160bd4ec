use Rattle.std.proofs.Common.{◌≡◌, ◌∙◌, ◌+◌, ◌&&◌, ap₂, sym, arith, true, false, map, string_bytes, drop, List, String}
use Rattle.std.specs.declared.alloc.Global.{Global}
use Rattle.command_words.specs.Table.{Text, is_one_of}
use Rattle.command_words.specs.Words.{begins_with_dash}
use Rattle.command_words.proofs.Tests.{once_fails, once_next, once_past}
use Rattle.command_words.proofs.rule.stand_once.Goals as goal

pub returns-then-stands_again : goal.returns-then-stands_again
returns-then-stands_again c =
    let again : (begins_with_dash (string_bytes c.index-words-index.result) && is_one_of (map string_bytes (drop (c.loop-index.index + 1) c.args.words.now)) (string_bytes c.index-words-index.result)) ≡ true =
    ap₂ (λ (w : Text) (ws : List (String Global)). begins_with_dash w && is_one_of (map string_bytes ws) w) (sym c.as_str.ensures.value) (sym c.behind.ensures)
    ∙ (sym c.stands_again.ensures ∙ c.if-stands_again.true) in
    sym (c.loop-index.invariant ∙ once_fails c.args.words.now c.loop-index.index c.index-words-index.result c.loop-index-test.true c.index-words-index.is again)

pub loop-index-preserved : goal.loop-index-preserved
loop-index-preserved c =
    let fresh : (begins_with_dash (string_bytes c.index-words-index.result) && is_one_of (map string_bytes (drop (c.loop-index.index + 1) c.args.words.now)) (string_bytes c.index-words-index.result)) ≡ false =
    ap₂ (λ (w : Text) (ws : List (String Global)). begins_with_dash w && is_one_of (map string_bytes ws) w) (sym c.as_str.ensures.value) (sym c.behind.ensures)
    ∙ (sym c.stands_again.ensures ∙ c.if-stands_again.false) in
    c.loop-index.invariant ∙ once_next c.args.words.now c.loop-index.index c.index-words-index.result c.loop-index-test.true c.index-words-index.is fresh

pub returns : goal.returns
returns c = sym (c.loop-index.invariant ∙ once_past c.args.words.now c.loop-index.index (omega arith))
