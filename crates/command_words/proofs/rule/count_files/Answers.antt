use Rattle.std.proofs.Common.{◌≡◌, ◌∙◌, ◌+◌, ◌&&◌, Bool, ap, sym, arith, not, cond, string_bytes}
use Rattle.command_words.specs.Table.{Text, takes_value}
use Rattle.command_words.specs.Words.{begins_with_dash}
use Rattle.command_words.proofs.Tests.{count_next, count_past}
use Rattle.command_words.proofs.rule.count_files.Goals as goal
use Rattle.command_words.proofs.rule.count_files.Goals.{then-is_file, else-is_file}

pub loop-word-preserved : goal.loop-word-preserved
loop-word-preserved c =
    let file : c.is_file.result ≡ (not c.loop-word.behind && not (begins_with_dash (string_bytes c.word-item.result))) =
    c.is_file.ensures ∙ ap (λ (w : Text). not c.loop-word.behind && not (begins_with_dash w)) c.as_str-here.ensures.value in
    let none : c.loop-word.count ≡ c.loop-word.count + 0 = omega arith in
    let counted : c.if-is_file.count ≡ c.loop-word.count + cond (not c.loop-word.behind && not (begins_with_dash (string_bytes c.word-item.result))) 1 0 =
    elim c.if-is_file.branch [
      | then-is_file w ↦ w.count-is ∙ ap (λ (b : Bool). c.loop-word.count + cond b 1 0) (sym w.if-is_file.true ∙ file)
      | else-is_file w ↦ w.count-is ∙ (none ∙ ap (λ (b : Bool). c.loop-word.count + cond b 1 0) (sym w.if-is_file.false ∙ file))
    ] in
    let moved : c.is_value_next-behind.result ≡ (not c.loop-word.behind && takes_value (string_bytes c.word-item.result)) =
    c.is_value_next-behind.ensures ∙ ap (λ (w : Text). not c.loop-word.behind && takes_value w) c.as_str-here.ensures.value in
    record {
      few = omega arith;
      files = count_next c.args.words.now c.loop-word.word-index c.word-item.result c.loop-word-test.true c.word-item.is _ c.loop-word.count c.if-is_file.count c.loop-word.behind _
          c.loop-word.invariant.files counted moved;
    }

pub returns : goal.returns
returns c = count_past c.args.words.now c.loop-word.word-index _ c.loop-word.count c.loop-word.behind (omega arith) c.loop-word.invariant.files
