use Rattle.std.proofs.Common.{◌+◌, sym, subst, [], ◌∷◌, length, All}
use Rattle.std.specs.Prelude.{Some, None}
use Rattle.std.proofs.lemmas.List.Elements.{All-append}
use Rattle.dml_lexer.specs.Tokens.{LiesIn}
use Rattle.dml_lexer.specs.FirstFront.{BeginsFront}
use Rattle.dml_lexer.proofs.Walked.{Walked, walked_next, walked_on, walked_more, walked_within, lies, All-one}
use Rattle.dml_lexer.proofs.lexer.lex.Goals as goal

pub loop-at-preserved-in-Skipped : goal.loop-at-preserved-in-Skipped
loop-at-preserved-in-Skipped c =
    let bytes = c.args.bytes.now in
    let tokens = c.loop-at.tokens.items in
    let w = c.loop-at.invariant.walked in
    let begins : BeginsFront None c.in-Skipped.len w.rest = subst (BeginsFront None c.in-Skipped.len) (sym (walked_next bytes c.loop-at.at tokens w c.loop-at-test.true)) c.in-Skipped.ensures in
    record {
      walked = walked_on bytes c.loop-at.at tokens c.in-Skipped.len w begins;
      within = walked_within bytes c.loop-at.at tokens None c.in-Skipped.len w begins;
      lie = c.loop-at.invariant.lie;
    }

pub loop-at-preserved : goal.loop-at-preserved
loop-at-preserved c =
    let bytes = c.args.bytes.now in
    let tokens = c.loop-at.tokens.items in
    let w = c.loop-at.invariant.walked in
    let kind = c.in-Token.kind in
    let begins : BeginsFront (Some kind) c.in-Token.len w.rest = subst (BeginsFront (Some kind) c.in-Token.len) (sym (walked_next bytes c.loop-at.at tokens w c.loop-at-test.true)) c.in-Token.ensures in
    record {
      walked = subst (Walked bytes (c.loop-at.at + c.in-Token.len)) (sym c.in_ok-push-in-Token.ensures.items) (walked_more bytes c.loop-at.at tokens (Some kind) c.in-Token.len w begins);
      within = walked_within bytes c.loop-at.at tokens (Some kind) c.in-Token.len w begins;
      lie = subst (All (LiesIn (length bytes))) (sym c.in_ok-push-in-Token.ensures.items)
          (All-append (LiesIn (length bytes)) tokens (_ ∷ []) c.loop-at.invariant.lie (All-one (LiesIn (length bytes)) _ (lies bytes c.loop-at.at tokens kind c.in-Token.len w begins)));
    }
