use Rattle.std.proofs.Common.{take_all, subst}
use Rattle.std.proofs.lemmas.Result.{err_from_is_err_and}
use Rattle.dml_lexer.specs.declared.lexer.Token.{Token}
use Rattle.dml_lexer.specs.declared.lexer.TokenKind.TheVariants.{Word}
use Rattle.dml_tree.specs.Building.{Holds}
use Rattle.dml_tree.proofs.Readings.{refused_builds, ended_builds}
use Rattle.dml_tree.proofs.reading.build.Goals as goal

pub returns-in_err-take : goal.returns-in_err-take
returns-in_err-take c =
    let p = err_from_is_err_and c.from_residual.result c.from_residual.ensures.1 in
    let none_there : Token = record { kind = Word; from = 0; to = 0 } in
    rw (p.1, p.2)
    (refused_builds c.args.file c.args.bytes.now c.args.tokens.now c.loop-token.token-index none_there c.loop-token.builder c.in_err-take.field-0.0
    c.loop-token-test.true c.loop-token.invariant.file c.loop-token.invariant.holds c.in_err-take.ensures.fault)

pub returns : goal.returns
returns c =
    let tokens = c.args.tokens.now in
    ended_builds c.args.file c.args.bytes.now tokens c.loop-token.builder c.finish.result c.loop-token.invariant.file
    (subst (λ ts. Holds c.args.bytes.now ts c.loop-token.builder) (take_all c.loop-token.token-index tokens c.loop-token-test.false) c.loop-token.invariant.holds)
    c.finish.ensures.tree c.finish.ensures.fault
