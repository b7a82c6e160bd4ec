use Rattle.std.proofs.Common.{cond, eqb, [], ◌∷◌, ◌++◌, ap, ◌∙◌, arith}
use Rattle.std.proofs.lemmas.Grind.{common_steps}
use Rattle.global_list.proofs.FanOuts.{grown_same, put_same}
use Rattle.global_list.proofs.fan_out.add.Goals as goal

pub loop-size-preserved : goal.loop-size-preserved
loop-size-preserved c =
    let items = c.in_ok-push.ensures.items in (
      rw items (grind (arith, common_steps, c.loop-size.invariant.0)),
      λ out. rw (items, c.new.ensures) (grown_same c.loop-size.by_out.items out ∙ c.loop-size.invariant.1 out),
    )

pub returns-in-Ok : goal.returns-in-Ok
returns-in-Ok c = λ out.
    put_same c.loop-size.by_out.items c.args.mapping.out_channel out c.args.mapping c.push-2.new.self c.index_mut-list.result.now
    (omega (arith, c.loop-size.invariant.0, c.loop-size-test.false)) c.in-Ok.ensures.pushed c.index_mut-list.ensures.value
    ∙ ap (λ xs. xs ++ cond (eqb c.args.mapping.out_channel out) (c.args.mapping ∷ []) []) (c.loop-size.invariant.1 out)
