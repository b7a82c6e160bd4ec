use Rattle.std.proofs.Common.{◌∙◌, ap, ◌+◌, sym}
use Rattle.sync_steps.proofs.Allowed.{promise_is}
use Rattle.sync_steps.proofs.between.promise.Goals as goal

pub returns : goal.returns
returns g c =
    c.promise_among.ensures
    ∙ promise_is c.args.timeline.now c.args.channel c.lower_bound.result _ c.outs.result.now c.requires.crosses c.outs.ensures c.lower_bound.ensures (ap (λ n. n + 1) (sym c.requires.until))
