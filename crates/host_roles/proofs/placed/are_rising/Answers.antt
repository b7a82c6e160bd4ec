use Rattle.std.proofs.Common.{ℕ, ◌<◌}
use Rattle.host_rules.specs.Limits.{EachPair}
use Rattle.host_roles.proofs.Placing.{rise_next}
use Rattle.host_roles.proofs.placed.are_rising.Goals as goal

pub loop-index-preserved : goal.loop-index-preserved
loop-index-preserved c =
    rise_next c.args.numbers.now (EachPair (λ (a b : ℕ). a < b) c.args.numbers.now) c.loop-index.index c.from-number.result c.loop-index.least c.loop-index-test.true c.from-number.ensures c.if-number-least.false c.loop-index.invariant
