use Rattle.std.proofs.Common.{◌∙◌, sym}
use Rattle.net_layout.specs.Gateways.{belongs_to_router}
use Rattle.net_layout.proofs.Finding.{find_here, find_on, find_end}
use Rattle.net_layout.proofs.gateways.first_router.Goals as goal

pub returns-then-belongs_to_router-clause-found : goal.returns-then-belongs_to_router-clause-found
returns-then-belongs_to_router-clause-found c =
    find_here (belongs_to_router c.args.network.now) c.args.others.now c.loop-other.other-index 0 c.loop-other-test.true c.loop-other.invariant (sym c.belongs_to_router.ensures ∙ c.if-belongs_to_router.true)

pub loop-other-preserved : goal.loop-other-preserved
loop-other-preserved c =
    find_on (belongs_to_router c.args.network.now) c.args.others.now c.loop-other.other-index 0 c.loop-other-test.true c.loop-other.invariant (sym c.belongs_to_router.ensures ∙ c.if-belongs_to_router.false)

pub returns-clause-found : goal.returns-clause-found
returns-clause-found c = find_end (belongs_to_router c.args.network.now) c.args.others.now c.loop-other.other-index c.loop-other-test.false c.loop-other.invariant
