use Rattle.ip_layer.proofs.Best.{best_found}
use Rattle.ip_layer.proofs.verdict.best_place.Goals as goal

pub returns : goal.returns
returns c = best_found c.before.args.routes.now c.before.args.address _ c.best.ensures.found c.best.ensures.none
