use Rattle.ip_layer.proofs.Best.{best_is}
use Rattle.ip_layer.proofs.laws.best_routes_are_best.Goals as goal

pub returns : goal.returns
returns c = best_is
