use Rattle.host_sending.proofs.Routing.{best_in}
use Rattle.host_sending.proofs.site.Site.source_to.Goals as goal

pub route-requires : goal.route-requires
route-requires c = best_in _ _ _ c.in-Some.ensures
