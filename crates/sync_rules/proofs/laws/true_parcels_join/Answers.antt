use Rattle.sync_rules.proofs.Posts.{parcels_join}
use Rattle.sync_rules.proofs.laws.true_parcels_join.Goals as goal

pub returns : goal.returns
returns g c = λ s. parcels_join s
