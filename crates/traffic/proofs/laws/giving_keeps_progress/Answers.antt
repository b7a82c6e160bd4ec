use Rattle.traffic.proofs.Giving.{giving_keeps}
use Rattle.traffic.proofs.laws.giving_keeps_progress.Goals as goal

pub returns : goal.returns
returns c = giving_keeps
