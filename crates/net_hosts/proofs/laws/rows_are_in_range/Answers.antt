use Rattle.net_hosts.proofs.Ranges.{in_range}
use Rattle.net_hosts.proofs.laws.rows_are_in_range.Goals as goal

pub returns : goal.returns
returns c = λ network tables h is keeps there. in_range network is keeps h there tables
