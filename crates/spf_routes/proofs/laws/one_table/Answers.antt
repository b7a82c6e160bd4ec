use Rattle.spf_routes.proofs.Unique.{one_table}
use Rattle.spf_routes.proofs.laws.one_table.Goals as goal

pub returns : goal.returns
returns c = one_table
