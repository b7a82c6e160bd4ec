use Rattle.tcp_rules.proofs.Windows.{data_out_next}
use Rattle.tcp_rules.proofs.laws.data_goes_while_it_may.Goals as goal

pub returns : goal.returns
returns c = data_out_next
