use Rattle.net_layout.proofs.Latest.{in_a_period}
use Rattle.net_layout.proofs.laws.each_tick_is_in_a_period.Goals as goal

pub returns : goal.returns
returns c = in_a_period
