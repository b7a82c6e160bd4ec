use Rattle.transfer_laws.proofs.Delivered.{lower_when_passed_on}
use Rattle.transfer_laws.proofs.laws.packets_passed_on_have_less_time.Goals as goal

pub returns : goal.returns
returns g c = λ plan until kept fits fresh in_time. lower_when_passed_on plan until in_time fits fresh kept
