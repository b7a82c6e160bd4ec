use Rattle.transfer_laws.proofs.Delivered.{waits_after_delivered}
use Rattle.transfer_laws.proofs.laws.servers_deliver_without_gaps.Goals as goal

pub returns : goal.returns
returns g c = λ plan until kept fits fresh in_time. waits_after_delivered plan until in_time fits fresh kept
