use Rattle.ip_layer.proofs.Leaving.{received_leaves}
use Rattle.ip_layer.proofs.laws.received_packets_leave_by_the_best_route.Goals as goal

pub returns : goal.returns
returns c = received_leaves
