use Rattle.ip_layer.proofs.Leaving.{sent_leaves}
use Rattle.ip_layer.proofs.laws.sent_packets_leave_by_the_best_route.Goals as goal

pub returns : goal.returns
returns c = sent_leaves
