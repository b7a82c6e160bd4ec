use Rattle.network_transfers.proofs.Counted.{sent_is_among}
use Rattle.network_transfers.proofs.laws.sent_segments_are_those_sent.Goals as goal

pub returns : goal.returns
returns g c = sent_is_among
