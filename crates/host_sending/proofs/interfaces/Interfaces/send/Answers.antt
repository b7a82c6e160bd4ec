use Rattle.host_sending.proofs.Routing.{sent_place}
use Rattle.host_sending.proofs.interfaces.Interfaces.send.Goals as goal

pub follow-requires-clause-place : goal.follow-requires-clause-place
follow-requires-clause-place c = sent_place _ _ _ _ c.sent-verdict.ensures
