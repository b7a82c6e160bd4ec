use Rattle.net_iface.proofs.Keeping.{offer_keeps}
use Rattle.net_iface.proofs.laws.offers_keep_interfaces.Goals as goal

pub returns : goal.returns
returns c = offer_keeps
