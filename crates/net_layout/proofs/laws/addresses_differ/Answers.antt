use Rattle.net_layout.proofs.Limiting.{keeps_limits}
use Rattle.net_layout.proofs.Addressing.{distinct}
use Rattle.net_layout.proofs.laws.addresses_differ.Goals as goal

pub returns : goal.returns
returns c = λ network is none. distinct network is (keeps_limits network is none).addresses
