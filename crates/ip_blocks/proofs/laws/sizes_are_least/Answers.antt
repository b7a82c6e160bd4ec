use Rattle.ip_blocks.proofs.Exponents.{exponent-room, exponent-least}
use Rattle.ip_blocks.proofs.laws.sizes_are_least.Goals as goal

pub returns : goal.returns
returns c = λ n. (exponent-room n, exponent-least n)
