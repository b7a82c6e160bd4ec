use Rattle.std.proofs.Common.{arith, sym}
use Rattle.ip_blocks.proofs.Exponents.{exponent_is}
use Rattle.ip_blocks.proofs.sizes.exponent.Goals as goal

pub returns : goal.returns
returns c = sym (exponent_is c.args.addresses c.loop-exponent.exponent (omega arith) c.loop-exponent.invariant.1)
