use Rattle.std.proofs.Common.{arith}
use Rattle.ip_blocks.proofs.Exponents.{pow_up}
use Rattle.ip_blocks.proofs.sizes.add.Goals as goal

pub returns-then-exponent-gt24-clause-no_space : goal.returns-then-exponent-gt24-clause-no_space
returns-then-exponent-gt24-clause-no_space c = omega (arith, pow_up 25 c.args.exponent (omega arith))
