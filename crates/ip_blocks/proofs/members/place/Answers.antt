use Rattle.std.proofs.Common.{ℕ, ◌^◌, ◌≤◌, arith}
use Rattle.ip_blocks.proofs.Exponents.{pow_back}
use Rattle.ip_blocks.proofs.members.place.Goals as goal

pub overflow_shl-used : goal.overflow_shl-used
overflow_shl-used c =
    let e : ℕ = c.args.member.exponent in
    let fits : 2 ^ e ≤ 2 ^ 24 = omega (arith, c.requires.room c.in-Some.net c.in-Some.is) in
    omega (arith, pow_back e 24 fits)
