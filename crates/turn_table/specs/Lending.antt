-- A value that was moved out, lent.
use Rattle.std.specs.Borrow.{Lends, MutBor, Fml}
use denote.RattleType.{RattleType}
use Rattle.turn_table.specs.declared.pass.Held.{Held}
use Rattle.turn_table.specs.contracts.pass.Held.{the_row}

-- the same, with the value w
abbrev pub with_value : {T : Type 0} → Held T → T → Held T
with_value h w = record h { value = w }

-- h ends with the last value behind r
abbrev pub LendsValue : (R : RattleType) → MutBor (Held R.Denot) → MutBor R.Denot → Fml
LendsValue R h r = Lends (the_row R) R h r (with_value h.now)
