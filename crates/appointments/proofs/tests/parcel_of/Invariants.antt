use Rattle.std.proofs.Common.{◌≡◌, vec_len}
use Rattle.appointments.proofs.tests.parcel_of.Given as goal

abbrev pub invariant-loop-index : goal.invariant-loop-index
invariant-loop-index l = vec_len l.list ≡ l.index
