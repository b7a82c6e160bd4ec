use Rattle.host_sending.proofs.Tabling.{IsLastSoFar}
use Rattle.host_sending.proofs.lookup.last_begun.Given as goal

abbrev pub invariant-loop-place : goal.invariant-loop-place
invariant-loop-place l = IsLastSoFar l.periods l.now l.place l.last
