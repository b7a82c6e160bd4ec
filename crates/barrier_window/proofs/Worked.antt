-- Worked rows: two timelines, a least delay of 5, up to 10.
use Rattle.std.proofs.Common.{◌≡◌, ℕ, refl, [], ◌∷◌, Option, Some, None}
use Rattle.barrier_window.specs.BarrierFields.{BarrierFields}
use Rattle.barrier_window.specs.Crossings.{first_barrier, reported, after_report, crossing, after_crossing}
use Rattle.barrier_window.specs.declared.barrier.Reported.TheVariants.{Taken, Stale}
use Rattle.barrier_window.specs.declared.barrier.Crossing.TheVariants.{Crossed, Waiting, Ended}

abbrev first : BarrierFields
first = first_barrier 2 (3 ∷ 8 ∷ []) (Some 5) 10

-- after each of them reported these times in round 0
abbrev reported_at : Option ℕ → Option ℕ → BarrierFields
reported_at a b = record first { reports = a ∷ b ∷ []; sent = 7 ∷ 4 ∷ [] }

nobody : crossing first ≡ Waiting 0
unfolding crossing
nobody = refl

stale : reported 1 first ≡ Stale 0
stale = refl

in_time : reported 0 first ≡ Taken
in_time = refl

-- of two numbers of one channel the later one is kept
latest_stays : after_report 1 0 6 ((3, 5) ∷ (8, 4) ∷ (3, 7) ∷ []) first ≡ reported_at None (Some 6)
unfolding after_report
latest_stays = refl

one_more : crossing (reported_at None (Some 6)) ≡ Waiting 0
unfolding crossing
one_more = refl

-- the next window is the least time and the delay, and at most the tick after the last one
opens : crossing (reported_at (Some 3) (Some 4)) ≡ Crossed 8
unfolding crossing
opens = refl

opens_last : crossing (reported_at (Some 10) (Some 7)) ≡ Crossed 11
unfolding crossing
opens_last = refl

without_windows : crossing (record (reported_at (Some 3) (Some 4)) { lookahead = None }) ≡ Crossed 11
unfolding crossing
without_windows = refl

ends : crossing (reported_at (Some 11) (Some 11)) ≡ Ended
unfolding crossing
ends = refl

ends_without_timelines : crossing (first_barrier 0 [] None 10) ≡ Ended
unfolding crossing
ends_without_timelines = refl

next_round : after_crossing (Crossed 8) (reported_at (Some 3) (Some 4)) ≡ record first { round = 1; window = 8; counts = 7 ∷ 4 ∷ []; sent = 7 ∷ 4 ∷ [] }
next_round = refl
