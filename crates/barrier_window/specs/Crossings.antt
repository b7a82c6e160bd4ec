-- What reports and crossings make of a barrier.
use Rattle.std.specs.Prelude.{ℕ, ◌+◌, ◌≡◌, true, false, nat_eq, nat_le, min, if◌then◌else◌, List, [], ◌∷◌, length, replicate, slice_set, slice_get, Option, Some, None}
use Rattle.std.specs.List.{All, Contains}
use Rattle.sim_base.specs.MemoryObjects.{risen}
use Rattle.ssf_model.specs.Truth.{next_window}
use Rattle.barrier_window.specs.BarrierFields.{BarrierFields}
use Rattle.barrier_window.specs.declared.barrier.Reported.{Reported}
use Rattle.barrier_window.specs.declared.barrier.Reported.TheVariants.{Taken, Stale}
use Rattle.barrier_window.specs.declared.barrier.Crossing.{Crossing}
use Rattle.barrier_window.specs.declared.barrier.Crossing.TheVariants.{Crossed, Waiting, Ended}

-- a barrier before its first crossing
abbrev pub first_barrier : ℕ → List ℕ → Option ℕ → ℕ → BarrierFields
first_barrier timelines cross lookahead until = record {
  lookahead = lookahead;
  until = until;
  round = 0;
  window = 0;
  channels = cross;
  counts = replicate (length cross) 0;
  sent = replicate (length cross) 0;
  reports = replicate timelines None;
  ended = false;
}

-- ---- reports

-- the number that pairs of channels and numbers give a channel: that of the last pair of the channel, and `before` where
-- there is none
abbrev pub latest : List (ℕ × ℕ) → ℕ → ℕ → ℕ
latest [] channel before = before
latest (p ∷ ps) channel before = latest ps channel (if nat_eq p.0 channel then p.1 else before)

-- the same of each of some channels
abbrev pub latest_of : List (ℕ × ℕ) → List ℕ → List ℕ → List ℕ
latest_of ps [] numbers = []
latest_of ps (c ∷ cs) [] = []
latest_of ps (c ∷ cs) (n ∷ ns) = latest ps c n ∷ latest_of ps cs ns

-- a timeline may report: the barrier has not ended, and the timeline is one of its own that has not reported in this
-- round. It hands in numbers of writes on cross channels
pub record MayReport (b : BarrierFields) (timeline : ℕ) (numbers : List (ℕ × ℕ)) : Type 0 where
  pub running : b.ended ≡ false
  pub first : slice_get b.reports timeline ≡ Some None
  pub cross : All (λ p. Contains b.channels p.0) numbers

-- the answer to a report of a round, and the barrier afterwards
abbrev pub reported : ℕ → BarrierFields → Reported
reported round b = if nat_eq round b.round then Taken else Stale b.round

abbrev pub with_report : ℕ → ℕ → List (ℕ × ℕ) → BarrierFields → BarrierFields
with_report timeline least numbers b = record b { reports = slice_set b.reports timeline (Some least); sent = latest_of numbers b.channels b.sent }

unfoldable pub after_report : ℕ → ℕ → ℕ → List (ℕ × ℕ) → BarrierFields → BarrierFields
after_report timeline round least numbers b = if nat_eq round b.round then with_report timeline least numbers b else b

-- ---- crossings

-- the least timeline without a report, of those from number `from` on
abbrev pub first_without : ℕ → List (Option ℕ) → Option ℕ
first_without from [] = None
first_without from (None ∷ reports) = Some from
first_without from (Some least ∷ reports) = first_without (from + 1) reports

-- the least of the reported times, and `end` where none is below it
abbrev pub least_report : ℕ → List (Option ℕ) → ℕ
least_report end [] = end
least_report end (None ∷ reports) = least_report end reports
least_report end (Some least ∷ reports) = min least (least_report end reports)

-- the answer where all timelines have reported: it has ended where no report is at most the last tick that is executed
abbrev pub crossing_at : BarrierFields → ℕ → Crossing
crossing_at b least = if nat_le least b.until then Crossed (next_window b.lookahead b.until least) else Ended

abbrev pub crossing_by : Option ℕ → BarrierFields → Crossing
crossing_by None b = crossing_at b (least_report (b.until + 1) b.reports)
crossing_by (Some timeline) b = Waiting timeline

-- the answer to a crossing
unfoldable pub crossing : BarrierFields → Crossing
crossing b = if b.ended then Ended else crossing_by (first_without 0 b.reports) b

-- the barrier in its next round
abbrev pub crossed_to : ℕ → BarrierFields → BarrierFields
crossed_to window b = record b { round = risen b.round; window = window; counts = b.sent; reports = replicate (length b.reports) None }

-- the barrier after an answer
abbrev pub after_crossing : Crossing → BarrierFields → BarrierFields
after_crossing (Crossed window) b = crossed_to window b
after_crossing (Waiting timeline) b = b
after_crossing Ended b = record b { ended = true }
