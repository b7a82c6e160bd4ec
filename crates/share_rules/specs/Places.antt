-- Where the parts of a run lie when they are shared out, and the count words with the places of which each speaks.
use Rattle.std.specs.Prelude.{ℕ, ◌+◌, List, [], ◌∷◌, ◌++◌, map, length}
use Rattle.std.specs.List.{range_with_len}
use Rattle.turn_table.specs.declared.view.Shape.{Shape}
use Rattle.plan_shares.specs.declared.crosses.CrossEnd.{CrossEnd}
use Rattle.timeline.specs.View.{TimelineOf}
use Rattle.appointments.specs.Mails.{Mails}
use Rattle.barrier_window.specs.BarrierFields.{BarrierFields}
use Rattle.core_rules.specs.Cores.{CoreView}
use Rattle.core_rules.specs.Ending.{line_in}

-- what lies at a place: a timeline, the mail of a timeline, or the barrier
pub data ShareOf (B S P : Type 0) : Type 0 where
  timeline : TimelineOf B S P → ShareOf B S P
  mail : Mails P → ShareOf B S P
  barrier : BarrierFields → ShareOf B S P

-- the numbers below n
abbrev pub numbers : ℕ → List ℕ
numbers n = range_with_len 0 n

-- a place, twice
abbrev pub twice : ℕ → ℕ × ℕ
twice p = (p, p)

module _ {B S P : Type 0} where
  -- ---- places: timeline i has the place i

  abbrev pub count_of : CoreView B S P → ℕ
  count_of key = length key.timelines

  abbrev pub mail_place : CoreView B S P → ℕ → ℕ
  mail_place key i = count_of key + i

  abbrev pub barrier_place : CoreView B S P → ℕ
  barrier_place key = count_of key + count_of key

  -- ---- count words: two for each channel between timelines, by its place among the ends, one for each timeline, and the round

  -- how much was posted on the channel of end k
  abbrev pub posted_word : CoreView B S P → ℕ → ℕ
  posted_word key k = k

  -- how much was taken from it
  abbrev pub taken_word : CoreView B S P → ℕ → ℕ
  taken_word key k = length key.ends + k

  -- how much timeline i has executed
  abbrev pub done_word : CoreView B S P → ℕ → ℕ
  done_word key i = (length key.ends + length key.ends) + i

  -- the barrier's round
  abbrev pub round_word : CoreView B S P → ℕ
  round_word key = (length key.ends + length key.ends) + count_of key

  -- a posted word speaks of the sender and of the receiver's mail, a taken word of that mail and the receiver
  abbrev pub posted_places : CoreView B S P → CrossEnd → ℕ × ℕ
  posted_places key end = (end.sender, mail_place key end.receiver)

  abbrev pub taken_places : CoreView B S P → CrossEnd → ℕ × ℕ
  taken_places key end = (mail_place key end.receiver, end.receiver)

  -- ---- marks: who takes a timeline's turn loses that of the round, and who takes the barrier's those of all timelines

  abbrev pub round_cleared : CoreView B S P → ℕ → ℕ × ℕ
  round_cleared key i = (i, round_word key)

  abbrev pub done_cleared : CoreView B S P → ℕ → ℕ × ℕ
  done_cleared key i = (barrier_place key, done_word key i)

  -- the shape of the table of these parts
  abbrev pub shape_of : CoreView B S P → Shape
  shape_of key = record {
    places = barrier_place key + 1;
    words = map (posted_places key) key.ends ++ (map (taken_places key) key.ends ++ (map twice (numbers (count_of key)) ++ twice (barrier_place key) ∷ []));
    clears = map (round_cleared key) (numbers (count_of key)) ++ map (done_cleared key) (numbers (count_of key));
  }

  -- ---- the parts as values and counts

  -- in the order of their places
  abbrev pub shares_of : CoreView B S P → List (ShareOf B S P)
  shares_of core = map timeline core.timelines ++ (map mail core.mails ++ barrier core.barrier ∷ [])

  abbrev pub posted_on : CoreView B S P → CrossEnd → ℕ
  posted_on core end = (line_in core end.sender).posted end.channel

  abbrev pub taken_from : CoreView B S P → CrossEnd → ℕ
  taken_from core end = (line_in core end.receiver).taken end.channel

  abbrev pub executed_in : TimelineOf B S P → ℕ
  executed_in t = t.executed

  -- the numbers of the count words, in their order
  abbrev pub counts_of : CoreView B S P → List ℕ
  counts_of core = map (posted_on core) core.ends ++ (map (taken_from core) core.ends ++ (map executed_in core.timelines ++ core.barrier.round ∷ []))
