-- What is so of the parts of a run while they lie at home: for each run for which all parts were sound when they were shared
-- out. `key` has the parts of that moment. Counts and marks are functions of count words; a mark is one more than a number
-- that the word has reached, and 0 where there is none.
use Rattle.std.specs.Prelude.{ℕ, suc, ◌≡◌, ◌+◌, ◌<◌, ◌≤◌, true, List, ◌++◌, length, Some, slice_get}
use mathlib.Core.Option.{some}
use lib.ListN.{get_elem?}
use Rattle.ssf_model.specs.declared.event.Entry.{Entry}
use Rattle.ssf_model.specs.Reaction.{Reaction, Validity}
use Rattle.ssf_model.specs.Truth.{IsWindow}
use Rattle.sync_rules.specs.Sound.{IsSoundBarrier}
use Rattle.plan_shares.specs.declared.crosses.CrossEnd.{CrossEnd}
use Rattle.timeline.specs.View.{TimelineOf}
use Rattle.timeline.specs.Holding.{low_in, taken_of}
use Rattle.timeline.specs.Lines.{posted_of}
use Rattle.timeline.specs.Sound.{IsSoundTimeline}
use Rattle.appointments.specs.Mails.{Mails, mail_at}
use Rattle.appointments.specs.Mails.{posted_of as posted_to}
use Rattle.barrier_window.specs.BarrierFields.{BarrierFields}
use Rattle.sync_steps.specs.Between.{HasItsCrosses}
use Rattle.sync_steps.specs.Sounds.{AreSoundMails, HaveTheirPlaces, has_least, barrier_as}
use Rattle.core_rules.specs.Cores.{CoreView, IsBarrierOf}
use Rattle.share_rules.specs.Places.{ShareOf, count_of, mail_place, barrier_place, posted_word, taken_word, done_word, round_word}
use Rattle.share_rules.specs.Places.ShareOf.{timeline, mail, barrier}
use Rattle.share_rules.specs.Runs.{Covers, IsWindowUpTo, OfItsRuns}

-- ---- sound parts

module _ {B S P : Type 0} where
  -- the timeline is what another one became by steps: its lower bound is no lower, and it has all of the history, and an entry
  -- more for each event that it has executed since
  pub record IsSince (old t : TimelineOf B S P) : Type 0 where
    pub ins : t.ins ≡ old.ins
    pub low : low_in old ≤ low_in t
    pub more : List Entry
    pub history : t.history ≡ old.history ++ more
    pub executed : t.executed ≡ old.executed + length more

module _ {B S P : Type 0} (key : CoreView B S P) where
  -- the words have the numbers of timeline i: what it has posted and taken, and how much it has executed
  pub record HasCounts (f : ℕ → ℕ) (i : ℕ) (t : TimelineOf B S P) : Type 0 where
    pub posted : (k : ℕ) (end : CrossEnd) → slice_get key.ends k ≡ Some end → end.sender ≡ i → f (posted_word key k) ≡ posted_of t.out_ends end.channel
    pub taken : (k : ℕ) (end : CrossEnd) → slice_get key.ends k ≡ Some end → end.receiver ≡ i → f (taken_word key k) ≡ taken_of t.in_ends end.channel
    pub done : f (done_word key i) ≡ t.executed

  -- the words have the numbers of the mail of timeline i: what was posted and taken
  pub record IsMailBy (f : ℕ → ℕ) (i : ℕ) (m : Mails P) : Type 0 where
    pub posted : (k : ℕ) (end : CrossEnd) → slice_get key.ends k ≡ Some end → end.receiver ≡ i → f (posted_word key k) ≡ posted_to (mail_at m end.channel)
    pub taken : (k : ℕ) (end : CrossEnd) → slice_get key.ends k ≡ Some end → end.receiver ≡ i → f (taken_word key k) ≡ (mail_at m end.channel).taken

module _ {B S P : Type 0} (valid : Validity S) (carried : P → Type 0) (r : Reaction S P) (key : CoreView B S P) where
  -- timeline i, at some moment of the run
  pub record IsTimelineAt (i : ℕ) (t : TimelineOf B S P) : Type 0 where
    pub budget : t.budget ≡ key.budget
    pub crosses : HasItsCrosses t
    pub places : HaveTheirPlaces t.in_ends key.barrier.channels
    pub since : (old : TimelineOf B S P) → slice_get key.timelines i ≡ Some old → IsSince old t
    pub sound : OfItsRuns valid carried r key (λ plan line s. (moment : ℕ) × IsSoundTimeline plan line s i moment t)

  -- the mail of timeline i
  pub record IsMailAt (i : ℕ) (m : Mails P) : Type 0 where
    pub channels : (old : Mails P) → slice_get key.mails i ≡ Some old → m.channels ≡ old.channels
    pub sound : OfItsRuns valid carried r key (λ plan line s. AreSoundMails s i m)

  -- the barrier, in the round of that moment or a later one
  pub record IsBarrierAt (b : BarrierFields) : Type 0 where
    pub channels : b.channels ≡ key.barrier.channels
    pub round : key.barrier.round ≤ b.round
    pub of_run : OfItsRuns valid carried r key (λ plan line s. IsBarrierOf s b)
    pub sound : OfItsRuns valid carried r key (λ plan line s. (v : ℕ) × IsSoundBarrier s v (barrier_as b))

  -- the value belongs to the place p, and is sound
  abbrev pub IsSoundAt : ℕ → ShareOf B S P → Type 0
  IsSoundAt p (timeline t) = (p < count_of key) × IsTimelineAt p t
  IsSoundAt p (mail m) = (i : ℕ) × (i < count_of key) × (p ≡ mail_place key i) × IsMailAt i m
  IsSoundAt p (barrier b) = (p ≡ barrier_place key) × IsBarrierAt b

  -- ---- by the counts

  -- timeline i: the words have its numbers, and the window that it entered is that of the round word or one before
  pub record IsTimelineBy (f : ℕ → ℕ) (i : ℕ) (t : TimelineOf B S P) : Type 0 where
    pub counts : HasCounts key f i t
    pub entered : OfItsRuns valid carried r key (λ plan line s. IsWindowUpTo s (f (round_word key)) t.entered)

  -- the round word is the barrier's round, and the done word of each timeline that has reported covers its events before the window
  pub record IsBarrierBy (f : ℕ → ℕ) (b : BarrierFields) : Type 0 where
    pub round : f (round_word key) ≡ b.round
    pub reported : OfItsRuns valid carried r key (λ plan line s. (i : ℕ) → i < count_of key → has_least (slice_get b.reports i) ≡ true → Covers s i b.window (f (done_word key i)))

  -- what the value at the place p owes to the counts
  abbrev pub Owes : (ℕ → ℕ) → ℕ → ShareOf B S P → Type 0
  Owes f p (timeline t) = p < count_of key → IsTimelineBy f p t
  Owes f p (mail m) = (i : ℕ) → i < count_of key → p ≡ mail_place key i → IsMailBy key f i m
  Owes f p (barrier b) = p ≡ barrier_place key → IsBarrierBy f b

  -- among the counts: each done word covers the events of its timeline before the window before that of the round word
  abbrev pub Keeps : (ℕ → ℕ) → Type 0
  Keeps f = OfItsRuns valid carried r key (λ plan line s. (v x : ℕ) → IsWindow s (f (round_word key)) v x → (i : ℕ) → i < count_of key → Covers s i v (f (done_word key i)))

  -- ---- by the marks

  -- what the marks say of the value at the place p: where the round is marked, the window that a timeline entered is that of
  -- the mark or one before; and where a timeline has reported to the barrier, the mark of its done word covers its events before the window
  abbrev pub Marked : (ℕ → ℕ) → ℕ → ShareOf B S P → Type 0
  Marked m p (timeline t) = p < count_of key → (k : ℕ) → m (round_word key) ≡ suc k → OfItsRuns valid carried r key (λ plan line s. IsWindowUpTo s k t.entered)
  Marked m p (mail x) = Unit {0}
  Marked m p (barrier b) = p ≡ barrier_place key → (i k : ℕ) → i < count_of key → has_least (slice_get b.reports i) ≡ true → m (done_word key i) ≡ suc k
      → OfItsRuns valid carried r key (λ plan line s. Covers s i b.window k)

  -- ---- all together

  -- all values are at home, in the order of their places, and true to these counts
  pub record AreAtHome (f : ℕ → ℕ) (values : List (ShareOf B S P)) : Type 0 where
    pub places : length values ≡ barrier_place key + 1
    pub sound : (p : ℕ) (x : ShareOf B S P) → get_elem? values p ≡ some x → IsSoundAt p x
    pub owed : (p : ℕ) (x : ShareOf B S P) → get_elem? values p ≡ some x → Owes f p x
    pub kept : Keeps f
