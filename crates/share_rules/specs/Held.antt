-- What a pass knows of the values that it holds out, by its notes and marks of count words. Both are functions of count
-- words: one more than a number, and 0 where there is none. A note has the word's number, and a mark one that it has reached.
use Rattle.std.specs.Prelude.{ℕ, suc, ◌≡◌, ◌<◌, ◌≤◌, true, Some, slice_get}
use Rattle.ssf_model.specs.Reaction.{Reaction, Validity}
use Rattle.ssf_model.specs.Truth.{IsWindow}
use Rattle.turn_table.specs.Changes.{put}
use Rattle.plan_shares.specs.declared.crosses.CrossEnd.{CrossEnd}
use Rattle.timeline.specs.View.{TimelineOf}
use Rattle.timeline.specs.Holding.{taken_of}
use Rattle.timeline.specs.Lines.{posted_of}
use Rattle.appointments.specs.Mails.{Mails, mail_at}
use Rattle.appointments.specs.Mails.{posted_of as posted_to}
use Rattle.barrier_window.specs.BarrierFields.{BarrierFields}
use Rattle.sync_steps.specs.Sounds.{has_least}
use Rattle.core_rules.specs.Cores.{CoreView}
use Rattle.share_rules.specs.Places.{ShareOf, count_of, posted_word, taken_word, done_word, round_word}
use Rattle.share_rules.specs.Runs.{Covers, IsWindowUpTo, OfItsRuns}
use Rattle.share_rules.specs.Home.{IsTimelineAt, IsMailAt, IsBarrierAt, IsSoundAt, Owes, Keeps, Marked}

-- the counts have the numbers of these notes, and have reached these marks
pub record Meets (n m f : ℕ → ℕ) : Type 0 where
  pub noted : (c : ℕ) → 0 < n c → n c ≡ suc (f c)
  pub above : (c : ℕ) → m c ≤ suc (f c)

module _ {B S P : Type 0} (valid : Validity S) (carried : P → Type 0) (r : Reaction S P) (key : CoreView B S P) where
  -- what a pass is told of a value that it moves out of the place p
  pub record IsTold (n m : ℕ → ℕ) (p : ℕ) (x : ShareOf B S P) : Type 0 where
    pub sound : IsSoundAt valid carried r key p x
    pub marked : Marked valid carried r key m p x
    pub counts : ℕ → ℕ
    pub kept : Keeps valid carried r key counts
    pub meets : Meets n m counts
    pub owed : Owes valid carried r key counts p x

  -- what a pass owes where it moves a value home to the place p
  pub record IsPaid (n m : ℕ → ℕ) (p : ℕ) (x : ShareOf B S P) : Type 0 where
    pub sound : IsSoundAt valid carried r key p x
    pub marked : Marked valid carried r key m p x
    pub owed : (f : ℕ → ℕ) → Keeps valid carried r key f → Meets n m f → Owes valid carried r key f p x

  -- what a pass owes where it writes the number x into the count word c
  abbrev pub KeepsWith : (ℕ → ℕ) → (ℕ → ℕ) → ℕ → ℕ → Type 0
  KeepsWith n m c x = (f : ℕ → ℕ) → Keeps valid carried r key f → Meets n m f → Keeps valid carried r key (put f c x)

-- ---- notes

module _ {B S P : Type 0} (key : CoreView B S P) where
  -- the notes have the numbers of timeline i: what it has posted and taken
  pub record IsNoted (n : ℕ → ℕ) (i : ℕ) (t : TimelineOf B S P) : Type 0 where
    pub posted : (k : ℕ) (end : CrossEnd) → slice_get key.ends k ≡ Some end → end.sender ≡ i → n (posted_word key k) ≡ suc (posted_of t.out_ends end.channel)
    pub taken : (k : ℕ) (end : CrossEnd) → slice_get key.ends k ≡ Some end → end.receiver ≡ i → n (taken_word key k) ≡ suc (taken_of t.in_ends end.channel)

  -- the notes have the numbers of the mail of timeline i
  pub record IsMailNoted (n : ℕ → ℕ) (i : ℕ) (m : Mails P) : Type 0 where
    pub posted : (k : ℕ) (end : CrossEnd) → slice_get key.ends k ≡ Some end → end.receiver ≡ i → n (posted_word key k) ≡ suc (posted_to (mail_at m end.channel))
    pub taken : (k : ℕ) (end : CrossEnd) → slice_get key.ends k ≡ Some end → end.receiver ≡ i → n (taken_word key k) ≡ suc (mail_at m end.channel).taken

-- ---- values that are held

module _ {B S P : Type 0} (valid : Validity S) (carried : P → Type 0) (r : Reaction S P) (key : CoreView B S P) where
  -- timeline i: it is sound, and the window that it entered is that of the mark of the round or one before
  pub record IsTimelineHeld (m : ℕ → ℕ) (i : ℕ) (t : TimelineOf B S P) : Type 0 where
    pub known : i < count_of key
    pub at : IsTimelineAt valid carried r key i t
    pub round : ℕ
    pub marked : m (round_word key) ≡ suc round
    pub entered : OfItsRuns valid carried r key (λ plan line s. IsWindowUpTo s round t.entered)

  -- the mail of timeline i
  pub record IsMailHeld (i : ℕ) (m : Mails P) : Type 0 where
    pub known : i < count_of key
    pub at : IsMailAt valid carried r key i m

  -- the mark of the done word of timeline i covers its events before the window of the barrier
  pub record HasMarked (m : ℕ → ℕ) (i : ℕ) (b : BarrierFields) : Type 0 where
    pub done : ℕ
    pub marked : m (done_word key i) ≡ suc done
    pub covers : OfItsRuns valid carried r key (λ plan line s. Covers s i b.window done)

  -- the barrier: it is sound, and of each timeline that has reported the done word is marked so
  pub record IsBarrierHeld (m : ℕ → ℕ) (b : BarrierFields) : Type 0 where
    pub at : IsBarrierAt valid carried r key b
    pub reported : (i : ℕ) → i < count_of key → has_least (slice_get b.reports i) ≡ true → HasMarked m i b

  -- the first `done` events of timeline i are all that it has before the window before the barrier's
  abbrev pub HasPassed : BarrierFields → ℕ → ℕ → Type 0
  HasPassed b i done = OfItsRuns valid carried r key (λ plan line s. (v x : ℕ) → IsWindow s b.round v x → Covers s i v done)

  -- ---- values that are held together

  -- timeline i and the mail of timeline j, with their numbers noted
  pub record ArePaired (n m : ℕ → ℕ) (i j : ℕ) (t : TimelineOf B S P) (x : Mails P) : Type 0 where
    pub timeline : IsTimelineHeld m i t
    pub noted : IsNoted key n i t
    pub mail : IsMailHeld j x
    pub mail_noted : IsMailNoted key n j x

  -- timeline i and the barrier: the round is marked and how much the timeline has executed, which is all before the window
  -- before the barrier's
  pub record AreMet (m : ℕ → ℕ) (i : ℕ) (t : TimelineOf B S P) (bar : BarrierFields) : Type 0 where
    pub timeline : IsTimelineHeld m i t
    pub barrier : IsBarrierHeld m bar
    pub passed : HasPassed bar i t.executed
    pub round : suc bar.round ≤ m (round_word key)
    pub done : m (done_word key i) ≡ suc t.executed
