-- What becomes of the values that a pass holds out when their steps are made as often as they are enabled.
use Rattle.std.specs.Prelude.{ℕ, suc, ◌≡◌, ◌<◌, ◌≤◌, ◌⊎◌, Bool, false, Some, length, slice_get}
use Rattle.ssf_model.specs.Reaction.{Reaction, Validity}
use Rattle.turn_table.specs.Changes.{put}
use Rattle.plan_shares.specs.declared.crosses.CrossEnd.{CrossEnd}
use Rattle.timeline.specs.declared.answers.Ran.{Ran}
use Rattle.timeline.specs.declared.answers.Ran.TheVariants.{Over}
use Rattle.timeline.specs.View.{TimelineOf}
use Rattle.timeline.specs.Executing.{refusal}
use Rattle.timeline.specs.Holding.{taken_of}
use Rattle.timeline.specs.Lines.{posted_of}
use Rattle.appointments.specs.Mails.{Mails, mail_at}
use Rattle.appointments.specs.Mails.{posted_of as posted_to}
use Rattle.barrier_window.specs.BarrierFields.{BarrierFields}
use Rattle.core_rules.specs.Cores.{CoreView, IsCoreOfRun}
use Rattle.share_rules.specs.Places.{count_of, posted_word, taken_word, done_word, round_word}
use Rattle.share_rules.specs.Held.{KeepsWith, IsNoted, IsMailNoted, IsTimelineHeld, IsMailHeld, IsBarrierHeld, HasPassed, ArePaired, AreMet}

-- `key` are all parts at the moment when they were shared out, `n` are the notes of the pass and `m` its marks
module _ {B S P : Type 0} (valid : Validity S) (carried : P → Type 0) (r : Reaction S P) (key : CoreView B S P) where
  -- timeline i has executed, or not
  pub record HasExecuted (m : ℕ → ℕ) (i : ℕ) (t after : TimelineOf B S P) : Type 0 where
    pub held : IsTimelineHeld valid carried r key m i after
    pub more : t.executed ≤ after.executed
    pub noted : (n : ℕ → ℕ) → IsNoted key n i t → IsNoted key n i after

  -- timeline i has taken its mail, or not
  pub record HasTaken (n m : ℕ → ℕ) (i : ℕ) (t after : TimelineOf B S P) (x x_after : Mails P) : Type 0 where
    pub held : IsTimelineHeld valid carried r key m i after
    pub executed : after.executed ≡ t.executed
    pub mail : IsMailHeld valid carried r key i x_after
    pub joined : (k : ℕ) (end : CrossEnd) → slice_get key.ends k ≡ Some end → end.receiver ≡ i → (mail_at x_after end.channel).taken ≡ taken_of after.in_ends end.channel
    pub rises : (k : ℕ) (end : CrossEnd) → slice_get key.ends k ≡ Some end → end.receiver ≡ i → taken_of t.in_ends end.channel ≤ taken_of after.in_ends end.channel
    pub noted : (later : ℕ → ℕ) → ((k : ℕ) → k < length key.ends → later (posted_word key k) ≡ n (posted_word key k))
        → ((k : ℕ) (end : CrossEnd) → slice_get key.ends k ≡ Some end → end.receiver ≡ i → later (taken_word key k) ≡ suc (taken_of after.in_ends end.channel))
        → IsNoted key later i after × IsMailNoted key later i x_after

  -- the sender of end k has posted on its channel, or not
  pub record HasPosted (n m : ℕ → ℕ) (k : ℕ) (end : CrossEnd) (t after : TimelineOf B S P) (x x_after : Mails P) : Type 0 where
    pub held : IsTimelineHeld valid carried r key m end.sender after
    pub executed : after.executed ≡ t.executed
    pub mail : IsMailHeld valid carried r key end.receiver x_after
    pub joined : posted_to (mail_at x_after end.channel) ≡ posted_of after.out_ends end.channel
    pub rises : posted_of t.out_ends end.channel ≤ posted_of after.out_ends end.channel
    pub noted : IsNoted key (put n (posted_word key k) (suc (posted_of after.out_ends end.channel))) end.sender after
    pub mail_noted : IsMailNoted key (put n (posted_word key k) (suc (posted_of after.out_ends end.channel))) end.receiver x_after

  -- timeline i has entered the barrier's window, or not
  pub record HasEntered (m : ℕ → ℕ) (i : ℕ) (t after : TimelineOf B S P) (bar : BarrierFields) : Type 0 where
    pub met : AreMet valid carried r key m i after bar
    pub executed : after.executed ≡ t.executed
    pub noted : (n : ℕ → ℕ) → IsNoted key n i t → IsNoted key n i after

  -- timeline i has reported to the barrier, or not
  pub record HasReported (m : ℕ → ℕ) (i : ℕ) (t : TimelineOf B S P) (bar after : BarrierFields) : Type 0 where
    pub met : AreMet valid carried r key m i t after
    pub round : after.round ≡ bar.round

  -- the barrier was crossed, or not
  pub record HasCrossed (m : ℕ → ℕ) (crossed : Bool) (bar after : BarrierFields) : Type 0 where
    pub held : IsBarrierHeld valid carried r key m after
    pub round : bar.round ≤ after.round
    pub same : crossed ≡ false → after.round ≡ bar.round
    pub kept : (n : ℕ → ℕ) → n (round_word key) ≡ suc bar.round → KeepsWith valid carried r key n m (round_word key) after.round
    pub passed : (i done : ℕ) → i < count_of key → m (done_word key i) ≤ suc done → HasPassed valid carried r key bar i done → HasPassed valid carried r key after i done

-- a timeline executes no more within a turn: no event is left to it there, or it refuses the next one for another cause than
-- its budget
abbrev pub HasStopped : {B S P : Type 0} → ℕ → TimelineOf B S P → Type 0
HasStopped left t = (left ≡ 0) ⊎ ((told : Ran) × (refusal t ≡ Some told) × (told ≡ Over → ⊥))

-- ---- for the parts of some run, and for the parts of each run, by which the values are held

module _ {B S P : Type 0} (valid : B → Validity S) (carried : B → P → Type 0) (r : B → Reaction S P) where
  -- timeline i is held by the parts of some run with this behaviour
  pub record IsSomeTimeline (b : B) (i : ℕ) (t : TimelineOf B S P) : Type 0 where
    pub key : CoreView B S P
    pub run : IsCoreOfRun (valid b) (carried b) (r b) key
    pub m : ℕ → ℕ
    pub held : IsTimelineHeld (valid b) (carried b) (r b) key m i t

  -- timeline i and the mail of timeline j are held by the parts of some run
  pub record IsSomePair (i j : ℕ) (t : TimelineOf B S P) (x : Mails P) : Type 0 where
    pub behaviour : B
    pub key : CoreView B S P
    pub run : IsCoreOfRun (valid behaviour) (carried behaviour) (r behaviour) key
    pub n : ℕ → ℕ
    pub m : ℕ → ℕ
    pub paired : ArePaired (valid behaviour) (carried behaviour) (r behaviour) key n m i j t x

  -- and the mail is the one to which timeline i posts on channel c
  pub record IsSomePost (i c : ℕ) (t : TimelineOf B S P) (x : Mails P) : Type 0 where
    pub behaviour : B
    pub key : CoreView B S P
    pub run : IsCoreOfRun (valid behaviour) (carried behaviour) (r behaviour) key
    pub n : ℕ → ℕ
    pub m : ℕ → ℕ
    pub k : ℕ
    pub end : CrossEnd
    pub is : slice_get key.ends k ≡ Some end
    pub sender : end.sender ≡ i
    pub channel : end.channel ≡ c
    pub paired : ArePaired (valid behaviour) (carried behaviour) (r behaviour) key n m i end.receiver t x

  -- timeline i and the barrier are held by the parts of some run
  pub record IsSomeMeeting (i : ℕ) (t : TimelineOf B S P) (bar : BarrierFields) : Type 0 where
    pub behaviour : B
    pub key : CoreView B S P
    pub run : IsCoreOfRun (valid behaviour) (carried behaviour) (r behaviour) key
    pub m : ℕ → ℕ
    pub met : AreMet (valid behaviour) (carried behaviour) (r behaviour) key m i t bar

  -- by each: what has become of the values
  abbrev pub IfExecuted : B → ℕ → TimelineOf B S P → TimelineOf B S P → Type 0
  IfExecuted b i t after = (key : CoreView B S P) → IsCoreOfRun (valid b) (carried b) (r b) key → (m : ℕ → ℕ) → IsTimelineHeld (valid b) (carried b) (r b) key m i t
      → HasExecuted (valid b) (carried b) (r b) key m i t after

  abbrev pub IfTaken : ℕ → TimelineOf B S P → TimelineOf B S P → Mails P → Mails P → Type 0
  IfTaken i t after x x_after = (b : B) (key : CoreView B S P) → IsCoreOfRun (valid b) (carried b) (r b) key → (n m : ℕ → ℕ)
      → ArePaired (valid b) (carried b) (r b) key n m i i t x → HasTaken (valid b) (carried b) (r b) key n m i t after x x_after

  abbrev pub IfPosted : ℕ → ℕ → TimelineOf B S P → TimelineOf B S P → Mails P → Mails P → Type 0
  IfPosted i c t after x x_after = (b : B) (key : CoreView B S P) → IsCoreOfRun (valid b) (carried b) (r b) key → (n m : ℕ → ℕ) (k : ℕ) (end : CrossEnd)
      → slice_get key.ends k ≡ Some end → end.sender ≡ i → end.channel ≡ c
      → ArePaired (valid b) (carried b) (r b) key n m i end.receiver t x → HasPosted (valid b) (carried b) (r b) key n m k end t after x x_after

  abbrev pub IfEntered : ℕ → TimelineOf B S P → TimelineOf B S P → BarrierFields → Type 0
  IfEntered i t after bar = (b : B) (key : CoreView B S P) → IsCoreOfRun (valid b) (carried b) (r b) key → (m : ℕ → ℕ)
      → AreMet (valid b) (carried b) (r b) key m i t bar → HasEntered (valid b) (carried b) (r b) key m i t after bar

  abbrev pub IfReported : ℕ → TimelineOf B S P → BarrierFields → BarrierFields → Type 0
  IfReported i t bar after = (b : B) (key : CoreView B S P) → IsCoreOfRun (valid b) (carried b) (r b) key → (m : ℕ → ℕ)
      → AreMet (valid b) (carried b) (r b) key m i t bar → HasReported (valid b) (carried b) (r b) key m i t bar after

  abbrev pub IfCrossed : Bool → BarrierFields → BarrierFields → Type 0
  IfCrossed crossed bar after = (b : B) (key : CoreView B S P) → IsCoreOfRun (valid b) (carried b) (r b) key → (m : ℕ → ℕ)
      → IsBarrierHeld (valid b) (carried b) (r b) key m bar → HasCrossed (valid b) (carried b) (r b) key m crossed bar after
