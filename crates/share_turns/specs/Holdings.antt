-- What a pass holds out of a table of turns at the parts of a run.
use Rattle.std.specs.Prelude.{ℕ, suc, ◌≡◌, ◌<◌, ◌≤◌, Some, slice_get}
use Rattle.ssf_model.specs.Reaction.{Reaction, Validity}
use Rattle.turn_table.specs.declared.pass.Held.{Held}
use Rattle.turn_table.specs.declared.view.View.{View}
use Rattle.turn_table.specs.Views.{held, lost, note, mark}
use Rattle.plan_shares.specs.declared.crosses.CrossEnd.{CrossEnd}
use Rattle.timeline.specs.View.{TimelineOf}
use Rattle.timeline.specs.Holding.{taken_of}
use Rattle.appointments.specs.Mails.{Mails}
use Rattle.barrier_window.specs.BarrierFields.{BarrierFields}
use Rattle.core_rules.specs.Cores.{CoreView}
use Rattle.share_rules.specs.Places.{mail_place, barrier_place, taken_word, done_word, round_word}
use Rattle.share_rules.specs.Held.{IsNoted, IsMailNoted, IsTimelineHeld, IsMailHeld, IsBarrierHeld, AreMet}
use Rattle.share_turns.specs.declared.share.Share.{Share}
use Rattle.share_turns.specs.declared.share.Share.TheVariants.{Timeline, Mail, Barrier}

-- ---- places

-- the pass holds the place p out, and no other one
pub record HoldsOne (v : View) (p : ℕ) : Type 0 where
  pub out : held v p ≡ 2
  pub others : (q : ℕ) → (q ≡ p → ⊥) → held v q ≡ 0

-- the places p and q, and no other one
pub record HoldsTwo (v : View) (p q : ℕ) : Type 0 where
  pub first : held v p ≡ 2
  pub second : held v q ≡ 2
  pub others : (x : ℕ) → (x ≡ p → ⊥) → (x ≡ q → ⊥) → held v x ≡ 0

-- no try was lost, or one for the place p alone
abbrev pub HasLostNone : View → View → Type 0
HasLostNone v w = (p : ℕ) → lost w p ≡ lost v p

pub record HasLostOne (v w : View) (p : ℕ) : Type 0 where
  pub own : lost w p ≡ suc (lost v p)
  pub others : (q : ℕ) → (q ≡ p → ⊥) → lost w q ≡ lost v q

-- a value that was moved out is the timeline t, and so on
pub record IsTimelineOut {B S P : Type 0} (p : ℕ) (t : TimelineOf B S P) (own : Held (Share B S P)) : Type 0 where
  pub place : own.place ≡ p
  pub value : own.value ≡ Timeline t

pub record IsMailOut {B S P : Type 0} (p : ℕ) (x : Mails P) (own : Held (Share B S P)) : Type 0 where
  pub place : own.place ≡ p
  pub value : own.value ≡ Mail x

pub record IsBarrierOut {B S P : Type 0} (p : ℕ) (bar : BarrierFields) (own : Held (Share B S P)) : Type 0 where
  pub place : own.place ≡ p
  pub value : own.value ≡ Barrier bar

-- ---- words

module _ {B S P : Type 0} (key : CoreView B S P) where
  -- the word c counts what timeline i has taken from a channel
  pub record IsTakenWord (i c : ℕ) : Type 0 where
    pub k : ℕ
    pub end : CrossEnd
    pub is : slice_get key.ends k ≡ Some end
    pub receiver : end.receiver ≡ i
    pub word : c ≡ taken_word key k

  -- what timeline i has taken from each channel is noted, or something less is
  abbrev pub AreTakenUpTo : View → ℕ → TimelineOf B S P → Type 0
  AreTakenUpTo v i t = (k : ℕ) (end : CrossEnd) → slice_get key.ends k ≡ Some end → end.receiver ≡ i
      → (0 < note v (taken_word key k)) × (note v (taken_word key k) ≤ suc (taken_of t.in_ends end.channel))

  -- what timeline i has taken from each channel was written, and nothing else
  pub record AreTakenWritten (v w : View) (i : ℕ) (t : TimelineOf B S P) : Type 0 where
    pub taken : (k : ℕ) (end : CrossEnd) → slice_get key.ends k ≡ Some end → end.receiver ≡ i → note w (taken_word key k) ≡ suc (taken_of t.in_ends end.channel)
    pub others : (c : ℕ) → (IsTakenWord i c → ⊥) → note w c ≡ note v c
    pub marks : (c : ℕ) → mark w c ≡ mark v c
    pub places : (p : ℕ) → held w p ≡ held v p
    pub tries : (p : ℕ) → lost w p ≡ lost v p

-- ---- values

module _ {B S P : Type 0} (valid : B → Validity S) (carried : B → P → Type 0) (r : B → Reaction S P) (key : CoreView B S P) where
  -- timeline i, as a pass with this view holds it out: its numbers are noted, and the round is marked
  pub record IsTimelineBy (v : View) (i : ℕ) (t : TimelineOf B S P) : Type 0 where
    pub sound : IsTimelineHeld (valid key.behaviour) (carried key.behaviour) (r key.behaviour) key (mark v) i t
    pub noted : IsNoted key (note v) i t
    pub done : note v (done_word key i) ≡ suc t.executed

  -- it is held so afterwards where it was held so before
  abbrev pub StaysBy : View → View → ℕ → Type 0
  StaysBy v w i = (t : TimelineOf B S P) → IsTimelineBy v i t → IsTimelineBy w i t

  -- the mail of timeline j
  pub record IsMailBy (v : View) (j : ℕ) (x : Mails P) : Type 0 where
    pub sound : IsMailHeld (valid key.behaviour) (carried key.behaviour) (r key.behaviour) key j x
    pub noted : IsMailNoted key (note v) j x

  -- the barrier
  pub record IsBarrierBy (v : View) (bar : BarrierFields) : Type 0 where
    pub sound : IsBarrierHeld (valid key.behaviour) (carried key.behaviour) (r key.behaviour) key (mark v) bar
    pub noted : note v (round_word key) ≡ suc bar.round

  -- a timeline was moved out
  pub record HasTimeline (v : View) (i : ℕ) (own : Held (Share B S P)) : Type 0 where
    pub timeline : TimelineOf B S P
    pub out : IsTimelineOut i timeline own
    pub so : IsTimelineBy v i timeline
    pub holds : HoldsOne v i

  -- the mail of timeline j was moved out, or its turn was lost, by the worker of timeline i
  pub record HasMail (v w : View) (i j : ℕ) (mail : Held (Share B S P)) : Type 0 where
    pub value : Mails P
    pub out : IsMailOut (mail_place key j) value mail
    pub so : IsMailBy w j value
    pub holds : HoldsTwo w i (mail_place key j)
    pub tries : HasLostNone v w

  pub record HasNoMail (v w : View) (i j : ℕ) : Type 0 where
    pub holds : HoldsOne w i
    pub tries : HasLostOne v w (mail_place key j)

  -- the barrier was moved out, or its turn was lost
  pub record HasBarrier (v w : View) (i : ℕ) (barrier : Held (Share B S P)) : Type 0 where
    pub value : BarrierFields
    pub out : IsBarrierOut (barrier_place key) value barrier
    pub so : IsBarrierBy w value
    pub holds : HoldsTwo w i (barrier_place key)
    pub tries : HasLostNone v w
    pub met : (t : TimelineOf B S P) → IsTimelineBy v i t → AreMet (valid key.behaviour) (carried key.behaviour) (r key.behaviour) key (mark w) i t value
    pub marked : mark w (round_word key) ≡ suc value.round

  pub record HasNoBarrier (v w : View) (i : ℕ) : Type 0 where
    pub holds : HoldsOne w i
    pub tries : HasLostOne v w (barrier_place key)
