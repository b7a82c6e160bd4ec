-- A timeline that executes stays held.
use Rattle.std.proofs.Common.{◌≡◌, ℕ, suc, ◌+◌, ◌≤◌, sym, ap, ◌∙◌, subst, arith}
use Rattle.ssf_model.specs.Reaction.{Reaction, Validity}
use Rattle.turn_table.specs.declared.pass.Held.{Held}
use Rattle.turn_table.specs.declared.view.View.{View}
use Rattle.turn_table.specs.Views.{note, mark, writing}
use Rattle.timeline.specs.View.{TimelineOf}
use Rattle.core_rules.specs.Cores.{CoreView, IsCoreOfRun}
use Rattle.share_rules.specs.Places.{done_word}
use Rattle.share_rules.specs.Held.{IsNoted, IsTimelineHeld}
use Rattle.share_turns.specs.declared.share.Share.{Share}
use Rattle.share_turns.specs.declared.share.Share.TheVariants.{Timeline}
use Rattle.share_turns.specs.Holdings.{HoldsOne, IsTimelineBy, HasTimeline}
use Rattle.sync_steps.specs.declared.steps.Step.TheVariants.{Execute}
use Rattle.worker_hands.specs.Hands.{HandView, IsAsked}
use Rattle.worker_hands.specs.Asked.{AreOf, runs_in, IsExhausted}
use Rattle.worker_hands.specs.Stepping.{HasExecuted, IsSomeTimeline, IfExecuted}
use Rattle.worker_turns.specs.Turning.{CanExecute, HasExecutedOn, AreRuns}
use Rattle.worker_turns.proofs.Lists.{asked_both, asked_more}
use Rattle.worker_turns.proofs.Values.{one_timeline}

module _ {B S P : Type 0} (valid : B → Validity S) (carried : B → P → Type 0) (r : B → Reaction S P) (key : CoreView B S P)
    (run : IsCoreOfRun (valid key.behaviour) (carried key.behaviour) (r key.behaviour) key) (b : B) (by_key : b ≡ key.behaviour) (i : ℕ) (v : View) (own : Held (Share B S P))
    (h : HasTimeline valid carried r key v i own) (s : Share B S P) (same : s ≡ own.value) where
  pub may_execute : CanExecute valid carried r b i s
  may_execute = record {
    t = h.timeline;
    own_is = same ∙ h.out.value;
    some = subst (λ x. IsSomeTimeline valid carried r x i h.timeline) (sym by_key) (record { key = key; run = run; m = mark v; held = h.so.sound });
  }

  module _ (own_after : Share B S P) (did : HasExecutedOn valid carried r b i s own_after) where
    so : IsTimelineBy valid carried r key v i did.t
    so = subst (λ t. IsTimelineBy valid carried r key v i t) (one_timeline s h.timeline did.t (same ∙ h.out.value) did.own_is) h.so

    ran : HasExecuted (valid key.behaviour) (carried key.behaviour) (r key.behaviour) key (mark v) i did.t did.after
    ran = (let law : IfExecuted valid carried r key.behaviour i did.t did.after = subst (λ x. IfExecuted valid carried r x i did.t did.after) by_key did.executed in law key run (mark v) so.sound)

    pub done_rises : (t : TimelineOf B S P) → own_after ≡ Timeline t → note v (done_word key i) ≤ suc t.executed
    done_rises t is =
        let more = ran.more in
        let noted = so.done in
        subst (λ (x : TimelineOf B S P). note v (done_word key i) ≤ suc x.executed) (one_timeline own_after did.after t did.own_after_is is) (omega arith)

    pub has_executed : (end_value : Share B S P) → end_value ≡ own_after → (t : TimelineOf B S P) → own_after ≡ Timeline t → (done : ℕ) → done ≡ t.executed → (w : View) → w ≡ writing v (done_word key i) done
        → ((x : TimelineOf B S P) → IsTimelineHeld (valid key.behaviour) (carried key.behaviour) (r key.behaviour) key (mark v) i x → IsNoted key (note v) i x → x.executed ≡ done → IsTimelineBy valid carried r key w i x)
        → HasTimeline valid carried r key w i (record { place = own.place; value = end_value })
    has_executed end_value end_is t is done done_is w w_is law = record {
      timeline = did.after;
      out = record { place = h.out.place; value = end_is ∙ did.own_after_is };
      so = law did.after ran.held (ran.noted (note v) so.noted) (ap (λ (x : TimelineOf B S P). x.executed) (one_timeline own_after did.after t did.own_after_is is) ∙ sym done_is);
      holds = subst (λ z. HoldsOne z i) (sym w_is) (record { out = h.holds.out; others = h.holds.others });
    }

pub runs_asked : (left after i : ℕ) (old new : HandView) → IsAsked old new (λ made. AreOf (Execute i) made × (runs_in made + after ≡ left)) → IsAsked old new (IsExhausted after i) → IsAsked old new (AreRuns left after i)
runs_asked left after i old new asked done =
    asked_more old new (λ made. (AreOf (Execute i) made × (runs_in made + after ≡ left)) × IsExhausted after i made) (AreRuns left after i)
    (λ made q. record { all = q.0.0; runs = q.0.1; done = q.1 })
    (asked_both old new (λ made. AreOf (Execute i) made × (runs_in made + after ≡ left)) (IsExhausted after i) asked done)
