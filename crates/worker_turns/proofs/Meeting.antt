-- A timeline and the barrier stay held where they meet.
use Rattle.std.proofs.Common.{◌≡◌, ℕ, suc, ◌≤◌, ◌<◌, refl, sym, ap, ◌∙◌, subst, arith, le_of_eq, Bool, false, Some, slice_get}
use Rattle.ssf_model.specs.Reaction.{Reaction, Validity, KeepsValid}
use Rattle.ssf_model.specs.Deliver.{IsModest}
use Rattle.turn_table.specs.declared.pass.Held.{Held}
use Rattle.turn_table.specs.declared.view.View.{View}
use Rattle.turn_table.specs.Views.{note, mark, writing}
use Rattle.plan_shares.specs.declared.crosses.CrossEnd.{CrossEnd}
use Rattle.timeline.specs.View.{TimelineOf}
use Rattle.barrier_window.specs.BarrierFields.{BarrierFields}
use Rattle.core_rules.specs.Cores.{CoreView, IsCoreOfRun}
use Rattle.core_rules.proofs.Lists.{get_known}
use Rattle.share_rules.specs.Places.{count_of, barrier_place, posted_word, taken_word, done_word, round_word}
use Rattle.share_rules.specs.Held.{KeepsWith, AreMet, HasPassed, IsBarrierHeld}
use Rattle.share_rules.proofs.Holding.{timeline_stays, barrier_stays, put_here}
use Rattle.share_rules.proofs.Taking.{reports_many}
use Rattle.share_turns.specs.declared.share.Share.{Share}
use Rattle.share_turns.specs.declared.share.Share.TheVariants.{Timeline, Barrier}
use Rattle.share_turns.specs.Holdings.{HoldsTwo, IsTimelineBy}
use Rattle.worker_hands.specs.Stepping.{HasEntered, HasReported, HasCrossed}
use Rattle.worker_turns.specs.Turning.{AreAtBarrier, HasEnteredOn, CanReport, HasReportedOn, CanCross, HasCrossedOn}
use Rattle.worker_turns.proofs.Values.{one_timeline, one_barrier}

module _ {B S P : Type 0} (valid : B → Validity S) (carried : B → P → Type 0) (r : B → Reaction S P) (key : CoreView B S P)
    (run : IsCoreOfRun (valid key.behaviour) (carried key.behaviour) (r key.behaviour) key) (i : ℕ) (v : View) (own barrier : Held (Share B S P))
    (at : AreAtBarrier valid carried r key v i own barrier) where
  -- ---- entering and reporting

  module _ (s : Share B S P) (same : s ≡ own.value) (bar : BarrierFields) (bar_is : barrier.value ≡ Barrier bar) (own_after : Share B S P) (did : HasEnteredOn valid carried r i s own_after bar) where
    here : at.value ≡ bar
    here = one_barrier barrier.value at.value bar at.barrier_out.value bar_is

    before : at.timeline ≡ did.t
    before = one_timeline s at.timeline did.t (same ∙ at.out.value) did.own_is

    so : IsTimelineBy valid carried r key v i did.t
    so = subst (λ t. IsTimelineBy valid carried r key v i t) before at.so

    met : AreMet (valid key.behaviour) (carried key.behaviour) (r key.behaviour) key (mark v) i did.t bar
    met = subst (λ t. AreMet (valid key.behaviour) (carried key.behaviour) (r key.behaviour) key (mark v) i t bar) before
        (subst (λ x. AreMet (valid key.behaviour) (carried key.behaviour) (r key.behaviour) key (mark v) i at.timeline x) here at.met)

    entered : HasEntered (valid key.behaviour) (carried key.behaviour) (r key.behaviour) key (mark v) i did.t did.after bar
    entered = did.entered key.behaviour key run (mark v) met

    after_so : IsTimelineBy valid carried r key v i did.after
    after_so = record { sound = entered.met.timeline; noted = entered.noted (note v) so.noted; done = so.done ∙ ap suc (sym entered.executed) }

    module _ (t : TimelineOf B S P) (t_is : own_after ≡ Timeline t) (u : Share B S P) (u_same : u ≡ barrier.value) where
      now : did.after ≡ t
      now = one_timeline own_after did.after t did.own_after_is t_is

      still_met : AreMet (valid key.behaviour) (carried key.behaviour) (r key.behaviour) key (mark v) i t bar
      still_met = subst (λ x. AreMet (valid key.behaviour) (carried key.behaviour) (r key.behaviour) key (mark v) i x bar) now entered.met

      pub may_report : CanReport valid carried r i t u
      may_report = record {
        value = bar;
        barrier_is = u_same ∙ bar_is;
        some = record { behaviour = key.behaviour; key = key; run = run; m = mark v; met = still_met };
      }

      module _ (barrier_after : Share B S P) (told : HasReportedOn valid carried r i t u barrier_after) where
        there : bar ≡ told.value
        there = one_barrier u bar told.value (u_same ∙ bar_is) told.barrier_is

        reported : HasReported (valid key.behaviour) (carried key.behaviour) (r key.behaviour) key (mark v) i t told.value told.after
        reported = told.reported key.behaviour key run (mark v) (subst (λ x. AreMet (valid key.behaviour) (carried key.behaviour) (r key.behaviour) key (mark v) i t x) there still_met)

        same_round : at.value.round ≡ told.after.round
        same_round = ap (λ (x : BarrierFields). x.round) (here ∙ there) ∙ sym reported.round

        pub at_reported : (x y : Share B S P) → x ≡ own_after → y ≡ barrier_after → AreAtBarrier valid carried r key v i (record { place = own.place; value = x }) (record { place = barrier.place; value = y })
        at_reported x y x_is y_is = record {
          timeline = t;
          value = told.after;
          out = record { place = at.out.place; value = x_is ∙ t_is };
          barrier_out = record { place = at.barrier_out.place; value = y_is ∙ told.barrier_after_is };
          so = subst (λ z. IsTimelineBy valid carried r key v i z) now after_so;
          holds = at.holds;
          noted = at.noted ∙ ap suc same_round;
          marked = at.marked ∙ ap suc same_round;
          met = reported.met;
        }

  -- ---- crossing

  module _ (u : Share B S P) (u_same : u ≡ barrier.value) where
    pub may_cross : (law : KeepsValid (valid key.behaviour) (carried key.behaviour) (r key.behaviour)) → IsModest (valid key.behaviour) (carried key.behaviour) (r key.behaviour) → CanCross valid carried r u
    may_cross law modest = record {
      value = at.value;
      barrier_is = u_same ∙ at.barrier_out.value;
      some =
          let many = reports_many (valid key.behaviour) (carried key.behaviour) (r key.behaviour) law modest key run (mark v) at.value at.met.barrier in
          let known = at.so.sound.known in
          omega arith;
    }

    module _ (b : Bool) (barrier_after : Share B S P) (did : HasCrossedOn valid carried r b u barrier_after) where
      was : at.value ≡ did.value
      was = one_barrier u at.value did.value (u_same ∙ at.barrier_out.value) did.barrier_is

      crossed : HasCrossed (valid key.behaviour) (carried key.behaviour) (r key.behaviour) key (mark v) b did.value did.after
      crossed = did.did key.behaviour key run (mark v) (subst (λ x. IsBarrierHeld (valid key.behaviour) (carried key.behaviour) (r key.behaviour) key (mark v) x) was at.met.barrier)

      noted_was : note v (round_word key) ≡ suc did.value.round
      noted_was = at.noted ∙ ap (λ (x : BarrierFields). suc x.round) was

      marked_was : mark v (round_word key) ≡ suc did.value.round
      marked_was = at.marked ∙ ap (λ (x : BarrierFields). suc x.round) was

      passed : HasPassed (valid key.behaviour) (carried key.behaviour) (r key.behaviour) key did.after i at.timeline.executed
      passed = crossed.passed i at.timeline.executed at.so.sound.known (le_of_eq at.met.done)
          (subst (λ x. HasPassed (valid key.behaviour) (carried key.behaviour) (r key.behaviour) key x i at.timeline.executed) was at.met.passed)

      -- where it was not crossed
      pub at_same : b ≡ false → (x y : Share B S P) → x ≡ own.value → y ≡ barrier_after → AreAtBarrier valid carried r key v i (record { place = own.place; value = x }) (record { place = barrier.place; value = y })
      at_same not_crossed x y x_is y_is =
          let round = crossed.same not_crossed in
          record {
            timeline = at.timeline;
            value = did.after;
            out = record { place = at.out.place; value = x_is ∙ at.out.value };
            barrier_out = record { place = at.barrier_out.place; value = y_is ∙ did.barrier_after_is };
            so = at.so;
            holds = at.holds;
            noted = noted_was ∙ ap suc (sym round);
            marked = marked_was ∙ ap suc (sym round);
            met = record {
              timeline = at.met.timeline;
              barrier = crossed.held;
              passed = passed;
              round = le_of_eq (ap suc round ∙ sym marked_was);
              done = at.met.done;
            };
          }

      module _ (bar : BarrierFields) (bar_is : barrier_after ≡ Barrier bar) (n : ℕ) (n_is : n ≡ bar.round) where
        number : n ≡ did.after.round
        number = n_is ∙ ap (λ (x : BarrierFields). x.round) (one_barrier barrier_after bar did.after bar_is did.barrier_after_is)

        pub round_rises : note v (round_word key) ≤ suc n
        round_rises = (let noted = noted_was in let up = crossed.round in let is = number in omega arith)

        pub round_kept : KeepsWith (valid key.behaviour) (carried key.behaviour) (r key.behaviour) key (note v) (mark v) (round_word key) n
        round_kept = subst (λ x. KeepsWith (valid key.behaviour) (carried key.behaviour) (r key.behaviour) key (note v) (mark v) (round_word key) x) (sym number) (crossed.kept (note v) noted_was)

        -- where it was crossed, and the round was written
        module _ (z : View) (written : z ≡ writing v (round_word key) n) (round : mark z (round_word key) ≡ suc n)
            (others : (c : ℕ) → (c ≡ round_word key → ⊥) → (mark z c ≡ mark v c) × (note z c ≡ note v c)) where
          known : i < count_of key
          known = at.so.sound.known

          done_other : (j : ℕ) → j < count_of key → done_word key j ≡ round_word key → ⊥
          done_other j small is = absurd (omega arith)

          posted_other : (k : ℕ) (end : CrossEnd) → slice_get key.ends k ≡ Some end → posted_word key k ≡ round_word key → ⊥
          posted_other k end found is = (let small = get_known key.ends k end found in absurd (omega arith))

          taken_other : (k : ℕ) (end : CrossEnd) → slice_get key.ends k ≡ Some end → taken_word key k ≡ round_word key → ⊥
          taken_other k end found is = (let small = get_known key.ends k end found in let some = known in absurd (omega arith))

          so_later : IsTimelineBy valid carried r key z i at.timeline
          so_later = record {
            sound = timeline_stays (valid key.behaviour) (carried key.behaviour) (r key.behaviour) key (mark v) (mark z) i at.timeline
                (let was_marked = marked_was in let up = crossed.round in let is = number in omega (arith, round)) at.so.sound;
            noted = record {
              posted = λ k end found mine. (others (posted_word key k) (posted_other k end found)).1 ∙ at.so.noted.posted k end found mine;
              taken = λ k end found mine. (others (taken_word key k) (taken_other k end found)).1 ∙ at.so.noted.taken k end found mine;
            };
            done = (others (done_word key i) (done_other i known)).1 ∙ at.so.done;
          }

          pub at_crossed : (x y : Share B S P) → x ≡ own.value → y ≡ barrier_after → AreAtBarrier valid carried r key z i (record { place = own.place; value = x }) (record { place = barrier.place; value = y })
          at_crossed x y x_is y_is = record {
            timeline = at.timeline;
            value = did.after;
            out = record { place = at.out.place; value = x_is ∙ at.out.value };
            barrier_out = record { place = at.barrier_out.place; value = y_is ∙ did.barrier_after_is };
            so = so_later;
            holds = subst (λ q. HoldsTwo q i (barrier_place key)) (sym written) (record { first = at.holds.first; second = at.holds.second; others = at.holds.others });
            noted = ap (λ q. note q (round_word key)) written ∙ (put_here (note v) (round_word key) (suc n) (round_word key) refl ∙ ap suc number);
            marked = round ∙ ap suc number;
            met = record {
              timeline = so_later.sound;
              barrier = barrier_stays (valid key.behaviour) (carried key.behaviour) (r key.behaviour) key (mark v) (mark z) did.after (λ j small. le_of_eq (sym (others (done_word key j) (done_other j small)).0)) crossed.held;
              passed = passed;
              round = le_of_eq (ap suc (sym number) ∙ sym round);
              done = (others (done_word key i) (done_other i known)).0 ∙ at.met.done;
            };
          }
