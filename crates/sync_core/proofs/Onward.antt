-- What steps leave of all parts: histories grow.
use Rattle.std.proofs.Common.{ℕ, ◌≡◌, inl, inr, refl, sym, ap, ◌∙◌, subst, arith, List, [], ◌∷◌, ◌++◌, length-append, length-set, set, Some, slice_get}
use Rattle.std.proofs.lemmas.List.{append_assoc, append-nil}
use Rattle.ssf_model.specs.Reaction.{Reaction}
use Rattle.ssf_model.specs.Run.{entry_by}
use Rattle.timeline.specs.View.{TimelineOf}
use Rattle.timeline.specs.Executing.{IsRun}
use Rattle.appointments.specs.Mails.{Mails, mail_at}
use Rattle.appointments.specs.Posts.{taken_parcel}
use Rattle.sync_steps.specs.declared.steps.Step.{Step}
use Rattle.sync_steps.specs.declared.steps.Step.TheVariants.{Execute, Post, Take, Enter, Report, Cross}
use Rattle.sync_steps.specs.Between.{taken_all, taken_on}
use Rattle.core_rules.specs.Cores.{CoreView}
use Rattle.core_rules.specs.Stepping.{IsMade, IsSpentIn, with_timeline, with_mail_of, with_barrier}
use Rattle.core_rules.proofs.Lists.{got_at, get_known}
use Rattle.sync_core.specs.Driving.{HasGrown, HaveGrown, IsOnward}
use Rattle.sync_core.proofs.Lists.{set_cases}

module _ {B S P : Type 0} where
  -- ---- one timeline

  kept_grown : (t next : TimelineOf B S P) → next.history ≡ t.history → next.executed ≡ t.executed → HasGrown t next
  kept_grown t next history executed = record { more = []; history = history ∙ sym (append-nil t.history); executed = omega (arith, executed) }

  more_grown : (t u v : TimelineOf B S P) → HasGrown t u → HasGrown u v → HasGrown t v
  more_grown t u v a b = record {
    more = a.more ++ b.more;
    history = b.history ∙ (ap (λ l. l ++ b.more) a.history ∙ append_assoc t.history a.more b.more);
    executed = omega (arith, a.executed, b.executed, length-append a.more b.more);
  }

  run_grown : (r : Reaction S P) (t next : TimelineOf B S P) → IsRun r t next → HasGrown t next
  run_grown r t next q = record {
    more = entry_by r q.event (Some q.entity) ∷ [];
    history = ap (λ (x : TimelineOf B S P). x.history) q.is;
    executed = ap (λ (x : TimelineOf B S P). x.executed) q.is;
  }

  taken_history : (mail : Mails P) (cs : List ℕ) (t : TimelineOf B S P) → (taken_all mail cs t).history ≡ t.history
  taken_history mail [] t = refl
  taken_history mail (c ∷ cs) t = taken_history mail cs (taken_on c (taken_parcel (mail_at mail c)) t)

  taken_executed : (mail : Mails P) (cs : List ℕ) (t : TimelineOf B S P) → (taken_all mail cs t).executed ≡ t.executed
  taken_executed mail [] t = refl
  taken_executed mail (c ∷ cs) t = taken_executed mail cs (taken_on c (taken_parcel (mail_at mail c)) t)

  -- ---- all timelines

  same_grown : (ts : List (TimelineOf B S P)) → HaveGrown ts ts
  same_grown ts = record { many = refl; each = λ i t next one two. let same : t ≡ next = one_of t next (sym one ∙ two) in subst (λ (u : TimelineOf B S P). HasGrown t u) same (kept_grown t t refl refl) }
    where
      one_of : (t u : TimelineOf B S P) → Some t ≡ Some u → t ≡ u
      one_of t u h = cc

  set_grown : (ts : List (TimelineOf B S P)) (i : ℕ) (t next : TimelineOf B S P) → slice_get ts i ≡ Some t → HasGrown t next → HaveGrown ts (set ts i next)
  set_grown ts i t next own grown = record {
    many = length-set ts i next;
    each = λ k u v before after. elim (set_cases ts i k next v after) [
      | inl here ↦ at_place k u v here.0 here.1 before
      | inr there ↦ (same_grown ts).each k u v before there
    ];
  }
    where
      one_of : (t u : TimelineOf B S P) → Some t ≡ Some u → t ≡ u
      one_of t u h = cc

      at_place : (k : ℕ) (u v : TimelineOf B S P) → k ≡ i → v ≡ next → slice_get ts k ≡ Some u → HasGrown u v
      at_place k u v place is before =
          let same : t ≡ u = one_of t u (sym own ∙ (ap (λ n. slice_get ts n) (sym place) ∙ before)) in
          subst (λ (x : TimelineOf B S P). HasGrown x v) same (subst (λ (y : TimelineOf B S P). HasGrown t y) (sym is) grown)

  all_grown : (ts us vs : List (TimelineOf B S P)) → HaveGrown ts us → HaveGrown us vs → HaveGrown ts vs
  all_grown ts us vs a b = record {
    many = b.many ∙ a.many;
    each = λ i t v one two.
        let within = get_known ts i t one in
        let between = got_at us i (omega (arith, within, a.many)) in
        more_grown t between.0 v (a.each i t between.0 one between.1) (b.each i between.0 v between.1 two);
  }

  -- ---- all parts

  pub none_onward : (core : CoreView B S P) → IsOnward core core
  none_onward core = record { grown = same_grown core.timelines; behaviour = refl; ends = refl; until = refl; budget = refl; before = refl; starts = refl }

  pub more_onward : (core between after : CoreView B S P) → IsOnward core between → IsOnward between after → IsOnward core after
  more_onward core between after a b = record {
    grown = all_grown core.timelines between.timelines after.timelines a.grown b.grown;
    behaviour = b.behaviour ∙ a.behaviour;
    ends = b.ends ∙ a.ends;
    until = b.until ∙ a.until;
    budget = b.budget ∙ a.budget;
    before = b.before ∙ a.before;
    starts = b.starts ∙ a.starts;
  }

  timeline_onward : (core : CoreView B S P) (i : ℕ) (t next : TimelineOf B S P) → slice_get core.timelines i ≡ Some t → HasGrown t next → IsOnward core (with_timeline i next core)
  timeline_onward core i t next own grown = record { grown = set_grown core.timelines i t next own grown; behaviour = refl; ends = refl; until = refl; budget = refl; before = refl; starts = refl }

  mail_onward : (core after : CoreView B S P) (j : ℕ) (mail : Mails P) → IsOnward core after → IsOnward core (with_mail_of j mail after)
  mail_onward core after j mail q = record { grown = q.grown; behaviour = q.behaviour; ends = q.ends; until = q.until; budget = q.budget; before = q.before; starts = q.starts }

  is_onward : (core after there : CoreView B S P) → there ≡ after → IsOnward core after → IsOnward core there
  is_onward core after there is q = subst (λ (k : CoreView B S P). IsOnward core k) (sym is) q

  pub made_onward : (r : Reaction S P) (step : Step) (core after : CoreView B S P) → IsMade r step core after → IsOnward core after
  made_onward r (Execute i) core after q = is_onward core (with_timeline i q.next core) after q.is (timeline_onward core i q.timeline q.next q.own (run_grown r q.timeline q.next q.run))
  made_onward r (Post i c) core after q =
      is_onward core (with_mail_of q.end.receiver q.filled (with_timeline i q.next core)) after q.is
      (mail_onward core (with_timeline i q.next core) q.end.receiver q.filled (timeline_onward core i q.timeline q.next q.own
      (kept_grown q.timeline q.next (ap (λ (x : TimelineOf B S P). x.history) q.posted.timeline) (ap (λ (x : TimelineOf B S P). x.executed) q.posted.timeline))))
  made_onward r (Take i) core after q =
      is_onward core (with_mail_of i q.emptied (with_timeline i q.next core)) after q.is
      (mail_onward core (with_timeline i q.next core) i q.emptied (timeline_onward core i q.timeline q.next q.own
      (kept_grown q.timeline q.next (ap (λ (x : TimelineOf B S P). x.history) q.taken.timeline ∙ taken_history q.mail q.mail.channels q.timeline)
      (ap (λ (x : TimelineOf B S P). x.executed) q.taken.timeline ∙ taken_executed q.mail q.mail.channels q.timeline))))
  made_onward r (Enter i) core after q =
      is_onward core (with_timeline i _ core) after q.is (timeline_onward core i q.timeline _ q.own (kept_grown q.timeline _ refl refl))
  made_onward r (Report i) core after q = is_onward core (with_barrier _ core) after q.is (record { grown = same_grown core.timelines; behaviour = refl; ends = refl; until = refl; budget = refl; before = refl; starts = refl })
  made_onward r Cross core after q = is_onward core (with_barrier _ core) after q.is (record { grown = same_grown core.timelines; behaviour = refl; ends = refl; until = refl; budget = refl; before = refl; starts = refl })

  pub spent_onward : (i : ℕ) (core after : CoreView B S P) → IsSpentIn i core after → IsOnward core after
  spent_onward i core after q =
      is_onward core (with_timeline i q.next core) after q.is (timeline_onward core i q.timeline q.next q.own
      (kept_grown q.timeline q.next (ap (λ (x : TimelineOf B S P). x.history) q.spent) (ap (λ (x : TimelineOf B S P). x.executed) q.spent)))
