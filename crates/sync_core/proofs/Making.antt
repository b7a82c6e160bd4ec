-- When a step on all parts is enabled, by the parts that it touches, and what it leaves.
use Rattle.std.proofs.Common.{ℕ, ◌≡◌, ◌<◌, Bool, true, false, nat_eq, nat_lt, refl, sym, ap, ◌∙◌, subst, length, get_or, Option, Some, None, slice_get, inl, inr, eq-eqb, Result, Ok, Err}
use Rattle.std.specs.Prelude.{is_none}
use Rattle.std.specs.Prelude.{IfOk, OnErr}
use Rattle.std.proofs.lemmas.Bool.{ltb-false, ltb-true}
use Rattle.std.proofs.lemmas.Option.{slice_get_read, slice_get_past}
use Rattle.event_order.proofs.Pending.{test_cases}
use Rattle.ssf_model.specs.Reaction.{Reaction, Validity}
use Rattle.plan_shares.specs.declared.crosses.CrossEnd.{CrossEnd}
use Rattle.timeline.specs.View.{TimelineOf}
use Rattle.timeline.specs.Executing.{refusal, IsRun, spent_of}
use Rattle.timeline.specs.Holding.{IsInOrder, ahead_in}
use Rattle.timeline.specs.Moving.{can_enter, entered_at}
use Rattle.appointments.specs.Mails.{Mails, mail_at}
use Rattle.barrier_window.specs.BarrierFields.{BarrierFields}
use Rattle.barrier_window.specs.Crossings.{with_report}
use Rattle.sync_steps.specs.declared.steps.Stepped.{Stepped}
use Rattle.sync_steps.specs.declared.steps.Stepped.TheVariants.{Did, NotEnabled}
use Rattle.sync_steps.specs.declared.steps.Step.{Step}
use Rattle.sync_steps.specs.declared.steps.Step.TheVariants.{Execute, Post, Take, Enter, Report}
use Rattle.sync_steps.specs.Between.{stepped, can_post, can_take, can_report, counts_in, IsPostedTo, IsTakenFrom}
use Rattle.core_rules.specs.Cores.{CoreView}
use Rattle.core_rules.specs.Stepping.{is_enabled, end_at, with_timeline, with_barrier, IsMade, IsSpentIn, IsEnteredIn, IsReportedIn}
use Rattle.sync_core.specs.Cores.{IsOneOf}
use Rattle.sync_core.specs.Steps.{MayStep, IsJoined, receiver_from}
use Rattle.sync_core.proofs.FoundEnds.{end_found, receiver_is}
use Rattle.sync_core.proofs.Keeping.{run_keeps, spent_keeps, enter_keeps, post_keeps, take_keeps}

-- ---- answers

pub stepped_true : (b : Bool) → stepped b ≡ Did → b ≡ true
stepped_true true h = refl
stepped_true false h = absurd (cc)

-- what was made was enabled
pub was_enabled : (done : Stepped) (b : Bool) → done ≡ stepped b → done ≡ Did → b ≡ true
was_enabled done b cause did = stepped_true b (sym cause ∙ did)

module _ {B S P : Type 0} where
  pub not_there : (core : CoreView B S P) (i : ℕ) → nat_lt i (length core.timelines) ≡ false → slice_get core.timelines i ≡ None
  not_there core i h = slice_get_past core.timelines i (ltb-false i (length core.timelines) h)

  -- ---- enabled

  pub execute_is : (core : CoreView B S P) (i : ℕ) (t : TimelineOf B S P) → slice_get core.timelines i ≡ Some t → is_enabled core (Execute i) ≡ is_none (refusal t)
  execute_is core i t at = rw at refl

  pub take_is : (core : CoreView B S P) (i : ℕ) (t : TimelineOf B S P) (mail : Mails P) → slice_get core.timelines i ≡ Some t → slice_get core.mails i ≡ Some mail
      → is_enabled core (Take i) ≡ can_take t mail mail.channels
  take_is core i t mail at its = rw (at, its) refl

  pub enter_is : (core : CoreView B S P) (i : ℕ) (t : TimelineOf B S P) → slice_get core.timelines i ≡ Some t → is_enabled core (Enter i) ≡ can_enter t core.barrier.window core.barrier.counts
  enter_is core i t at = rw at refl

  pub report_is : (core : CoreView B S P) (i : ℕ) (t : TimelineOf B S P) → slice_get core.timelines i ≡ Some t → is_enabled core (Report i) ≡ can_report t i core.barrier
  report_is core i t at = rw at refl

  pub post_is : (core : CoreView B S P) (i c : ℕ) (e : CrossEnd) (t : TimelineOf B S P) (mail : Mails P) → end_at c core.ends ≡ Some e → e.sender ≡ i
      → slice_get core.timelines i ≡ Some t → slice_get core.mails e.receiver ≡ Some mail → is_enabled core (Post i c) ≡ can_post t c (mail_at mail c)
  post_is core i c e t mail known sender at its = let same = eq-eqb e.sender i sender in rw (known, same, at, its) refl

  post_none_by : (core : CoreView B S P) (i c : ℕ) (found : Option CrossEnd) → end_at c core.ends ≡ found → receiver_from i found ≡ None → is_enabled core (Post i c) ≡ false
  post_none_by core i c None is h = rw is refl
  post_none_by core i c (Some e) is h = elim (test_cases (nat_eq e.sender i)) [
    | inl t ↦ let some : Some e.receiver ≡ None = rw t at h in absurd (cc)
    | inr f ↦ rw (is, f) refl
  ]

  pub post_none : (core : CoreView B S P) (i c : ℕ) → receiver_from i (end_at c core.ends) ≡ None → is_enabled core (Post i c) ≡ false
  post_none core i c h = post_none_by core i c (end_at c core.ends) refl h

  pub none_enabled : (core : CoreView B S P) (i : ℕ) → slice_get core.timelines i ≡ None
      → (is_enabled core (Execute i) ≡ false) × (is_enabled core (Take i) ≡ false) × (is_enabled core (Enter i) ≡ false) × (is_enabled core (Report i) ≡ false)
  none_enabled core i none = (rw none refl, rw none refl, rw none refl, rw none refl)

-- ---- from the parts as a core has them inside to what contracts see

module _ {B S P : Type 0} (reaction : B → Reaction S P) (valid : B → Validity S) where
  pub may_inside : (inner core : CoreView B S P) → inner ≡ core → MayStep (valid core.behaviour) (reaction core.behaviour) core → MayStep (valid inner.behaviour) (reaction inner.behaviour) inner
  may_inside inner core same may = subst (λ (k : CoreView B S P). MayStep (valid k.behaviour) (reaction k.behaviour) k) (sym same) may

  pub made_outside : (inner core after : CoreView B S P) (step : Step) → inner ≡ core → IsMade (reaction inner.behaviour) step inner after → IsMade (reaction core.behaviour) step core after
  made_outside inner core after step same made = subst (λ (k : CoreView B S P). IsMade (reaction k.behaviour) step k after) same made

module _ {B S P : Type 0} where
  pub cause_outside : {E : Type 0} (result : Result Stepped E) (inner core : CoreView B S P) (step : Step) (b : Bool) → inner ≡ core → is_enabled inner step ≡ b → IfOk result (λ done. done ≡ stepped b)
      → IfOk result (λ done. done ≡ stepped (is_enabled core step))
  cause_outside result inner core step b same is cause =
      subst (λ (k : CoreView B S P). IfOk result (λ done. done ≡ stepped (is_enabled k step))) same (subst (λ e. IfOk result (λ done. done ≡ stepped e)) (sym is) cause)

  pub enabled_outside : (inner core : CoreView B S P) (step : Step) (b : Bool) (done : Stepped) → inner ≡ core → is_enabled inner step ≡ b → done ≡ stepped b → done ≡ stepped (is_enabled core step)
  enabled_outside inner core step b done same is cause = cause ∙ ap stepped (sym is ∙ ap (λ (k : CoreView B S P). is_enabled k step) same)

  pub test_outside : (inner core : CoreView B S P) (step : Step) (b test : Bool) → inner ≡ core → is_enabled inner step ≡ b → test ≡ b → test ≡ is_enabled core step
  test_outside inner core step b test same is told = told ∙ (sym is ∙ ap (λ (k : CoreView B S P). is_enabled k step) same)

  pub there_inside : (inner core : CoreView B S P) (i : ℕ) (has : Bool) → inner ≡ core → has ≡ nat_lt i (length core.timelines) → has ≡ true → i < length inner.timelines
  there_inside inner core i has same is there = subst (λ (k : CoreView B S P). i < length k.timelines) (sym same) (ltb-true i (length core.timelines) (sym is ∙ there))

  pub timeline_at : (inner : CoreView B S P) (i : ℕ) (t : TimelineOf B S P) → i < length inner.timelines → t ≡ get_or inner.timelines i t → slice_get inner.timelines i ≡ Some t
  timeline_at inner i t there read = slice_get_read inner.timelines (length inner.timelines) i t refl there read

  pub mail_in : (inner : CoreView B S P) (i : ℕ) (mail : Mails P) → i < length inner.mails → mail ≡ get_or inner.mails i mail → slice_get inner.mails i ≡ Some mail
  mail_in inner i mail there read = slice_get_read inner.mails (length inner.mails) i mail refl there read

  pub not_made : (core : CoreView B S P) (step : Step) (done : Stepped) → is_enabled core step ≡ false → done ≡ NotEnabled → done ≡ stepped (is_enabled core step)
  not_made core step done off is = is ∙ ap stepped (sym off)

  -- ---- a timeline that was to execute

  pub execute_keeps : (until : ℕ) (r : Reaction S P) (t next : TimelineOf B S P) {E : Type 0} (result : Result Stepped E) → (result ≡ Ok Did → IsRun r t next) → (result ≡ Ok NotEnabled → next ≡ t)
      → OnErr result (next ≡ spent_of t next) → IsOneOf until t → IsOneOf until next
  execute_keeps until r t next (Ok Did) made kept spent q = run_keeps until r t next (made refl) q
  execute_keeps until r t next (Ok NotEnabled) made kept spent q = subst (IsOneOf until) (sym (kept refl)) q
  execute_keeps until r t next (Err e) made kept spent q = spent_keeps until t next spent q

  pub spent_in : (core after : CoreView B S P) (i : ℕ) (t next : TimelineOf B S P) {E : Type 0} (result : Result Stepped E) → slice_get core.timelines i ≡ Some t → after ≡ with_timeline i next core
      → OnErr result (refusal t ≡ None) → OnErr result (next ≡ spent_of t next) → OnErr result (IsInOrder next) → OnErr result (IsSpentIn i core after)
  spent_in core after i t next (Ok done) own is free spent order = tt
  spent_in core after i t next (Err e) own is free spent order = record { timeline = t; next = next; own = own; free = free; spent = spent; order = order; is = is }

  pub spent_outside : (inner core after : CoreView B S P) (i : ℕ) {E : Type 0} (result : Result Stepped E) → inner ≡ core → OnErr result (IsSpentIn i inner after) → OnErr result (IsSpentIn i core after)
  spent_outside inner core after i result same spent = subst (λ (k : CoreView B S P). OnErr result (IsSpentIn i k after)) same spent

  -- ---- made steps

  pub entered_made : (core : CoreView B S P) (i : ℕ) (t next : TimelineOf B S P) → slice_get core.timelines i ≡ Some t → can_enter t core.barrier.window core.barrier.counts ≡ true
      → next ≡ entered_at core.barrier.window t → IsEnteredIn i core (with_timeline i next core)
  entered_made core i t next own may is = record { timeline = t; own = own; may = may; is = ap (λ (x : TimelineOf B S P). with_timeline i x core) is }

  pub reported_made : (core : CoreView B S P) (i : ℕ) (t : TimelineOf B S P) (next : BarrierFields) → slice_get core.timelines i ≡ Some t → can_report t i core.barrier ≡ true
      → next ≡ with_report i (ahead_in t) (counts_in t) core.barrier → IsReportedIn i core (with_barrier next core)
  reported_made core i t next own may is = record { timeline = t; own = own; may = may; is = ap (λ (x : BarrierFields). with_barrier x core) is }

  -- ---- one that was to enter, post or take

  pub enter_keeps_or : (until window : ℕ) (t next : TimelineOf B S P) (result : Stepped) → (result ≡ Did → next ≡ entered_at window t) → ((result ≡ Did → ⊥) → next ≡ t) → IsOneOf until t → IsOneOf until next
  enter_keeps_or until window t next Did made kept q = enter_keeps until window t next (made refl) q
  enter_keeps_or until window t next NotEnabled made kept q = subst (IsOneOf until) (sym (kept (λ e. absurd (cc)))) q

  pub post_keeps_or : (until c : ℕ) (t next : TimelineOf B S P) (mail filled : Mails P) {E : Type 0} (result : Result Stepped E) → (result ≡ Ok Did → IsPostedTo c t next mail filled) → ((result ≡ Ok Did → ⊥) → next ≡ t)
      → IsOneOf until t → IsOneOf until next
  post_keeps_or until c t next mail filled (Ok Did) made kept q = post_keeps until c t next (made refl).timeline q
  post_keeps_or until c t next mail filled (Ok NotEnabled) made kept q = subst (IsOneOf until) (sym (kept (λ e. absurd (cc)))) q
  post_keeps_or until c t next mail filled (Err e) made kept q = subst (IsOneOf until) (sym (kept (λ e. absurd (cc)))) q

  pub take_keeps_or : (until : ℕ) (t next : TimelineOf B S P) (mail emptied : Mails P) {E : Type 0} (result : Result Stepped E) → (result ≡ Ok Did → IsTakenFrom mail emptied t next) → ((result ≡ Ok Did → ⊥) → next ≡ t)
      → IsOneOf until t → IsOneOf until next
  take_keeps_or until t next mail emptied (Ok Did) made kept q = take_keeps until mail emptied t next (made refl) q
  take_keeps_or until t next mail emptied (Ok NotEnabled) made kept q = subst (IsOneOf until) (sym (kept (λ e. absurd (cc)))) q
  take_keeps_or until t next mail emptied (Err e) made kept q = subst (IsOneOf until) (sym (kept (λ e. absurd (cc)))) q

-- what a call that was made answers tells that it was enabled
pub ok_enabled : {E : Type 0} (result : Result Stepped E) (b : Bool) → IfOk result (λ done. done ≡ stepped b) → result ≡ Ok Did → b ≡ true
ok_enabled (Ok done) b cause did = let same : done ≡ Did = cc in stepped_true b (sym cause ∙ same)
ok_enabled (Err e) b cause did = absurd (cc)

-- ---- the end of a channel

end_is : (e : CrossEnd) (c s r : ℕ) → e.channel ≡ c → e.sender ≡ s → e.receiver ≡ r → e ≡ record { channel = c; sender = s; receiver = r }
end_is e c s r x y z = rw (← x, ← y, ← z) refl

module _ {B S P : Type 0} where
  joined_by : (valid : Validity S) (r : Reaction S P) (core : CoreView B S P) (sender channel receiver : ℕ) → MayStep valid r core → receiver_from sender (end_at channel core.ends) ≡ Some receiver
      → (end_at channel core.ends ≡ Some (record { channel = channel; sender = sender; receiver = receiver })) × IsJoined core (record { channel = channel; sender = sender; receiver = receiver })
  joined_by valid r core sender channel receiver may h =
      let found = receiver_is (end_at channel core.ends) sender receiver h in
      let known = end_found core.ends channel found.0 found.1 in
      let same = end_is found.0 channel sender receiver known.1 found.2 found.3 in
      (found.1 ∙ ap Some same, subst (λ (e : CrossEnd). IsJoined core e) same (may.joined found.0 known.0))

  pub end_listed : (valid : Validity S) (r : Reaction S P) (core : CoreView B S P) (sender channel receiver : ℕ) → MayStep valid r core → receiver_from sender (end_at channel core.ends) ≡ Some receiver
      → end_at channel core.ends ≡ Some (record { channel = channel; sender = sender; receiver = receiver })
  end_listed valid r core sender channel receiver may h = (joined_by valid r core sender channel receiver may h).0

  pub end_joined : (valid : Validity S) (r : Reaction S P) (core : CoreView B S P) (sender channel receiver : ℕ) → MayStep valid r core → receiver_from sender (end_at channel core.ends) ≡ Some receiver
      → IsJoined core (record { channel = channel; sender = sender; receiver = receiver })
  end_joined valid r core sender channel receiver may h = (joined_by valid r core sender channel receiver may h).1

  pub receiver_inside : (inner core : CoreView B S P) (sender channel : ℕ) (result : Option ℕ) (receiver : ℕ) → inner ≡ core → result ≡ receiver_from sender (end_at channel core.ends) → result ≡ Some receiver
      → receiver_from sender (end_at channel inner.ends) ≡ Some receiver
  receiver_inside inner core sender channel result receiver same is found = subst (λ (k : CoreView B S P). receiver_from sender (end_at channel k.ends) ≡ Some receiver) (sym same) (sym is ∙ found)
