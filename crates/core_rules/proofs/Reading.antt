-- What sound parts mean for those who make calls and who read.
use Rattle.std.proofs.Common.{◌≡◌, ℕ, zero, suc, ◌+◌, ◌<◌, ◌≤◌, ◌⊎◌, Bool, true, false, not, ◌&&◌, nat_eq, List, [], ◌∷◌, length, map, refl, sym, ap, ◌∙◌, subst, inl, inr, arith, eq-eqb, eqb-true, Option, Some, None, is_none, slice_get, slice_index}
use Rattle.std.specs.List.{All, Contains}
use Rattle.event_order.specs.declared.key.Key.{Key}
use Rattle.event_order.specs.Order.{IsBefore}
use Rattle.event_order.specs.Pending.{Among}
use Rattle.event_order.proofs.Pending.{test_cases, append_among}
use Rattle.ssf_model.specs.declared.event.Event.{Event}
use Rattle.ssf_model.specs.declared.event.Entry.{Entry}
use Rattle.ssf_model.specs.declared.plan.Plan.{Plan}
use Rattle.ssf_model.specs.Reaction.{Reaction, Validity, KeepsValid, LatestTime}
use Rattle.ssf_model.specs.Deliver.{IsModest}
use Rattle.ssf_model.specs.Run.{States, Fits}
use Rattle.ssf_model.specs.Scene.{Scene, Net, scene_of, event_at, time_of}
use Rattle.ssf_model.specs.Truth.{is_on_line, HasReached}
use Rattle.sync_rules.specs.Parts.{Line, MailOf, CoreOf}
use Rattle.sync_rules.specs.Bounds.{IsInto, IsOutOf, bound_of, low_of, safe_bound}
use Rattle.sync_rules.specs.Shared.{IsShared}
use Rattle.sync_rules.specs.Sound.{IsCounted, IsOwnEvent}
use Rattle.sync_rules.specs.Steps.{CanExecute, CanPost, CanTake, CanEnter, CanReport, CanCross, IsStep, IsOver, BudgetEndsAt}
use Rattle.sync_rules.specs.Steps.IsStep.{executes, posts, takes, enters, reports, crosses}
use Rattle.sync_rules.proofs.Bounds.{safe_below, safe_above, safe_most}
use Rattle.sync_rules.proofs.Stuck.{never_stuck}
use Rattle.sync_rules.proofs.Wholes.{safe_is_done, ended_is_done, budget_is}
use Rattle.timeline_parts.specs.Tables.{numbers_of, AreRising}
use Rattle.timeline_parts.specs.Parts.{channel_of}
use Rattle.timeline_parts.specs.Settling.{AreNew}
use Rattle.timeline.specs.View.{TimelineOf, key_of}
use Rattle.timeline.specs.Holding.{bound_in, low_in, is_over}
use Rattle.timeline.specs.Executing.{refusal, MayRun}
use Rattle.timeline.specs.Moving.{can_enter}
use Rattle.timeline.specs.Lines.{line_of, posted_of}
use Rattle.timeline.specs.Sound.{IsRunOnLines, CountsAt, HasNext}
use Rattle.timeline.proofs.Executed.{keys, may_run, can_execute, may_execute, is_over_here, is_over_if, of_history}
use Rattle.timeline.proofs.Free.{over_is, next_low}
use Rattle.timeline.proofs.Moved.{take_late, take_after, may_enter, enters_if_may}
use Rattle.timeline.proofs.TellsBounds.{bound_is, low_is, number_among, item_among}
use Rattle.appointments.specs.Mails.{Mails, mail_at}
use Rattle.appointments.specs.Mails.{posted_of as posted_to}
use Rattle.appointments.specs.Posts.{taken_parcel}
use Rattle.barrier_window.specs.Crossings.{first_without}
use Rattle.plan_shares.specs.declared.crosses.CrossEnd.{CrossEnd}
use Rattle.sync_steps.specs.declared.steps.Step.{Step}
use Rattle.sync_steps.specs.declared.steps.Step.TheVariants.{Execute, Post, Take, Enter, Report, Cross}
use Rattle.sync_steps.specs.Between.{HasItsEnds, IsMailOf, can_post, can_take, can_report, events_on, taken_on}
use Rattle.sync_steps.specs.Sounds.{mail_as, AreSoundMails, number_of, barrier_as}
use Rattle.sync_steps.proofs.SoundPairs.{out_known, post_enabled, post_possible, mail_new, take_enabled, take_possible, outs_contained, report_enabled, report_possible}
use Rattle.sync_steps.proofs.Taking.{contained}
use Rattle.core_rules.specs.Cores.{CoreView, channel_in, core_as, IsPartOf, IsSoundFor}
use Rattle.core_rules.specs.Stepping.{passes, end_at, can_execute_in, can_post_to, can_post_in, can_take_in, can_enter_in, can_report_in, can_cross, is_enabled}
use Rattle.core_rules.specs.Leading.{MayStep}
use Rattle.core_rules.specs.Reading.{least_low_in, safe_bound_in, BudgetEndsIn, IsSpentAt}
use Rattle.core_rules.proofs.Lists.{differ_test, one_of, none_some, got_at}
use Rattle.core_rules.proofs.Parts.{end_found, timeline_known, timeline_there, mail_there, line_here, mail_here, own_mails, joined}
use Rattle.core_rules.proofs.Executes.{barrier_for}
use Rattle.core_rules.proofs.Crosses.{all_told, none_without, not_true, and_both, none_of}

all_of : {T : Type 0} (Q : T → Type 0) (xs : List T) → ((x : T) → Among x xs → Q x) → All Q xs
all_of Q [] each k d h = absurd (omega arith)
all_of Q (x ∷ xs) each zero d h = each x (inl refl)
all_of Q (x ∷ xs) each (suc k) d h = all_of Q xs (λ y a. each y (inr a)) k d (omega arith)

events_of : {P : Type 0} (mail : Mails P) (cs : List ℕ) (e : Event P) → Among e (events_on mail cs) → (c : ℕ) × Among c cs × Among e (mail_at mail c).events
events_of mail [] e a = absurd a
events_of mail (c ∷ cs) e a = elim (append_among e (mail_at mail c).events (events_on mail cs) a) [
  | inl here ↦ (c, inl refl, here)
  | inr there ↦ (let q = events_of mail cs e there in (q.0, inr q.1, q.2))
]

channel_there : (ends : List CrossEnd) (e : CrossEnd) → Among e ends → Among e.channel (map channel_in ends)
channel_there [] e a = absurd a
channel_there (x ∷ xs) e (inl same) = inl (ap channel_in same)
channel_there (x ∷ xs) e (inr a) = inr (channel_there xs e a)

end_of_channel : (ends : List CrossEnd) (e : CrossEnd) → AreRising (map channel_in ends) → Among e ends → end_at e.channel ends ≡ Some e
end_of_channel [] e rising a = absurd a
end_of_channel (x ∷ xs) e rising (inl same) =
    let t : nat_eq x.channel e.channel ≡ true = eq-eqb x.channel e.channel (ap channel_in (sym same)) in
    rw t (ap (λ (d : CrossEnd). Some d) (sym same))
end_of_channel (x ∷ xs) e rising (inr a) =
    let less : x.channel < e.channel = rising.0 e.channel (channel_there xs e a) in
    let f : nat_eq x.channel e.channel ≡ false = differ_test x.channel e.channel (λ same. omega arith) in
    rw f (end_of_channel xs e rising.1 a)

got_among : (xs : List ℕ) (place x : ℕ) → slice_get xs place ≡ Some x → Among x xs
got_among [] place x found = absurd (none_some x found)
got_among (y ∷ ys) zero x found = inl (sym (one_of y x found))
got_among (y ∷ ys) (suc place) x found = inr (got_among ys place x found)

number_here : (channels numbers : List ℕ) (place c : ℕ) → AreRising channels → length numbers ≡ length channels → slice_get channels place ≡ Some c → slice_index numbers place ≡ number_of channels numbers c
number_here [] ns place c r each found = absurd (none_some c found)
number_here (k ∷ ks) [] place c r each found = absurd (omega arith)
number_here (k ∷ ks) (n ∷ ns) zero c r each found = (let is : k ≡ c = one_of k c found in let t : nat_eq k c ≡ true = eq-eqb k c is in rw t refl)
number_here (k ∷ ks) (n ∷ ns) (suc place) c r each found =
    let less : k < c = r.0 c (got_among ks place c found) in
    let other : nat_eq k c ≡ false = differ_test k c (λ e. omega arith) in
    rw other (number_here ks ns place c r.1 (omega arith) found)

module _ {B S P : Type 0} where
  low_below : (end : ℕ) (ts : List (TimelineOf B S P)) (i : ℕ) (t : TimelineOf B S P) → slice_get ts i ≡ Some t → least_low_in end ts ≤ low_in t
  low_below end [] i t found = absurd (none_some t found)
  low_below end (u ∷ us) zero t found = (let same : low_in u ≡ low_in t = ap low_in (one_of u t found) in omega arith)
  low_below end (u ∷ us) (suc i) t found = (let rest = low_below end us i t found in omega arith)

  low_above : (end n : ℕ) (ts : List (TimelineOf B S P)) → n ≤ end → ((i : ℕ) (t : TimelineOf B S P) → slice_get ts i ≡ Some t → n ≤ low_in t) → n ≤ least_low_in end ts
  low_above end n [] top all = top
  low_above end n (u ∷ us) top all = (let here = all 0 u refl in let rest = low_above end n us top (λ i t found. all (suc i) t found) in omega arith)

  low_top : (end : ℕ) (ts : List (TimelineOf B S P)) → least_low_in end ts ≤ end
  low_top end [] = omega arith
  low_top end (u ∷ us) = (let rest = low_top end us in omega arith)

passes_some : {T : Type 0} (o : Option T) (test : T → Bool) → passes o test ≡ true → (x : T) × (o ≡ Some x) × (test x ≡ true)
passes_some None test h = absurd (let wrong : false ≡ true = h in cc)
passes_some (Some x) test h = (x, refl, h)

passed : {T : Type 0} (o : Option T) (x : T) (test : T → Bool) → o ≡ Some x → test x ≡ true → passes o test ≡ true
passed {T} o x test is h = ap (λ (p : Option T). passes p test) is ∙ h

module _ {B S P : Type 0} (r : Reaction S P) (valid : Validity S) (carried : P → Type 0) (law : KeepsValid valid carried r) (modest : IsModest valid carried r)
    (plan : Plan B S P) (until : ℕ) (in_time : until ≤ LatestTime) (fits : Fits valid carried plan) (kept : Key → Bool) (line : ℕ → ℕ) (net : Net)
    (core : CoreView B S P) (at : ℕ → ℕ) (v : ℕ) (on : IsRunOnLines plan line core.budget (scene_of r plan until kept line net)) (sound : IsSoundFor plan line (scene_of r plan until kept line net) core at v) where
  abbrev s : Scene (States B S P) (Event P)
  s = scene_of r plan until kept line net

  abbrev seen : CoreOf (Event P)
  seen = core_as s.net at core

  sh : IsShared s
  sh = on.shared

  key_is : s.machine.key ≡ key_of
  key_is = keys r valid carried law modest plan until in_time fits kept line net

  module _ (i : ℕ) (t : TimelineOf B S P) (own : slice_get core.timelines i ≡ Some t) where
    part : IsPartOf plan line s core i (at i) t
    part = sound.each i t own

    here : IsRunOnLines plan line t.budget s
    here = subst (λ n. IsRunOnLines plan line n s) (sym part.budget) on

    bound_told : bound_in t ≡ bound_of s.net i (line_of (at i) t)
    bound_told = bound_is s.net sh.joining i t part.sound.order.in_ends part.sound.placed (at i)

    pub low_told : low_in t ≡ low_of s i (line_of (at i) t)
    low_told = low_is s key_is i (at i) t bound_told

    -- ---- what the calls ask

    pub execute_asks : (event : Event P) (rest : List (Event P)) → t.pending ≡ event ∷ rest → refusal t ≡ None → MayRun valid r t event rest
    execute_asks event rest first free = may_run r valid carried law modest plan until in_time fits kept line net i (at i) t here part.sound event rest first free

    module _ (c : ℕ) (end : CrossEnd) (listed : end_at c core.ends ≡ Some end) (sender : end.sender ≡ i) where
      told : (s.net.cross c ≡ true) × (s.net.sender c ≡ i) × (s.net.receiver c ≡ end.receiver)
      told =
          let found = end_found c core.ends end listed in
          let q = sound.ends.each end found.0 in
          (subst (λ n. s.net.cross n ≡ true) found.1 q.0, subst (λ n. s.net.sender n ≡ end.sender) found.1 q.1 ∙ sender, subst (λ n. s.net.receiver n ≡ end.receiver) found.1 q.2)

      pub goes_out : IsOutOf s.net i c
      goes_out = record { cross = told.0; sender = told.1 }

      pub post_out : Among c (numbers_of t.out_ends)
      post_out = out_known plan line s key_is sh i (at i) t part.sound c goes_out

      pub post_known : end.receiver < length core.timelines
      post_known = subst (λ n. end.receiver < n) (sym sound.timelines) (subst (λ n. n < s.net.timelines) told.2 (sh.joining.receiver c told.0))

      module _ (mail : Mails P) (its : slice_get core.mails end.receiver ≡ Some mail) where
        pub post_joined : posted_to (mail_at mail c) ≡ posted_of t.out_ends c
        post_joined = joined plan line s core at v sound i c end.receiver t mail own goes_out told.2 its

        -- the channel is one of the mail of the timeline to which it goes
        pub post_mail : Contains mail.channels c
        post_mail =
            let other = got_at core.timelines end.receiver post_known in
            let u : TimelineOf B S P = other.0 in
            let of = sound.each end.receiver u other.1 in
            let mine : IsMailOf mail u = of.mail mail its in
            let into : IsInto s.net end.receiver c = record { cross = told.0; receiver = told.2 } in
            let found = of.sound.placed.ins c into in
            let among : Among c (numbers_of u.in_ends) = number_among (c, found.0) u.in_ends (item_among c found.0 u.in_ends found.1) in
            contained mail.channels c (subst (λ ns. Among c ns) (mine.ends ∙ sym mine.channels) among)

    module _ (mail : Mails P) (its : slice_get core.mails i ≡ Some mail) where
      pub take_own : IsMailOf mail t
      take_own = part.mail mail its

      sent : AreSoundMails s i mail
      sent = own_mails plan line s core at v sound i mail its

      pub take_new : AreNew (events_on mail mail.channels) t.pending
      take_new = mail_new plan line s key_is sh i (at i) mail t part.sound take_own sent

      -- ---- no event comes too late

      known : (c : ℕ) → Among c mail.channels → Among c (numbers_of t.in_ends)
      known c a = subst (λ ns. Among c ns) (take_own.channels ∙ sym take_own.ends) a

      into : (c : ℕ) → Among c mail.channels → IsInto s.net i c
      into c a = part.sound.placed.into c (known c a)

      pub comes_late : (e : Event P) → Among e (events_on mail mail.channels) → bound_in t ≤ e.key.time
      comes_late e a =
          let q = events_of mail mail.channels e a in
          take_late plan line s key_is sh i (at i) t part.sound q.0 (taken_parcel (mail_at mail q.0)) (taken_on q.0 (taken_parcel (mail_at mail q.0)) t) (known q.0 q.1) (record { spare = omega arith; is = refl })
          (take_own.taken q.0 q.1) (sent q.0 (into q.0 q.1)).parcel e q.2

      pub comes_after : (j : ℕ) (d e : Event P) → j < at i → event_at s j ≡ Some d → is_on_line s i d ≡ true → Among e (events_on mail mail.channels) → IsBefore d.key e.key
      comes_after j d e below is mine a =
          let q = events_of mail mail.channels e a in
          take_after plan line s key_is sh i (at i) t part.sound q.0 (taken_parcel (mail_at mail q.0)) (taken_on q.0 (taken_parcel (mail_at mail q.0)) t) (known q.0 q.1) (record { spare = omega arith; is = refl })
          (take_own.taken q.0 q.1) (sent q.0 (into q.0 q.1)).parcel j d e below is mine q.2

      pub after_history : (x : Entry) (e : Event P) → Among x t.history → Among e (events_on mail mail.channels) → IsBefore x.key e.key
      after_history x e among a =
          let of = of_history r valid carried law modest plan until in_time fits kept line net i (at i) t here part.sound x among in
          subst (λ k. IsBefore k e.key) (sym of.key_is) (comes_after of.number of.event e of.below of.is of.own_event a)

    pub report_ends : HasItsEnds t
    report_ends = part.ends

    pub report_known : i < length core.barrier.reports
    report_known = (barrier_for plan line s key_is sh core at v sound i t own).known

    pub report_cross : All (Contains core.barrier.channels) (map channel_of t.outs)
    report_cross =
        let q = barrier_for plan line s key_is sh core at v sound i t own in
        all_of (Contains core.barrier.channels) (map channel_of t.outs)
        (λ c a. contained core.barrier.channels c (outs_contained plan line s key_is sh i (at i) t part.sound part.ends core.barrier q.each q.crosses q.known c a))

  -- the two timelines of a channel are there
  pub post_receiver : (c : ℕ) (end : CrossEnd) → end_at c core.ends ≡ Some end
      → (end.sender < length core.timelines) × (end.receiver < length core.timelines) × (length core.mails ≡ length core.timelines)
  post_receiver c end listed =
      let found = end_found c core.ends end listed in
      let q = sound.ends.each end found.0 in (
        subst (λ n. end.sender < n) (sym sound.timelines) (subst (λ n. n < s.net.timelines) q.1 (sh.joining.sender end.channel q.0)),
        subst (λ n. end.receiver < n) (sym sound.timelines) (subst (λ n. n < s.net.timelines) q.2 (sh.joining.receiver end.channel q.0)),
        sound.mails ∙ sym sound.timelines,
      )

  -- ---- the safe bound

  pub safe_same : safe_bound_in core ≡ safe_bound s seen.lines
  safe_same =
      let end = sound.until in
      let up : safe_bound_in core ≤ safe_bound s seen.lines = safe_above s seen.lines (safe_bound_in core) (let top = low_top (core.until + 1) core.timelines in omega arith) (λ i known. (
      let found = timeline_there plan line s core at v sound i known in
      let low = low_below (core.until + 1) core.timelines i found.0 found.1 in
      let same : low_in found.0 ≡ low_of s i (seen.lines i) = low_told i found.0 found.1 ∙ ap (low_of s i) (sym (line_here plan line s core at v sound i found.0 found.1)) in
      omega (arith, low, same))) in
      let down : safe_bound s seen.lines ≤ safe_bound_in core = low_above (core.until + 1) (safe_bound s seen.lines) core.timelines (let top = safe_most s seen.lines in omega arith) (λ i t own. (
      let below = safe_below s seen.lines i (timeline_known plan line s core at v sound i t own) in
      let same : low_in t ≡ low_of s i (seen.lines i) = low_told i t own ∙ ap (low_of s i) (sym (line_here plan line s core at v sound i t own)) in
      omega (arith, below, same))) in
      omega (arith, up, down)

  moment_is : (i : ℕ) → i < s.net.timelines → (seen.lines i).moment ≡ at i
  moment_is i known = (let found = timeline_there plan line s core at v sound i known in ap (λ (l : Line (Event P)). l.moment) (line_here plan line s core at v sound i found.0 found.1))

  pub safe_reached : HasReached s (safe_bound_in core) at
  safe_reached j e is early =
      let same = safe_same in
      let done = safe_is_done s sh v seen sound.all j e is (omega (arith, early, same)) in
      let moment = moment_is (s.line e) (sh.placed j e is) in
      omega (arith, done, moment)

  pub ended_reached : core.barrier.ended ≡ true → (j : ℕ) (e : Event P) → event_at s j ≡ Some e → j < at (s.line e)
  ended_reached ended j e is =
      let done = ended_is_done s sh v seen sound.all ended j e is in
      let moment = moment_is (s.line e) (sh.placed j e is) in
      omega (arith, done, moment)

  -- ---- some step is enabled

  abbrev Goes : Type 0
  Goes = ((step : Step) × (is_enabled core step ≡ true)) ⊎ (((i : ℕ) × BudgetEndsIn core i) ⊎ ((i : ℕ) × IsSpentAt core i))

  execute_enables : (i : ℕ) → i < s.net.timelines → CanExecute s core.budget i (seen.lines i) → (can_execute_in core i ≡ true) ⊎ IsSpentAt core i
  execute_enables i known can =
      let found = timeline_there plan line s core at v sound i known in
      let t : TimelineOf B S P = found.0 in
      let part = sound.each i t found.1 in
      let seen_as = line_here plan line s core at v sound i t found.1 in
      let there : CanExecute s t.budget i (line_of (at i) t) = subst (λ n. CanExecute s n i (line_of (at i) t)) (sym part.budget) (subst (λ (l : Line (Event P)). CanExecute s core.budget i l) seen_as can) in
      elim (test_cases t.spent) [
        | inl spent ↦ inr (record { timeline = t; own = found.1; spent = spent })
        | inr awake ↦ (let free : refusal t ≡ None = may_execute r valid carried law modest plan until in_time fits kept line net i (at i) t (subst (λ n. IsRunOnLines plan line n s) (sym part.budget) on) part.sound there awake in
            inl (passed (slice_get core.timelines i) t (λ u. is_none (refusal u)) found.1 (ap (λ o. is_none o) free)))
      ]

  post_enables : (i c : ℕ) → IsOutOf s.net i c → CanPost s i c (seen.lines i) (seen.mails c) → can_post_in core i c ≡ true
  post_enables i c out can =
      let found = timeline_there plan line s core at v sound i (subst (λ n. n < s.net.timelines) out.sender (sh.joining.sender c out.cross)) in
      let t : TimelineOf B S P = found.0 in
      let part = sound.each i t found.1 in
      let q = sound.ends.all c out.cross in
      let end : CrossEnd = q.0 in
      let told = sound.ends.each end q.1 in
      let listed : end_at c core.ends ≡ Some end = ap (λ n. end_at n core.ends) (sym q.2) ∙ end_of_channel core.ends end sound.ends.rising q.1 in
      let to : s.net.receiver c ≡ end.receiver = ap s.net.receiver (sym q.2) ∙ told.2 in
      let from : end.sender ≡ i = sym told.1 ∙ (ap s.net.sender q.2 ∙ out.sender) in
      let its = mail_there plan line s core at v sound end.receiver (subst (λ n. n < s.net.timelines) to (sh.joining.receiver c out.cross)) in
      let mail : Mails P = its.0 in
      let there : CanPost s i c (line_of (at i) t) (mail_as (mail_at mail c)) =
      subst (λ (l : Line (Event P)). CanPost s i c l (mail_as (mail_at mail c))) (line_here plan line s core at v sound i t found.1)
      (subst (λ (m : MailOf (Event P)). CanPost s i c (seen.lines i) m) (mail_here plan line s core at v sound c end.receiver mail to its.1) can) in
      let may = post_possible plan line s key_is sh i (at i) t part.sound c out (mail_at mail c) there in
      let inner = passed (slice_get core.timelines i) t _ found.1 (passed (slice_get core.mails end.receiver) mail _ its.1 may) in
      let sends : nat_eq end.sender i ≡ true = eq-eqb end.sender i from in
      passed (end_at c core.ends) end _ listed (rw sends inner)

  take_enables : (i c : ℕ) → IsInto s.net i c → CanTake c (seen.lines i) (seen.mails c) → can_take_in core i ≡ true
  take_enables i c into can =
      let known = subst (λ n. n < s.net.timelines) into.receiver (sh.joining.receiver c into.cross) in
      let found = timeline_there plan line s core at v sound i known in
      let t : TimelineOf B S P = found.0 in
      let part = sound.each i t found.1 in
      let its = mail_there plan line s core at v sound i known in
      let mail : Mails P = its.0 in
      let there : CanTake c (line_of (at i) t) (mail_as (mail_at mail c)) =
      subst (λ (l : Line (Event P)). CanTake c l (mail_as (mail_at mail c))) (line_here plan line s core at v sound i t found.1)
      (subst (λ (m : MailOf (Event P)). CanTake c (seen.lines i) m) (mail_here plan line s core at v sound c i mail into.receiver its.1) can) in
      let may = take_possible plan line s key_is sh i (at i) mail t part.sound (part.mail mail its.1) c into there in
      passed (slice_get core.timelines i) t _ found.1 (passed (slice_get core.mails i) mail _ its.1 may)

  counts_here : (i : ℕ) (t : TimelineOf B S P) → slice_get core.timelines i ≡ Some t → CountsAt t.in_ends core.barrier.counts (number_of core.barrier.channels core.barrier.counts)
  counts_here i t own c e item = number_here core.barrier.channels core.barrier.counts e.place c sound.barrier.rising sound.barrier.counts ((sound.each i t own).places c e item)

  enter_enables : (i : ℕ) → i < s.net.timelines → CanEnter s.net i (seen.lines i) seen.barrier → can_enter_in core i ≡ true
  enter_enables i known can =
      let found = timeline_there plan line s core at v sound i known in
      let t : TimelineOf B S P = found.0 in
      let part = sound.each i t found.1 in
      let there : CanEnter s.net i (line_of (at i) t) (barrier_as core.barrier) = subst (λ (l : Line (Event P)). CanEnter s.net i l (barrier_as core.barrier)) (line_here plan line s core at v sound i t found.1) can in
      let may = enters_if_may plan line s key_is sh i (at i) t part.sound core.barrier.counts (barrier_as core.barrier) (counts_here i t found.1) there in
      passed (slice_get core.timelines i) t _ found.1 may

  report_enables : (i : ℕ) → i < s.net.timelines → CanReport s i (seen.lines i) seen.barrier → can_report_in core i ≡ true
  report_enables i known can =
      let found = timeline_there plan line s core at v sound i known in
      let t : TimelineOf B S P = found.0 in
      let part = sound.each i t found.1 in
      let q = barrier_for plan line s key_is sh core at v sound i t found.1 in
      let there : CanReport s i (line_of (at i) t) (barrier_as core.barrier) = subst (λ (l : Line (Event P)). CanReport s i l (barrier_as core.barrier)) (line_here plan line s core at v sound i t found.1) can in
      let may = report_possible plan line s key_is sh i (at i) t part.sound part.ends core.barrier q.each q.crosses q.known there in
      passed (slice_get core.timelines i) t _ found.1 may

  cross_enables : CanCross s.net.timelines seen.barrier → can_cross core.barrier ≡ true
  cross_enables can =
      let none : first_without 0 core.barrier.reports ≡ None = none_without core.barrier.reports 0 (λ i h. can.all_in i (subst (λ n. i < n) sound.barrier.timelines h)) in
      let runs : core.barrier.ended ≡ false = can.goes_on in
      rw (runs, none) refl

  -- what the rules let be made is enabled
  pub enables : (step : Step) → MayStep s core.budget seen step → (is_enabled core step ≡ true) ⊎ ((i : ℕ) × (step ≡ Execute i) × IsSpentAt core i)
  enables (Execute i) may = elim (execute_enables i may.0 may.1) [ inl h ↦ inl h | inr q ↦ inr (i, refl, q) ]
  enables (Post i c) may = inl (post_enables i c may.0 may.1)
  enables (Take i) may = inl (take_enables i may.0 may.1 may.2)
  enables (Enter i) may = inl (enter_enables i may.0 may.1)
  enables (Report i) may = inl (report_enables i may.0 may.1)
  enables Cross may = inl (cross_enables may)

  -- and what is enabled may be made by the rules
  pub may_step : (step : Step) → is_enabled core step ≡ true → MayStep s core.budget seen step
  may_step (Execute i) h =
      let q = passes_some (slice_get core.timelines i) (λ t. is_none (refusal t)) h in
      let part = sound.each i q.0 q.1 in
      let can = can_execute r valid carried law modest plan until in_time fits kept line net i (at i) q.0 (subst (λ n. IsRunOnLines plan line n s) (sym part.budget) on) part.sound (none_of (refusal q.0) q.2) in (
        timeline_known plan line s core at v sound i q.0 q.1,
        subst (λ n. CanExecute s n i (seen.lines i)) part.budget (subst (λ (l : Line (Event P)). CanExecute s q.0.budget i l) (sym (line_here plan line s core at v sound i q.0 q.1)) can),
      )
  may_step (Post i c) h =
      let q = passes_some (end_at c core.ends) (λ end. nat_eq end.sender i && can_post_to core i c end.receiver) h in
      let two = and_both (nat_eq q.0.sender i) (can_post_to core i c q.0.receiver) q.2 in
      let t = passes_some (slice_get core.timelines i) (λ u. passes (slice_get core.mails q.0.receiver) (λ mail. can_post u c (mail_at mail c))) two.1 in
      let mail = passes_some (slice_get core.mails q.0.receiver) (λ m. can_post t.0 c (mail_at m c)) t.2 in
      let out : IsOutOf s.net i c = goes_out i t.0 t.1 c q.0 q.1 (eqb-true q.0.sender i two.0) in
      let part = sound.each i t.0 t.1 in
      let to : s.net.receiver c ≡ q.0.receiver = (let found = end_found c core.ends q.0 q.1 in subst (λ n. s.net.receiver n ≡ q.0.receiver) found.1 (sound.ends.each q.0 found.0).2) in (
        out,
        subst (λ (l : Line (Event P)). CanPost s i c l (seen.mails c)) (sym (line_here plan line s core at v sound i t.0 t.1))
            (subst (λ (m : MailOf (Event P)). CanPost s i c (line_of (at i) t.0) m) (sym (mail_here plan line s core at v sound c q.0.receiver mail.0 to mail.1))
            (post_enabled plan line s key_is sh i (at i) t.0 part.sound c out (mail_at mail.0 c) mail.2)),
      )
  may_step (Take i) h =
      let t = passes_some (slice_get core.timelines i) (λ u. passes (slice_get core.mails i) (λ mail. can_take u mail mail.channels)) h in
      let mail = passes_some (slice_get core.mails i) (λ m. can_take t.0 m m.channels) t.2 in
      let part = sound.each i t.0 t.1 in
      let found = take_enabled plan line s key_is sh i (at i) mail.0 t.0 part.sound (part.mail mail.0 mail.1) mail.2 in
      let c : ℕ = found.0 in (
        c,
        found.1,
        subst (λ (l : Line (Event P)). CanTake c l (seen.mails c)) (sym (line_here plan line s core at v sound i t.0 t.1))
            (subst (λ (m : MailOf (Event P)). CanTake c (line_of (at i) t.0) m) (sym (mail_here plan line s core at v sound c i mail.0 found.1.receiver mail.1)) found.2),
      )
  may_step (Enter i) h =
      let t = passes_some (slice_get core.timelines i) (λ u. can_enter u core.barrier.window core.barrier.counts) h in
      let part = sound.each i t.0 t.1 in (
        timeline_known plan line s core at v sound i t.0 t.1,
        subst (λ (l : Line (Event P)). CanEnter s.net i l seen.barrier) (sym (line_here plan line s core at v sound i t.0 t.1))
            (may_enter plan line s key_is sh i (at i) t.0 part.sound core.barrier.counts (barrier_as core.barrier) (counts_here i t.0 t.1) t.2),
      )
  may_step (Report i) h =
      let t = passes_some (slice_get core.timelines i) (λ u. can_report u i core.barrier) h in
      let part = sound.each i t.0 t.1 in
      let q = barrier_for plan line s key_is sh core at v sound i t.0 t.1 in (
        timeline_known plan line s core at v sound i t.0 t.1,
        subst (λ (l : Line (Event P)). CanReport s i l seen.barrier) (sym (line_here plan line s core at v sound i t.0 t.1))
            (report_enabled plan line s key_is sh i (at i) t.0 part.sound part.ends core.barrier q.each q.crosses q.known t.2),
      )
  may_step Cross h =
      let two = and_both (not core.barrier.ended) (is_none (first_without 0 core.barrier.reports)) h in
      let none : first_without 0 core.barrier.reports ≡ None = none_of (first_without 0 core.barrier.reports) two.1 in
      record {
        goes_on = not_true core.barrier.ended two.0;
        all_in = λ i known. all_told core.barrier.reports 0 i none (subst (λ n. i < n) (sym sound.barrier.timelines) known);
      }

  step_goes : (after : CoreOf (Event P)) → IsStep s core.budget seen after → Goes
  step_goes after (executes i n known may is same) = elim (execute_enables i known may) [ inl h ↦ inl (Execute i, h) | inr q ↦ inr (inr (i, q)) ]
  step_goes after (posts c cross may same) = inl (Post (s.net.sender c) c, post_enables (s.net.sender c) c (record { cross = cross; sender = refl }) may)
  step_goes after (takes c cross may same) = inl (Take (s.net.receiver c), take_enables (s.net.receiver c) c (record { cross = cross; receiver = refl }) may)
  step_goes after (enters i known may same) = inl (Enter i, enter_enables i known may)
  step_goes after (reports i known may same) = inl (Report i, report_enables i known may)
  step_goes after (crosses b may crossing same) = inl (Cross, cross_enables may)

  budget_goes : (i : ℕ) → BudgetEndsAt s core.budget i seen → Goes
  budget_goes i ends =
      let found = timeline_there plan line s core at v sound i ends.known in
      let t : TimelineOf B S P = found.0 in
      let part = sound.each i t found.1 in
      let there : IsOver s t.budget i (line_of (at i) t) = subst (λ n. IsOver s n i (line_of (at i) t)) (sym part.budget)
      (subst (λ (l : Line (Event P)). IsOver s core.budget i l) (line_here plan line s core at v sound i t found.1) ends.over) in
      let over : is_over t ≡ true = is_over_if r valid carried law modest plan until in_time fits kept line net i (at i) t (subst (λ n. IsRunOnLines plan line n s) (sym part.budget) on) part.sound there in
      let next : HasNext t = (over_is t over).0 in
      let low : low_in t ≡ next.event.key.time = next_low t next next.event next.rest next.is in
      let early = next.in_time in
      let ends_at = part.sound.until in
      let until_is = sound.until in
      let up : low_in t ≤ safe_bound_in core = low_above (core.until + 1) (low_in t) core.timelines (omega (arith, low, early, ends_at, until_is)) (λ j u own. (
      let order = ends.least j (timeline_known plan line s core at v sound j u own) in
      let one : low_in t ≡ low_of s i (seen.lines i) = low_told i t found.1 ∙ ap (low_of s i) (sym (line_here plan line s core at v sound i t found.1)) in
      let two : low_in u ≡ low_of s j (seen.lines j) = low_told j u own ∙ ap (low_of s j) (sym (line_here plan line s core at v sound j u own)) in
      omega (arith, order, one, two))) in
      let down = low_below (core.until + 1) core.timelines i t found.1 in
      inr (inl (i, record { timeline = t; own = found.1; over = over; least = omega (arith, up, down) }))

  -- until the barrier has ended
  pub goes_on : core.barrier.ended ≡ false → Goes
  goes_on runs = elim (never_stuck s sh core.budget v seen sound.all runs) [
    | inl moves ↦ step_goes moves.0 moves.1
    | inr ends ↦ budget_goes ends.0 ends.1
  ]

  -- ---- where the budget ends

  counted : (i : ℕ) → i < s.net.timelines → IsCounted s core.budget i (seen.lines i)
  counted i known =
      let found = timeline_there plan line s core at v sound i known in
      let part = sound.each i found.0 found.1 in
      subst (λ n. IsCounted s n i (seen.lines i)) part.budget (subst (λ (l : Line (Event P)). IsCounted s found.0.budget i l) (sym (line_here plan line s core at v sound i found.0 found.1)) part.sound.counted)

  module _ (i : ℕ) (q : BudgetEndsIn core i) where
    its_part : IsPartOf plan line s core i (at i) q.timeline
    its_part = sound.each i q.timeline q.own

    over_there : IsOver s core.budget i (seen.lines i)
    over_there =
        let told = is_over_here r valid carried law modest plan until in_time fits kept line net i (at i) q.timeline (subst (λ n. IsRunOnLines plan line n s) (sym its_part.budget) on) its_part.sound q.over in
        subst (λ (l : Line (Event P)). IsOver s core.budget i l) (sym (line_here plan line s core at v sound i q.timeline q.own)) (subst (λ n. IsOver s n i (line_of (at i) q.timeline)) its_part.budget told)

    ends_there : BudgetEndsAt s core.budget i seen
    ends_there = record {
      known = timeline_known plan line s core at v sound i q.timeline q.own;
      over = over_there;
      least = λ j known. (let found = timeline_there plan line s core at v sound j known in
          let low = low_below (core.until + 1) core.timelines j found.0 found.1 in
          let one : low_in q.timeline ≡ low_of s i (seen.lines i) = low_told i q.timeline q.own ∙ ap (low_of s i) (sym (line_here plan line s core at v sound i q.timeline q.own)) in
          let two : low_in found.0 ≡ low_of s j (seen.lines j) = low_told j found.0 found.1 ∙ ap (low_of s j) (sym (line_here plan line s core at v sound j found.0 found.1)) in
          let least = q.least in
          omega (arith, low, one, two, least));
    }

    head_is : (event : Event P) (rest : List (Event P)) → q.timeline.pending ≡ event ∷ rest → ends_there.over.head ≡ event
    head_is event rest first =
        let both : ends_there.over.head ∷ ends_there.over.rest ≡ event ∷ rest = sym ends_there.over.is ∙ (ap (λ (l : Line (Event P)). l.pending) (line_here plan line s core at v sound i q.timeline q.own) ∙ first) in
        cc

    pub budget_event : (event : Event P) (rest : List (Event P)) → q.timeline.pending ≡ event ∷ rest → (k : ℕ) × IsOwnEvent s i core.budget k event
    budget_event event rest first =
        let found = (budget_is s sh v seen sound.all core.budget counted i ends_there).0 in
        (found.0, subst (λ (e : Event P). IsOwnEvent s i core.budget found.0 e) (head_is event rest first) found.1)

    time_here : (e : Event P) → time_of s e ≡ e.key.time
    time_here e = ap (λ (key : Event P → Key). (key e).time) key_is

    pub budget_bound : (event : Event P) (rest : List (Event P)) → q.timeline.pending ≡ event ∷ rest → safe_bound_in core ≡ event.key.time
    budget_bound event rest first =
        let told = (budget_is s sh v seen sound.all core.budget counted i ends_there).1 in
        safe_same ∙ (told ∙ (ap (time_of s) (head_is event rest first) ∙ time_here event))

    pub budget_least : (event : Event P) (rest : List (Event P)) → q.timeline.pending ≡ event ∷ rest → (j k : ℕ) (e : Event P) → IsOwnEvent s j core.budget k e → event.key.time ≤ e.key.time
    budget_least event rest first j k e own =
        let told = (budget_is s sh v seen sound.all core.budget counted i ends_there).2 j k e own in
        let one : time_of s ends_there.over.head ≡ event.key.time = ap (time_of s) (head_is event rest first) ∙ time_here event in
        let two = time_here e in
        omega (arith, told, one, two)
