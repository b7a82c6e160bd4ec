-- What has no mark is not enabled, also after a step.
use Rattle.std.proofs.Common.{ℕ, zero, suc, ◌≡◌, ◌<◌, ◌⊎◌, inl, inr, Bool, true, cond, ◌&&◌, ◌||◌, nat_eq, nat_lt, refl, sym, ap, ◌∙◌, subst, arith, eqb-true, eq-eqb, List, [], ◌∷◌, map, length, length-set, set, replicate, Option, Some, None, slice_get, Result, Ok, Err}
use Rattle.std.specs.Prelude.{is_none, unwrap_or, IfOk}
use Rattle.event_order.specs.Pending.{Among}
use Rattle.event_order.proofs.Pending.{test_cases}
use Rattle.marked_numbers.specs.Least.{IsMarked}
use Rattle.marked_numbers.proofs.Marking.{put_marked}
use Rattle.ssf_model.specs.Reaction.{Reaction}
use Rattle.timeline_parts.specs.declared.part.Cross.{Cross}
use Rattle.timeline_parts.specs.Parts.{channel_of}
use Rattle.plan_shares.specs.declared.crosses.CrossEnd.{CrossEnd}
use Rattle.timeline.specs.View.{TimelineOf}
use Rattle.timeline.specs.Executing.{refusal}
use Rattle.timeline.specs.Moving.{can_enter, entered_at}
use Rattle.timeline.specs.Lines.{outbox_of}
use Rattle.appointments.specs.Mails.{ChannelMail, Mails, mail_at, row_at, no_mail}
use Rattle.barrier_window.specs.BarrierFields.{BarrierFields}
use Rattle.barrier_window.specs.Crossings.{crossing, after_crossing}
use Rattle.sync_steps.specs.declared.steps.Step.{Step}
use Rattle.sync_steps.specs.declared.steps.Step.TheVariants.{Execute, Post, Take, Enter, Report, Cross as CrossStep}
use Rattle.sync_steps.specs.Between.{can_post, promise_in, can_take, can_report}
use Rattle.core_rules.specs.Cores.{CoreView}
use Rattle.core_rules.specs.Stepping.{passes, end_at, is_enabled, can_post_in, can_post_to, with_timeline, with_mail_of, with_barrier, IsMade, IsPostedIn, IsTakenIn, IsReportedIn}
use Rattle.core_rules.proofs.Lists.{not_equal, listed, get_known}
use Rattle.sync_core.specs.declared.work.Kind.{Kind}
use Rattle.sync_core.specs.declared.work.Kind.TheVariants.{Executes, Posts, Takes, Enters, Reports}
use Rattle.sync_core.specs.declared.work.Work.{Work}
use Rattle.sync_core.specs.Steps.{receiver_from}
use Rattle.sync_core.specs.Choosing.{posts_at, steps_of, Covers, IsWorkOf, HasMarks, IsMarkedAt, own_timeline, taker_of}
use Rattle.sync_core.proofs.Firsts.{all_marked}

-- ---- lists

pub mark_keeps : (xs : List Bool) (i j : ℕ) → IsMarked xs j → IsMarked (set xs i true) j
mark_keeps [] i j h = h
mark_keeps (x ∷ xs) zero zero h = refl
mark_keeps (x ∷ xs) zero (suc j) h = h
mark_keeps (x ∷ xs) (suc i) zero h = h
mark_keeps (x ∷ xs) (suc i) (suc j) h = mark_keeps xs i j h

marked_or : (marks : List Bool) (i k : ℕ) → i < length marks → IsMarked (set marks i true) k ⊎ (k ≡ i → ⊥)
marked_or marks i k h = elim (test_cases (nat_eq k i)) [
  | inl t ↦ inl (subst (λ n. IsMarked (set marks i true) n) (sym (eqb-true k i t)) (put_marked marks i h))
  | inr f ↦ inr (not_equal k i f)
]

posts_among : (k : ℕ) (outs : List Cross) (step : Step) → Among step (map (λ cross. Post k (channel_of cross)) outs) → (c : ℕ) × (step ≡ Post k c)
posts_among k [] step a = absurd a
posts_among k (x ∷ xs) step (inl e) = (channel_of x, e)
posts_among k (x ∷ xs) step (inr a) = posts_among k xs step a

module _ {T : Type 0} where
  pub set_other : (xs : List T) (i k : ℕ) (v : T) → (k ≡ i → ⊥) → slice_get (set xs i v) k ≡ slice_get xs k
  set_other [] i k v differ = refl
  set_other (x ∷ xs) zero zero v differ = absurd (differ refl)
  set_other (x ∷ xs) zero (suc k) v differ = refl
  set_other (x ∷ xs) (suc i) zero v differ = refl
  set_other (x ∷ xs) (suc i) (suc k) v differ = set_other xs i k v (λ e. differ (ap suc e))

  set_own : (xs : List T) (i : ℕ) (v x : T) → slice_get xs i ≡ Some x → slice_get (set xs i v) i ≡ Some v
  set_own [] i v x h = absurd (cc)
  set_own (y ∷ ys) zero v x h = refl
  set_own (y ∷ ys) (suc i) v x h = set_own ys i v x h

  pub passes_same : (o : Option T) (f g : T → Bool) → ((x : T) → o ≡ Some x → f x ≡ g x) → passes o f ≡ passes o g
  passes_same None f g same = refl
  passes_same (Some x) f g same = same x refl

  pub passes_there : (o : Option T) (f : T → Bool) → passes o f ≡ true → (x : T) × (o ≡ Some x)
  passes_there None f h = absurd (cc)
  passes_there (Some x) f h = (x, refl)

module _ {P : Type 0} where
  no_row : (cs : List ℕ) (rows : List (ChannelMail P)) (c : ℕ) → (Among c cs → ⊥) → row_at cs rows c ≡ no_mail
  no_row [] rows c none = refl
  no_row (k ∷ cs) [] c none = refl
  no_row (k ∷ cs) (row ∷ rows) c none = elim (test_cases (nat_eq k c)) [
    | inl t ↦ absurd (none (inl (sym (eqb-true k c t))))
    | inr f ↦ rw f (no_row cs rows c (λ a. none (inr a)))
  ]

-- ---- what a step spares

module _ {B S P : Type 0} where
  -- a step of timeline i, to the mail of timeline j, leaves the others what they are enabled for
  pub record Spares (i j : ℕ) (core after : CoreView B S P) : Type 0 where
    pub many : length after.timelines ≡ length core.timelines
    pub timeline : (k : ℕ) → (k ≡ i → ⊥) → slice_get after.timelines k ≡ slice_get core.timelines k
    pub mail : (k : ℕ) → (k ≡ i → ⊥) → (k ≡ j → ⊥) → slice_get after.mails k ≡ slice_get core.mails k
    pub posts : (k c : ℕ) → (k ≡ i → ⊥) → can_post_in after k c ≡ can_post_in core k c
    pub window : after.barrier.window ≡ core.barrier.window
    pub counts : after.barrier.counts ≡ core.barrier.counts
    pub ended : after.barrier.ended ≡ core.barrier.ended
    pub report : (k : ℕ) → (k ≡ i → ⊥) → slice_get after.barrier.reports k ≡ slice_get core.barrier.reports k

  -- a post, by the timeline and the mail
  abbrev pub post_by : Option (TimelineOf B S P) → ℕ → Option (Mails P) → Bool
  post_by o c m = passes o (λ t. passes m (λ mail. can_post t c (mail_at mail c)))

  -- one by one of the same timeline, to the same mails
  posts_kept : (core after : CoreView B S P) (k c : ℕ) → after.ends ≡ core.ends → slice_get after.timelines k ≡ slice_get core.timelines k
      → ((end : CrossEnd) → end_at c core.ends ≡ Some end → end.sender ≡ k → (t : TimelineOf B S P)
      → passes (slice_get after.mails end.receiver) (λ mail. can_post t c (mail_at mail c)) ≡ passes (slice_get core.mails end.receiver) (λ mail. can_post t c (mail_at mail c)))
      → can_post_in after k c ≡ can_post_in core k c
  posts_kept core after k c ends own mails =
      ap (λ es. passes (end_at c es) (λ end. nat_eq end.sender k && can_post_to after k c end.receiver)) ends
      ∙ passes_same (end_at c core.ends) (λ end. nat_eq end.sender k && can_post_to after k c end.receiver) (λ end. nat_eq end.sender k && can_post_to core k c end.receiver) (λ end is. elim (test_cases (nat_eq end.sender k)) [
        | inl t ↦ ap (λ b. nat_eq end.sender k && b) (ap (λ o. post_by o c (slice_get after.mails end.receiver)) own
            ∙ passes_same (slice_get core.timelines k) (λ t. passes (slice_get after.mails end.receiver) (λ mail. can_post t c (mail_at mail c))) (λ t. passes (slice_get core.mails end.receiver) (λ mail. can_post t c (mail_at mail c)))
            (λ u there. mails end is (eqb-true end.sender k t) u))
        | inr f ↦ rw f refl
      ])

  timeline_spares : (core : CoreView B S P) (i : ℕ) (next : TimelineOf B S P) → Spares i i core (with_timeline i next core)
  timeline_spares core i next = record {
    many = length-set core.timelines i next;
    timeline = λ k differ. set_other core.timelines i k next differ;
    mail = λ k one two. refl;
    posts = λ k c differ. posts_kept core (with_timeline i next core) k c refl (set_other core.timelines i k next differ) (λ end is sender t. refl);
    window = refl;
    counts = refl;
    ended = refl;
    report = λ k differ. refl;
  }

  -- the mail of timeline j is another one, with the same appointments for others than i
  mail_spares : (core : CoreView B S P) (i j : ℕ) (next : TimelineOf B S P) (mail filled : Mails P) → slice_get core.mails j ≡ Some mail
      → ((c : ℕ) (end : CrossEnd) → end_at c core.ends ≡ Some end → (end.sender ≡ i → ⊥) → (mail_at filled c).appointment ≡ (mail_at mail c).appointment)
      → Spares i j core (with_mail_of j filled (with_timeline i next core))
  mail_spares core i j next mail filled its same = record {
    many = length-set core.timelines i next;
    timeline = λ k differ. set_other core.timelines i k next differ;
    mail = λ k one two. set_other core.mails j k filled two;
    posts = λ k c differ. posts_kept core (with_mail_of j filled (with_timeline i next core)) k c refl (set_other core.timelines i k next differ) (λ end is sender t. elim (test_cases (nat_eq end.receiver j)) [
      | inl here ↦ kept c t (eqb-true end.receiver j here) (same c end is (λ e. differ (sym sender ∙ e)))
      | inr there ↦ ap (λ m. passes m (λ m. can_post t c (mail_at m c))) (set_other core.mails j end.receiver filled (not_equal end.receiver j there))
    ]);
    window = refl;
    counts = refl;
    ended = refl;
    report = λ k differ. refl;
  }
    where
      by_appointment : (t : TimelineOf B S P) (c : ℕ) (m n : ChannelMail P) → m.appointment ≡ n.appointment → can_post t c m ≡ can_post t c n
      by_appointment t c m n e = ap (λ a. nat_lt 0 (length (outbox_of t.out_ends c)) || nat_lt a (promise_in t c)) e

      kept : {k : ℕ} (c : ℕ) (t : TimelineOf B S P) → k ≡ j → (mail_at filled c).appointment ≡ (mail_at mail c).appointment
          → passes (slice_get (set core.mails j filled) k) (λ m. can_post t c (mail_at m c)) ≡ passes (slice_get core.mails k) (λ m. can_post t c (mail_at m c))
      kept {k} c t at e =
          ap (λ n. passes (slice_get (set core.mails j filled) n) (λ m. can_post t c (mail_at m c))) at
          ∙ (ap (λ o. passes o (λ m. can_post t c (mail_at m c))) (set_own core.mails j filled mail its)
          ∙ (by_appointment t c (mail_at filled c) (mail_at mail c) e
          ∙ (ap (λ o. passes o (λ m. can_post t c (mail_at m c))) (sym its)
          ∙ ap (λ n. passes (slice_get core.mails n) (λ m. can_post t c (mail_at m c))) (sym at))))

  pub post_spares : (core after : CoreView B S P) (i c : ℕ) → (q : IsPostedIn i c core after) → Spares i q.end.receiver core after
  post_spares core after i c q =
      subst (λ (k : CoreView B S P). Spares i q.end.receiver core k) (sym q.is)
      (mail_spares core i q.end.receiver q.next q.mail q.filled q.its_mail (λ k end is other.
      ap (λ (m : ChannelMail P). m.appointment) (q.posted.others k (λ same. other (sender_of end k is same)))))
    where
      sender_of : (end : CrossEnd) (k : ℕ) → end_at k core.ends ≡ Some end → k ≡ c → end.sender ≡ i
      sender_of end k is same =
          let found : end_at c core.ends ≡ Some end = ap (λ n. end_at n core.ends) (sym same) ∙ is in
          let one : Some end ≡ Some q.end = sym found ∙ q.listed in
          let ends : end ≡ q.end = cc in
          ap (λ (e : CrossEnd). e.sender) ends ∙ q.sender

  pub take_spares : (core after : CoreView B S P) (i : ℕ) → IsTakenIn i core after → Spares i i core after
  take_spares core after i q =
      subst (λ (k : CoreView B S P). Spares i i core k) (sym q.is) (mail_spares core i i q.next q.mail q.emptied q.own_mail (λ c end is other. appointments c))
    where
      appointments : (c : ℕ) → (mail_at q.emptied c).appointment ≡ (mail_at q.mail c).appointment
      appointments c = elim (listed q.mail.channels c) [
        | inl a ↦ ap (λ (m : ChannelMail P). m.appointment) (q.taken.rows c a)
        | inr none ↦ ap (λ (m : ChannelMail P). m.appointment) (no_row q.emptied.channels q.emptied.rows c (λ a. none (subst (λ cs. Among c cs) q.taken.channels a)) ∙ sym (no_row q.mail.channels q.mail.rows c none))
      ]

  pub report_spares : (core after : CoreView B S P) (i : ℕ) → IsReportedIn i core after → Spares i i core after
  report_spares core after i q =
      subst (λ (k : CoreView B S P). Spares i i core k) (sym q.is) (record {
        many = refl;
        timeline = λ k differ. refl;
        mail = λ k one two. refl;
        posts = λ k c differ. refl;
        window = refl;
        counts = refl;
        ended = refl;
        report = λ k differ. set_other core.barrier.reports i k _ differ;
      })

  -- ---- marks

  covers_on : (kind : Kind) (core after : CoreView B S P) (marks more : List Bool) → length more ≡ length after.timelines → ((k : ℕ) → IsMarked marks k → IsMarked more k)
      → ((k : ℕ) (step : Step) → Among step (steps_of kind after k) → is_enabled after step ≡ true → IsMarked more k ⊎ (Among step (steps_of kind core k) × (is_enabled core step ≡ true)))
      → Covers kind core marks → Covers kind after more
  covers_on kind core after marks more many keeps moved q = record {
    many = many;
    known = λ k step a t. elim (moved k step a t) [ inl m ↦ m | inr o ↦ keeps k (q.known k step o.0 o.1) ];
  }

  -- a kind of which each timeline has one step
  one_moved : (core after : CoreView B S P) (make : ℕ → Step) (k : ℕ) (step : Step) (more : List Bool) → IsMarked more k ⊎ (is_enabled after (make k) ≡ is_enabled core (make k))
      → Among step (make k ∷ []) → is_enabled after step ≡ true → IsMarked more k ⊎ (Among step (make k ∷ []) × (is_enabled core step ≡ true))
  one_moved core after make k step more (inl m) a t = inl m
  one_moved core after make k step more (inr same) (inl e) t =
      inr (inl e, ap (is_enabled core) e ∙ (sym same ∙ (ap (is_enabled after) (sym e) ∙ t)))
  one_moved core after make k step more (inr same) (inr none) t = absurd none

  posts_at_among : (k : ℕ) (o : Option (TimelineOf B S P)) (step : Step) → Among step (posts_at k o) → (c : ℕ) × (step ≡ Post k c)
  posts_at_among k None step a = absurd a
  posts_at_among k (Some t) step a = posts_among k t.outs step a

  module _ (core after : CoreView B S P) (i j : ℕ) (q : Spares i j core after) where
    execute_spared : (k : ℕ) → (k ≡ i → ⊥) → is_enabled after (Execute k) ≡ is_enabled core (Execute k)
    execute_spared k d = ap (λ o. passes o (λ (t : TimelineOf B S P). is_none (refusal t))) (q.timeline k d)

    take_spared : (k : ℕ) → (k ≡ i → ⊥) → (k ≡ j → ⊥) → is_enabled after (Take k) ≡ is_enabled core (Take k)
    take_spared k d e =
        ap (λ o. passes o (λ (t : TimelineOf B S P). passes (slice_get after.mails k) (λ mail. can_take t mail mail.channels))) (q.timeline k d)
        ∙ ap (λ m. passes (slice_get core.timelines k) (λ t. passes m (λ mail. can_take t mail mail.channels))) (q.mail k d e)

    enter_spared : (k : ℕ) → (k ≡ i → ⊥) → is_enabled after (Enter k) ≡ is_enabled core (Enter k)
    enter_spared k d =
        ap (λ o. passes o (λ (t : TimelineOf B S P). can_enter t after.barrier.window after.barrier.counts)) (q.timeline k d)
        ∙ (ap (λ w. passes (slice_get core.timelines k) (λ t. can_enter t w after.barrier.counts)) q.window
        ∙ ap (λ cs. passes (slice_get core.timelines k) (λ t. can_enter t core.barrier.window cs)) q.counts)

    report_spared : (k : ℕ) → (k ≡ i → ⊥) → is_enabled after (Report k) ≡ is_enabled core (Report k)
    report_spared k d =
        ap (λ o. passes o (λ (t : TimelineOf B S P). can_report t k after.barrier)) (q.timeline k d)
        ∙ passes_same (slice_get core.timelines k) (λ t. can_report t k after.barrier) (λ t. can_report t k core.barrier) (λ t there. by_fields t)
      where
        by_fields : (t : TimelineOf B S P) → can_report t k after.barrier ≡ can_report t k core.barrier
        by_fields t = rw (q.ended, q.report k d, q.window) refl

    posts_spared : (k : ℕ) (step : Step) → (k ≡ i → ⊥) → Among step (steps_of Posts after k) → is_enabled after step ≡ true → Among step (steps_of Posts core k) × (is_enabled core step ≡ true)
    posts_spared k step d a t =
        let is = posts_at_among k (slice_get after.timelines k) step a in
        (subst (λ o. Among step (posts_at k o)) (q.timeline k d) a, ap (is_enabled core) is.1 ∙ (sym (q.posts k is.0 d) ∙ (ap (is_enabled after) (sym is.1) ∙ t)))

    -- after a step of timeline i, to the mail of timeline j
    pub work_on : (work more : Work) → i < length after.timelines → j < length after.timelines → IsWorkOf core work → IsMarkedAt after i j work more → IsWorkOf after more
    work_on work more here there w m = record {
      executes = subst (λ ms. Covers Executes after ms) (sym m.executes) (covers_on Executes core after work.executes (set work.executes i true) (length-set work.executes i true ∙ (w.executes.many ∙ sym q.many)) (λ k h. mark_keeps work.executes i k h)
          (λ k step a t. one_moved core after Execute k step (set work.executes i true) (elim (marked_or work.executes i k (wide work.executes w.executes.many)) [ inl s ↦ inl s | inr d ↦ inr (execute_spared k d) ]) a t) w.executes);
      posts = subst (λ ms. Covers Posts after ms) (sym m.posts) (covers_on Posts core after work.posts (set work.posts i true) (length-set work.posts i true ∙ (w.posts.many ∙ sym q.many)) (λ k h. mark_keeps work.posts i k h)
          (λ k step a t. elim (marked_or work.posts i k (wide work.posts w.posts.many)) [ inl s ↦ inl s | inr d ↦ inr (posts_spared k step d a t) ]) w.posts);
      takes = subst (λ ms. Covers Takes after ms) (sym m.takes) (covers_on Takes core after work.takes (set (set work.takes i true) j true) (length-set (set work.takes i true) j true ∙ (length-set work.takes i true ∙ (w.takes.many ∙ sym q.many)))
          (λ k h. mark_keeps (set work.takes i true) j k (mark_keeps work.takes i k h))
          (λ k step a t. one_moved core after Take k step (set (set work.takes i true) j true) (take_marked k) a t) w.takes);
      enters = subst (λ ms. Covers Enters after ms) (sym m.enters) (covers_on Enters core after work.enters (set work.enters i true) (length-set work.enters i true ∙ (w.enters.many ∙ sym q.many)) (λ k h. mark_keeps work.enters i k h)
          (λ k step a t. one_moved core after Enter k step (set work.enters i true) (elim (marked_or work.enters i k (wide work.enters w.enters.many)) [ inl s ↦ inl s | inr d ↦ inr (enter_spared k d) ]) a t) w.enters);
      reports = subst (λ ms. Covers Reports after ms) (sym m.reports) (covers_on Reports core after work.reports (set work.reports i true) (length-set work.reports i true ∙ (w.reports.many ∙ sym q.many)) (λ k h. mark_keeps work.reports i k h)
          (λ k step a t. one_moved core after Report k step (set work.reports i true) (elim (marked_or work.reports i k (wide work.reports w.reports.many)) [ inl s ↦ inl s | inr d ↦ inr (report_spared k d) ]) a t) w.reports);
      over = λ k t own is. elim (test_cases (nat_eq k i)) [
        | inl same ↦ m.here t (ap (λ n. slice_get after.timelines n) (sym (eqb-true k i same)) ∙ own) is
        | inr f ↦ let before = w.over k t (sym (q.timeline k (not_equal k i f)) ∙ own) is in omega (arith, before, m.over)
      ];
    }
      where
        wide : (marks : List Bool) → length marks ≡ length core.timelines → i < length marks
        wide marks many = omega (arith, many, here, q.many)

        take_marked : (k : ℕ) → IsMarked (set (set work.takes i true) j true) k ⊎ (is_enabled after (Take k) ≡ is_enabled core (Take k))
        take_marked k = elim (marked_or work.takes i k (wide work.takes w.takes.many)) [
          | inl s ↦ inl (mark_keeps (set work.takes i true) j k s)
          | inr d ↦ elim (marked_or (set work.takes i true) j k (omega (arith, length-set work.takes i true, w.takes.many, there, q.many))) [
            | inl s ↦ inl s
            | inr e ↦ inr (take_spared k d e)
          ]
        ]

  -- after a crossing
  pub work_crossed : (core : CoreView B S P) (b : BarrierFields) (work : Work) → IsWorkOf core work
      → IsWorkOf (with_barrier b core) (record work { enters = replicate (length work.enters) true; reports = replicate (length work.reports) true })
  work_crossed core b work w = record {
    executes = record { many = w.executes.many; known = λ k step a t. elim a [ inl e ↦ w.executes.known k step (inl e) (ap (is_enabled core) e ∙ (ap (is_enabled (with_barrier b core)) (sym e) ∙ t)) | inr none ↦ absurd none ] };
    posts = record { many = w.posts.many; known = λ k step a t. let is = posts_at_among k (slice_get core.timelines k) step a in w.posts.known k step a (ap (is_enabled core) is.1 ∙ (ap (is_enabled (with_barrier b core)) (sym is.1) ∙ t)) };
    takes = record { many = w.takes.many; known = λ k step a t. elim a [ inl e ↦ w.takes.known k step (inl e) (ap (is_enabled core) e ∙ (ap (is_enabled (with_barrier b core)) (sym e) ∙ t)) | inr none ↦ absurd none ] };
    enters = record { many = all_many work.enters ∙ w.enters.many; known = λ k step a t. all_marked (length work.enters) k (omega (arith, w.enters.many, entering k step a t)) };
    reports = record { many = all_many work.reports ∙ w.reports.many; known = λ k step a t. all_marked (length work.reports) k (omega (arith, w.reports.many, reporting k step a t)) };
    over = w.over;
  }
    where
      repeated : (n : ℕ) → length (replicate n true) ≡ n
      repeated zero = refl
      repeated (suc n) = ap suc (repeated n)

      all_many : (ms : List Bool) → length (replicate (length ms) true) ≡ length ms
      all_many ms = repeated (length ms)

      entering : (k : ℕ) (step : Step) → Among step (Enter k ∷ []) → is_enabled (with_barrier b core) step ≡ true → k < length core.timelines
      entering k step (inl e) t = let on : is_enabled (with_barrier b core) (Enter k) ≡ true = ap (is_enabled (with_barrier b core)) (sym e) ∙ t in
          let own = passes_there (slice_get core.timelines k) (λ t. can_enter t b.window b.counts) on in get_known core.timelines k own.0 own.1
      entering k step (inr none) t = absurd none

      reporting : (k : ℕ) (step : Step) → Among step (Report k ∷ []) → is_enabled (with_barrier b core) step ≡ true → k < length core.timelines
      reporting k step (inl e) t = let on : is_enabled (with_barrier b core) (Report k) ≡ true = ap (is_enabled (with_barrier b core)) (sym e) ∙ t in
          let own = passes_there (slice_get core.timelines k) (λ t. can_report t k b) on in get_known core.timelines k own.0 own.1
      reporting k step (inr none) t = absurd none

  -- ---- after each step

  pub execute_spares : (r : Reaction S P) (i : ℕ) (core after : CoreView B S P) → IsMade r (Execute i) core after → Spares i i core after
  execute_spares r i core after q = subst (λ (k : CoreView B S P). Spares i i core k) (sym q.is) (timeline_spares core i q.next)

  pub enter_spares : (r : Reaction S P) (i : ℕ) (core after : CoreView B S P) → IsMade r (Enter i) core after → Spares i i core after
  enter_spares r i core after q = subst (λ (k : CoreView B S P). Spares i i core k) (sym q.is) (timeline_spares core i (entered_at core.barrier.window q.timeline))

  step_there : (kind : Kind) (core : CoreView B S P) (k : ℕ) (step : Step) → Among step (steps_of kind core k) → is_enabled core step ≡ true → k < length core.timelines
  step_there Executes core k step (inl e) t = let on : is_enabled core (Execute k) ≡ true = ap (is_enabled core) (sym e) ∙ t in
      let own = passes_there (slice_get core.timelines k) (λ t. is_none (refusal t)) on in get_known core.timelines k own.0 own.1
  step_there Executes core k step (inr none) t = absurd none
  step_there Posts core k step a t = by_own (slice_get core.timelines k) refl a
    where
      by_own : (o : Option (TimelineOf B S P)) → slice_get core.timelines k ≡ o → Among step (posts_at k o) → k < length core.timelines
      by_own None is a = absurd a
      by_own (Some u) is a = get_known core.timelines k u is
  step_there Takes core k step (inl e) t = let on : is_enabled core (Take k) ≡ true = ap (is_enabled core) (sym e) ∙ t in
      let own = passes_there (slice_get core.timelines k) (λ t. passes (slice_get core.mails k) (λ mail. can_take t mail mail.channels)) on in get_known core.timelines k own.0 own.1
  step_there Takes core k step (inr none) t = absurd none
  step_there Enters core k step (inl e) t = let on : is_enabled core (Enter k) ≡ true = ap (is_enabled core) (sym e) ∙ t in
      let own = passes_there (slice_get core.timelines k) (λ t. can_enter t core.barrier.window core.barrier.counts) on in get_known core.timelines k own.0 own.1
  step_there Enters core k step (inr none) t = absurd none
  step_there Reports core k step (inl e) t = let on : is_enabled core (Report k) ≡ true = ap (is_enabled core) (sym e) ∙ t in
      let own = passes_there (slice_get core.timelines k) (λ t. can_report t k core.barrier) on in get_known core.timelines k own.0 own.1
  step_there Reports core k step (inr none) t = absurd none

  covers_all : (kind : Kind) (core : CoreView B S P) (marks : List Bool) (n : ℕ) → n ≡ length core.timelines → marks ≡ replicate n true → Covers kind core marks
  covers_all kind core marks n many is = subst (λ ms. Covers kind core ms) (sym is) (record {
    many = repeated n ∙ many;
    known = λ k step a t. all_marked n k (let within = step_there kind core k step a t in omega (arith, within, many));
  })
    where
      repeated : (n : ℕ) → length (replicate n true) ≡ n
      repeated zero = refl
      repeated (suc n) = ap suc (repeated n)

  -- at first all are marked
  pub work_all : {E : Type 0} (core : CoreView B S P) (n : ℕ) (result : Result Work E) → n ≡ length core.timelines
      → IfOk result (λ w. w.executes ≡ replicate n true) → IfOk result (λ w. w.posts ≡ replicate n true) → IfOk result (λ w. w.takes ≡ replicate n true)
      → IfOk result (λ w. w.enters ≡ replicate n true) → IfOk result (λ w. w.reports ≡ replicate n true) → IfOk result (λ w. w.over ≡ 0) → IfOk result (IsWorkOf core)
  work_all core n (Ok w) many a b c d e f = record {
    executes = covers_all Executes core w.executes n many a;
    posts = covers_all Posts core w.posts n many b;
    takes = covers_all Takes core w.takes n many c;
    enters = covers_all Enters core w.enters n many d;
    reports = covers_all Reports core w.reports n many e;
    over = λ k t own is. omega (arith, f);
  }
  work_all core n (Err x) many a b c d e f = tt

  pub has_marks : (core after : CoreView B S P) (work : Work) → length after.timelines ≡ length core.timelines → IsWorkOf core work → HasMarks (length after.timelines) work
  has_marks core after work many w = record {
    executes = w.executes.many ∙ sym many;
    posts = w.posts.many ∙ sym many;
    takes = w.takes.many ∙ sym many;
    enters = w.enters.many ∙ sym many;
    reports = w.reports.many ∙ sym many;
  }

  -- ---- the timelines of a step

  pub made_work : (r : Reaction S P) (step : Step) (core after : CoreView B S P) → IsMade r step core after → length after.mails ≡ length after.timelines
      → (i j : ℕ) → own_timeline step ≡ Some i → j ≡ taker_of after step i → (i < length after.timelines) × (j < length after.timelines) × Spares i j core after
  made_work r step core after q mails i j own to = by_step step q own to
    where
      same_there : (t : TimelineOf B S P) (k : ℕ) → slice_get core.timelines k ≡ Some t → length after.timelines ≡ length core.timelines → k < length after.timelines
      same_there t k at many = let h = get_known core.timelines k t at in omega (arith, h, many)

      at_own : (k : ℕ) → k < length after.timelines → Spares k k core after → k ≡ i → j ≡ i → (i < length after.timelines) × (j < length after.timelines) × Spares i j core after
      at_own k h q a b = let e : k ≡ j = a ∙ sym b in (subst (λ n. n < length after.timelines) a h, subst (λ n. n < length after.timelines) e h, subst (λ n. Spares i n core after) e (subst (λ n. Spares n k core after) a q))

      by_step : (step : Step) → IsMade r step core after → own_timeline step ≡ Some i → j ≡ taker_of after step i → (i < length after.timelines) × (j < length after.timelines) × Spares i j core after
      by_step (Execute k) q own to = let sp = execute_spares r k core after q in at_own k (same_there q.timeline k q.own sp.many) sp (cc) to
      by_step (Take k) q own to = let sp = take_spares core after k q in at_own k (same_there q.timeline k q.own sp.many) sp (cc) to
      by_step (Enter k) q own to = let sp = enter_spares r k core after q in at_own k (same_there q.timeline k q.own sp.many) sp (cc) to
      by_step (Report k) q own to = let sp = report_spares core after k q in at_own k (same_there q.timeline k q.own sp.many) sp (cc) to
      by_step CrossStep q own to = absurd (cc)
      by_step (Post k c) q own to =
          let sp = post_spares core after k c q in
          let here : k ≡ i = cc in
          let ends : after.ends ≡ core.ends = ap (λ (x : CoreView B S P). x.ends) q.is in
          let listed : end_at c after.ends ≡ Some q.end = ap (end_at c) ends ∙ q.listed in
          let test : nat_eq q.end.sender i ≡ true = eq-eqb q.end.sender i (q.sender ∙ here) in
          let found : receiver_from i (end_at c after.ends) ≡ Some q.end.receiver = ap (receiver_from i) listed ∙ ap (λ b. cond b (Some q.end.receiver) None) test in
          let is : j ≡ q.end.receiver = to ∙ ap (λ o. unwrap_or o i) found in
          let many : length after.mails ≡ length core.mails = ap (λ (x : CoreView B S P). length x.mails) q.is ∙ length-set core.mails q.end.receiver q.filled in
          let there = get_known core.mails q.end.receiver q.mail q.its_mail in
          let within : q.end.receiver < length after.timelines = omega (arith, there, many, mails) in (
            subst (λ n. n < length after.timelines) here (same_there q.timeline k q.own sp.many),
            subst (λ n. n < length after.timelines) (sym is) within,
            subst (λ n. Spares i n core after) (sym is) (subst (λ n. Spares n q.end.receiver core after) here sp),
          )

  pub work_after : (r : Reaction S P) (step : Step) (core after : CoreView B S P) (work more : Work) → IsMade r step core after → length after.mails ≡ length after.timelines
      → (i j : ℕ) → own_timeline step ≡ Some i → j ≡ taker_of after step i → IsWorkOf core work → IsMarkedAt after i j work more → IsWorkOf after more
  work_after r step core after work more q mails i j own to w m =
      let p = made_work r step core after q mails i j own to in
      work_on core after i j p.2 work more p.0 p.1 w m

  pub crossed_after : (r : Reaction S P) (step : Step) (core after : CoreView B S P) (work more : Work) → IsMade r step core after → own_timeline step ≡ None → IsWorkOf core work
      → more ≡ record work { enters = replicate (length work.enters) true; reports = replicate (length work.reports) true } → IsWorkOf after more
  crossed_after r (Execute k) core after work more q none w is = absurd (cc)
  crossed_after r (Post k c) core after work more q none w is = absurd (cc)
  crossed_after r (Take k) core after work more q none w is = absurd (cc)
  crossed_after r (Enter k) core after work more q none w is = absurd (cc)
  crossed_after r (Report k) core after work more q none w is = absurd (cc)
  crossed_after r CrossStep core after work more q none w is =
      let b : BarrierFields = after_crossing (crossing core.barrier) core.barrier in
      subst (λ (k : CoreView B S P). IsWorkOf k more) (sym q.is) (subst (λ (x : Work). IsWorkOf (with_barrier b core) x) (sym is) (work_crossed core b work w))
