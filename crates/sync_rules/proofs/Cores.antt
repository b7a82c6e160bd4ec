-- Each step keeps all parts sound together.
use Rattle.std.proofs.Common.{◌≡◌, ℕ, ◌+◌, ◌<◌, ◌≤◌, true, false, nat_eq, Some, refl, sym, ap, ◌∙◌, subst, inl, inr, arith, eqb-true}
use Rattle.event_order.proofs.Pending.{test_cases}
use Rattle.event_order.proofs.Steps.{lt_or_ge}
use Rattle.ssf_model.specs.Scene.{Scene, world_at, event_at}
use Rattle.ssf_model.specs.Truth.{IsTrueParcel, IsNext}
use Rattle.sync_rules.specs.Parts.{Line, MailOf, BarrierOf, CoreOf, put_at}
use Rattle.sync_rules.specs.Bounds.{IsInto, IsOutOf}
use Rattle.sync_rules.specs.Shared.{IsShared}
use Rattle.sync_rules.specs.Sound.{HasDone, IsSoundLine, IsSoundMail, IsSoundCore}
use Rattle.sync_rules.specs.Steps.{CanExecute, CanEnter, CanReport, CanCross, IsCrossing, IsStep, executed_line, posted_line, posted_mail, taken_line, taken_mail, entered_line, least_report, with_line, with_mail, with_barrier, executed_core, posted_core, taken_core, entered_core, reported_core}
use Rattle.sync_rules.specs.Steps.IsStep.{executes, posts, takes, enters, reports, crosses}
use Rattle.sync_rules.proofs.Runs.{one_number}
use Rattle.sync_rules.proofs.Windows.{window_not_before}
use Rattle.sync_rules.proofs.Bounds.{put_here, put_else, put_each, low_done}
use Rattle.sync_rules.proofs.Executes.{executed_is_sound, next_of}
use Rattle.sync_rules.proofs.Posts.{posted_is_sound, posted_mail_is_sound, taken_is_sound, taken_mail_is_sound}
use Rattle.sync_rules.proofs.Enters.{enters_soundly}
use Rattle.sync_rules.proofs.Reports.{report_keeps, next_is_sound, ended_is_sound}

module _ {X E : Type 0} (s : Scene X E) where
  pub done_more : (i v : ℕ) (l m : Line E) → l.moment ≤ m.moment → HasDone s i v l → HasDone s i v m
  done_more i v l m more done j e is own early = omega (arith, done j e is own early, more)

  -- ---- one timeline and one mail change

  module _ (v : ℕ) (t : CoreOf E) (sound : IsSoundCore s v t) (k : ℕ) (l : Line E) (line : IsSoundLine s k l)
      (entered : l.entered ≤ t.barrier.window) (more : (t.lines k).moment ≤ l.moment) where
    put_line : (j : ℕ) → j < s.net.timelines → IsSoundLine s j (put_at k l t.lines j)
    put_line j known = put_each (λ n (x : Line E). IsSoundLine s n x) k l t.lines j (λ same. subst (λ n. IsSoundLine s n l) (sym same) line) (λ apart. sound.lines j known)

    put_entered : (j : ℕ) → j < s.net.timelines → (put_at k l t.lines j).entered ≤ t.barrier.window
    put_entered j known = put_each (λ n (x : Line E). x.entered ≤ t.barrier.window) k l t.lines j (λ same. entered) (λ apart. sound.entered j known)

    put_done : (j w : ℕ) → HasDone s j w (t.lines j) → HasDone s j w (put_at k l t.lines j)
    put_done j w done = put_each (λ n (x : Line E). HasDone s n w x) k l t.lines j
        (λ same. subst (λ n. HasDone s n w l) (sym same) (done_more k w (t.lines k) l more (subst (λ n. HasDone s n w (t.lines n)) same done)))
        (λ apart. done)

    pub line_keeps : ((c : ℕ) → (t.lines k).posted c ≡ l.posted c) → ((c : ℕ) → (t.lines k).taken c ≡ l.taken c) → IsSoundCore s v (with_line k l t)
    line_keeps posted taken = record {
      lines = put_line;
      mails = sound.mails;
      barrier = sound.barrier;
      posted = λ c cross. sound.posted c cross ∙ put_each (λ n (x : Line E). (t.lines n).posted c ≡ x.posted c) k l t.lines (s.net.sender c)
          (λ same. ap (λ n. (t.lines n).posted c) same ∙ posted c) (λ apart. refl);
      taken = λ c cross. sound.taken c cross ∙ put_each (λ n (x : Line E). (t.lines n).taken c ≡ x.taken c) k l t.lines (s.net.receiver c)
          (λ same. ap (λ n. (t.lines n).taken c) same ∙ taken c) (λ apart. refl);
      entered = put_entered;
      done = λ j known. put_done j v (sound.done j known);
      reported = λ j known told. put_done j t.barrier.window (sound.reported j known told);
    }

    pub parts_keep : (c : ℕ) (m : MailOf E) → IsSoundMail s c m
        → ((b : ℕ) → s.net.cross b ≡ true → (put_at c m t.mails b).posted ≡ (put_at k l t.lines (s.net.sender b)).posted b)
        → ((b : ℕ) → s.net.cross b ≡ true → (put_at c m t.mails b).taken ≡ (put_at k l t.lines (s.net.receiver b)).taken b)
        → IsSoundCore s v (with_mail c m (with_line k l t))
    parts_keep c m mail posted taken = record {
      lines = put_line;
      mails = λ b cross. put_each (λ n (x : MailOf E). IsSoundMail s n x) c m t.mails b (λ same. subst (λ n. IsSoundMail s n m) (sym same) mail) (λ apart. sound.mails b cross);
      barrier = sound.barrier;
      posted = posted;
      taken = taken;
      entered = put_entered;
      done = λ j known. put_done j v (sound.done j known);
      reported = λ j known told. put_done j t.barrier.window (sound.reported j known told);
    }

module _ {X E : Type 0} (s : Scene X E) (sh : IsShared s) (v : ℕ) (t : CoreOf E) (sound : IsSoundCore s v t) where
  -- ---- the six steps

  pub execute_keeps : (budget i n : ℕ) (known : i < s.net.timelines) (may : CanExecute s budget i (t.lines i)) → event_at s n ≡ Some may.head
      → IsSoundCore s v (executed_core s i n (s.machine.writes (world_at s n).state may.head) may.rest t)
  execute_keeps budget i n known may is =
      let l = t.lines i in
      let line = sound.lines i known in
      let q : IsNext s i l.moment may.head = next_of s sh i l line budget may in
      let same : q.wait + l.moment ≡ n = one_number s sh (q.wait + l.moment) n may.head q.is is in
      subst (λ k. IsSoundCore s v (executed_core s i k (s.machine.writes (world_at s k).state may.head) may.rest t)) same
      (line_keeps s v t sound i (executed_line s i (q.wait + l.moment) (s.machine.writes (world_at s (q.wait + l.moment)).state may.head) may.rest l)
      (executed_is_sound s sh i l line may.head may.rest may.is may.below q) (sound.entered i known) (omega arith) (λ c. refl) (λ c. refl))

  pub enter_keeps : (i : ℕ) → i < s.net.timelines → CanEnter s.net i (t.lines i) t.barrier → IsSoundCore s v (entered_core s i t)
  enter_keeps i known may =
      line_keeps s v t sound i (entered_line s t.barrier.window (t.lines i))
      (enters_soundly s sh i (t.lines i) (sound.lines i known) v t.barrier sound.barrier may (sound.done i known))
      (omega arith) (omega arith) (λ c. refl) (λ c. refl)

  module _ (c : ℕ) (cross : s.net.cross c ≡ true) where
    abbrev from : ℕ
    from = s.net.sender c

    abbrev to : ℕ
    to = s.net.receiver c

    pub post_keeps : IsSoundCore s v (posted_core s c t)
    post_keeps =
        let known = sh.joining.sender c cross in
        let line = sound.lines from known in
        let out : IsOutOf s.net from c = record { cross = cross; sender = refl } in
        let l = posted_line c (t.lines from) in
        let m = posted_mail s from c (t.lines from) (t.mails c) in
        parts_keep s v t sound from l (posted_is_sound s sh from (t.lines from) line c) (sound.entered from known) (omega arith)
        c m (posted_mail_is_sound s sh from (t.lines from) line c (t.mails c) out (sound.mails c cross) (sound.posted c cross))
        (λ b own. put_each (λ n (x : MailOf E). x.posted ≡ (put_at from l t.lines (s.net.sender n)).posted n) c m t.mails b
        (λ same. subst (λ n. m.posted ≡ (put_at from l t.lines (s.net.sender n)).posted n) (sym same)
        (rw (put_here from l t.lines) (sym (put_here c ((t.lines from).written c) (t.lines from).posted))))
        (λ apart. sound.posted b own ∙ put_each (λ n (x : Line E). (t.lines n).posted b ≡ x.posted b) from l t.lines (s.net.sender b)
        (λ same. ap (λ n. (t.lines n).posted b) same ∙ sym (put_else c b ((t.lines from).written c) (t.lines from).posted apart)) (λ other. refl)))
        (λ b own. put_each (λ n (x : MailOf E). x.taken ≡ (t.mails n).taken) c m t.mails b (λ same. ap (λ n. (t.mails n).taken) (sym same)) (λ apart. refl)
        ∙ (sound.taken b own ∙ put_each (λ n (x : Line E). (t.lines n).taken b ≡ x.taken b) from l t.lines (s.net.receiver b)
        (λ same. ap (λ n. (t.lines n).taken b) same) (λ other. refl)))

    pub take_keeps : IsSoundCore s v (taken_core s c t)
    take_keeps =
        let known = sh.joining.receiver c cross in
        let line = sound.lines to known in
        let into : IsInto s.net to c = record { cross = cross; receiver = refl } in
        let mail = t.mails c in
        let l = taken_line s c (t.lines to) mail in
        let m = taken_mail mail in
        let sent = sound.mails c cross in
        let parcel : IsTrueParcel s c ((t.lines to).taken c) mail.events mail.posted mail.appointment =
        subst (λ n. IsTrueParcel s c n mail.events mail.posted mail.appointment) (sound.taken c cross) sent.parcel in
        parts_keep s v t sound to l (taken_is_sound s sh to (t.lines to) line c into mail parcel) (sound.entered to known) (omega arith)
        c m (taken_mail_is_sound s c mail sent)
        (λ b own. put_each (λ n (x : MailOf E). x.posted ≡ (t.mails n).posted) c m t.mails b (λ same. ap (λ n. (t.mails n).posted) (sym same)) (λ apart. refl)
        ∙ (sound.posted b own ∙ put_each (λ n (x : Line E). (t.lines n).posted b ≡ x.posted b) to l t.lines (s.net.sender b)
        (λ same. ap (λ n. (t.lines n).posted b) same) (λ other. refl)))
        (λ b own. put_each (λ n (x : MailOf E). x.taken ≡ (put_at to l t.lines (s.net.receiver n)).taken n) c m t.mails b
        (λ same. subst (λ n. m.taken ≡ (put_at to l t.lines (s.net.receiver n)).taken n) (sym same)
        (rw (put_here to l t.lines) (sym (put_here c mail.posted (t.lines to).taken))))
        (λ apart. sound.taken b own ∙ put_each (λ n (x : Line E). (t.lines n).taken b ≡ x.taken b) to l t.lines (s.net.receiver b)
        (λ same. ap (λ n. (t.lines n).taken b) same ∙ sym (put_else c b mail.posted (t.lines to).taken apart)) (λ other. refl)))

  pub reports_keep : (i : ℕ) → i < s.net.timelines → CanReport s i (t.lines i) t.barrier → IsSoundCore s v (reported_core s i t)
  reports_keep i known may = record {
    lines = sound.lines;
    mails = sound.mails;
    barrier = report_keeps s sh v i (t.lines i) t.barrier (sound.lines i known) sound.barrier may;
    posted = sound.posted;
    taken = sound.taken;
    entered = sound.entered;
    done = sound.done;
    reported = λ j there told. elim (test_cases (nat_eq j i)) [
      | inl same ↦ subst (λ n. HasDone s n t.barrier.window (t.lines n)) (sym (eqb-true j i same))
          (low_done s sh i (t.lines i) (sound.lines i known) t.barrier.window may.low)
      | inr apart ↦ sound.reported j there (let before : t.barrier.reported j ≡ true = rw apart at told in before)
    ];
  }

  pub cross_keeps : (after : BarrierOf) → CanCross s.net.timelines t.barrier → IsCrossing s t.barrier after → (w : ℕ) × IsSoundCore s w (with_barrier after t)
  cross_keeps after may crossing = elim (lt_or_ge s.until (least_report s.until t.barrier.least s.net.timelines)) [
    | inl late ↦ (
      v,
      subst (λ b. IsSoundCore s v (with_barrier b t)) (sym (crossing.ends late)) (record {
        lines = sound.lines;
        mails = sound.mails;
        barrier = ended_is_sound s sh v t.barrier sound.barrier may.all_in late;
        posted = sound.posted;
        taken = sound.taken;
        entered = sound.entered;
        done = sound.done;
        reported = sound.reported;
      }),
    )
    | inr early ↦ (let next = crossing.goes_on early in
        let barrier = next_is_sound s sh v t.barrier sound.barrier may.all_in after early next in
        let rises = window_not_before s sh after.round t.barrier.window after.window barrier.window in (
          t.barrier.window,
          record {
            lines = sound.lines;
            mails = sound.mails;
            barrier = barrier;
            posted = sound.posted;
            taken = sound.taken;
            entered = λ i known. (let before = sound.entered i known in omega arith);
            done = λ i known. sound.reported i known (may.all_in i known);
            reported = λ i known told. absurd (let wrong : true ≡ false = sym told ∙ next.reported i known in cc);
          },
        ))
  ]

  -- all of them
  pub step_keeps : (budget : ℕ) (after : CoreOf E) → IsStep s budget t after → (w : ℕ) × IsSoundCore s w after
  step_keeps budget after (executes i n known may is same) = (v, subst (λ u. IsSoundCore s v u) (sym same) (execute_keeps budget i n known may is))
  step_keeps budget after (posts c cross may same) = (v, subst (λ u. IsSoundCore s v u) (sym same) (post_keeps c cross))
  step_keeps budget after (takes c cross may same) = (v, subst (λ u. IsSoundCore s v u) (sym same) (take_keeps c cross))
  step_keeps budget after (enters i known may same) = (v, subst (λ u. IsSoundCore s v u) (sym same) (enter_keeps i known may))
  step_keeps budget after (reports i known may same) = (v, subst (λ u. IsSoundCore s v u) (sym same) (reports_keep i known may))
  step_keeps budget after (crosses b may crossing same) = let kept = cross_keeps b may crossing in (kept.0, subst (λ u. IsSoundCore s kept.0 u) (sym same) kept.1)
