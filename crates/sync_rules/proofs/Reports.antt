-- The report of a sound timeline is true, and a barrier that crosses by true reports stays sound.
use Rattle.std.proofs.Common.{◌≡◌, ℕ, zero, suc, ◌+◌, ◌<◌, ◌≤◌, ◌⊎◌, true, false, nat_eq, Some, refl, sym, ap, ◌∙◌, subst, inl, inr, arith, eqb-true}
use Rattle.event_order.specs.Pending.{Among}
use Rattle.event_order.specs.Run.{Arises}
use Rattle.event_order.proofs.Pending.{test_cases}
use Rattle.event_order.proofs.Steps.{lt_or_ge, lt_or_same}
use Rattle.ssf_model.specs.Scene.{Scene, event_at, time_of, channel_of}
use Rattle.ssf_model.specs.Truth.{is_on_line, IsLeastFrom, IsWindow, IsKeptWrite, WasExecuted}
use Rattle.ssf_model.proofs.Lists.{different}
use Rattle.sync_rules.specs.Parts.{Line, BarrierOf}
use Rattle.sync_rules.specs.Bounds.{IsInto, IsOutOf, goes_out, head_time, low_of, least_ahead_of}
use Rattle.sync_rules.specs.Shared.{IsShared}
use Rattle.sync_rules.specs.Sound.{HasCome, IsSentFrom, IsSoundLine, IsReport, IsSoundBarrier}
use Rattle.sync_rules.specs.Steps.{CanReport, IsNextRound, reported_barrier, least_report, ended_barrier}
use Rattle.sync_rules.proofs.Runs.{times, in_time, arises_by, arisen}
use Rattle.sync_rules.proofs.Writes.{placed, placed_before, made_le, kept_by}
use Rattle.sync_rules.proofs.Standing.{head_cases, head_least}
use Rattle.sync_rules.proofs.Windows.{cut_at, window_before, window_not_before}
use Rattle.sync_rules.proofs.Bounds.{true_or_not, out_of, goes, line_is, is_line, bound_entered, low_done, low_pending}

-- ---- report

module _ {X E : Type 0} (s : Scene X E) (sh : IsShared s) (i : ℕ) (l : Line E) (sound : IsSoundLine s i l)
    (index v x : ℕ) (window : IsWindow s index v x) (entered : l.entered ≡ x) (low : x ≤ low_of s i l) where
  before_is : v ≡ sound.before
  before_is = window_before s sh index v x sound.index sound.before l.entered window sound.window (sym entered)

  -- an event from the window on is not executed
  not_executed : (j : ℕ) (e : E) → event_at s j ≡ Some e → is_on_line s i e ≡ true → x ≤ time_of s e → WasExecuted s l.moment e → ⊥
  not_executed j e is own late done = let below = sound.below done.0 e done.1 done.2 own in omega (arith, below, bound_entered s.net i l, entered)

  -- and what is pending has the least time ahead or a later one
  ahead : (e : E) → Among e l.pending → least_ahead_of s l ≤ time_of s e
  ahead e a = let head = head_least s (s.until + 1) l.pending e sound.standing.rising a in omega arith

  sender_own : (from k : ℕ) (d : E) → (w : IsSentFrom s i from k d) → is_on_line s i w.written.by ≡ true
  sender_own from k d w = is_line s sh i w.written.by ((sh.routed k w.written.by d (kept_by s k d w.written)).sent w.out.cross ∙ w.out.sender)

  from_inside : (j k : ℕ) (e : E) → event_at s j ≡ Some e → is_on_line s i e ≡ true → x ≤ time_of s e
      → (w : IsKeptWrite s k e) → is_on_line s i w.by ≡ true → time_of s w.by < x → least_ahead_of s l ≤ time_of s e
  from_inside j k e is own late w by early =
      ahead e (sound.standing.inside e k own w by (low_done s sh i l sound x low k w.by w.is by early) (not_executed j e is own late))

  from_across : (j k : ℕ) (e : E) → event_at s j ≡ Some e → is_on_line s i e ≡ true → x ≤ time_of s e
      → (w : IsKeptWrite s k e) → is_on_line s i w.by ≡ false → time_of s w.by < v → least_ahead_of s l ≤ time_of s e
  from_across j k e is own late w other early =
      let c = channel_of s e in
      let write = kept_by s k e w in
      let routed = sh.routed k w.by e write in
      let place = placed s k w.by e write in
      elim (test_cases (s.net.cross c)) [
        | inr f ↦ absurd (let wrong : true ≡ false = sym (is_line s sh i w.by (routed.inside f ∙ line_is s sh i e own)) ∙ other in cc)
        | inl t ↦
            let into : IsInto s.net i c = record { cross = t; receiver = sym (routed.reached t) ∙ line_is s sh i e own } in
            let early_at : k < sound.at = elim (lt_or_ge k sound.at) [ inl less ↦ less | inr more ↦ (let order = sound.cut.late k w.by w.is more in let same = before_is in absurd (omega arith)) ] in
            let below = placed_before s sh c place.0 k sound.at w.by e place.1 write early_at in
            let came : HasCome s l.taken e = record { place = place.0; is = place.1; below = omega (arith, below, sound.enough c into) } in
            ahead e (sound.standing.across e k own w other came (not_executed j e is own late))
      ]

  -- a time that the run has
  abbrev HasTime : ℕ → Type 0
  HasTime m = (j : ℕ) × (e : E) × (event_at s j ≡ Some e) × (time_of s e ≡ m) × (x ≤ m)

  has_time : (m : ℕ) (d : E) → Arises s.machine s.until s.kept s.opening d → m ≤ s.until → m ≡ time_of s d → x ≤ m → HasTime m
  has_time m d a early same late = let found = arisen s sh d a (omega arith) in (found.0, d, found.1, sym same, late)

  pub report_is_true : IsReport s v x i (least_ahead_of s l) l.written
  report_is_true = record {
    counts = λ c n cut out.
        let down = made_le s sh c l.moment n out.cross (λ j e early is sends. elim (lt_or_ge j n) [
          | inl less ↦ less
          | inr more ↦
              let below = sound.below j e early is (subst (λ k. is_on_line s k e ≡ true) out.sender sends) in
              let late = cut.late j e is more in
              absurd (omega (arith, below, bound_entered s.net i l, late, entered))
        ]) in
        let up = made_le s sh c n l.moment out.cross (λ j e early is sends.
        low_done s sh i l sound x low j e is (subst (λ k. is_on_line s k e ≡ true) out.sender sends) (cut.early j e is early)) in
        omega (arith, sound.written c out, down, up);
    opening = λ j e is own late opened. ahead e (sound.standing.opening e own opened (not_executed j e is own late));
    inside = from_inside;
    early = λ j k e is own late w early. elim (test_cases (is_on_line s i w.by)) [
      | inl by ↦ from_inside j k e is own late w by (let order = window_not_before s sh index v x window in omega arith)
      | inr other ↦ from_across j k e is own late w other early
    ];
    across = λ k d w from early.
        let own = sender_own x k d w in
        let done = low_done s sh i l sound x low k w.written.by w.written.is own early in
        let later : sound.at ≤ k = elim (lt_or_ge k sound.at) [ inr more ↦ more | inl less ↦ (let order = sound.cut.early k w.written.by w.written.is less in let same = before_is in absurd (omega arith)) ] in
        let late = w.late in
        let least = sound.arrival_low d k (record { written = w.written; out = w.out; late = omega (arith, late, entered) }) later done in
        omega arith;
    is = λ early. elim (lt_or_ge (head_time (time_of s) (s.until + 1) l.pending) l.arrival) [
      | inl less ↦ elim (head_cases (time_of s) (s.until + 1) l.pending) [
        | inl top ↦ absurd (omega arith)
        | inr q ↦
            let a : Among q.head l.pending = subst (λ ps. Among q.head ps) (sym q.is) (inl refl) in
            let least = q.least in
            let same : least_ahead_of s l ≡ time_of s q.head = omega arith in
            has_time (least_ahead_of s l) q.head (sound.standing.arises q.head a) early same (omega (arith, low_pending s sh i l sound q.head a))
      ]
      | inr more ↦ elim sound.arrival_is [
        | inl top ↦ absurd (omega arith)
        | inr (d, k, w, from, before, least) ↦
            let same : least_ahead_of s l ≡ time_of s d = omega arith in
            has_time (least_ahead_of s l) d (inr (k, w.written)) early same (let late = w.late in omega (arith, late, entered))
      ]
    ];
  }

module _ {X E : Type 0} (s : Scene X E) (sh : IsShared s) where
  -- a report says of the counts what its sender's channels have
  pub same_report : (v x i m : ℕ) (sent told : ℕ → ℕ) → ((c : ℕ) → IsOutOf s.net i c → told c ≡ sent c) → IsReport s v x i m sent → IsReport s v x i m told
  same_report v x i m sent told same report = record {
    counts = λ c n cut out. same c out ∙ report.counts c n cut out;
    opening = report.opening;
    inside = report.inside;
    early = report.early;
    across = report.across;
    is = report.is;
  }

  -- a barrier that takes a true report stays sound
  pub reported_is_sound : (v i : ℕ) (l : Line E) (b : BarrierOf) → IsSoundBarrier s v b → b.ended ≡ false → IsReport s v b.window i (least_ahead_of s l) l.written → IsSoundBarrier s v (reported_barrier s i l b)
  reported_is_sound v i l b sound goes_on report = record {
    window = sound.window;
    at = sound.at;
    cut = sound.cut;
    counts = sound.counts;
    reports = λ j known told. elim (test_cases (nat_eq j i)) [
      | inl t ↦
          let same : j ≡ i = eqb-true j i t in
          rw t (subst (λ k. IsReport s v b.window k (least_ahead_of s l) (reported_barrier s i l b).sent) (sym same)
          (same_report v b.window i (least_ahead_of s l) l.written _ (λ c out. rw (goes s.net i c out) refl) report))
      | inr f ↦
          let before : b.reported j ≡ true = rw f at told in
          rw f (same_report v b.window j (b.least j) b.sent _
          (λ c out. rw (true_or_not (goes_out s.net i c) (λ t. different j i f (sym out.sender ∙ (out_of s.net i c t).sender))) refl)
          (sound.reports j known before))
    ];
    all_in = λ ended. absurd (let wrong : true ≡ false = sym ended ∙ goes_on in cc);
    over = λ ended. absurd (let wrong : true ≡ false = sym ended ∙ goes_on in cc);
  }

  -- a barrier stays sound by the report of a sound timeline that may report
  pub report_keeps : (v i : ℕ) (l : Line E) (b : BarrierOf) → IsSoundLine s i l → IsSoundBarrier s v b → CanReport s i l b → IsSoundBarrier s v (reported_barrier s i l b)
  report_keeps v i l b line barrier may =
      reported_is_sound v i l b barrier may.goes_on (report_is_true s sh i l line b.round v b.window barrier.window may.entered may.low)

-- ---- cross

report_top : (until : ℕ) (least : ℕ → ℕ) (n : ℕ) → least_report until least n ≤ until + 1
report_top until least zero = omega arith
report_top until least (suc n) = omega (arith, report_top until least n)

pub report_below : (until : ℕ) (least : ℕ → ℕ) (n i : ℕ) → i < n → least_report until least n ≤ least i
report_below until least zero i l = absurd (omega arith)
report_below until least (suc n) i l = elim (lt_or_same i n (omega arith)) [
  | inl less ↦ omega (arith, report_below until least n i less)
  | inr same ↦ let one = ap least same in omega arith
]

pub report_cases : (until : ℕ) (least : ℕ → ℕ) (n : ℕ) → (least_report until least n ≡ until + 1) ⊎ ((i : ℕ) × (i < n) × (least_report until least n ≡ least i))
report_cases until least zero = inl refl
report_cases until least (suc n) = elim (lt_or_ge (least n) (least_report until least n)) [
  | inl less ↦ inr (n, omega arith, omega arith)
  | inr more ↦ elim (report_cases until least n) [ inl top ↦ inl (omega arith) | inr found ↦ inr (found.0, omega (arith, found.1), omega (arith, found.2)) ]
]

module _ {X E : Type 0} (s : Scene X E) (sh : IsShared s) (v : ℕ) (b : BarrierOf) (sound : IsSoundBarrier s v b)
    (all_in : (i : ℕ) → i < s.net.timelines → b.reported i ≡ true) where
  abbrev least : ℕ
  least = least_report s.until b.least s.net.timelines

  by_report : (i : ℕ) → i < s.net.timelines → (m : ℕ) → b.least i ≤ m → least ≤ m
  by_report i known m l = omega (arith, report_below s.until b.least s.net.timelines i known)

  reached_within : (n j : ℕ) (e : E) → j < n → event_at s j ≡ Some e → b.window ≤ time_of s e → least ≤ time_of s e
  reached_within zero j e l is late = absurd (omega arith)
  reached_within (suc n) j e l is late =
      let i = s.line e in
      let known = sh.placed j e is in
      let own = is_line s sh i e refl in
      let mine = sound.reports i known (all_in i known) in
      elim (arises_by s sh j e is) [
        | inl opened ↦ by_report i known (time_of s e) (mine.opening j e is own late opened)
        | inr w ↦ elim (lt_or_ge (time_of s w.written.by) b.window) [
          | inr after ↦ omega (
            arith,
            reached_within n w.at w.written.by (let earlier = w.before in omega arith) w.written.is after,
            times s sh w.at j w.written.by e (let earlier = w.before in omega arith) w.written.is is,
          )
          | inl before ↦ elim (lt_or_ge (time_of s w.written.by) v) [
            | inl early ↦ by_report i known (time_of s e) (mine.early j w.at e is own late w.written early)
            | inr from ↦
                let routed = sh.routed w.at w.written.by e (kept_by s w.at e w.written) in
                elim (test_cases (s.net.cross (channel_of s e))) [
                  | inr inside ↦ by_report i known (time_of s e) (mine.inside j w.at e is own late w.written (is_line s sh i w.written.by (routed.inside inside)) before)
                  | inl cross ↦
                      let k = s.line w.written.by in
                      let there = sh.placed w.at w.written.by w.written.is in
                      let theirs = sound.reports k there (all_in k there) in
                      by_report k there (time_of s e)
                      (theirs.across w.at e (record { written = w.written; out = record { cross = cross; sender = sym (routed.sent cross) }; late = late }) from before)
                ]
          ]
        ]
      ]

  -- no event from the window on is before the least report
  pub least_reached : (j : ℕ) (e : E) → event_at s j ≡ Some e → b.window ≤ time_of s e → least ≤ time_of s e
  least_reached j e is late = reached_within (suc j) j e (omega arith) is late

  -- so it is the least time from the window on
  pub cross_least : least ≤ s.until → IsLeastFrom s b.window least
  cross_least early = elim (report_cases s.until b.least s.net.timelines) [
    | inl top ↦ absurd (omega arith)
    | inr (i, known, same) ↦
        let report = sound.reports i known (all_in i known) in
        let found = report.is (omega arith) in
        record {
          number = found.0;
          event = found.1;
          is = found.2;
          at = found.3 ∙ sym same;
          from = omega (arith, found.4, same);
          least = least_reached;
        }
  ]

  pub next_is_sound : (after : BarrierOf) → least ≤ s.until → IsNextRound s least b after → IsSoundBarrier s b.window after
  next_is_sound after early next =
      let cut = cut_at s sh b.window in
      record {
        window = subst (λ k. IsWindow s k b.window after.window) (sym next.round) (v, least, sound.window, cross_least early, next.window);
        at = cut.0;
        cut = cut.1;
        counts = λ c cross.
            let known = sh.joining.sender c cross in
            next.counts c cross ∙ (sound.reports (s.net.sender c) known (all_in (s.net.sender c) known)).counts c cut.0 cut.1 (record { cross = cross; sender = refl });
        reports = λ i known told. absurd (let wrong : true ≡ false = sym told ∙ next.reported i known in cc);
        all_in = λ ended. absurd (let wrong : true ≡ false = sym ended ∙ next.ended in cc);
        over = λ ended. absurd (let wrong : true ≡ false = sym ended ∙ next.ended in cc);
      }

  pub ended_is_sound : s.until < least → IsSoundBarrier s v (ended_barrier b)
  ended_is_sound late = record {
    window = sound.window;
    at = sound.at;
    cut = sound.cut;
    counts = sound.counts;
    reports = sound.reports;
    all_in = λ ended. all_in;
    over = λ ended j e is. elim (lt_or_ge (time_of s e) b.window) [
      | inl less ↦ less
      | inr more ↦ absurd (omega (arith, least_reached j e is more, in_time s sh j e is, late))
    ];
  }
