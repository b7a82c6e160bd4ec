-- Each step leaves less to do.
use Rattle.std.proofs.Common.{◌≡◌, ℕ, zero, suc, ◌+◌, ◌-◌, ◌*◌, ◌<◌, ◌≤◌, true, false, max, nat_eq, nat_lt, List, [], ◌++◌, length, refl, sym, ap, ◌∙◌, subst, inl, inr, arith, length-append, eqb-true, eq-eqb}
use Rattle.std.proofs.Math.Nat.{mul-le-mul_right}
use native.Mathlib.Nat.{suc-mul}
use Rattle.std.proofs.lemmas.Grind.{common_steps}
use Rattle.event_order.proofs.Pending.{test_cases}
use Rattle.event_order.proofs.Steps.{lt_or_ge, lt_or_same}
use Rattle.ssf_model.specs.Scene.{Scene}
use Rattle.ssf_model.specs.Truth.{IsWindow}
use Rattle.sync_rules.specs.Parts.{Line, MailOf, BarrierOf, CoreOf, put_at}
use Rattle.sync_rules.specs.Bounds.{promise_of}
use Rattle.sync_rules.specs.Shared.{IsShared}
use Rattle.sync_rules.specs.Sound.{IsSoundCore}
use Rattle.sync_rules.specs.Steps.{CanPost, CanTake, CanCross, IsCrossing, IsStep, executed_line, posted_line, posted_mail, taken_line, taken_mail, entered_line, reported_barrier, least_report, with_line, with_mail, with_barrier, posted_core, taken_core, entered_core, reported_core}
use Rattle.sync_rules.specs.Steps.IsStep.{executes, posts, takes, enters, reports, crosses}
use Rattle.sync_rules.specs.Measure.{Left, IsLess, sum_below, time_left, window_left, promise_left, parcel_left, at_cross, left_of, packed}
use Rattle.sync_rules.specs.Measure.IsLess.{in_time, in_windows, in_events, in_promises, in_parcels}
use Rattle.sync_rules.proofs.Windows.{window_later, window_most}
use Rattle.sync_rules.proofs.Bounds.{put_here, put_else, put_each}
use Rattle.sync_rules.proofs.Posts.{promise_most}
use Rattle.sync_rules.proofs.Reports.{next_is_sound}

less_test : (a b : ℕ) → a < b → nat_lt a b ≡ true
less_test a b h = grind (arith, common_steps)

not_less_test : (a b : ℕ) → b ≤ a → nat_lt a b ≡ false
not_less_test a b h = grind (arith, common_steps)

-- ---- sums

sum_most : (f g : ℕ → ℕ) (n : ℕ) → ((i : ℕ) → i < n → f i ≤ g i) → sum_below f n ≤ sum_below g n
sum_most f g zero all = omega arith
sum_most f g (suc n) all = omega (arith, sum_most f g n (λ i l. all i (omega arith)), all n (omega arith))

sum_less : (f g : ℕ → ℕ) (n k : ℕ) → ((i : ℕ) → i < n → f i ≤ g i) → k < n → f k < g k → sum_below f n < sum_below g n
sum_less f g zero k all known less = absurd (omega arith)
sum_less f g (suc n) k all known less = elim (lt_or_same k n (omega arith)) [
  | inl before ↦ omega (arith, sum_less f g n k (λ i l. all i (omega arith)) before less, all n (omega arith))
  | inr same ↦ (let here : f n < g n = subst (λ j. f j < g j) same less in omega (arith, sum_most f g n (λ i l. all i (omega arith)), here))
]

module _ {X E : Type 0} (s : Scene X E) where
  cross_most : (f g : ℕ → ℕ) (c : ℕ) → (s.net.cross c ≡ true → f c ≤ g c) → at_cross s f c ≤ at_cross s g c
  cross_most f g c below = elim (test_cases (s.net.cross c)) [ inl t ↦ rw t (below t) | inr f ↦ rw f (omega arith) ]

  cross_less : (f g : ℕ → ℕ) (c : ℕ) → s.net.cross c ≡ true → f c < g c → at_cross s f c < at_cross s g c
  cross_less f g c cross less = rw cross less

-- ---- steps that move events and appointments on one channel

-- what such a step leaves as it is
record IsMoved {E : Type 0} (t u : CoreOf E) (c : ℕ) : Type 0 where
  barrier : u.barrier ≡ t.barrier
  entered : (i : ℕ) → (u.lines i).entered ≡ (t.lines i).entered
  executed : (i : ℕ) → (u.lines i).executed ≡ (t.lines i).executed
  held : (i b : ℕ) → (t.lines i).held b ≤ (u.lines i).held b
  appointment : (b : ℕ) → (t.mails b).appointment ≤ (u.mails b).appointment
  outbox : (i b : ℕ) → (b ≡ c → ⊥) → (u.lines i).outbox b ≡ (t.lines i).outbox b
  events : (b : ℕ) → (b ≡ c → ⊥) → (u.mails b).events ≡ (t.mails b).events

module _ {X E : Type 0} (s : Scene X E) (sh : IsShared s) (budget : ℕ) where
  module _ (t u : CoreOf E) (c : ℕ) (cross : s.net.cross c ≡ true) (moved : IsMoved t u c) where
    same_time : time_left s u.barrier ≤ time_left s t.barrier
    same_time = rw moved.barrier (omega arith)

    same_windows : sum_below (λ i. window_left u.barrier i (u.lines i)) s.net.timelines ≤ sum_below (λ i. window_left t.barrier i (t.lines i)) s.net.timelines
    same_windows = sum_most _ _ s.net.timelines (λ i known. rw (moved.barrier, moved.entered i) (omega arith))

    same_events : sum_below (λ i. budget - (u.lines i).executed) s.net.timelines ≤ sum_below (λ i. budget - (t.lines i).executed) s.net.timelines
    same_events = sum_most _ _ s.net.timelines (λ i known. rw (moved.executed i) (omega arith))

    fewer_promises : (b : ℕ) → promise_left s b u ≤ promise_left s b t
    fewer_promises b = let one = moved.appointment b in let two = moved.held (s.net.receiver b) b in omega arith

    promises_most : sum_below (at_cross s (λ b. promise_left s b u)) s.net.channels ≤ sum_below (at_cross s (λ b. promise_left s b t)) s.net.channels
    promises_most = sum_most _ _ s.net.channels (λ b known. cross_most s (λ k. promise_left s k u) (λ k. promise_left s k t) b (λ own. fewer_promises b))

    by_promise : promise_left s c u < promise_left s c t → IsLess (left_of s budget u) (left_of s budget t)
    by_promise less = in_promises same_time same_windows same_events
        (sum_less _ _ s.net.channels c (λ b known. cross_most s (λ k. promise_left s k u) (λ k. promise_left s k t) b (λ own. fewer_promises b))
        (sh.joining.known c cross) (cross_less s (λ k. promise_left s k u) (λ k. promise_left s k t) c cross less))

    same_parcels : parcel_left s c u < parcel_left s c t → (b : ℕ) → parcel_left s b u ≤ parcel_left s b t
    same_parcels less b = elim (test_cases (nat_eq b c)) [
      | inl e ↦ (let here = subst (λ k. parcel_left s k u < parcel_left s k t) (sym (eqb-true b c e)) less in omega arith)
      | inr f ↦ (let apart : b ≡ c → ⊥ = λ same. (let wrong : true ≡ false = sym (eq-eqb b c same) ∙ f in cc) in
          rw (moved.outbox (s.net.sender b) b apart, moved.events b apart) (omega arith))
    ]

    by_parcel : parcel_left s c u < parcel_left s c t → IsLess (left_of s budget u) (left_of s budget t)
    by_parcel less = in_parcels same_time same_windows same_events promises_most
        (sum_less _ _ s.net.channels c (λ b known. cross_most s (λ k. parcel_left s k u) (λ k. parcel_left s k t) b (λ own. same_parcels less b))
        (sh.joining.known c cross) (cross_less s (λ k. parcel_left s k u) (λ k. parcel_left s k t) c cross less))

  module _ (v : ℕ) (t : CoreOf E) (sound : IsSoundCore s v t) where
    -- ---- execute, enter, report and cross

    -- a step on timeline k by which it stands in the same window
    line_windows : (k : ℕ) (l : Line E) → l.entered ≡ (t.lines k).entered → (i : ℕ) → window_left t.barrier i (put_at k l t.lines i) ≤ window_left t.barrier i (t.lines i)
    line_windows k l same i = put_each (λ n (x : Line E). window_left t.barrier n x ≤ window_left t.barrier n (t.lines n)) k l t.lines i
        (λ e. subst (λ n. window_left t.barrier n l ≤ window_left t.barrier n (t.lines n)) (sym e) (rw same (omega arith))) (λ apart. omega arith)

    execute_less : (i n : ℕ) (writes rest : List E) → i < s.net.timelines → (t.lines i).executed < budget
        → IsLess (left_of s budget (with_line i (executed_line s i n writes rest (t.lines i)) t)) (left_of s budget t)
    execute_less i n writes rest known few =
        let l = executed_line s i n writes rest (t.lines i) in
        in_events (omega arith) (sum_most _ _ s.net.timelines (λ j there. line_windows i l refl j))
        (sum_less _ _ s.net.timelines i (λ j there. put_each (λ k (x : Line E). budget - x.executed ≤ budget - (t.lines k).executed) i l t.lines j
        (λ same. subst (λ k. budget - l.executed ≤ budget - (t.lines k).executed) (sym same) (omega arith)) (λ apart. omega arith))
        known (rw (put_here i l t.lines) (omega arith)))

    enter_less : (i : ℕ) → i < s.net.timelines → (t.lines i).entered < t.barrier.window → IsLess (left_of s budget (entered_core s i t)) (left_of s budget t)
    enter_less i known later =
        let l = entered_line s t.barrier.window (t.lines i) in
        let before : nat_lt (t.lines i).entered t.barrier.window ≡ true = less_test _ _ later in
        let after : nat_lt t.barrier.window t.barrier.window ≡ false = not_less_test _ _ (omega arith) in
        let here : window_left t.barrier i l < window_left t.barrier i (t.lines i) = rw (before, after) (omega arith) in
        in_windows (omega arith)
        (sum_less _ _ s.net.timelines i (λ j there. put_each (λ k (x : Line E). window_left t.barrier k x ≤ window_left t.barrier k (t.lines k)) i l t.lines j
        (λ same. subst (λ k. window_left t.barrier k l ≤ window_left t.barrier k (t.lines k)) (sym same) (omega arith)) (λ apart. omega arith))
        known (subst (λ (x : Line E). window_left t.barrier i x < window_left t.barrier i (t.lines i)) (sym (put_here i l t.lines)) here))

    report_less : (i : ℕ) → i < s.net.timelines → t.barrier.reported i ≡ false → IsLess (left_of s budget (reported_core s i t)) (left_of s budget t)
    report_less i known silent =
        let b = reported_barrier s i (t.lines i) t.barrier in
        let told : b.reported i ≡ true = put_here i true t.barrier.reported in
        in_windows (omega arith)
        (sum_less _ _ s.net.timelines i (λ j there. elim (test_cases (nat_eq j i)) [ inl e ↦ rw e (omega arith) | inr f ↦ rw f (omega arith) ])
        known (rw (told, silent) (omega arith)))

    cross_less_time : (after : BarrierOf) → CanCross s.net.timelines t.barrier → IsCrossing s t.barrier after → IsLess (left_of s budget (with_barrier after t)) (left_of s budget t)
    cross_less_time after may crossing = in_time (elim (lt_or_ge s.until (least_report s.until t.barrier.least s.net.timelines)) [
      | inl late ↦ rw (crossing.ends late, may.goes_on) (omega arith)
      | inr early ↦ (let next = crossing.goes_on early in
          let barrier = next_is_sound s sh v t.barrier sound.barrier may.all_in after early next in
          let window = subst (λ k. IsWindow s k t.barrier.window after.window) next.round barrier.window in
          let later = window_later s sh t.barrier.round t.barrier.window after.window window in
          let most = window_most s sh after.round t.barrier.window after.window barrier.window in
          rw (next.ended, may.goes_on) (omega arith))
    ])

    -- ---- post and take

    module _ (c : ℕ) (cross : s.net.cross c ≡ true) where
      module _ (k : ℕ) (l : Line E) (m : MailOf E) (entered : l.entered ≡ (t.lines k).entered) (executed : l.executed ≡ (t.lines k).executed)
          (held : (b : ℕ) → (t.lines k).held b ≤ l.held b) (appointment : (t.mails c).appointment ≤ m.appointment)
          (outbox : (b : ℕ) → (b ≡ c → ⊥) → l.outbox b ≡ (t.lines k).outbox b) where
        moved : IsMoved t (with_mail c m (with_line k l t)) c
        moved = record {
          barrier = refl;
          entered = λ i. put_each (λ n (x : Line E). x.entered ≡ (t.lines n).entered) k l t.lines i (λ same. entered ∙ ap (λ n. (t.lines n).entered) (sym same)) (λ apart. refl);
          executed = λ i. put_each (λ n (x : Line E). x.executed ≡ (t.lines n).executed) k l t.lines i (λ same. executed ∙ ap (λ n. (t.lines n).executed) (sym same)) (λ apart. refl);
          held = λ i b. put_each (λ n (x : Line E). (t.lines n).held b ≤ x.held b) k l t.lines i (λ same. subst (λ n. (t.lines n).held b ≤ l.held b) (sym same) (held b)) (λ apart. omega arith);
          appointment = λ b. put_each (λ n (x : MailOf E). (t.mails n).appointment ≤ x.appointment) c m t.mails b (λ same. subst (λ n. (t.mails n).appointment ≤ m.appointment) (sym same) appointment) (λ apart. omega arith);
          outbox = λ i b apart. put_each (λ n (x : Line E). x.outbox b ≡ (t.lines n).outbox b) k l t.lines i (λ same. outbox b apart ∙ ap (λ n. (t.lines n).outbox b) (sym same)) (λ other. refl);
          events = λ b apart. ap (λ (x : MailOf E). x.events) (put_else c b m t.mails apart);
        }

      post_less : CanPost s (s.net.sender c) c (t.lines (s.net.sender c)) (t.mails c) → IsLess (left_of s budget (posted_core s c t)) (left_of s budget t)
      post_less may =
          let k = s.net.sender c in
          let l = posted_line c (t.lines k) in
          let m = posted_mail s k c (t.lines k) (t.mails c) in
          let u = posted_core s c t in
          let both = moved k l m refl refl (λ b. omega arith) (omega arith) (λ b apart. put_else c b [] (t.lines k).outbox apart) in
          let mail : u.mails c ≡ m = put_here c m t.mails in
          elim may [
            | inr more ↦ by_promise t u c cross both
                (let most = promise_most s sh k (t.lines k) (sound.lines k (sh.joining.sender c cross)) c in
                let held = both.held (s.net.receiver c) c in
                let higher : (u.mails c).appointment ≡ max (t.mails c).appointment (promise_of s k c (t.lines k)) = ap (λ (x : MailOf E). x.appointment) mail in
                omega arith)
            | inl some ↦ by_parcel t u c cross both
                (let line : u.lines k ≡ l = put_here k l t.lines in
                let empty : (u.lines k).outbox c ≡ [] = ap (λ (x : Line E). x.outbox c) line ∙ put_here c [] (t.lines k).outbox in
                let more : (u.mails c).events ≡ (t.mails c).events ++ (t.lines k).outbox c = ap (λ (x : MailOf E). x.events) mail in
                let none : length ((u.lines k).outbox c) ≡ 0 = ap length empty in
                let all : length (u.mails c).events ≡ length (t.mails c).events + length ((t.lines k).outbox c) = ap length more ∙ length-append (t.mails c).events _ in
                omega arith)
          ]

      take_less : CanTake c (t.lines (s.net.receiver c)) (t.mails c) → IsLess (left_of s budget (taken_core s c t)) (left_of s budget t)
      take_less may =
          let k = s.net.receiver c in
          let mail = t.mails c in
          let l = taken_line s c (t.lines k) mail in
          let m = taken_mail mail in
          let u = taken_core s c t in
          let both = moved k l m refl refl (λ b. put_each (λ n x. (t.lines k).held n ≤ x) c (max ((t.lines k).held c) mail.appointment) (t.lines k).held b
          (λ same. (let one = ap (t.lines k).held same in omega arith)) (λ apart. omega arith)) (omega arith) (λ b apart. refl) in
          let line : u.lines k ≡ l = put_here k l t.lines in
          let after : u.mails c ≡ m = put_here c m t.mails in
          elim may [
            | inr more ↦ by_promise t u c cross both
                (let sent = sound.mails c cross in
                let most : mail.appointment ≤ s.until + 1 = elim (test_cases (s.net.appointed c)) [
                  | inl own ↦ sent.parcel.least own
                  | inr windowed ↦ (let none = sent.none windowed in omega arith)
                ] in
                let higher : (u.lines k).held c ≡ max ((t.lines k).held c) mail.appointment = ap (λ (x : Line E). x.held c) line ∙ put_here c _ (t.lines k).held in
                let same : (u.mails c).appointment ≡ mail.appointment = ap (λ (x : MailOf E). x.appointment) after in
                omega arith)
            | inl some ↦ by_parcel t u c cross both
                (let none : length (u.mails c).events ≡ 0 = ap (λ (x : MailOf E). length x.events) after in
                let same : length ((u.lines (s.net.sender c)).outbox c) ≡ length ((t.lines (s.net.sender c)).outbox c) =
                put_each (λ n (x : Line E). length (x.outbox c) ≡ length ((t.lines n).outbox c)) k l t.lines (s.net.sender c)
                (λ one. ap (λ n. length ((t.lines n).outbox c)) (sym one)) (λ apart. refl) in
                omega arith)
          ]

    -- ---- all of them

    pub step_less : (after : CoreOf E) → IsStep s budget t after → IsLess (left_of s budget after) (left_of s budget t)
    step_less after (executes i n known may is same) = subst (λ u. IsLess (left_of s budget u) (left_of s budget t)) (sym same) (execute_less i n _ may.rest known may.few)
    step_less after (posts c cross may same) = subst (λ u. IsLess (left_of s budget u) (left_of s budget t)) (sym same) (post_less c cross may)
    step_less after (takes c cross may same) = subst (λ u. IsLess (left_of s budget u) (left_of s budget t)) (sym same) (take_less c cross may)
    step_less after (enters i known may same) = subst (λ u. IsLess (left_of s budget u) (left_of s budget t)) (sym same) (enter_less i known may.later)
    step_less after (reports i known may same) = subst (λ u. IsLess (left_of s budget u) (left_of s budget t)) (sym same) (report_less i known may.silent)
    step_less after (crosses b may crossing same) = subst (λ u. IsLess (left_of s budget u) (left_of s budget t)) (sym same) (cross_less_time b may crossing)

-- ---- one number

-- a greater digit counts more than all lower ones
digit_less : (a b base low high : ℕ) → a < b → low < base → a * base + low < b * base + high
digit_less a b base low high less below =
    let up : suc a * base ≤ b * base = mul-le-mul_right base less in
    let next : suc a * base ≡ a * base + base = suc-mul a base in
    omega (arith, up, next)

digit_same : (a b base low high : ℕ) → a ≤ b → low < high → a * base + low < b * base + high
digit_same a b base low high most less = let up : a * base ≤ b * base = mul-le-mul_right base most in omega (arith, up)

digit_most : (a b base low high : ℕ) → a ≤ b → low ≤ high → a * base + low ≤ b * base + high
digit_most a b base low high most below = let up : a * base ≤ b * base = mul-le-mul_right base most in omega (arith, up)

-- less to do is a smaller number, where the last four numbers of it are below the bases
pub packed_less : (windows events promises parcels : ℕ) (n m : Left) → n.windows < windows → n.events < events → n.promises < promises → n.parcels < parcels
    → IsLess n m → packed windows events promises parcels n < packed windows events promises parcels m
packed_less windows events promises parcels n m a b c d (in_time l) =
    digit_less _ _ parcels _ _ (digit_less _ _ promises _ _ (digit_less _ _ events _ _ (digit_less _ _ windows _ _ l a) b) c) d
packed_less windows events promises parcels n m a b c d (in_windows l0 l) =
    digit_less _ _ parcels _ _ (digit_less _ _ promises _ _ (digit_less _ _ events _ _ (digit_same _ _ windows _ _ l0 l) b) c) d
packed_less windows events promises parcels n m a b c d (in_events l0 l1 l) =
    digit_less _ _ parcels _ _ (digit_less _ _ promises _ _ (digit_same _ _ events _ _ (digit_most _ _ windows _ _ l0 l1) l) c) d
packed_less windows events promises parcels n m a b c d (in_promises l0 l1 l2 l) =
    digit_less _ _ parcels _ _ (digit_same _ _ promises _ _ (digit_most _ _ events _ _ (digit_most _ _ windows _ _ l0 l1) l2) l) d
packed_less windows events promises parcels n m a b c d (in_parcels l0 l1 l2 l3 l) =
    digit_same _ _ parcels _ _ (digit_most _ _ promises _ _ (digit_most _ _ events _ _ (digit_most _ _ windows _ _ l0 l1) l2) l3) l
