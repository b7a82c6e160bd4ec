-- What sound parts tell of the run: where they begin, how far all of them are, and where they end.
use Rattle.std.proofs.Common.{◌≡◌, ℕ, zero, suc, ◌+◌, ◌<◌, ◌≤◌, Bool, true, List, ◌∷◌, ◌++◌, length, Some, refl, sym, ap, ◌∙◌, subst, inl, inr, arith, zero-add, suc-add, length-append, eqb-true}
use Rattle.std.specs.List.{filter}
use Rattle.std.proofs.lemmas.List.Elements.{filter-append}
use Rattle.event_order.specs.Machine.{first_events, option_list}
use Rattle.event_order.specs.Order.{IsBefore}
use Rattle.event_order.specs.Pending.{Among}
use Rattle.event_order.proofs.Order.{before_time, earlier}
use Rattle.event_order.proofs.Pending.{put_all_among, filter_among}
use Rattle.event_order.proofs.Steps.{lt_or_ge, difference}
use Rattle.event_order.proofs.Local.{share_own, share_same}
use Rattle.event_order.proofs.Shares.{one_more}
use Rattle.ssf_model.specs.Scene.{Scene, world_at, event_at, time_of}
use Rattle.ssf_model.specs.Truth.{is_on_line, line_events, IsTrueParcel, IsNext}
use Rattle.sync_rules.specs.Parts.{Line, MailOf, CoreOf, put_at}
use Rattle.sync_rules.specs.Bounds.{IsInto, low_of, safe_bound}
use Rattle.sync_rules.specs.Shared.{IsShared}
use Rattle.sync_rules.specs.Sound.{HasCome, IsCounted, IsSoundLine, IsSoundCore, IsOwnEvent}
use Rattle.sync_rules.specs.Steps.{IsStep, BudgetEndsAt, stays, first_line, first_core, executed_line, posted_line, taken_line, entered_line}
use Rattle.sync_rules.specs.Steps.IsStep.{executes, posts, takes, enters, reports, crosses}
use Rattle.sync_rules.proofs.Runs.{one_number}
use Rattle.sync_rules.proofs.Standing.{stands_first}
use Rattle.sync_rules.proofs.Windows.{window_most}
use Rattle.sync_rules.proofs.Bounds.{put_each, bound_entered, low_bound, low_pending, low_above, low_done, not_early, head_next, bound_rises, is_line, safe_below, safe_above, safe_most}
use Rattle.sync_rules.proofs.Executes.{next_of, executed_is_counted}
use Rattle.sync_rules.proofs.Posts.{none_late, taken_bound}

longer : {T : Type 0} (p : T → Bool) (xs ys : List T) → length (filter p xs) ≤ length (filter p (xs ++ ys))
longer p xs ys = omega (arith, ap length (filter-append p xs ys), length-append (filter p xs) (filter p ys))

module _ {X E : Type 0} (s : Scene X E) where
  -- a timeline has the more events the longer the run is
  line_more : (i n k : ℕ) → length (line_events s i n) ≤ length (line_events s i (k + n))
  line_more i n zero = rw zero-add (omega arith)
  line_more i n (suc k) = rw suc-add (omega (
    arith,
    line_more i n k,
    longer (is_on_line s i) (first_events s.machine s.until s.kept s.opening (k + n)) (option_list (event_at s (k + n))),
  ))

  pub line_grows : (i n k : ℕ) → n ≤ k → length (line_events s i n) ≤ length (line_events s i k)
  line_grows i n k l = let d = difference n k l in subst (λ j. length (line_events s i n) ≤ length (line_events s i j)) (sym d.1) (line_more i n d.0)

module _ {X E : Type 0} (s : Scene X E) (sh : IsShared s) where
  -- ---- the beginning

  pub first_line_is_sound : (i : ℕ) → IsSoundLine s i (first_line s i)
  first_line_is_sound i = record {
    standing = stands_first s sh i (HasCome s (λ c. 0)) (λ d came. (let below = came.below in omega arith));
    below = λ j e early is own. absurd (omega arith);
    held = λ c into appointed k d is early. absurd (omega arith);
    held_most = λ c into appointed. omega arith;
    ahead = λ c into windowed k d is early. absurd (omega arith);
    index = 0;
    before = 0;
    at = 0;
    window = (refl, refl);
    cut = record { early = λ j e is l. absurd (omega arith); late = λ j e is l. omega arith };
    enough = λ c into. omega arith;
    passed = λ j e is own l. absurd (omega arith);
    written = λ c out. refl;
    outbox = λ c out. refl;
    arrival_low = λ d k w from early. absurd (omega arith);
    arrival_is = inl refl;
  }

  pub first_line_is_counted : (budget i : ℕ) → IsCounted s budget i (first_line s i)
  first_line_is_counted budget i = record { executed = refl; few = omega arith }

  pub first_core_is_sound : IsSoundCore s 0 (first_core s)
  first_core_is_sound = record {
    lines = λ i known. first_line_is_sound i;
    mails = λ c cross. record {
      parcel = record { events = refl; least = λ own. omega arith; promise = λ own k d is early. absurd (omega arith) };
      none = λ windowed. refl;
    };
    barrier = record {
      window = (refl, refl);
      at = 0;
      cut = record { early = λ j e is l. absurd (omega arith); late = λ j e is l. omega arith };
      counts = λ c cross. refl;
      reports = λ i known told. absurd (cc);
      all_in = λ ended. absurd (cc);
      over = λ ended. absurd (cc);
    };
    posted = λ c cross. refl;
    taken = λ c cross. refl;
    entered = λ i known. omega arith;
    done = λ i known j e is own early. absurd (omega arith);
    reported = λ i known told. absurd (cc);
  }

  -- ---- no event comes too late

  -- what a timeline takes comes after all that it has executed, in the order of keys
  pub comes_after : (i : ℕ) (l : Line E) → IsSoundLine s i l → (c : ℕ) → IsInto s.net i c → (m : MailOf E) → IsTrueParcel s c (l.taken c) m.events m.posted m.appointment
      → (j : ℕ) (d e : E) → j < l.moment → event_at s j ≡ Some d → is_on_line s i d ≡ true → Among e m.events → IsBefore (s.machine.key d) (s.machine.key e)
  comes_after i l sound c into m parcel j d e before is own a =
      let late = none_late s sh i l sound c into m parcel e a in
      let early = sound.below j d before is own in
      earlier (s.machine.key d) (s.machine.key e) (omega arith)

  -- ---- no lower bound falls

  pub execute_low : (i : ℕ) (l : Line E) → IsSoundLine s i l → (h : E) (rest : List E) (n : ℕ) → l.pending ≡ h ∷ rest → event_at s n ≡ Some h
      → low_of s i l ≤ low_of s i (executed_line s i n (s.machine.writes (world_at s n).state h) rest l)
  execute_low i l sound h rest n is at =
      let its = s.machine.writes (world_at s n).state h in
      let head : Among h l.pending = subst (λ ps. Among h ps) (sym is) (inl refl) in
      low_above s sh i (low_of s i l) (executed_line s i n its rest l) (low_bound s sh i l sound)
      (λ d a. elim (put_all_among s.machine.key d (stays s i its) rest a) [
        | inl b ↦
            let among = (filter_among (λ x. s.kept (s.machine.key x)) d its (filter_among (is_on_line s i) d _ b).among).among in
            let later = before_time (s.machine.key h) (s.machine.key d) (sh.lawful.rises (world_at s n).state h d among) in
            omega (arith, low_pending s sh i l sound h head, later)
        | inr b ↦ low_pending s sh i l sound d (subst (λ ps. Among d ps) (sym is) (inr b))
      ])

  pub enter_low : (i x : ℕ) (l : Line E) → IsSoundLine s i l → l.entered ≤ x → low_of s i l ≤ low_of s i (entered_line s x l)
  enter_low i x l sound later =
      low_above s sh i (low_of s i l) (entered_line s x l)
      (omega (arith, low_bound s sh i l sound, bound_rises s.net i l (entered_line s x l) later (λ c. omega arith)))
      (λ d a. low_pending s sh i l sound d a)

  pub take_low : (i : ℕ) (l : Line E) → IsSoundLine s i l → (c : ℕ) → IsInto s.net i c → (m : MailOf E) → IsTrueParcel s c (l.taken c) m.events m.posted m.appointment
      → low_of s i l ≤ low_of s i (taken_line s c l m)
  take_low i l sound c into m parcel =
      low_above s sh i (low_of s i l) (taken_line s c l m)
      (omega (arith, low_bound s sh i l sound, taken_bound s sh i l sound c into m parcel))
      (λ d a. elim (put_all_among s.machine.key d m.events l.pending a) [
        | inl b ↦ omega (arith, low_bound s sh i l sound, none_late s sh i l sound c into m parcel d b)
        | inr b ↦ low_pending s sh i l sound d b
      ])

  module _ (v : ℕ) (t : CoreOf E) (sound : IsSoundCore s v t) where
    -- a step on one timeline
    put_low : (k : ℕ) (l : Line E) → low_of s k (t.lines k) ≤ low_of s k l → (i : ℕ) → low_of s i (t.lines i) ≤ low_of s i (put_at k l t.lines i)
    put_low k l rises i = put_each (λ n (x : Line E). low_of s n (t.lines n) ≤ low_of s n x) k l t.lines i
        (λ same. subst (λ n. low_of s n (t.lines n) ≤ low_of s n l) (sym same) rises) (λ apart. omega arith)

    pub step_low : (budget : ℕ) (after : CoreOf E) → IsStep s budget t after → (i : ℕ) → low_of s i (t.lines i) ≤ low_of s i (after.lines i)
    step_low budget after (executes k n known may is same) i =
        subst (λ (u : CoreOf E). low_of s i (t.lines i) ≤ low_of s i (u.lines i)) (sym same)
        (put_low k _ (execute_low k (t.lines k) (sound.lines k known) may.head may.rest n may.is is) i)
    step_low budget after (posts c cross may same) i =
        let k = s.net.sender c in
        subst (λ (u : CoreOf E). low_of s i (t.lines i) ≤ low_of s i (u.lines i)) (sym same)
        (put_low k (posted_line c (t.lines k)) (omega arith) i)
    step_low budget after (takes c cross may same) i =
        let k = s.net.receiver c in
        let mail = t.mails c in
        let parcel = subst (λ n. IsTrueParcel s c n mail.events mail.posted mail.appointment) (sound.taken c cross) (sound.mails c cross).parcel in
        subst (λ (u : CoreOf E). low_of s i (t.lines i) ≤ low_of s i (u.lines i)) (sym same)
        (put_low k (taken_line s c (t.lines k) mail)
        (take_low k (t.lines k) (sound.lines k (sh.joining.receiver c cross)) c (record { cross = cross; receiver = refl }) mail parcel) i)
    step_low budget after (enters k known may same) i =
        subst (λ (u : CoreOf E). low_of s i (t.lines i) ≤ low_of s i (u.lines i)) (sym same)
        (put_low k (entered_line s t.barrier.window (t.lines k)) (enter_low k t.barrier.window (t.lines k) (sound.lines k known) (let later = may.later in omega arith)) i)
    step_low budget after (reports k known may same) i = subst (λ (u : CoreOf E). low_of s i (t.lines i) ≤ low_of s i (u.lines i)) (sym same) (omega arith)
    step_low budget after (crosses b may crossing same) i = subst (λ (u : CoreOf E). low_of s i (t.lines i) ≤ low_of s i (u.lines i)) (sym same) (omega arith)

    -- a lower bound is not after the end
    low_most : (i : ℕ) → i < s.net.timelines → low_of s i (t.lines i) ≤ s.until + 1
    low_most i known =
        let line = sound.lines i known in
        omega (arith, low_bound s sh i (t.lines i) line, bound_entered s.net i (t.lines i), window_most s sh line.index line.before (t.lines i).entered line.window)

    -- so no step lowers the safe bound
    pub step_safe : (budget : ℕ) (after : CoreOf E) → IsStep s budget t after → safe_bound s t.lines ≤ safe_bound s after.lines
    step_safe budget after step =
        safe_above s after.lines (safe_bound s t.lines) (safe_most s t.lines)
        (λ i known. omega (arith, safe_below s t.lines i known, step_low budget after step i))

    -- all events of the run before the safe bound are executed
    pub safe_is_done : (j : ℕ) (e : E) → event_at s j ≡ Some e → time_of s e < safe_bound s t.lines → j < (t.lines (s.line e)).moment
    safe_is_done j e is early =
        let i = s.line e in
        let known = sh.placed j e is in
        low_done s sh i (t.lines i) (sound.lines i known) (safe_bound s t.lines) (safe_below s t.lines i known) j e is (is_line s sh i e refl) early

    -- ---- the end

    -- where the barrier has ended all events of the run are executed
    pub ended_is_done : t.barrier.ended ≡ true → (j : ℕ) (e : E) → event_at s j ≡ Some e → j < (t.lines (s.line e)).moment
    ended_is_done ended j e is =
        let i = s.line e in
        let known = sh.placed j e is in
        sound.reported i known (sound.barrier.all_in ended i known) j e is (is_line s sh i e refl) (sound.barrier.over ended j e is)

    -- ---- the budget

    module _ (budget : ℕ) (counted : (i : ℕ) → i < s.net.timelines → IsCounted s budget i (t.lines i)) where
      -- a timeline that has executed no more than the budget stands at or before its event number `budget`
      not_passed : (j k : ℕ) (e : E) → IsOwnEvent s j budget k e → (t.lines j).moment ≤ k
      not_passed j k e own =
          let known : j < s.net.timelines = subst (λ n. n < s.net.timelines) (eqb-true (s.line e) j own.own) (sh.placed k e own.is) in
          let count = counted j known in
          elim (lt_or_ge k (t.lines j).moment) [
            | inr more ↦ more
            | inl less ↦
                let next = share_own s.machine s.until s.kept s.opening (is_on_line s j) k e own.is own.own in
                let up = line_grows s j (suc k) (t.lines j).moment less in
                absurd (omega (arith, ap length next, one_more (line_events s j k) e, own.count, count.executed, count.few, up))
          ]

      -- where the budget ends, the safe bound is the least time of all events with this number on their timelines
      pub budget_is : (i : ℕ) → (ends : BudgetEndsAt s budget i t)
          → ((k : ℕ) × IsOwnEvent s i budget k ends.over.head)
          × (safe_bound s t.lines ≡ time_of s ends.over.head)
          × ((j k : ℕ) (e : E) → IsOwnEvent s j budget k e → time_of s ends.over.head ≤ time_of s e)
      budget_is i ends =
          let line = sound.lines i ends.known in
          let over = ends.over in
          let q : IsNext s i (t.lines i).moment over.head = head_next s sh i (t.lines i) line over.head over.rest over.is over.in_time over.below in
          let low : low_of s i (t.lines i) ≡ time_of s over.head = rw over.is (let below = over.below in omega arith) in
          let count = counted i ends.known in
          let spent = over.spent in
          let in_time = over.in_time in (
            (
              q.wait + (t.lines i).moment,
              record {
                is = q.is;
                own = line.standing.own over.head (subst (λ ps. Among over.head ps) (sym over.is) (inl refl));
                count = ap length (share_same s.machine s.until s.kept s.opening (is_on_line s i) q.wait (t.lines i).moment q.none) ∙ omega (arith, count.executed, count.few, spent);
              },
            ),
            (let down = safe_below s t.lines i ends.known in
                let up = safe_above s t.lines (low_of s i (t.lines i)) (omega (arith, low, in_time)) (λ j known. ends.least j known) in
                omega (arith, down, up, low)),
            λ j k e own.
                let known : j < s.net.timelines = subst (λ n. n < s.net.timelines) (eqb-true (s.line e) j own.own) (sh.placed k e own.is) in
                omega (arith, low, ends.least j known, not_early s sh j (t.lines j) (sound.lines j known) k e (not_passed j k e own) own.is own.own),
          )

    -- what is counted stays counted
    put_counted : (budget k : ℕ) (l : Line E) → IsCounted s budget k l → (i : ℕ) → IsCounted s budget i (t.lines i) → IsCounted s budget i (put_at k l t.lines i)
    put_counted budget k l is i before = put_each (λ n (x : Line E). IsCounted s budget n x) k l t.lines i (λ same. subst (λ n. IsCounted s budget n l) (sym same) is) (λ apart. before)

    pub step_counts : (budget : ℕ) → ((i : ℕ) → i < s.net.timelines → IsCounted s budget i (t.lines i)) → (after : CoreOf E) → IsStep s budget t after
        → (i : ℕ) → i < s.net.timelines → IsCounted s budget i (after.lines i)
    step_counts budget counted after (executes k n there may is same) i known =
        let line = sound.lines k there in
        let q : IsNext s k (t.lines k).moment may.head = next_of s sh k (t.lines k) line budget may in
        let place = one_number s sh (q.wait + (t.lines k).moment) n may.head q.is is in
        let its : IsCounted s budget k (executed_line s k n (s.machine.writes (world_at s n).state may.head) may.rest (t.lines k)) =
        subst (λ j. IsCounted s budget k (executed_line s k j (s.machine.writes (world_at s j).state may.head) may.rest (t.lines k))) place
        (executed_is_counted s sh k (t.lines k) line may.head may.rest may.is may.below q budget (counted k there) may.few) in
        subst (λ (u : CoreOf E). IsCounted s budget i (u.lines i)) (sym same) (put_counted budget k _ its i (counted i known))
    step_counts budget counted after (posts c cross may same) i known =
        let k = s.net.sender c in
        let count = counted k (sh.joining.sender c cross) in
        subst (λ (u : CoreOf E). IsCounted s budget i (u.lines i)) (sym same)
        (put_counted budget k (posted_line c (t.lines k)) (record { executed = count.executed; few = count.few }) i (counted i known))
    step_counts budget counted after (takes c cross may same) i known =
        let k = s.net.receiver c in
        let count = counted k (sh.joining.receiver c cross) in
        subst (λ (u : CoreOf E). IsCounted s budget i (u.lines i)) (sym same)
        (put_counted budget k (taken_line s c (t.lines k) (t.mails c)) (record { executed = count.executed; few = count.few }) i (counted i known))
    step_counts budget counted after (enters k there may same) i known =
        let count = counted k there in
        subst (λ (u : CoreOf E). IsCounted s budget i (u.lines i)) (sym same)
        (put_counted budget k (entered_line s t.barrier.window (t.lines k)) (record { executed = count.executed; few = count.few }) i (counted i known))
    step_counts budget counted after (reports k there may same) i known = subst (λ (u : CoreOf E). IsCounted s budget i (u.lines i)) (sym same) (counted i known)
    step_counts budget counted after (crosses b may crossing same) i known = subst (λ (u : CoreOf E). IsCounted s budget i (u.lines i)) (sym same) (counted i known)
