-- Where the barrier has not ended, some step is enabled, or the budget ends.
use Rattle.std.proofs.Common.{◌≡◌, ℕ, zero, suc, ◌+◌, ◌<◌, ◌≤◌, ◌⊎◌, true, false, length, refl, sym, ap, ◌∙◌, subst, inl, inr, arith}
use Rattle.event_order.proofs.Pending.{test_cases}
use Rattle.event_order.proofs.Steps.{lt_or_ge, lt_or_same}
use Rattle.ssf_model.specs.Scene.{Scene, world_at, time_of}
use Rattle.ssf_model.specs.Truth.{IsNext}
use Rattle.sync_rules.specs.Parts.{BarrierOf, CoreOf}
use Rattle.sync_rules.specs.Bounds.{bound_of, low_of, promise_of}
use Rattle.sync_rules.specs.Shared.{IsShared}
use Rattle.sync_rules.specs.Sound.{IsSoundCore}
use Rattle.sync_rules.specs.Steps.{CanExecute, IsCrossing, IsStep, BudgetEndsAt, least_report, next_barrier, ended_barrier, with_barrier, executed_core, posted_core, taken_core, entered_core, reported_core}
use Rattle.sync_rules.specs.Steps.IsStep.{executes, posts, takes, enters, reports, crosses}
use Rattle.ssf_model.proofs.Places.{stretch_length}
use Rattle.sync_rules.proofs.Writes.{made_le}
use Rattle.sync_rules.proofs.Windows.{window_most}
use Rattle.sync_rules.proofs.Standing.{HasHead}
use Rattle.sync_rules.proofs.Bounds.{IsHolder, bound_cases, low_cases}
use Rattle.sync_rules.proofs.Executes.{next_of}

-- one of the first n numbers has the first property, or all have the second
pub find : (P Q : ℕ → Type 0) → ((i : ℕ) → P i ⊎ Q i) → (n : ℕ) → ((i : ℕ) × (i < n) × P i) ⊎ ((i : ℕ) → i < n → Q i)
find P Q each zero = inr (λ i l. absurd (omega arith))
find P Q each (suc n) = elim (find P Q each n) [
  | inl (i, l, p) ↦ inl (i, omega arith, p)
  | inr all ↦ elim (each n) [
    | inl p ↦ inl (n, omega arith, p)
    | inr q ↦ inr (λ i l. elim (lt_or_same i n (omega arith)) [ inl less ↦ all i less | inr same ↦ subst Q (sym same) q ])
  ]
]

-- a barrier that may cross does so
pub crossing_is : {X E : Type 0} (s : Scene X E) (b : BarrierOf) → (after : BarrierOf) × IsCrossing s b after
crossing_is s b = elim (lt_or_ge s.until (least_report s.until b.least s.net.timelines)) [
  | inl late ↦ (ended_barrier b, record { ends = λ l. refl; goes_on = λ l. absurd (omega arith) })
  | inr early ↦ (
    next_barrier s (least_report s.until b.least s.net.timelines) b,
    record {
      ends = λ l. absurd (omega arith);
      goes_on = λ l. record { round = refl; window = refl; counts = λ c cross. refl; reported = λ i known. refl; ended = refl };
    },
  )
]

module _ {X E : Type 0} (s : Scene X E) (sh : IsShared s) (budget v : ℕ) (t : CoreOf E) (sound : IsSoundCore s v t) where
  abbrev Moves : Type 0
  Moves = (after : CoreOf E) × IsStep s budget t after

  execute_moves : (i : ℕ) → i < s.net.timelines → CanExecute s budget i (t.lines i) → Moves
  execute_moves i known may =
      let q : IsNext s i (t.lines i).moment may.head = next_of s sh i (t.lines i) (sound.lines i known) budget may in
      let n = q.wait + (t.lines i).moment in
      (executed_core s i n (s.machine.writes (world_at s n).state may.head) may.rest t, executes i n known may q.is refl)

  -- ---- mails and outboxes

  -- an outbox or a mail is not empty, or nothing is on the way on a channel
  record IsQuiet (c : ℕ) : Type 0 where
    outbox : length ((t.lines (s.net.sender c)).outbox c) ≡ 0
    mail : length (t.mails c).events ≡ 0

  channel_moves : (c : ℕ) → Moves ⊎ (s.net.cross c ≡ true → IsQuiet c)
  channel_moves c = elim (test_cases (s.net.cross c)) [
    | inr f ↦ inr (λ cross. absurd (let wrong : true ≡ false = sym cross ∙ f in cc))
    | inl cross ↦ elim (lt_or_ge 0 (length ((t.lines (s.net.sender c)).outbox c))) [
      | inl some ↦ inl (posted_core s c t, posts c cross (inl some) refl)
      | inr none ↦ elim (lt_or_ge 0 (length (t.mails c).events)) [
        | inl some ↦ inl (taken_core s c t, takes c cross (inl some) refl)
        | inr empty ↦ inr (λ own. record { outbox = omega arith; mail = omega arith })
      ]
    ]
  ]

  -- where nothing is on the way, all that is written is taken
  taken_is : (c : ℕ) → s.net.cross c ≡ true → IsQuiet c → (t.lines (s.net.receiver c)).taken c ≡ (t.lines (s.net.sender c)).written c
  taken_is c cross quiet =
      let line = sound.lines (s.net.sender c) (sh.joining.sender c cross) in
      let box = stretch_length s c _ _ _ (line.outbox c (record { cross = cross; sender = refl })) in
      let mail = stretch_length s c _ _ _ (sound.mails c cross).parcel.events in
      let none = quiet.outbox in
      let empty = quiet.mail in
      omega (arith, box, mail, none, empty, sound.posted c cross, sound.taken c cross)

  -- so a timeline in an earlier window may enter
  enter_moves : (i : ℕ) → i < s.net.timelines → ((c : ℕ) → s.net.cross c ≡ true → IsQuiet c) → (t.lines i).entered < t.barrier.window → Moves
  enter_moves i known quiet later = (
    entered_core s i t,
    enters i known (record {
      later = later;
      taken = λ c into.
          let from = s.net.sender c in
          let there = sh.joining.sender c into.cross in
          let line = sound.lines from there in
          let own : (t.lines (s.net.receiver c)).taken c ≡ (t.lines i).taken c = ap (λ k. (t.lines k).taken c) into.receiver in
          let up = made_le s sh c sound.barrier.at (t.lines from).moment into.cross (λ j e early is mine. sound.done from there j e is mine (sound.barrier.cut.early j e is early)) in
          omega (arith, sound.barrier.counts c into.cross, up, line.written c (record { cross = into.cross; sender = refl }), taken_is c into.cross (quiet c into.cross), own);
    }) refl,
  )

  -- ---- the timeline of the least lower bound

  least_line : (n : ℕ) → 0 < n → (j : ℕ) × (j < n) × ((i : ℕ) → i < n → low_of s j (t.lines j) ≤ low_of s i (t.lines i))
  least_line zero l = absurd (omega arith)
  least_line (suc zero) l = (
    0,
    omega arith,
    λ i less. (let same : i ≡ 0 = omega arith in
        let one : low_of s i (t.lines i) ≡ low_of s 0 (t.lines 0) = ap (λ k. low_of s k (t.lines k)) same in omega arith),
  )
  least_line (suc (suc n)) l =
      let (j, known, least) = least_line (suc n) (omega arith) in
      elim (lt_or_ge (low_of s (suc n) (t.lines (suc n))) (low_of s j (t.lines j))) [
        | inl less ↦ (
          suc n,
          omega arith,
          λ i below. elim (lt_or_same i (suc n) (omega arith)) [
            | inl before ↦ (let order = least i before in omega arith)
            | inr same ↦ (let one : low_of s i (t.lines i) ≡ low_of s (suc n) (t.lines (suc n)) = ap (λ k. low_of s k (t.lines k)) same in omega arith)
          ],
        )
        | inr more ↦ (
          j,
          omega arith,
          λ i below. elim (lt_or_same i (suc n) (omega arith)) [
            | inl before ↦ least i before
            | inr same ↦ (let one : low_of s i (t.lines i) ≡ low_of s (suc n) (t.lines (suc n)) = ap (λ k. low_of s k (t.lines k)) same in omega arith)
          ],
        )
      ]

  abbrev Ends : Type 0
  Ends = (i : ℕ) × BudgetEndsAt s budget i t

  module _ (j : ℕ) (known : j < s.net.timelines) (least : (i : ℕ) → i < s.net.timelines → low_of s j (t.lines j) ≤ low_of s i (t.lines i))
      (entered : (t.lines j).entered ≡ t.barrier.window) (early : low_of s j (t.lines j) < t.barrier.window) where
    most : t.barrier.window ≤ s.until + 1
    most = window_most s sh t.barrier.round v t.barrier.window sound.barrier.window

    -- it has an event below its bound
    head_moves : HasHead (time_of s) (bound_of s.net j (t.lines j)) (t.lines j).pending → Moves ⊎ Ends
    head_moves q =
        let in_time : time_of s q.head ≤ s.until = (let same = q.least in let top = most in omega arith) in
        elim (lt_or_ge (t.lines j).executed budget) [
          | inl few ↦ inl (execute_moves j known (record { head = q.head; rest = q.rest; is = q.is; in_time = in_time; below = q.below; few = few }))
          | inr spent ↦ inr (
            j,
            record {
              known = known;
              over = record { head = q.head; rest = q.rest; is = q.is; in_time = in_time; below = q.below; spent = spent };
              least = least;
            },
          )
        ]

    -- or an appointment holds it, and a greater one can be posted or taken
    holder_moves : low_of s j (t.lines j) ≡ bound_of s.net j (t.lines j) → IsHolder s.net j (bound_of s.net j (t.lines j)) (t.lines j).held → Moves
    holder_moves low q =
        let c = q.channel in
        let cross = q.into.cross in
        let from = s.net.sender c in
        let theirs = least from (sh.joining.sender c cross) in
        let slow = sh.joining.delayed c cross in
        let top = most in
        let is = q.is in
        let mine : (t.lines (s.net.receiver c)).held c ≡ (t.lines j).held c = ap (λ k. (t.lines k).held c) q.into.receiver in
        let promise : (t.lines j).held c < promise_of s from c (t.lines from) = rw q.appointed (omega arith) in
        elim (lt_or_ge ((t.lines (s.net.receiver c)).held c) (t.mails c).appointment) [
          | inl less ↦ (taken_core s c t, takes c cross (inr less) refl)
          | inr more ↦ (posted_core s c t, posts c cross (inr (omega arith)) refl)
        ]

    least_moves : Moves ⊎ Ends
    least_moves = elim (low_cases s sh j (t.lines j)) [
      | inr q ↦ head_moves q
      | inl low ↦ elim (bound_cases s.net j (t.lines j)) [
        | inl top ↦ absurd (omega arith)
        | inr q ↦ inl (holder_moves low q)
      ]
    ]

  -- ---- all cases

  silent_moves : t.barrier.ended ≡ false → ((i : ℕ) → i < s.net.timelines → (t.lines i).entered ≡ t.barrier.window)
      → (i : ℕ) → i < s.net.timelines → t.barrier.reported i ≡ false → Moves ⊎ Ends
  silent_moves goes_on entered i known silent = elim (lt_or_ge (low_of s i (t.lines i)) t.barrier.window) [
    | inr late ↦ inl (reported_core s i t, reports i known (record { goes_on = goes_on; silent = silent; entered = entered i known; low = late }) refl)
    | inl early ↦ (let (j, there, least) = least_line s.net.timelines (omega arith) in
        least_moves j there least (entered j there) (let order = least i known in omega arith))
  ]

  barrier_moves : t.barrier.ended ≡ false → ((i : ℕ) → i < s.net.timelines → (t.lines i).entered ≡ t.barrier.window) → Moves ⊎ Ends
  barrier_moves goes_on entered = elim (find (λ i. t.barrier.reported i ≡ false) (λ i. t.barrier.reported i ≡ true)
      (λ i. elim (test_cases (t.barrier.reported i)) [ inl told ↦ inr told | inr silent ↦ inl silent ]) s.net.timelines) [
        | inl (i, known, silent) ↦ silent_moves goes_on entered i known silent
        | inr all_in ↦ (let crossing = crossing_is s t.barrier in
            inl (with_barrier crossing.0 t, crosses crossing.0 (record { goes_on = goes_on; all_in = all_in }) crossing.1 refl))
      ]

  -- where nothing is on the way
  quiet_moves : t.barrier.ended ≡ false → ((c : ℕ) → s.net.cross c ≡ true → IsQuiet c) → Moves ⊎ Ends
  quiet_moves goes_on quiet = elim (find (λ i. (t.lines i).entered < t.barrier.window) (λ i. t.barrier.window ≤ (t.lines i).entered)
      (λ i. lt_or_ge (t.lines i).entered t.barrier.window) s.net.timelines) [
        | inl (i, known, later) ↦ inl (enter_moves i known quiet later)
        | inr all ↦ barrier_moves goes_on (λ i known. (let up = all i known in let down = sound.entered i known in omega arith))
      ]

  pub never_stuck : t.barrier.ended ≡ false → Moves ⊎ Ends
  never_stuck goes_on = elim (find (λ c. Moves) (λ c. s.net.cross c ≡ true → IsQuiet c) channel_moves s.net.channels) [
    | inl (c, known, moves) ↦ inl moves
    | inr quiet ↦ quiet_moves goes_on (λ c cross. quiet c (sh.joining.known c cross) cross)
  ]
