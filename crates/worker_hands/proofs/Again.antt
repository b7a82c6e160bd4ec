-- A step that was made is not enabled any more.
use Rattle.std.proofs.Common.{ℕ, ◌≡◌, ◌+◌, ◌<◌, ◌≤◌, Bool, true, false, nat_eq, nat_lt, ◌||◌, max, refl, sym, ap, ◌∙◌, subst, inl, inr, arith, eq-eqb, le-ltb, List, [], ◌∷◌, length, replicate, Option, Some, None, option_map, unwrap_or, slice_get, slice_set}
use Rattle.event_order.specs.Pending.{Among}
use Rattle.event_order.proofs.Pending.{test_cases}
use Rattle.timeline_parts.specs.declared.ends.InEnd.{InEnd}
use Rattle.timeline_parts.specs.declared.ends.OutEnd.{OutEnd}
use Rattle.timeline_parts.specs.Tables.{numbers_of, item_at, changed}
use Rattle.timeline_parts.proofs.Tables.{known_item, numbers_changed, item_changed}
use Rattle.timeline.specs.View.{TimelineOf}
use Rattle.timeline.specs.Holding.{low_in, ahead_in, held_of}
use Rattle.timeline.specs.Moving.{taken_end, posted_end, can_enter, entered_at}
use Rattle.timeline.specs.Lines.{outbox_of}
use Rattle.appointments.specs.Mails.{ChannelMail, Mails, mail_at, posted_of as posted_to}
use Rattle.appointments.specs.Posts.{taken_parcel}
use Rattle.barrier_window.specs.BarrierFields.{BarrierFields}
use Rattle.barrier_window.specs.declared.barrier.Crossing.{Crossing}
use Rattle.barrier_window.specs.declared.barrier.Crossing.TheVariants.{Crossed, Waiting, Ended}
use Rattle.barrier_window.specs.Crossings.{with_report, first_without, crossing, crossing_by, crossed_to, after_crossing}
use Rattle.sync_steps.specs.declared.steps.Stepped.{Stepped}
use Rattle.sync_steps.specs.declared.steps.Stepped.TheVariants.{Did, NotEnabled}
use Rattle.sync_steps.specs.Between.{stepped, promised_by, promise_in, can_post, IsPostedTo, IsMailOf, taken_on, taken_all, can_take, IsTakenFrom, can_report, counts_in}
use Rattle.core_rules.proofs.Lists.{set_here}

-- what an answer says
pub enabled : (b : Bool) (done : Stepped) → done ≡ stepped b → done ≡ Did → b ≡ true
enabled true done is did = refl
enabled false done is did = (let none : Did ≡ NotEnabled = sym did ∙ is in absurd (cc))

pub not_enabled : (b : Bool) (done : Stepped) → done ≡ stepped b → b ≡ false → done ≡ NotEnabled
not_enabled b done is f = is ∙ ap stepped f

pub not_did : (done : Stepped) → done ≡ NotEnabled → done ≡ Did → ⊥
not_did done is did = (let none : Did ≡ NotEnabled = sym did ∙ is in absurd (cc))

-- no event and no later time
nothing_new : (n a p : ℕ) → n ≡ 0 → p ≤ a → (nat_lt 0 n || nat_lt a p) ≡ false
nothing_new n a p none low = (let f : nat_lt 0 n ≡ false = le-ltb 0 n (omega (arith, none)) in let g : nat_lt a p ≡ false = le-ltb a p low in rw (f, g) refl)

-- ---- post

item_here : {T : Type 0} (c : ℕ) (f : T → T) (ends : List (ℕ × T)) → item_at c (changed c f ends) ≡ option_map f (item_at c ends)
item_here c f ends = (let yes : nat_eq c c ≡ true = eq-eqb c c refl in item_changed c c f ends ∙ rw yes refl)

module _ {P : Type 0} where
  box_left : (o : Option (OutEnd P)) → unwrap_or (option_map (λ (e : OutEnd P). e.outbox) (option_map posted_end o)) [] ≡ []
  box_left None = refl
  box_left (Some e) = refl

  same_promise : (low top : ℕ) (o : Option (OutEnd P)) → promised_by low top (option_map posted_end o) ≡ promised_by low top o
  same_promise low top None = refl
  same_promise low top (Some e) = refl

module _ {B S P : Type 0} where
  pub posted_again : (c : ℕ) (t after : TimelineOf B S P) (x x_after : Mails P) → IsPostedTo c t after x x_after → can_post after c (mail_at x_after c) ≡ false
  posted_again c t after x x_after q =
      let at : item_at c after.out_ends ≡ option_map posted_end (item_at c t.out_ends) = ap (λ (z : TimelineOf B S P). item_at c z.out_ends) q.timeline ∙ item_here c posted_end t.out_ends in
      let box : outbox_of after.out_ends c ≡ [] = ap (λ (o : Option (OutEnd P)). unwrap_or (option_map (λ (e : OutEnd P). e.outbox) o) []) at ∙ box_left (item_at c t.out_ends) in
      let low : low_in after ≡ low_in t = ap (λ (z : TimelineOf B S P). low_in z) q.timeline in
      let until : after.until ≡ t.until = ap (λ (z : TimelineOf B S P). z.until) q.timeline in
      let promise : promise_in after c ≡ promise_in t c =
      ap (λ n. promised_by n (after.until + 1) (item_at c after.out_ends)) low
      ∙ (ap (λ n. promised_by (low_in t) (n + 1) (item_at c after.out_ends)) until
      ∙ (ap (λ (o : Option (OutEnd P)). promised_by (low_in t) (t.until + 1) o) at ∙ same_promise (low_in t) (t.until + 1) (item_at c t.out_ends))) in
      let appointed : (mail_at x_after c).appointment ≡ max (mail_at x c).appointment (promise_in t c) = ap (λ (row : ChannelMail P). row.appointment) q.row in
      nothing_new (length (outbox_of after.out_ends c)) (mail_at x_after c).appointment (promise_in after c) (ap length box) (omega (arith, promise, appointed))

-- ---- take

held_later : (taken appointment : ℕ) (o : Option InEnd) → unwrap_or (option_map (λ (e : InEnd). e.held) o) 0 ≤ unwrap_or (option_map (λ (e : InEnd). e.held) (option_map (taken_end taken appointment) o)) 0
held_later taken appointment None = omega arith
held_later taken appointment (Some e) = omega arith

held_up : (c k taken appointment : ℕ) (ends : List (ℕ × InEnd)) → held_of ends k ≤ held_of (changed c (taken_end taken appointment) ends) k
held_up c k taken appointment ends =
    let at = item_changed k c (taken_end taken appointment) ends in
    elim (test_cases (nat_eq k c)) [
      | inl t ↦ (
          let here : item_at k (changed c (taken_end taken appointment) ends) ≡ option_map (taken_end taken appointment) (item_at k ends) = at ∙ rw t refl in
          subst (λ (o : Option InEnd). held_of ends k ≤ unwrap_or (option_map (λ (e : InEnd). e.held) o) 0) (sym here) (held_later taken appointment (item_at k ends)))
      | inr f ↦ (
          let here : item_at k (changed c (taken_end taken appointment) ends) ≡ item_at k ends = at ∙ rw f refl in
          subst (λ (o : Option InEnd). held_of ends k ≤ unwrap_or (option_map (λ (e : InEnd). e.held) o) 0) (sym here) (omega arith))
    ]

held_now : (c taken appointment : ℕ) (ends : List (ℕ × InEnd)) → Among c (numbers_of ends) → appointment ≤ held_of (changed c (taken_end taken appointment) ends) c
held_now c taken appointment ends known =
    let found = known_item c ends known in
    let at : item_at c (changed c (taken_end taken appointment) ends) ≡ Some (taken_end taken appointment found.0) = item_here c (taken_end taken appointment) ends ∙ ap (option_map (taken_end taken appointment)) found.1 in
    let held : held_of (changed c (taken_end taken appointment) ends) c ≡ max found.0.held appointment = ap (λ (o : Option InEnd). unwrap_or (option_map (λ (e : InEnd). e.held) o) 0) at in
    omega (arith, held)

module _ {B S P : Type 0} where
  held_rises : (x : Mails P) (cs : List ℕ) (k : ℕ) (t : TimelineOf B S P) → held_of t.in_ends k ≤ held_of (taken_all x cs t).in_ends k
  held_rises x [] k t = omega arith
  held_rises x (c ∷ cs) k t =
      let rest = held_rises x cs k (taken_on c (taken_parcel (mail_at x c)) t) in
      let first = held_up c k (posted_to (mail_at x c)) (mail_at x c).appointment t.in_ends in
      omega (arith, rest, first)

  held_each : (x : Mails P) (cs : List ℕ) (k : ℕ) (t : TimelineOf B S P) → Among k cs → Among k (numbers_of t.in_ends) → (mail_at x k).appointment ≤ held_of (taken_all x cs t).in_ends k
  held_each x [] k t a known = absurd a
  held_each x (c ∷ cs) k t (inl e) known =
      let rest = held_rises x cs k (taken_on c (taken_parcel (mail_at x c)) t) in
      let first = held_now c (posted_to (mail_at x c)) (mail_at x c).appointment t.in_ends (subst (λ n. Among n (numbers_of t.in_ends)) e known) in
      let here : (mail_at x k).appointment ≤ held_of (taken_on c (taken_parcel (mail_at x c)) t).in_ends k =
      subst (λ n. (mail_at x n).appointment ≤ held_of (taken_on c (taken_parcel (mail_at x c)) t).in_ends n) (sym e) first in
      omega (arith, rest, here)
  held_each x (c ∷ cs) k t (inr a) known =
      held_each x cs k (taken_on c (taken_parcel (mail_at x c)) t) a
      (subst (λ ns. Among k ns) (sym (numbers_changed c (taken_end (posted_to (mail_at x c)) (mail_at x c).appointment) t.in_ends)) known)

  module _ (t after : TimelineOf B S P) (x x_after : Mails P) (own : IsMailOf x t) (q : IsTakenFrom x x_after t after) where
    nothing_on : (c : ℕ) → Among c x.channels → (nat_lt 0 (length (mail_at x_after c).events) || nat_lt (held_of after.in_ends c) (mail_at x_after c).appointment) ≡ false
    nothing_on c a =
        let known : Among c (numbers_of t.in_ends) = subst (λ ns. Among c ns) (own.channels ∙ sym own.ends) a in
        let each = held_each x x.channels c t a known in
        let now : held_of after.in_ends c ≡ held_of (taken_all x x.channels t).in_ends c = ap (λ (z : TimelineOf B S P). held_of z.in_ends c) q.timeline in
        let events : length (mail_at x_after c).events ≡ 0 = ap (λ (row : ChannelMail P). length row.events) (q.rows c a) in
        let appointed : (mail_at x_after c).appointment ≡ (mail_at x c).appointment = ap (λ (row : ChannelMail P). row.appointment) (q.rows c a) in
        nothing_new (length (mail_at x_after c).events) (held_of after.in_ends c) (mail_at x_after c).appointment events (omega (arith, each, now, appointed))

    nothing_on_all : (cs : List ℕ) → ((c : ℕ) → Among c cs → Among c x.channels) → can_take after x_after cs ≡ false
    nothing_on_all [] known = refl
    nothing_on_all (c ∷ cs) known =
        let first = nothing_on c (known c (inl refl)) in
        let rest = nothing_on_all cs (λ k a. known k (inr a)) in
        rw first rest

    pub taken_again : can_take after x_after x_after.channels ≡ false
    taken_again = nothing_on_all x_after.channels (λ c a. subst (λ cs. Among c cs) q.channels a)

  -- ---- enter

  pub entered_again : (window : ℕ) (counts : List ℕ) (t : TimelineOf B S P) → can_enter (entered_at window t) window counts ≡ false
  entered_again window counts t = (let f : nat_lt window window ≡ false = le-ltb window window (omega arith) in rw f refl)

  pub entered_twice : (window : ℕ) (counts : List ℕ) (t mid after : TimelineOf B S P) (again : Stepped) → mid ≡ entered_at window t → again ≡ stepped (can_enter mid window counts) → ((again ≡ Did → ⊥) → after ≡ mid) → after ≡ mid
  entered_twice window counts t mid after again is cause kept =
      let no : can_enter mid window counts ≡ false = ap (λ (z : TimelineOf B S P). can_enter z window counts) is ∙ entered_again window counts t in
      kept (not_did again (not_enabled (can_enter mid window counts) again cause no))

  -- ---- report

  pub reported_again : (t : TimelineOf B S P) (n least : ℕ) (numbers : List (ℕ × ℕ)) (b : BarrierFields) → n < length b.reports → can_report t n (with_report n least numbers b) ≡ false
  reported_again t n least numbers b known =
      let at : slice_get (slice_set b.reports n (Some least)) n ≡ Some (Some least) = set_here b.reports n (Some least) known in
      elim (test_cases b.ended) [
        | inl e ↦ rw e refl
        | inr o ↦ rw (o, at) refl
      ]

  pub reported_after : (t : TimelineOf B S P) (n : ℕ) (b after : BarrierFields) → n < length b.reports → after ≡ with_report n (ahead_in t) (counts_in t) b → can_report t n after ≡ false
  reported_after t n b after known is = ap (can_report t n) is ∙ reported_again t n (ahead_in t) (counts_in t) b known

-- ---- cross

crossing_ended : (b : BarrierFields) → b.ended ≡ true → crossing b ≡ Ended
unfolding crossing
crossing_ended b is = rw is refl

crossing_open : (b : BarrierFields) → b.ended ≡ false → crossing b ≡ crossing_by (first_without 0 b.reports) b
unfolding crossing
crossing_open b is = rw is refl

first_of_all : (reports : List (Option ℕ)) → 1 ≤ length reports → first_without 0 (replicate (length reports) None) ≡ Some 0
first_of_all [] some = absurd (omega arith)
first_of_all (r ∷ rs) some = refl

pub crossed_again : (b : BarrierFields) (window : ℕ) → 1 ≤ length b.reports → crossing b ≡ Crossed window → crossing (crossed_to window b) ≡ Waiting 0
crossed_again b window some crossed = elim (test_cases b.ended) [
  | inl e ↦ (let ended : Ended ≡ Crossed window = sym (crossing_ended b e) ∙ crossed in absurd (cc))
  | inr o ↦ crossing_open (crossed_to window b) o ∙ ap (λ (first : Option ℕ). crossing_by first (crossed_to window b)) (first_of_all b.reports some)
]

pub crossed_waits : (b mid : BarrierFields) (window : ℕ) (again : Crossing) → 1 ≤ length b.reports → Crossed window ≡ crossing b → mid ≡ after_crossing (Crossed window) b → again ≡ crossing mid → again ≡ Waiting 0
crossed_waits b mid window again some is after cause = cause ∙ (ap crossing after ∙ crossed_again b window some (sym is))
