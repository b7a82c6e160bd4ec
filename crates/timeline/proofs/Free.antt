-- What holds where the next event is not refused.
use Rattle.std.proofs.Common.{◌≡◌, ℕ, ◌<◌, ◌≤◌, Bool, true, false, cond, nat_le, nat_lt, ◌&&◌, min, not, List, [], ◌∷◌, refl, sym, ap, ◌∙◌, Option, Some, None, is_some, arith}
use Rattle.std.proofs.lemmas.Grind.{common_steps}
use Rattle.event_order.specs.Machine.{due}
use Rattle.event_order.proofs.Steps.{le_true, le_test, le_false}
use Rattle.ssf_model.specs.declared.event.Event.{Event}
use Rattle.sync_rules.specs.Bounds.{head_time}
use Rattle.timeline.specs.declared.answers.Ran.{Ran}
use Rattle.timeline.specs.declared.answers.Ran.TheVariants.{Held, Idle, Over, Spent}
use Rattle.timeline.specs.View.{TimelineOf, key_of, time_in}
use Rattle.timeline.specs.Holding.{bound_in, holder_in, low_in, is_done, is_free, is_over}
use Rattle.timeline.specs.Executing.{refusal}
use Rattle.timeline.specs.Sound.{HasNext}
use Rattle.timeline.proofs.Refusals.{lt_true}

cond_none : (b : Bool) (x : Ran) (rest : Option Ran) → cond b (Some x) rest ≡ None → (b ≡ false) × (rest ≡ None)
cond_none true x rest h = absurd (cc)
cond_none false x rest h = (refl, h)

not_false : (b : Bool) → not b ≡ false → b ≡ true
not_false true h = refl
not_false false h = absurd (cc)

pub less_of : (a b : ℕ) → nat_lt a b ≡ true → a < b
less_of a b h = grind (arith, common_steps)

refused_not : (b1 b2 b3 b4 : Bool) (x1 x2 x3 x4 : Ran) → b1 ≡ false → b2 ≡ false → b3 ≡ false → b4 ≡ false → cond b1 (Some x1) (cond b2 (Some x2) (cond b3 (Some x3) (cond b4 (Some x4) None))) ≡ None
refused_not b1 b2 b3 b4 x1 x2 x3 x4 h1 h2 h3 h4 = rw (h1, h2, h3, h4) refl

pub both : (a b : Bool) → (a && b) ≡ true → (a ≡ true) × (b ≡ true)
both true b h = (refl, h)
both false b h = absurd (cc)

less_no : (a b : ℕ) → b < a → nat_le a b ≡ false
less_no a b h = grind (arith, common_steps)

module _ {B S P : Type 0} (t : TimelineOf B S P) (e : Event P) (rest : List (Event P)) where
  -- the timeline is not spent, and its first pending event is in time, below the bound and within the budget
  pub record IsFree : Type 0 where
    pub awake : t.spent ≡ false
    pub in_time : e.key.time ≤ t.until
    pub below : e.key.time < bound_in t
    pub few : t.executed < t.budget

  due_time : (b : Bool) → is_some (cond b (Some e) None) ≡ true → b ≡ true
  due_time true h = refl
  due_time false h = absurd (cc)

  pub free_of : t.pending ≡ e ∷ rest → refusal t ≡ None → IsFree
  free_of first none =
      let one = cond_none t.spent Spent _ none in
      let two = cond_none (is_done t) Idle _ one.1 in
      let three = cond_none (not (is_free (bound_in t) t.pending)) (Held (bound_in t) (holder_in t)) _ two.1 in
      let four = cond_none (nat_le t.budget t.executed) Over None three.1 in
      let due_is : is_some (due key_of t.until (e ∷ rest)) ≡ true = ap (λ ps. is_some (due key_of t.until ps)) (sym first) ∙ not_false _ two.0 in
      let free : nat_lt e.key.time (bound_in t) ≡ true = ap (λ ps. is_free (bound_in t) ps) (sym first) ∙ not_false _ three.0 in
      record {
        awake = one.0;
        in_time = le_true e.key.time t.until (due_time (nat_le e.key.time t.until) due_is);
        below = less_of e.key.time (bound_in t) free;
        few = le_false t.budget t.executed four.0;
      }

module _ {B S P : Type 0} (t : TimelineOf B S P) where
  some_first : (ps : List (Event P)) → is_some (due key_of t.until ps) ≡ true → (e : Event P) × (rest : List (Event P)) × (ps ≡ e ∷ rest)
  some_first [] h = absurd (cc)
  some_first (e ∷ rest) h = (e, rest, refl)

  -- there is a next event
  pub next_of : refusal t ≡ None → HasNext t
  next_of none =
      let one = cond_none t.spent Spent _ none in
      let two = cond_none (is_done t) Idle _ one.1 in
      let found = some_first t.pending (not_false _ two.0) in
      let free = free_of t found.0 found.1 found.2 none in
      record { event = found.0; rest = found.1; is = found.2; in_time = free.in_time; below = free.below }

  -- the next event is not refused
  pub free_again : (h : HasNext t) → t.spent ≡ false → t.executed < t.budget → refusal t ≡ None
  free_again h awake few =
      let in_time : nat_le h.event.key.time t.until ≡ true = le_test h.event.key.time t.until h.in_time in
      let due_is : is_some (due key_of t.until (h.event ∷ h.rest)) ≡ true = rw in_time refl in
      let done : is_done t ≡ false = ap (λ ps. not (is_some (due key_of t.until ps))) h.is ∙ ap not due_is in
      let free : not (is_free (bound_in t) t.pending) ≡ false = ap (λ ps. not (is_free (bound_in t) ps)) h.is ∙ ap not (lt_true h.event.key.time (bound_in t) h.below) in
      refused_not t.spent (is_done t) (not (is_free (bound_in t) t.pending)) (nat_le t.budget t.executed) Spent Idle (Held (bound_in t) (holder_in t)) Over awake done free (less_no t.budget t.executed few)

  -- it is over: the next event could be executed but for the budget
  pub over_is : is_over t ≡ true → HasNext t × (t.budget ≤ t.executed)
  over_is over =
      let two = both _ _ over in
      let one = both _ _ two.0 in
      let found = some_first t.pending one.0 in
      let due_is : is_some (due key_of t.until (found.0 ∷ found.1)) ≡ true = ap (λ ps. is_some (due key_of t.until ps)) (sym found.2) ∙ one.0 in
      let free : nat_lt found.0.key.time (bound_in t) ≡ true = ap (λ ps. is_free (bound_in t) ps) (sym found.2) ∙ one.1 in (
        record { event = found.0; rest = found.1; is = found.2; in_time = le_true found.0.key.time t.until (due_time t found.0 found.1 (nat_le found.0.key.time t.until) due_is); below = less_of found.0.key.time (bound_in t) free },
        le_true t.budget t.executed two.1,
      )

  -- it is over where the next event could be executed but for the budget
  pub over_again : (h : HasNext t) → t.budget ≤ t.executed → is_over t ≡ true
  over_again h spent =
      let in_time : nat_le h.event.key.time t.until ≡ true = le_test h.event.key.time t.until h.in_time in
      let due_is : is_some (due key_of t.until (h.event ∷ h.rest)) ≡ true = rw in_time refl in
      let here : is_some (due key_of t.until t.pending) ≡ true = ap (λ ps. is_some (due key_of t.until ps)) h.is ∙ due_is in
      let free : is_free (bound_in t) t.pending ≡ true = ap (λ ps. is_free (bound_in t) ps) h.is ∙ lt_true h.event.key.time (bound_in t) h.below in
      rw (here, free, le_test t.budget t.executed spent) refl

  -- the lower bound is the time of the next event
  pub next_low : (h : HasNext t) (e : Event P) (rest : List (Event P)) → t.pending ≡ e ∷ rest → low_in t ≡ e.key.time
  next_low h e rest first =
      let both_are : e ∷ rest ≡ h.event ∷ h.rest = sym first ∙ h.is in
      let same : e ≡ h.event = cc in
      let time = ap (λ (x : Event P). x.key.time) same in
      let low : low_in t ≡ min e.key.time (bound_in t) = ap (λ ps. head_time time_in (bound_in t) ps) first in
      omega (arith, low, time, h.below)
