-- When steps are enabled, by the tests of the code.
use Rattle.std.proofs.Common.{ℕ, ◌≡◌, Bool, true, false, not, ◌&&◌, cond, nat_lt, nat_le, min, refl, sym, ap, ◌∙◌, arith, List, [], ◌∷◌, Some, None, is_some, inl, inr, lt-ltb}
use Rattle.std.specs.Prelude.{is_none}
use Rattle.std.proofs.lemmas.Bool.{cases_lt, le-ltb}
use Rattle.event_order.specs.Machine.{due}
use Rattle.ssf_model.specs.declared.event.Event.{Event}
use Rattle.sync_rules.specs.Bounds.{head_time}
use Rattle.timeline.specs.declared.answers.Ran.{Ran}
use Rattle.timeline.specs.declared.answers.Ran.TheVariants.{Spent, Idle, Held, Over}
use Rattle.timeline.specs.View.{TimelineOf, key_of, time_in}
use Rattle.timeline.specs.Holding.{bound_in, low_in, holder_in, is_done, is_over, is_free}
use Rattle.timeline.specs.Executing.{refusal}

-- the four causes for which an event is refused, one after the other
four_causes : (spent due free full : Bool) (a b c d : Ran)
    → is_none (cond spent (Some a) (cond (not due) (Some b) (cond (not free) (Some c) (cond full (Some d) None)))) ≡ (not spent && (not (not due) && (free && not ((due && free) && full))))
four_causes true due free full a b c d = refl
four_causes false false free full a b c d = refl
four_causes false true false full a b c d = refl
four_causes false true true false a b c d = refl
four_causes false true true true a b c d = refl

less_min : (a b : ℕ) → nat_lt (min a b) b ≡ nat_lt a b
less_min a b = elim (cases_lt a b) [
  | inl l ↦ lt-ltb (min a b) b (omega arith) ∙ sym (lt-ltb a b l)
  | inr g ↦ le-ltb (min a b) b (omega arith) ∙ sym (le-ltb a b g)
]

-- the first event is before the bound exactly where the lower bound is
head_free : {P : Type 0} (bound : ℕ) (es : List (Event P)) → nat_lt (head_time time_in bound es) bound ≡ is_free bound es
head_free bound [] = le-ltb bound bound (omega arith)
head_free bound (e ∷ es) = less_min (time_in e) bound

module _ {B S P : Type 0} where
  pub may_execute_is : (t : TimelineOf B S P) → (not t.spent && (not (is_done t) && (nat_lt (low_in t) (bound_in t) && not (is_over t)))) ≡ is_none (refusal t)
  may_execute_is t = ap (λ b. not t.spent && (not (is_done t) && (b && not (is_over t)))) (head_free (bound_in t) t.pending) ∙ sym (four_causes t.spent (is_some (due key_of t.until t.pending)) (is_free (bound_in t) t.pending) (nat_le t.budget t.executed) Spent Idle (Held (bound_in t) (holder_in t)) Over)

  pub may_execute_by : (t : TimelineOf B S P) (spent done free over : Bool) → spent ≡ t.spent → done ≡ is_done t → free ≡ nat_lt (low_in t) (bound_in t) → over ≡ is_over t
      → (not spent && (not done && (free && not over))) ≡ is_none (refusal t)
  may_execute_by t spent done free over a b c d = rw (a, b, c, d) (may_execute_is t)
