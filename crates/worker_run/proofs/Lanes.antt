-- Lanes over several turns: their number stays, no gate's count falls, and none changes before the last turn.
use Rattle.std.proofs.Common.{ℕ, ◌≡◌, ◌<◌, ◌≤◌, List, length, Some, refl, sym, ◌∙◌, subst, inl, inr, arith}
use Rattle.std.proofs.lemmas.Option.{slice_get_within, slice_get-get_or}
use Rattle.worker_pool.specs.declared.lane.Lane.{Lane}
use Rattle.worker_pool.specs.Lanes.{gate_of, HasStopped, HaveNotFallen, HaveStood}
use Rattle.worker_run.specs.declared.running.WorkEnd.{WorkEnd}
use Rattle.worker_run.specs.declared.running.WorkEnd.TheVariants.{Ended, Stopped}
use Rattle.worker_run.specs.Working.{IfStopped, IfUnstopped}
use Rattle.step_run.specs.declared.running.StepEnd.TheVariants.{Finished, OverBudget, MemoryBelow, Memory, TooManyTimelines, Write}

pub if_unstopped_each : (end : WorkEnd) (P Q : Type 0) → (P → Q) → IfUnstopped end P → IfUnstopped end Q
if_unstopped_each (Ended (Finished crossed last)) P Q f h = f h
if_unstopped_each (Ended (OverBudget timeline below)) P Q f h = f h
if_unstopped_each (Ended (MemoryBelow below)) P Q f h = tt
if_unstopped_each (Ended Memory) P Q f h = f h
if_unstopped_each (Ended (TooManyTimelines count)) P Q f h = f h
if_unstopped_each (Ended Write) P Q f h = tt
if_unstopped_each (Stopped worker below) P Q f h = tt

-- where it holds anyway
pub if_unstopped : (end : WorkEnd) (P : Type 0) → P → IfUnstopped end P
if_unstopped (Ended (Finished crossed last)) P h = h
if_unstopped (Ended (OverBudget timeline below)) P h = h
if_unstopped (Ended (MemoryBelow below)) P h = tt
if_unstopped (Ended Memory) P h = h
if_unstopped (Ended (TooManyTimelines count)) P h = h
if_unstopped (Ended Write) P h = tt
if_unstopped (Stopped worker below) P h = tt

module _ {G : Type 0} (stops : G → ℕ) where
  pub none_falls : (lanes : List (Lane G)) → HaveNotFallen stops lanes lanes
  none_falls lanes w before after was is =
      let both : Some before ≡ Some after = sym was ∙ is in
      let same : before ≡ after = cc in
      subst (λ l. stops (gate_of before) ≤ stops (gate_of l)) same (omega arith)

  none_moves : (n : ℕ) (lanes : List (Lane G)) → HaveStood stops n lanes lanes
  none_moves n lanes w before after low was is =
      let both : Some before ≡ Some after = sym was ∙ is in
      let same : before ≡ after = cc in
      subst (λ l. stops (gate_of l) ≡ stops (gate_of before)) same refl

  pub none_move : (lanes : List (Lane G)) → HaveStood stops (length lanes) lanes lanes
  none_move lanes = none_moves (length lanes) lanes

  module _ (old mid new : List (Lane G)) (many : length mid ≡ length old) where
    pub falls_not : HaveNotFallen stops old mid → HaveNotFallen stops mid new → HaveNotFallen stops old new
    falls_not first then w before after was is =
        let inside : w < length mid = (let here = slice_get_within old w before was in omega (arith, here)) in
        let found = slice_get-get_or mid w before inside in
        let up = first w before _ was found in
        let more = then w _ after found is in
        omega (arith, up, more)

    pub stopped_since : HaveNotFallen stops old mid → (w : ℕ) → HasStopped stops w mid new → HasStopped stops w old new
    stopped_since first w has =
        let inside : w < length old = (let here = slice_get_within mid w has.before has.was in omega (arith, here)) in
        let found = slice_get-get_or old w has.before inside in
        let up = first w _ has.before found has.was in
        record {
          before = _;
          was = found;
          after = has.after;
          is = has.is;
          rose = elim has.rose [
            | inl more ↦ inl (omega (arith, up, more))
            | inr stands ↦ inr stands
          ];
        }

    pub stopped_later : HaveNotFallen stops old mid → (end : WorkEnd) → IfStopped end (λ worker below. HasStopped stops worker mid new) → IfStopped end (λ worker below. HasStopped stops worker old new)
    stopped_later first (Ended end) h = tt
    stopped_later first (Stopped worker below) h = stopped_since first worker h

    stood_since : HaveStood stops (length old) old mid → (n : ℕ) → HaveStood stops n mid new → HaveStood stops n old new
    stood_since first n then w before after low was is =
        let here = slice_get_within old w before was in
        let inside : w < length mid = omega (arith, here) in
        let found = slice_get-get_or mid w before inside in
        let stands = first w before _ here was found in
        let stay = then w _ after low found is in
        stay ∙ stands

    pub stood_all : HaveStood stops (length old) old mid → HaveStood stops (length mid) mid new → HaveStood stops (length old) old new
    stood_all first then = stood_since first (length old) (subst (λ n. HaveStood stops n mid new) many then)

    pub first_later : HaveStood stops (length old) old mid → (end : WorkEnd) → IfStopped end (λ worker below. HaveStood stops worker mid new) → IfStopped end (λ worker below. HaveStood stops worker old new)
    first_later first (Ended end) h = tt
    first_later first (Stopped worker below) h = stood_since first worker h

    pub unstopped_later : HaveStood stops (length old) old mid → (end : WorkEnd) → IfUnstopped end (HaveStood stops (length mid) mid new) → IfUnstopped end (HaveStood stops (length old) old new)
    unstopped_later first end h = if_unstopped_each end (HaveStood stops (length mid) mid new) (HaveStood stops (length old) old new) (stood_all first) h
