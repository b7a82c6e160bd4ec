-- From the end of a run by workers to what a command answers.
use Rattle.std.proofs.Common.{ℕ, zero, suc, ◌≡◌, ◌<◌, ◌≤◌, ◌⊎◌, ◌++◌, ◌∙◌, arith, inl, inr, refl, ap, sym, subst, List, [], ◌∷◌, length, length-append, get_or, slice_get, take, drop, Option, Some, Result, Ok, Err, IfErr}
use Rattle.std.proofs.lemmas.Option.{slice_get_within, slice_get-get_or, get_or_from_slice_get}
use Rattle.std.proofs.Math.ListN.{get_or-append}
use Rattle.event_order.proofs.Steps.{lt_or_ge}
use Rattle.step_run.specs.declared.running.StepEnd.{StepEnd}
use Rattle.step_run.specs.Endings.{IfBegun as IfStepsBegun}
use Rattle.worker_run.specs.declared.running.WorkEnd.{WorkEnd}
use Rattle.worker_run.specs.declared.running.WorkEnd.TheVariants as work
use Rattle.worker_pool.specs.declared.lane.Lane.{Lane}
use Rattle.worker_pool.specs.Lanes.{HasStopped, HaveNotFallen, gate_of}
use Rattle.worker_run.specs.Working.{IfEnded, IfStopped, IfBegun}
use Rattle.ssfnet_top.specs.declared.refusal.Refusal.{Refusal}
use Rattle.ssfnet_top.specs.declared.refusal.Refusal.TheVariants as refusal
use Rattle.sim_base.specs.Outside.{Appends}
use Rattle.command_words.specs.Words.{Asked}
use Rattle.std.proofs.lemmas.List.{take-append-drop}
use Rattle.std.proofs.lemmas.Grind.{common_steps}
use Rattle.ssfnet_top.specs.Refusals.{status_of}
use Rattle.ssfnet_top.specs.Outcome.{refusal_line}
use Rattle.ssfnet_top.specs.Ending.{Concerns}
use Rattle.ssfnet_top.specs.Answering.{IsOfSteps, IsStop, IsAnswered}

pub if_ended : (w : WorkEnd) (e : StepEnd) (P : StepEnd → Type 0) → w ≡ work.Ended e → IfEnded w P → P e
if_ended w e P is h = subst (λ (x : WorkEnd). IfEnded x P) is h

pub if_stopped : (w : WorkEnd) (worker below : ℕ) (P : ℕ → ℕ → Type 0) → w ≡ work.Stopped worker below → IfStopped w P → P worker below
if_stopped w worker below P is h = subst (λ (x : WorkEnd). IfStopped x P) is h

pub begun_ended : (w : WorkEnd) (e : StepEnd) (P : Type 0) → w ≡ work.Ended e → IfBegun w P → IfStepsBegun e P
begun_ended w e P is h = subst (λ (x : WorkEnd). IfBegun x P) is h

pub begun_stopped : (w : WorkEnd) (worker below : ℕ) (P : Type 0) → w ≡ work.Stopped worker below → IfBegun w P → P
begun_stopped w worker below P is h = subst (λ (x : WorkEnd). IfBegun x P) is h

-- a refusal of the steps is no stop
no_stop : (budget : ℕ) (r : Refusal) (worker below : ℕ) → IsOfSteps budget r → r ≡ refusal.Stopped worker below → ⊥
no_stop budget r worker below of is = subst (λ (x : Refusal). IsOfSteps budget x) is of

pub not_stopped : (budget : ℕ) (answer : Result (Unit {0}) Refusal) (P : ℕ → ℕ → Type 0) → IfErr answer (λ x. IsOfSteps budget x)
    → IfErr answer (λ r. (worker below : ℕ) → r ≡ refusal.Stopped worker below → P worker below)
not_stopped budget (Ok unit) P of = tt
not_stopped budget (Err r) P of = λ worker below is. absurd (no_stop budget r worker below of is)

pub steps_or_stop : (budget workers : ℕ) (answer : Result (Unit {0}) Refusal) → IfErr answer (λ x. IsOfSteps budget x) → IfErr answer (λ x. IsOfSteps budget x ⊎ IsStop workers x)
steps_or_stop budget workers (Ok unit) of = tt
steps_or_stop budget workers (Err r) of = inl of

abbrev worker_of : Refusal → ℕ
worker_of (refusal.Stopped worker below) = worker
worker_of _ = 0

-- a worker that was stopped is one of those with a lane
module _ {G : Type 0} (stops : G → ℕ) where
  pub stop_of : (worker below : ℕ) (old new : List (Lane G)) → HasStopped stops worker old new
      → (i f : ℕ) → ◌≡◌ {A = Refusal} (refusal.Stopped worker below) (refusal.Stopped i f) → HasStopped stops i old new
  stop_of worker below old new stopped i f is = subst (λ (n : ℕ). HasStopped stops n old new) (ap {B = _} worker_of is) stopped

  pub stop_cause : (budget worker below : ℕ) (old new : List (Lane G)) → HasStopped stops worker old new
      → IsOfSteps budget (refusal.Stopped worker below) ⊎ IsStop (length old) (refusal.Stopped worker below)
  stop_cause budget worker below old new stopped = inr (worker, below, refl, slice_get_within old worker stopped.before stopped.was)

-- Where the first lanes are those of the workers, and the others stay as they are.

front_there : {A : Type 0} (a rest : List A) (i : ℕ) (x : A) → slice_get a i ≡ Some x → slice_get (a ++ rest) i ≡ Some x
front_there {A = A} a rest i x is =
    let low = slice_get_within a i x is in
    let long = length-append a rest in
    slice_get-get_or (a ++ rest) i x (omega (arith, low, long)) ∙ ap (λ (y : A). Some y) (get_or-append a rest x i low ∙ get_or_from_slice_get a i x x is)

front_back : {A : Type 0} (a rest : List A) (i : ℕ) (x : A) → i < length a → slice_get (a ++ rest) i ≡ Some x → slice_get a i ≡ Some x
front_back {A = A} a rest i x low is = slice_get-get_or a i x low ∙ ap (λ (y : A). Some y) (sym (get_or-append a rest x i low) ∙ get_or_from_slice_get (a ++ rest) i x x is)

behind_same : {A : Type 0} (a b rest : List A) (i : ℕ) (d : A) → length a ≡ length b → length a ≤ i → get_or (a ++ rest) i d ≡ get_or (b ++ rest) i d
behind_same [] [] rest i d same over = refl
behind_same [] (y ∷ b) rest i d same over = absurd (omega (arith, same))
behind_same (x ∷ a) [] rest i d same over = absurd (omega (arith, same))
behind_same (x ∷ a) (y ∷ b) rest zero d same over = absurd (omega (arith, over))
behind_same (x ∷ a) (y ∷ b) rest (suc i) d same over = behind_same a b rest i d (omega (arith, same)) (omega (arith, over))

module _ {G : Type 0} (stops : G → ℕ) (a b rest : List (Lane G)) where
  pub stopped_in_front : (worker : ℕ) → HasStopped stops worker a b → HasStopped stops worker (a ++ rest) (b ++ rest)
  stopped_in_front worker h = record {
    before = h.before;
    was = front_there a rest worker h.before h.was;
    after = h.after;
    is = front_there b rest worker h.after h.is;
    rose = h.rose;
  }

  pub not_fallen_in_front : length a ≡ length b → HaveNotFallen stops a b → HaveNotFallen stops (a ++ rest) (b ++ rest)
  not_fallen_in_front same h w before after was is = elim (lt_or_ge w (length a)) [
    | inl low ↦ h w before after (front_back a rest w before low was) (front_back b rest w after (omega (arith, low, same)) is)
    | inr over ↦ (
        let one = get_or_from_slice_get (a ++ rest) w before before was in
        let two = get_or_from_slice_get (b ++ rest) w after before is in
        let stays : before ≡ after = sym one ∙ (behind_same a b rest w before same over ∙ two) in
        subst (λ (l : Lane G). stops (gate_of before) ≤ stops (gate_of l)) stays (omega arith)
        )
  ]

pub few_taken : {A : Type 0} (n : ℕ) (xs : List A) → length (take n xs) ≤ n
few_taken n xs = grind (arith, common_steps)

-- the same of the first n lanes
module _ {G : Type 0} (stops : G → ℕ) (old new : List (Lane G)) (n : ℕ) where
  whole : take n old ++ drop n old ≡ old
  whole = take-append-drop n old

  pub stopped_of_all : (answer : Result (Unit {0}) Refusal) → IfErr answer (λ r. (worker below : ℕ) → r ≡ refusal.Stopped worker below → HasStopped stops worker (take n old) new)
      → IfErr answer (λ r. (worker below : ℕ) → r ≡ refusal.Stopped worker below → HasStopped stops worker old (new ++ drop n old))
  stopped_of_all (Ok unit) h = tt
  stopped_of_all (Err r) h = λ worker below is. subst (λ (l : List (Lane G)). HasStopped stops worker l (new ++ drop n old)) whole (stopped_in_front stops (take n old) new (drop n old) worker (h worker below is))

  pub not_fallen_of_all : length new ≡ length (take n old) → HaveNotFallen stops (take n old) new → HaveNotFallen stops old (new ++ drop n old)
  not_fallen_of_all same h = subst (λ (l : List (Lane G)). HaveNotFallen stops l (new ++ drop n old)) whole (not_fallen_in_front stops (take n old) new (drop n old) (sym same) h)

-- a refusal with status 9 is that of a worker that was stopped
stop_is : (r : Refusal) → status_of r ≡ 9 → (worker : ℕ) × (below : ℕ) × (r ≡ refusal.Stopped worker below)
stop_is refusal.Memory is = absurd (omega (arith, is))
stop_is refusal.Words is = absurd (omega (arith, is))
stop_is (refusal.Read file) is = absurd (omega (arith, is))
stop_is (refusal.Dml file f) is = absurd (omega (arith, is))
stop_is (refusal.Path file f) is = absurd (omega (arith, is))
stop_is (refusal.Shape f) is = absurd (omega (arith, is))
stop_is refusal.Write is = absurd (omega (arith, is))
stop_is (refusal.Budget budget) is = absurd (omega (arith, is))
stop_is (refusal.TimelineBudget timeline budget below) is = absurd (omega (arith, is))
stop_is (refusal.MemoryBelow below) is = absurd (omega (arith, is))
stop_is (refusal.Stopped worker below) is = (worker, below, refl)

pub told_stop : (r : Refusal) (asked : Option Asked) (status faults faults' : ℕ) (held held' : Option (List ℕ)) (P : ℕ → Type 0) → IsAnswered r status faults faults' held held' → Concerns asked r
    → ((worker below : ℕ) → r ≡ refusal.Stopped worker below → P worker) → status ≡ 9
    → (worker : ℕ) × (below : ℕ) × P worker × Concerns asked (refusal.Stopped worker below) × Appends (refusal_line (refusal.Stopped worker below)) held held'
told_stop r asked status faults faults' held held' P (inl (inl told)) c stops nine =
    let stop = stop_is r (sym told.0 ∙ nine) in
    (stop.0, stop.1, stops stop.0 stop.1 stop.2, subst (λ (s : Refusal). Concerns asked s) stop.2 c, subst (λ (s : Refusal). Appends (refusal_line s) held held') stop.2 told.1)
told_stop r asked status faults faults' held held' P (inl (inr half)) c stops nine = absurd (let seven = half.0 in omega (arith, seven, nine))
told_stop r asked status faults faults' held held' P (inr (made, inl told)) c stops nine = absurd (let one : status ≡ 1 = told.0 in omega (arith, one, nine))
told_stop r asked status faults faults' held held' P (inr (made, inr half)) c stops nine = absurd (let seven = half.0 in omega (arith, seven, nine))
