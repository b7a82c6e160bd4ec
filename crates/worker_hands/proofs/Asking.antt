-- What a hand was asked, in one call after another.
use Rattle.std.proofs.Common.{ℕ, ◌≡◌, ◌+◌, ◌-◌, true, false, nat_lt, eq-eqb, refl, sym, ap, ◌∙◌, subst, inl, inr, arith, List, [], ◌∷◌, ◌++◌, append_assoc, Some}
use Rattle.std.proofs.lemmas.List.{append-nil}
use Rattle.std.proofs.lemmas.List.Elements.{All-nil, All-cons, All-append}
use Rattle.event_order.proofs.Pending.{test_cases}
use Rattle.sync_steps.specs.declared.steps.Step.{Step}
use Rattle.sync_steps.specs.declared.steps.Step.TheVariants.{Execute, Post, Take, Enter, Report, Cross}
use Rattle.worker_hands.specs.declared.hand.Answer.{Answer}
use Rattle.worker_hands.specs.declared.hand.Made.{Made}
use Rattle.worker_hands.specs.Hands.{HandView, after_made, after_all, IsAsked, IsToldOn}
use Rattle.worker_hands.specs.Asked.{AreOf, is_step, is_run, runs_in, last_answer}

-- ---- lists of what was asked

pub same_step : (step : Step) → is_step step step ≡ true
same_step (Execute i) = eq-eqb i i refl
same_step (Post i c) = rw (eq-eqb i i refl) (eq-eqb c c refl)
same_step (Take i) = eq-eqb i i refl
same_step (Enter i) = eq-eqb i i refl
same_step (Report i) = eq-eqb i i refl
same_step Cross = refl

-- the last answer is that of the last asking
pub last_is : (step : Step) (before : List Made) (answer : Answer) → last_answer step (before ++ record { step = step; answer = answer } ∷ []) ≡ Some answer
last_is step [] answer = rw (same_step step) refl
last_is step (m ∷ ms) answer = rw (last_is step ms answer) refl

runs_append : (one two : List Made) → runs_in (one ++ two) ≡ runs_in one + runs_in two
runs_append [] two = omega arith
runs_append (m ∷ ms) two = elim (test_cases (is_run m.answer)) [
  | inl t ↦ (let rest = runs_append ms two in rw t (omega arith))
  | inr f ↦ rw f (runs_append ms two)
]

pub no_runs : (one two : List Made) → runs_in one ≡ 0 → runs_in two ≡ 0 → runs_in (one ++ two) ≡ 0
no_runs one two a b = (let all = runs_append one two in omega arith)

pub one_of : (step : Step) (answer : Answer) → AreOf step (record { step = step; answer = answer } ∷ [])
one_of step answer = All-cons (λ (m : Made). m.step ≡ step) (record { step = step; answer = answer }) [] refl (All-nil (λ (m : Made). m.step ≡ step))

pub all_of : (step : Step) (one two : List Made) → AreOf step one → AreOf step two → AreOf step (one ++ two)
all_of step one two a b = All-append (λ (m : Made). m.step ≡ step) one two a b

pub one_run : (m : Made) → is_run m.answer ≡ true → runs_in (m ∷ []) ≡ 1
one_run m t = rw t refl

pub no_run : (m : Made) → is_run m.answer ≡ false → runs_in (m ∷ []) ≡ 0
no_run m f = rw f refl

-- ---- hands

pub asked_none : (h : HandView) (law : List Made → Type 0) → law [] → IsAsked h h law
asked_none h law holds = λ told. (told, ([], sym (append-nil h.list), holds))

pub asked_as : (old new : HandView) (one two : List Made → Type 0) → ((made : List Made) → one made → two made) → IsAsked old new one → IsAsked old new two
asked_as old new one two leads asked = λ told. (let a = asked told in (a.0, (a.1.0, a.1.1, leads a.1.0 a.1.2)))

-- a call tells its answer, while there is room
pub asked_one : (old new : HandView) (m : Made) → new ≡ after_made m old → IsAsked old new (λ made. made ≡ m ∷ [])
asked_one old new m is = λ told. elim (test_cases (nat_lt 0 old.spare)) [
  | inl t ↦ (
      let now : new ≡ record { telling = old.telling; list = old.list ++ m ∷ []; spare = old.spare - 1 } = is ∙ rw t refl in
      (sym (ap (λ (h : HandView). h.telling) now) ∙ told, (m ∷ [], ap (λ (h : HandView). h.list) now, refl)))
  | inr f ↦ (
      let now : new ≡ record { telling = false; list = old.list; spare = old.spare } = is ∙ rw f refl in
      let none : false ≡ true = sym (ap (λ (h : HandView). h.telling) now) ∙ told in
      absurd (cc))
]

-- one call after another
pub asked_then : (old mid new : HandView) (one two three : List Made → Type 0) → ((a b : List Made) → one a → two b → three (a ++ b)) → IsAsked old mid one → IsAsked mid new two → IsAsked old new three
asked_then old mid new one two three leads first second = λ told.
    (let b = second told in
    let a = first b.0 in
    (a.0, (a.1.0 ++ b.1.0, b.1.1 ∙ (ap (λ (ms : List Made). ms ++ b.1.0) a.1.1 ∙ append_assoc old.list a.1.0 b.1.0), leads a.1.0 b.1.0 a.1.2 b.1.2)))

-- what is asked for this step alone and executes nothing
abbrev pub IsIdle : Step → List Made → Type 0
IsIdle step made = AreOf step made × (runs_in made ≡ 0)

idle_one : (step : Step) (answer : Answer) → is_run answer ≡ false → IsIdle step (record { step = step; answer = answer } ∷ [])
idle_one step answer f = (one_of step answer, no_run (record { step = step; answer = answer }) f)

-- it was asked once
pub once : (step : Step) (answer : Answer) (old new : HandView) → new ≡ after_made (record { step = step; answer = answer }) old → is_run answer ≡ false → IsAsked old new (IsIdle step)
once step answer old new is f =
    asked_as old new (λ made. made ≡ record { step = step; answer = answer } ∷ []) (IsIdle step)
    (λ made same. subst (IsIdle step) (sym same) (idle_one step answer f)) (asked_one old new (record { step = step; answer = answer }) is)

-- or twice
pub twice : (step : Step) (answer again : Answer) (old mid new : HandView) → mid ≡ after_made (record { step = step; answer = answer }) old → new ≡ after_made (record { step = step; answer = again }) mid
    → is_run answer ≡ false → is_run again ≡ false → IsAsked old new (IsIdle step)
twice step answer again old mid new is then f g =
    asked_then old mid new (IsIdle step) (IsIdle step) (IsIdle step) (λ a b p q. (all_of step a b p.0 q.0, no_runs a b p.1 q.1)) (once step answer old mid is f) (once step again mid new then g)

-- the last answer after one call
pub once_last : (step : Step) (answer : Answer) (old new : HandView) → new ≡ after_made (record { step = step; answer = answer }) old → IsAsked old new (λ made. last_answer step made ≡ Some answer)
once_last step answer old new is =
    asked_as old new (λ made. made ≡ record { step = step; answer = answer } ∷ []) (λ made. last_answer step made ≡ Some answer)
    (λ made same. ap (last_answer step) same ∙ last_is step [] answer) (asked_one old new (record { step = step; answer = answer }) is)

-- and after what was asked before
pub then_last : (step : Step) (answer : Answer) (law : List Made → Type 0) (old mid new : HandView) → IsAsked old mid law → new ≡ after_made (record { step = step; answer = answer }) mid
    → IsAsked old new (λ made. last_answer step made ≡ Some answer)
then_last step answer law old mid new before is =
    asked_then old mid new law (λ made. made ≡ record { step = step; answer = answer } ∷ []) (λ made. last_answer step made ≡ Some answer)
    (λ a b p same. ap (λ (z : List Made). last_answer step (a ++ z)) same ∙ last_is step a answer) before (asked_one mid new (record { step = step; answer = answer }) is)

-- ---- what was told

after_append : (a b : List Made) (h : HandView) → after_all (a ++ b) h ≡ after_all b (after_all a h)
after_append [] b h = refl
after_append (m ∷ ms) b h = after_append ms b (after_made m h)

pub told_none : (h : HandView) → IsToldOn h h
told_none h = ([], refl)

pub told_one : (m : Made) (old new : HandView) → new ≡ after_made m old → IsToldOn old new
told_one m old new is = (m ∷ [], is)

pub told_then : (old mid new : HandView) → IsToldOn old mid → IsToldOn mid new → IsToldOn old new
told_then old mid new a b = (a.0 ++ b.0, b.1 ∙ (ap (after_all b.0) a.1 ∙ sym (after_append a.0 b.0 old)))

pub told_more : (m : Made) (old mid new : HandView) → IsToldOn old mid → new ≡ after_made m mid → IsToldOn old new
told_more m old mid new before is = told_then old mid new before (told_one m mid new is)

pub told_two : (m k : Made) (old mid new : HandView) → mid ≡ after_made m old → new ≡ after_made k mid → IsToldOn old new
told_two m k old mid new one two = told_more k old mid new (told_one m old mid one) two

-- ---- executions

-- so many were executed that these are left of `most`
abbrev pub AreRuns : ℕ → ℕ → ℕ → List Made → Type 0
AreRuns number most left made = AreOf (Execute number) made × (runs_in made + left ≡ most)

pub runs_begin : (number most : ℕ) (h : HandView) → IsAsked h h (AreRuns number most most)
runs_begin number most h = asked_none h (AreRuns number most most) (All-nil (λ (m : Made). m.step ≡ Execute number), omega arith)

pub runs_more : (number most left now : ℕ) (answer : Answer) (old mid new : HandView) → left ≡ now + 1 → IsAsked old mid (AreRuns number most left) → new ≡ after_made (record { step = Execute number; answer = answer }) mid
    → is_run answer ≡ true → IsAsked old new (AreRuns number most now)
runs_more number most left now answer old mid new one_less before is t =
    asked_then old mid new (AreRuns number most left) (λ made. made ≡ record { step = Execute number; answer = answer } ∷ []) (AreRuns number most now)
    (λ a b p same.
    (let m : Made = record { step = Execute number; answer = answer } in
    let one : runs_in b ≡ 1 = ap runs_in same ∙ one_run m t in
    let all = runs_append a b in
    let left_is : runs_in (a ++ b) + now ≡ most = omega (arith, p.1, one, all, one_less) in
    (all_of (Execute number) a b p.0 (subst (AreOf (Execute number)) (sym same) (one_of (Execute number) answer)), left_is)))
    before (asked_one mid new (record { step = Execute number; answer = answer }) is)

pub runs_end : (number most left : ℕ) (answer : Answer) (old mid new : HandView) → IsAsked old mid (AreRuns number most left) → new ≡ after_made (record { step = Execute number; answer = answer }) mid
    → is_run answer ≡ false → IsAsked old new (AreRuns number most left)
runs_end number most left answer old mid new before is f =
    asked_then old mid new (AreRuns number most left) (λ made. made ≡ record { step = Execute number; answer = answer } ∷ []) (AreRuns number most left)
    (λ a b p same.
    (let m : Made = record { step = Execute number; answer = answer } in
    let none : runs_in b ≡ 0 = ap runs_in same ∙ no_run m f in
    let all = runs_append a b in
    let left_is : runs_in (a ++ b) + left ≡ most = omega (arith, p.1, none, all) in
    (all_of (Execute number) a b p.0 (subst (AreOf (Execute number)) (sym same) (one_of (Execute number) answer)), left_is)))
    before (asked_one mid new (record { step = Execute number; answer = answer }) is)
