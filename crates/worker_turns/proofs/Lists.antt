-- Lists of what a hand was asked, one after the other.
use Rattle.std.proofs.Common.{◌≡◌, suc, ◌+◌, true, false, cond, List, [], ◌∷◌, ◌++◌, refl, sym, ap, ◌∙◌, subst, arith, append_assoc, Option, Some, None, Result, Ok, OnOk}
use Rattle.std.proofs.lemmas.List.{append-nil, append_cancel_left}
use Rattle.std.proofs.lemmas.List.Elements.{All-append, All-head, All-tail, All-weaker}
use Rattle.sync_steps.specs.declared.steps.Step.{Step}
use Rattle.worker_hands.specs.declared.hand.Answer.{Answer}
use Rattle.worker_hands.specs.declared.hand.Made.{Made}
use Rattle.worker_hands.specs.Asked.{is_step, first_or, last_answer, is_run, runs_in}
use Rattle.worker_hands.specs.Hands.{HandView, IsAsked}
use Rattle.worker_turns.specs.Turning.{AreAll}

-- ---- answers

first_assoc : (a b c : Option Answer) → first_or (first_or a b) c ≡ first_or a (first_or b c)
first_assoc None b c = refl
first_assoc (Some x) b c = refl

-- the last answer over two lists is that of the later one, where it has one
pub last_of_both : (step : Step) (xs ys : List Made) → last_answer step (xs ++ ys) ≡ first_or (last_answer step ys) (last_answer step xs)
last_of_both step [] ys = first_none (last_answer step ys)
  where
    first_none : (a : Option Answer) → a ≡ first_or a None
    first_none None = refl
    first_none (Some x) = refl
last_of_both step (m ∷ ms) ys =
    ap (λ a. first_or a (cond (is_step step m.step) (Some m.answer) None)) (last_of_both step ms ys)
    ∙ first_assoc (last_answer step ys) (last_answer step ms) (cond (is_step step m.step) (Some m.answer) None)

-- what the later list has to say stays
pub last_later : (step : Step) (xs ys : List Made) (a : Answer) → last_answer step ys ≡ Some a → last_answer step (xs ++ ys) ≡ Some a
last_later step xs ys a is = last_of_both step xs ys ∙ ap (λ o. first_or o (last_answer step xs)) is

-- and where it has nothing to say, what the earlier one had
pub last_earlier : (step : Step) (xs ys : List Made) → last_answer step ys ≡ None → last_answer step (xs ++ ys) ≡ last_answer step xs
last_earlier step xs ys is = last_of_both step xs ys ∙ ap (λ o. first_or o (last_answer step xs)) is

-- lists of other steps have nothing to say
pub last_none : (step : Step) (kind : Step → Type 0) → ((s : Step) → kind s → is_step step s ≡ false) → (ms : List Made) → AreAll kind ms → last_answer step ms ≡ None
last_none step kind other [] all = refl
last_none step kind other (m ∷ ms) all =
    ap (λ a. first_or a (cond (is_step step m.step) (Some m.answer) None)) (last_none step kind other ms (All-tail (λ n. kind n.step) m ms all))
    ∙ ap (λ b. cond b (Some m.answer) None) (other m.step (All-head (λ n. kind n.step) m ms all))

pub runs_of_both : (xs ys : List Made) → runs_in (xs ++ ys) ≡ runs_in xs + runs_in ys
runs_of_both [] ys = omega arith
runs_of_both (m ∷ ms) ys =
    elim (is_run m.answer) as (λ b. cond b (suc (runs_in (ms ++ ys))) (runs_in (ms ++ ys)) ≡ cond b (suc (runs_in ms)) (runs_in ms) + runs_in ys) [
      | true ↦ (let rest = runs_of_both ms ys in omega (arith, rest))
      | false ↦ runs_of_both ms ys
    ]

-- ---- kinds of steps

pub all_wider : (one other : Step → Type 0) → ((s : Step) → one s → other s) → (ms : List Made) → AreAll one ms → AreAll other ms
all_wider one other wider ms all = All-weaker (λ m. one m.step) (λ m. other m.step) (λ m. wider m.step) ms all

pub all_of_both : (kind : Step → Type 0) (xs ys : List Made) → AreAll kind xs → AreAll kind ys → AreAll kind (xs ++ ys)
all_of_both kind xs ys = All-append (λ m. kind m.step) xs ys

-- ---- what a hand was asked

pub asked_nothing : (h : HandView) (law : List Made → Type 0) → law [] → IsAsked h h law
asked_nothing h law none = λ telling. (telling, ([], sym (append-nil h.list), none))

pub asked_more : (old new : HandView) (one other : List Made → Type 0) → ((made : List Made) → one made → other made) → IsAsked old new one → IsAsked old new other
asked_more old new one other more asked = λ telling. (let told = asked telling in (told.0, (told.1.0, told.1.1, more told.1.0 told.1.2)))

-- both laws hold of one list
pub asked_both : (old new : HandView) (one other : List Made → Type 0) → IsAsked old new one → IsAsked old new other → IsAsked old new (λ made. one made × other made)
asked_both old new one other asked again = λ telling. (
    let told = asked telling in
    let more = again telling in
    let same : more.1.0 ≡ told.1.0 = append_cancel_left old.list more.1.0 told.1.0 (sym more.1.1 ∙ told.1.1) in
    (told.0, (told.1.0, told.1.1, (told.1.2, subst other same more.1.2))))

-- one after the other
pub asked_then : (old mid new : HandView) (one other both : List Made → Type 0) → ((xs ys : List Made) → one xs → other ys → both (xs ++ ys)) → IsAsked old mid one → IsAsked mid new other → IsAsked old new both
asked_then old mid new one other both joined asked again = λ telling. (
    let more = again telling in
    let told = asked more.0 in
    (told.0, (told.1.0 ++ more.1.0, more.1.1 ∙ (ap (λ l. l ++ more.1.0) told.1.1 ∙ append_assoc old.list told.1.0 more.1.0), joined told.1.0 more.1.0 told.1.2 more.1.2)))

-- what an answer told, where it was Ok
pub on_ok_of : {T E : Type 0} (r : Result T E) (x : T) (law : Type 0) → r ≡ Ok x → OnOk r law → law
on_ok_of r x law is told = subst (λ q. OnOk q law) is told
