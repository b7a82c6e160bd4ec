-- Places of bytes, and the words between commas.
use Rattle.std.proofs.Common.{ℕ, ◌≡◌, ◌∙◌, ◌<◌, ◌+◌, sym, ap, refl, zero, suc, List, [], ◌∷◌, ◌++◌, length, get_or, take, drop, nat_eq, nat_lt, Bool, true, false, Option, Some, None, option_map, arith, lt-ltb, le-ltb, eq-eqb, eqb-true}
use Rattle.std.specs.List.{position, position_or_len}
use Rattle.std.proofs.lemmas.List.Sums.{position_or_len_is}
use Rattle.std.proofs.lemmas.List.Quantifiers.{position-Some}
use Rattle.sync_steps.specs.declared.steps.Step.{Step}
use Rattle.sync_steps.specs.Schedules.{words_in, in_first, step_of, with_step, steps_by, steps_of}

other : (a b : ℕ) → (a ≡ b → ⊥) → nat_eq a b ≡ false
other a b differ = go (nat_eq a b) refl
  where
    go : (t : Bool) → nat_eq a b ≡ t → t ≡ false
    go true e = absurd (differ (eqb-true a b e))
    go false e = refl

not_below : (n : ℕ) → nat_lt n n ≡ false
not_below n = le-ltb n n (omega arith)

-- the first place of a byte
pub place_found : (byte : ℕ) (word : List ℕ) (i : ℕ) → i < length word → ((k : ℕ) → k < i → get_or word k 0 ≡ byte → ⊥) → get_or word i 0 ≡ byte
    → Some i ≡ position (λ b. nat_eq b byte) word
place_found byte word i below before here =
    let is : position_or_len (λ b. nat_eq b byte) word ≡ i = position_or_len_is (λ b. nat_eq b byte) word i 0 (omega arith) (λ k less. other (get_or word k 0) byte (before k less)) (λ less. eq-eqb (get_or word i 0) byte here) in
    rw (is, lt-ltb i (length word) below) refl

pub place_none : (byte : ℕ) (word : List ℕ) → ((k : ℕ) → k < length word → get_or word k 0 ≡ byte → ⊥) → None ≡ position (λ b. nat_eq b byte) word
place_none byte word before =
    let is : position_or_len (λ b. nat_eq b byte) word ≡ length word =
    position_or_len_is (λ b. nat_eq b byte) word (length word) 0 (omega arith) (λ k less. other (get_or word k 0) byte (before k less)) (λ less. absurd (omega arith)) in
    rw (is, not_below (length word)) refl

-- the word before the first comma, and those behind it
cut : (word : List ℕ) (i : ℕ) → i < length word → ((k : ℕ) → k < i → nat_eq (get_or word k 0) 44 ≡ false) → nat_eq (get_or word i 0) 44 ≡ true
    → words_in word ≡ take i word ∷ words_in (drop (suc i) word)
unfolding words_in
cut [] i below before here = absurd (omega arith)
cut (b ∷ bs) zero below before here = rw here refl
cut (b ∷ bs) (suc i) below before here =
    let first : nat_eq b 44 ≡ false = before 0 (omega arith) in
    let less : i < length bs = omega arith in
    rw first (ap (λ (ps : List (List ℕ)). in_first b ps) (cut bs i less (λ k h. let more : suc k < suc i = omega arith in before (suc k) more) here))

whole : (word : List ℕ) → ((k : ℕ) → k < length word → nat_eq (get_or word k 0) 44 ≡ false) → words_in word ≡ word ∷ []
unfolding words_in
whole [] none = refl
whole (b ∷ bs) none =
    let first : nat_eq b 44 ≡ false = none 0 (omega arith) in
    rw first (ap (λ (ps : List (List ℕ)). in_first b ps) (whole bs (λ k h. let more : suc k < suc (length bs) = omega arith in none (suc k) more)))

-- a schedule with a comma
pub steps_cut : (word : List ℕ) (i : ℕ) → Some i ≡ position (λ b. nat_eq b 44) word → steps_of word ≡ with_step (step_of (take i word)) (steps_of (drop (i + 1) word))
unfolding steps_of
steps_cut word i found =
    let at = position-Some (λ b. nat_eq b 44) word i 0 (sym found) in
    let next : i + 1 ≡ suc i = omega arith in
    rw next (ap steps_by (cut word i at.0 at.2 at.1))

-- a schedule of one step
pub steps_whole : (word : List ℕ) → ((k : ℕ) → k < length word → get_or word k 0 ≡ 44 → ⊥) → steps_of word ≡ with_step (step_of word) (Some [])
unfolding steps_of
steps_whole word none = ap steps_by (whole word (λ k less. other (get_or word k 0) 44 (none k less)))

-- ---- the steps that were read before others

pub append_same : {T : Type 0} (xs ys zs : List T) → (xs ++ ys) ++ zs ≡ xs ++ (ys ++ zs)
append_same [] ys zs = refl
append_same (x ∷ xs) ys zs = ap (λ l. x ∷ l) (append_same xs ys zs)

abbrev pub after : List Step → Option (List Step) → Option (List Step)
after steps others = option_map (λ more. steps ++ more) others

more_step : (steps : List Step) (step : Step) (others : Option (List Step)) → after steps (with_step (Some step) others) ≡ after (steps ++ step ∷ []) others
more_step steps step None = refl
more_step steps step (Some others) = ap (λ (all : List Step). Some all) (sym (append_same steps (step ∷ []) others))

-- one more step is read, the last one, or what is no step
pub read_more : (word rest : List ℕ) (i : ℕ) (steps : List Step) (step : Step) → steps_of word ≡ after steps (steps_of rest) → Some i ≡ position (λ b. nat_eq b 44) rest → step_of (take i rest) ≡ Some step
    → steps_of word ≡ after (steps ++ step ∷ []) (steps_of (drop (i + 1) rest))
read_more word rest i steps step before found is =
    before ∙ (ap (after steps) (steps_cut rest i found ∙ ap (λ s. with_step s (steps_of (drop (i + 1) rest))) is) ∙ more_step steps step (steps_of (drop (i + 1) rest)))

pub read_last : (word rest : List ℕ) (steps : List Step) (step : Step) → steps_of word ≡ after steps (steps_of rest) → ((k : ℕ) → k < length rest → get_or rest k 0 ≡ 44 → ⊥) → step_of rest ≡ Some step
    → steps_of word ≡ Some (steps ++ step ∷ [])
read_last word rest steps step before none is = before ∙ ap (after steps) (steps_whole rest none ∙ ap (λ s. with_step s (Some [])) is)

pub bad_more : (word rest : List ℕ) (i : ℕ) (steps : List Step) → steps_of word ≡ after steps (steps_of rest) → Some i ≡ position (λ b. nat_eq b 44) rest → step_of (take i rest) ≡ None → steps_of word ≡ None
bad_more word rest i steps before found is = before ∙ ap (after steps) (steps_cut rest i found ∙ ap (λ s. with_step s (steps_of (drop (i + 1) rest))) is)

pub bad_last : (word rest : List ℕ) (steps : List Step) → steps_of word ≡ after steps (steps_of rest) → ((k : ℕ) → k < length rest → get_or rest k 0 ≡ 44 → ⊥) → step_of rest ≡ None → steps_of word ≡ None
bad_last word rest steps before none is = before ∙ ap (after steps) (steps_whole rest none ∙ ap (λ s. with_step s (Some [])) is)
