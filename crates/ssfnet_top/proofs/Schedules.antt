-- What the rule of words takes for a schedule spells steps.
use Rattle.std.proofs.Common.{ℕ, ◌≡◌, ◌∙◌, sym, ap, refl, Bool, true, false, nat_eq, nat_le, ◌&&◌, ◌+◌, if◌then◌else◌, List, [], ◌∷◌, length, take, drop, Option, Some, None, inl, inr}
use Rattle.std.specs.List.{list_all, position}
use Rattle.event_order.proofs.Pending.{test_cases}
use Rattle.command_words.specs.Schedule.{in_first, parts, is_step_number, is_pair_at, is_step_pair, is_step_letter, is_step, is_schedule}
use Rattle.command_words.specs.Numbers.{is_digit, is_number as is_long_number}
use Rattle.sync_steps.specs.declared.steps.Step.TheVariants.{Execute, Post, Take, Enter, Report, Cross}
use Rattle.sync_steps.specs.Schedules.{is_number, value_of, number_in, numbered_step, pair_at, step_of, in_first as before_first, words_in, steps_by, steps_of}

-- it is something
abbrev There : {T : Type 0} → Option T → Type 0
There {T} o = (x : T) × (o ≡ Some x)

and_left : (a b : Bool) → (a && b) ≡ true → a ≡ true
and_left true b h = refl
and_left false b h = h

and_right : (a b : Bool) → (a && b) ≡ true → b ≡ true
and_right true b h = h
and_right false b h = absurd (let wrong : false ≡ true = h in cc)

both_true : (a b : Bool) → a ≡ true → b ≡ true → (a && b) ≡ true
both_true true b h k = k
both_true false b h k = h

number_fits : (word : List ℕ) → is_step_number word ≡ true → is_number word ≡ true
number_fits word h =
    let long = and_left (is_long_number word) (nat_le (length word) 9) h in
    let short = and_right (is_long_number word) (nat_le (length word) 9) h in
    let digits = and_left (list_all is_digit word) _ long in
    let rest = and_right (list_all is_digit word) _ long in
    let some = and_left (nat_le 1 (length word)) _ rest in
    let more = and_right (nat_le 1 (length word)) _ rest in
    let first = and_right (nat_le (length word) 19) _ more in
    both_true (list_all is_digit word) _ digits (both_true (nat_le 1 (length word)) _ some (both_true (nat_le (length word) 9) _ short first))

number_there : (word : List ℕ) → is_step_number word ≡ true → There (number_in word)
number_there word h = (value_of word, (let fits = number_fits word h in rw fits refl))

pair_there : (word : List ℕ) (o : Option ℕ) → is_pair_at word o ≡ true → There (pair_at word o)
pair_there word None h = absurd (let wrong : false ≡ true = h in cc)
pair_there word (Some place) h =
    let first = number_there (take place word) (and_left (is_step_number (take place word)) _ h) in
    let second = number_there (drop (place + 1) word) (and_right (is_step_number (take place word)) _ h) in
    (Post first.0 second.0, (let one = first.1 in let two = second.1 in rw one (rw two refl)))

lettered : (letter n : ℕ) → is_step_letter letter ≡ true → There (numbered_step letter (Some n))
lettered letter n h = elim (test_cases (nat_eq letter 120)) [
  | inl x ↦ (Execute n, rw x refl)
  | inr x ↦ elim (test_cases (nat_eq letter 116)) [
    | inl t ↦ (Take n, rw x (rw t refl))
    | inr t ↦ elim (test_cases (nat_eq letter 101)) [
      | inl e ↦ (Enter n, rw x (rw t (rw e refl)))
      | inr e ↦ elim (test_cases (nat_eq letter 114)) [
        | inl r ↦ (Report n, rw x (rw t (rw e (rw r refl))))
        | inr r ↦ absurd (let all : false ≡ true = sym (rw x (rw t (rw e (rw r refl)))) ∙ h in cc)
      ]
    ]
  ]
]

if_true : {T : Type 0} (b : Bool) (x y : T) → b ≡ true → (if b then x else y) ≡ x
if_true true x y is = refl
if_true false x y is = absurd (let wrong : false ≡ true = is in cc)

if_false : {T : Type 0} (b : Bool) (x y : T) → b ≡ false → (if b then x else y) ≡ y
if_false false x y is = refl
if_false true x y is = absurd (let wrong : true ≡ false = is in cc)

step_there : (word : List ℕ) → is_step word ≡ true → There (step_of word)
step_there [] h = absurd (let wrong : false ≡ true = h in cc)
step_there (letter ∷ rest) h = elim (test_cases (nat_eq letter 99)) [
  | inl c ↦ (let none : nat_eq (length rest) 0 ≡ true = sym (if_true (nat_eq letter 99) _ _ c) ∙ h in (Cross, if_true (nat_eq letter 99) _ _ c ∙ if_true (nat_eq (length rest) 0) _ _ none))
  | inr c ↦ elim (test_cases (nat_eq letter 112)) [
    | inl p ↦ (let pair : is_step_pair rest ≡ true = sym (if_false (nat_eq letter 99) _ _ c ∙ if_true (nat_eq letter 112) _ _ p) ∙ h in
        let found = pair_there rest (position (λ b. nat_eq b 46) rest) pair in
        (found.0, if_false (nat_eq letter 99) _ _ c ∙ (if_true (nat_eq letter 112) _ _ p ∙ found.1)))
    | inr p ↦ (let other : (is_step_letter letter && is_step_number rest) ≡ true = sym (if_false (nat_eq letter 99) _ _ c ∙ if_false (nat_eq letter 112) _ _ p) ∙ h in
        let number = number_there rest (and_right (is_step_letter letter) _ other) in
        let found = lettered letter number.0 (and_left (is_step_letter letter) _ other) in
        (found.0, if_false (nat_eq letter 99) _ _ c ∙ (if_false (nat_eq letter 112) _ _ p ∙ (ap (numbered_step letter) number.1 ∙ found.1))))
  ]
]

same_first : (byte : ℕ) (words : List (List ℕ)) → in_first byte words ≡ before_first byte words
same_first byte [] = refl
same_first byte (word ∷ words) = refl

same_words : (bytes : List ℕ) → parts bytes ≡ words_in bytes
unfolding parts words_in
same_words [] = refl
same_words (byte ∷ bytes) = elim (test_cases (nat_eq byte 44)) [
  | inl t ↦ rw t (ap (λ (ws : List (List ℕ)). [] ∷ ws) (same_words bytes))
  | inr f ↦ rw f (same_first byte (parts bytes) ∙ ap (before_first byte) (same_words bytes))
]

steps_there : (words : List (List ℕ)) → list_all is_step words ≡ true → There (steps_by words)
steps_there [] h = ([], refl)
steps_there (word ∷ words) h =
    let one = step_there word (and_left (is_step word) (list_all is_step words) h) in
    let more = steps_there words (and_right (is_step word) (list_all is_step words) h) in
    (one.0 ∷ more.0, (let first = one.1 in let rest = more.1 in rw first (rw rest refl)))

pub spells_steps : (word : List ℕ) → is_schedule word ≡ true → There (steps_of word)
unfolding is_schedule steps_of
spells_steps word h =
    let found = steps_there (parts word) h in
    (found.0, ap steps_by (sym (same_words word)) ∙ found.1)

pub spells : (word : List ℕ) → is_schedule word ≡ true → steps_of word ≡ None → ⊥
spells word h none = (let found = spells_steps word h in let is = found.1 in let wrong : Some found.0 ≡ None = sym is ∙ none in cc)
