-- Places of bytes, and the parts between commas.
use Rattle.std.proofs.Common.{ℕ, ◌≡◌, ◌∙◌, ◌<◌, ◌+◌, sym, ap, refl, zero, suc, List, [], ◌∷◌, length, get_or, take, drop, nat_eq, nat_lt, Bool, true, false, Some, None, arith, lt-ltb, le-ltb, eq-eqb, eqb-true, cond, ◌&&◌}
use Rattle.std.specs.List.{position, position_or_len, list_all}
use Rattle.std.proofs.lemmas.List.Sums.{position_or_len_is}
use Rattle.std.proofs.lemmas.List.Quantifiers.{position-Some}
use Rattle.command_words.specs.Schedule.{parts, in_first, is_step, is_schedule}

other : (a b : ℕ) → (a ≡ b → ⊥) → nat_eq a b ≡ false
other a b differ = go (nat_eq a b) refl
  where
    go : (t : Bool) → nat_eq a b ≡ t → t ≡ false
    go true e = absurd (differ (eqb-true a b e))
    go false e = refl

not_below : (n : ℕ) → nat_lt n n ≡ false
not_below n = le-ltb n n (omega arith)

-- the first place of a byte
pub place_found : (byte : ℕ) (word : List ℕ) (i : ℕ) → i < length word → ((k : ℕ) → k < i → get_or word k 0 ≡ byte → ⊥) → get_or word i 0 ≡ byte
    → Some i ≡ position (λ b. nat_eq b byte) word
place_found byte word i below before here =
    let is : position_or_len (λ b. nat_eq b byte) word ≡ i = position_or_len_is (λ b. nat_eq b byte) word i 0 (omega arith) (λ k less. other (get_or word k 0) byte (before k less)) (λ less. eq-eqb (get_or word i 0) byte here) in
    rw (is, lt-ltb i (length word) below) refl

pub place_none : (byte : ℕ) (word : List ℕ) → ((k : ℕ) → k < length word → get_or word k 0 ≡ byte → ⊥) → None ≡ position (λ b. nat_eq b byte) word
place_none byte word before =
    let is : position_or_len (λ b. nat_eq b byte) word ≡ length word =
    position_or_len_is (λ b. nat_eq b byte) word (length word) 0 (omega arith) (λ k less. other (get_or word k 0) byte (before k less)) (λ less. absurd (omega arith)) in
    rw (is, not_below (length word)) refl

-- the part before the first comma, and those behind it
cut : (word : List ℕ) (i : ℕ) → i < length word → ((k : ℕ) → k < i → nat_eq (get_or word k 0) 44 ≡ false) → nat_eq (get_or word i 0) 44 ≡ true
    → parts word ≡ take i word ∷ parts (drop (suc i) word)
unfolding parts
cut [] i below before here = absurd (omega arith)
cut (b ∷ bs) zero below before here = rw here refl
cut (b ∷ bs) (suc i) below before here =
    let first : nat_eq b 44 ≡ false = before 0 (omega arith) in
    let less : i < length bs = omega arith in
    rw first (ap (λ (ps : List (List ℕ)). in_first b ps) (cut bs i less (λ k h. let more : suc k < suc i = omega arith in before (suc k) more) here))

whole : (word : List ℕ) → ((k : ℕ) → k < length word → nat_eq (get_or word k 0) 44 ≡ false) → parts word ≡ word ∷ []
unfolding parts
whole [] none = refl
whole (b ∷ bs) none =
    let first : nat_eq b 44 ≡ false = none 0 (omega arith) in
    rw first (ap (λ (ps : List (List ℕ)). in_first b ps) (whole bs (λ k h. let more : suc k < suc (length bs) = omega arith in none (suc k) more)))

-- a schedule with a comma
pub schedule_cut : (word : List ℕ) (i : ℕ) → Some i ≡ position (λ b. nat_eq b 44) word → is_schedule word ≡ (cond (is_step (take i word)) (is_schedule (drop (i + 1) word)) false)
unfolding is_schedule
schedule_cut word i found =
    let at = position-Some (λ b. nat_eq b 44) word i 0 (sym found) in
    let next : i + 1 ≡ suc i = omega arith in
    rw next (ap (λ (ps : List (List ℕ)). list_all is_step ps) (cut word i at.0 at.2 at.1) ∙ go (is_step (take i word)) (list_all is_step (parts (drop (suc i) word))))
  where
    go : (a b : Bool) → (a && b) ≡ cond a b false
    go true b = refl
    go false b = refl

-- a schedule of one step
pub schedule_whole : (word : List ℕ) → ((k : ℕ) → k < length word → get_or word k 0 ≡ 44 → ⊥) → is_schedule word ≡ is_step word
unfolding is_schedule
schedule_whole word none =
    ap (λ (ps : List (List ℕ)). list_all is_step ps) (whole word (λ k less. other (get_or word k 0) 44 (none k less))) ∙ go (is_step word)
  where
    go : (a : Bool) → (a && true) ≡ a
    go true = refl
    go false = refl
