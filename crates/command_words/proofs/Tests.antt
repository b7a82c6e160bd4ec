-- The loops of the rule, word by word.
use Rattle.std.proofs.Common.{ℕ, ◌≡◌, ◌∙◌, ◌<◌, ◌≤◌, ◌+◌, sym, ap, refl, suc, List, [], ◌∷◌, length, get_or, drop, drop-cons, map, string_bytes, String, Bool, true, false, not, ◌&&◌, arith, slice_get, cond, drop_of_length-le, true≢false}
use Rattle.std.specs.List.{list_all}
use Rattle.std.specs.declared.alloc.Global.{Global}
use Rattle.command_words.specs.Table.{Text, is_one_of, same_text, takes_value}
use Rattle.command_words.specs.Words.{begins_with_dash, files_in, has_value, have_values, stand_once}
use Rattle.command_words.proofs.WordKinds.{value_option}

abbrev texts : List (String Global) → List Text
texts = map string_bytes

-- the word at this place, and those behind it
split : (words : List (String Global)) (i : ℕ) (word : String Global) → i < length words → word ≡ get_or words i word → texts (drop i words) ≡ string_bytes word ∷ texts (drop (i + 1) words)
split words i word below is =
    let next : i + 1 ≡ suc i = omega arith in
    rw next (ap texts (drop-cons words i word below ∙ ap (λ (s : String Global). s ∷ drop (suc i) words) (sym is)))

pub once_next : (words : List (String Global)) (i : ℕ) (word : String Global) → i < length words → word ≡ get_or words i word
    → (begins_with_dash (string_bytes word) && is_one_of (texts (drop (i + 1) words)) (string_bytes word)) ≡ false
    → stand_once (texts (drop i words)) ≡ stand_once (texts (drop (i + 1) words))
unfolding stand_once
once_next words i word below is fresh = ap stand_once (split words i word below is) ∙ rw fresh refl

pub once_fails : (words : List (String Global)) (i : ℕ) (word : String Global) → i < length words → word ≡ get_or words i word
    → (begins_with_dash (string_bytes word) && is_one_of (texts (drop (i + 1) words)) (string_bytes word)) ≡ true
    → stand_once (texts (drop i words)) ≡ false
unfolding stand_once
once_fails words i word below is again = ap stand_once (split words i word below is) ∙ rw again refl

pub values_next : (words : List (String Global)) (i : ℕ) (word : String Global) → i < length words → word ≡ get_or words i word
    → has_value (string_bytes word) (slice_get (texts (drop (i + 1) words)) 0) ≡ true
    → have_values (texts (drop i words)) ≡ have_values (texts (drop (i + 1) words))
unfolding have_values
values_next words i word below is fits = ap have_values (split words i word below is) ∙ rw fits refl

pub values_fail : (words : List (String Global)) (i : ℕ) (word : String Global) → i < length words → word ≡ get_or words i word
    → has_value (string_bytes word) (slice_get (texts (drop (i + 1) words)) 0) ≡ false
    → have_values (texts (drop i words)) ≡ false
unfolding have_values
values_fail words i word below is fits = ap have_values (split words i word below is) ∙ rw fits refl

-- ---- every word, and some word

pub all_next : (p : Text → Bool) (words : List (String Global)) (i : ℕ) (word : String Global) → i < length words → word ≡ get_or words i word → p (string_bytes word) ≡ true
    → list_all p (texts (drop i words)) ≡ list_all p (texts (drop (i + 1) words))
all_next p words i word below is passes = ap (list_all p) (split words i word below is) ∙ rw passes refl

pub all_fails : (p : Text → Bool) (words : List (String Global)) (i : ℕ) (word : String Global) → i < length words → word ≡ get_or words i word → p (string_bytes word) ≡ false
    → list_all p (texts (drop i words)) ≡ false
all_fails p words i word below is fails = ap (list_all p) (split words i word below is) ∙ rw fails refl

pub any_next : (text : Text) (words : List (String Global)) (i : ℕ) (word : String Global) → i < length words → word ≡ get_or words i word → same_text text (string_bytes word) ≡ false
    → is_one_of (texts (drop i words)) text ≡ is_one_of (texts (drop (i + 1) words)) text
any_next text words i word below is differs = ap (λ (ws : List Text). is_one_of ws text) (split words i word below is) ∙ rw differs refl

pub any_found : (text : Text) (words : List (String Global)) (i : ℕ) (word : String Global) → i < length words → word ≡ get_or words i word → same_text text (string_bytes word) ≡ true
    → is_one_of (texts (drop i words)) text ≡ true
any_found text words i word below is same = ap (λ (ws : List Text). is_one_of ws text) (split words i word below is) ∙ rw same refl

-- nothing is left behind the last word
past : (words : List (String Global)) (i : ℕ) → length words ≤ i → texts (drop i words) ≡ []
past words i over = ap texts (drop_of_length-le words over)

pub all_past : (p : Text → Bool) (words : List (String Global)) (i : ℕ) → length words ≤ i → list_all p (texts (drop i words)) ≡ true
all_past p words i over = ap (list_all p) (past words i over)

pub any_past : (text : Text) (words : List (String Global)) (i : ℕ) → length words ≤ i → is_one_of (texts (drop i words)) text ≡ false
any_past text words i over = ap (λ (ws : List Text). is_one_of ws text) (past words i over)

pub once_past : (words : List (String Global)) (i : ℕ) → length words ≤ i → stand_once (texts (drop i words)) ≡ true
unfolding stand_once
once_past words i over = ap stand_once (past words i over)

pub values_past : (words : List (String Global)) (i : ℕ) → length words ≤ i → have_values (texts (drop i words)) ≡ true
unfolding have_values
values_past words i over = ap have_values (past words i over)

-- ---- the files

-- so many files is a word: one or none
abbrev file_here : Bool → Text → ℕ
file_here behind word = cond (not behind && not (begins_with_dash word)) 1 0

plain_ends : (w : Text) → begins_with_dash w ≡ false → takes_value w ≡ false
plain_ends w no_dash = go (takes_value w) refl
  where
    go : (t : Bool) → takes_value w ≡ t → t ≡ false
    go true e = absurd (true≢false (sym ((value_option w e).dashed) ∙ no_dash))
    go false e = refl

count_word : (behind : Bool) (w : Text) (words : List Text) → length (files_in behind (w ∷ words)) ≡ file_here behind w + length (files_in (not behind && takes_value w) words)
unfolding files_in
count_word true w words = omega arith
count_word false w words = go (begins_with_dash w) refl
  where
    go : (b : Bool) → begins_with_dash w ≡ b → length (cond b (files_in (takes_value w) words) (w ∷ files_in false words)) ≡ cond (not b) 1 0 + length (files_in (takes_value w) words)
    go true e = omega arith
    go false e = rw (plain_ends w e) (omega arith)

pub count_next : (words : List (String Global)) (i : ℕ) (word : String Global) → i < length words → word ≡ get_or words i word → (total count count' : ℕ) (behind behind' : Bool)
    → total ≡ count + length (files_in behind (texts (drop i words))) → count' ≡ count + file_here behind (string_bytes word) → behind' ≡ (not behind && takes_value (string_bytes word))
    → total ≡ count' + length (files_in behind' (texts (drop (i + 1) words)))
count_next words i word below is total count count' behind behind' before counted moved =
    let one = ap (λ (ws : List Text). length (files_in behind ws)) (split words i word below is) ∙ count_word behind (string_bytes word) (texts (drop (i + 1) words)) in
    let same : length (files_in behind' (texts (drop (i + 1) words))) ≡ length (files_in (not behind && takes_value (string_bytes word)) (texts (drop (i + 1) words))) =
    ap (λ (b : Bool). length (files_in b (texts (drop (i + 1) words)))) moved in
    omega (arith, before, counted, one, same)

pub count_past : (words : List (String Global)) (i : ℕ) (total count : ℕ) (behind : Bool) → length words ≤ i → total ≡ count + length (files_in behind (texts (drop i words))) → count ≡ total
unfolding files_in
count_past words i total count behind over before =
    let none : length (files_in behind (texts (drop i words))) ≡ 0 = ap (λ (ws : List Text). length (files_in behind ws)) (past words i over) ∙ empty behind in
    omega (arith, before, none)
  where
    empty : (b : Bool) → length (files_in b []) ≡ 0
    empty true = refl
    empty false = refl
