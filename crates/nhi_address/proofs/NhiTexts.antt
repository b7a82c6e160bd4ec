-- What is printed of an NHI is read back as the same NHI.
use Rattle.std.proofs.Common.{◌≡◌, ℕ, zero, suc, ◌+◌, ◌<◌, ◌≤◌, Bool, true, false, nat_eq, List, [], ◌∷◌, ◌++◌, length, map, get_or, take, drop, Option, None, Some, refl, arith, ap, sym, ◌∙◌, add-one, zero-add, append_assoc, decimal, ◌⊎◌, inl, inr}
use Rattle.std.specs.Char.{is_ascii_digit}
use Rattle.std.specs.Str.{all_ascii_digits}
use Rattle.std.specs.List.{All, slice_split, position_or_len}
use Rattle.std.specs.Option.{ForSome}
use Rattle.std.proofs.lemmas.Bool.Decides.{nat_tests}
use Rattle.std.proofs.lemmas.Grind.{common_steps}
use Rattle.std.proofs.lemmas.Fmt.{digits_decimal, digits_value-decimal, length-decimal-le, decimal_nonempty}
use Rattle.std.proofs.lemmas.List.Splits.{slice_split_none, slice_split_at}
use Rattle.nhi_address.specs.NhiFields.{NhiFields, IsNhi, IsId}
use Rattle.nhi_address.specs.NhiText.{id_of, all_of, ids_of, interface_of, nhi_of, ids_text, interface_text, nhi_text}
use Rattle.nhi_address.proofs.Digits.{numerals, first, second}

-- no byte of a text passes a test
abbrev AllFail : (ℕ → Bool) → List ℕ → Type 0
AllFail p [] = Unit {0}
AllFail p (x ∷ xs) = (p x ≡ false) × AllFail p xs

fails_at : (p : ℕ → Bool) (xs : List ℕ) → AllFail p xs → All (λ x. p x ≡ false) xs
fails_at p [] fail k d lt = absurd (omega arith)
fails_at p (x ∷ xs) fail zero d lt = fail.0
fails_at p (x ∷ xs) fail (suc k) d lt = fails_at p xs fail.1 k d (omega arith)

fails-append : (p : ℕ → Bool) (xs ys : List ℕ) → AllFail p xs → AllFail p ys → AllFail p (xs ++ ys)
fails-append p [] ys a b = b
fails-append p (x ∷ xs) ys a b = (a.0, fails-append p xs ys a.1 b)

position-append : (p : ℕ → Bool) (xs ys : List ℕ) → AllFail p xs → position_or_len p (xs ++ ys) ≡ length xs + position_or_len p ys
position-append p [] ys fail = sym (zero-add _)
position-append p (x ∷ xs) ys fail = rw fail.0 (omega (arith, position-append p xs ys fail.1))

take-front : (xs ys : List ℕ) → take (length xs) (xs ++ ys) ≡ xs
take-front [] ys = refl
take-front (x ∷ xs) ys = ap (λ l. x ∷ l) (take-front xs ys)

drop-front : (xs ys : List ℕ) → drop (length xs) (xs ++ ys) ≡ ys
drop-front [] ys = refl
drop-front (x ∷ xs) ys = drop-front xs ys

get_or-front : (xs : List ℕ) (y : ℕ) → get_or (xs ++ y ∷ []) (length xs) 0 ≡ y
get_or-front [] y = refl
get_or-front (x ∷ xs) y = get_or-front xs y

-- the digits of an id are none of these marks
digit_fails : (b c : ℕ) → is_ascii_digit b ≡ true → (c ≡ 40) ⊎ (c ≡ 58) → nat_eq b c ≡ false
digit_fails b c digit mark = grind (arith, nat_tests)

digits_fail : (c : ℕ) (ds : List ℕ) → (c ≡ 40) ⊎ (c ≡ 58) → all_ascii_digits ds ≡ true → AllFail (λ b. nat_eq b c) ds
digits_fail c [] mark all = tt
digits_fail c (d ∷ ds) mark all =
    (digit_fails d c (first _ (all_ascii_digits ds) all) mark, digits_fail c ds mark (second (is_ascii_digit d) _ all))

decimal_fails : (c x : ℕ) → (c ≡ 40) ⊎ (c ≡ 58) → IsId x → AllFail (λ b. nat_eq b c) (decimal x)
decimal_fails c x mark small = digits_fail c (decimal x) mark (digits_decimal numerals x (omega arith))

-- an id is read back
id_of-decimal : (x : ℕ) → IsId x → id_of (decimal x) ≡ Some x
id_of-decimal x small =
    let digits : all_ascii_digits (decimal x) ≡ true = digits_decimal numerals x (omega arith) in
    let value = digits_value-decimal numerals x (omega arith) in
    let some : 0 < length (decimal x) = decimal_nonempty x (omega arith) in
    let few : length (decimal x) ≤ 10 = length-decimal-le 10 x (omega arith) (omega arith) (omega arith) in
    grind (arith, nat_tests, digits, value, some, few)

tail : (x : ℕ) (xs : List ℕ) → All IsId (x ∷ xs) → All IsId xs
tail x xs all k d lt = all (suc k) d (omega arith)

head : (x : ℕ) (xs : List ℕ) → All IsId (x ∷ xs) → IsId x
head x xs all = all 0 x (omega arith)

split-ids_text : (x : ℕ) (xs : List ℕ) → All IsId (x ∷ xs) → slice_split (λ b. nat_eq b 58) (ids_text (x ∷ xs)) ≡ map decimal (x ∷ xs)
split-ids_text x [] all = slice_split_none _ (decimal x) (fails_at _ (decimal x) (decimal_fails 58 x (inr refl) (head x [] all)))
split-ids_text x (y ∷ more) all =
    slice_split_at _ (decimal x) 58 (ids_text (y ∷ more)) (fails_at _ (decimal x) (decimal_fails 58 x (inr refl) (head x (y ∷ more) all))) refl
    ∙ ap (λ l. decimal x ∷ l) (split-ids_text y more (tail x (y ∷ more) all))

all_of-decimals : (xs : List ℕ) → All IsId xs → all_of (map id_of (map decimal xs)) ≡ Some xs
all_of-decimals [] all = refl
all_of-decimals (x ∷ xs) all = rw (id_of-decimal x (head x xs all)) (rw (all_of-decimals xs (tail x xs all)) refl)

ids_of-ids_text : (xs : List ℕ) → 0 < length xs → All IsId xs → ids_of (ids_text xs) ≡ Some xs
ids_of-ids_text [] some all = absurd (omega arith)
ids_of-ids_text (x ∷ xs) some all = ap (λ parts. all_of (map id_of parts)) (split-ids_text x xs all) ∙ all_of-decimals (x ∷ xs) all

interface_of-text : (interface : Option ℕ) → ForSome interface IsId → interface_of (interface_text interface) ≡ Some interface
interface_of-text None small = refl
interface_of-text (Some id) small =
    let last = get_or-front (40 ∷ decimal id) 41 in
    let inner = take-front (decimal id) (41 ∷ []) in
    let read = id_of-decimal id (small id refl) in
    grind (arith, nat_tests, common_steps, last, inner, read)

ids_text_fails : (xs : List ℕ) → All IsId xs → AllFail (λ b. nat_eq b 40) (ids_text xs)
ids_text_fails [] all = tt
ids_text_fails (x ∷ []) all = decimal_fails 40 x (inl refl) (head x [] all)
ids_text_fails (x ∷ y ∷ more) all =
    fails-append _ (decimal x) (58 ∷ ids_text (y ∷ more)) (decimal_fails 40 x (inl refl) (head x (y ∷ more) all))
    (refl, ids_text_fails (y ∷ more) (tail x (y ∷ more) all))

bracket_first : (interface : Option ℕ) → position_or_len (λ b. nat_eq b 40) (interface_text interface) ≡ 0
bracket_first None = refl
bracket_first (Some id) = refl

bracket_at : (nhi : NhiFields) → IsNhi nhi → position_or_len (λ b. nat_eq b 40) (nhi_text nhi) ≡ length (ids_text nhi.ids)
bracket_at nhi ok =
    omega (arith, position-append (λ b. nat_eq b 40) (ids_text nhi.ids) (interface_text nhi.interface) (ids_text_fails nhi.ids ok.within), bracket_first nhi.interface)

-- what was printed is read back as the same NHI
pub nhi_of-nhi_text : (nhi : NhiFields) → IsNhi nhi → nhi_of (nhi_text nhi) ≡ Some nhi
nhi_of-nhi_text nhi ok =
    rw (bracket_at nhi ok)
    (rw (take-front (ids_text nhi.ids) (interface_text nhi.interface), drop-front (ids_text nhi.ids) (interface_text nhi.interface))
    (rw (ids_of-ids_text nhi.ids ok.some ok.within, interface_of-text nhi.interface ok.interface) refl))

-- one more id, with a colon before it where it is not the first
abbrev colon_before : ℕ → List ℕ
colon_before zero = []
colon_before (suc k) = 58 ∷ []

ids_text-suc : (xs : List ℕ) (i : ℕ) → i < length xs → ids_text (take (suc i) xs) ≡ ids_text (take i xs) ++ (colon_before i ++ decimal (get_or xs i 0))
ids_text-suc [] i lt = absurd (omega arith)
ids_text-suc (x ∷ xs) zero lt = refl
ids_text-suc (x ∷ []) (suc i) lt = absurd (omega arith)
ids_text-suc (x ∷ y ∷ more) (suc zero) lt = refl
ids_text-suc (x ∷ y ∷ more) (suc (suc i)) lt =
    ap (λ l. decimal x ++ (58 ∷ l)) (ids_text-suc (y ∷ more) (suc i) (omega arith))
    ∙ sym (append_assoc (decimal x) (58 ∷ ids_text (take (suc i) (y ∷ more))) (58 ∷ decimal (get_or (y ∷ more) (suc i) 0)))

pub ids_text_first : (xs : List ℕ) (i : ℕ) → i < length xs → i ≤ 0 → ids_text (take (i + 1) xs) ≡ ids_text (take i xs) ++ decimal (get_or xs i 0)
ids_text_first xs zero lt le = rw add-one (ids_text-suc xs 0 lt)
ids_text_first xs (suc i) lt le = absurd (omega arith)

pub ids_text_more : (xs : List ℕ) (i : ℕ) → i < length xs → 0 < i → ids_text (take (i + 1) xs) ≡ ids_text (take i xs) ++ (58 ∷ decimal (get_or xs i 0))
ids_text_more xs zero lt pos = absurd (omega arith)
ids_text_more xs (suc i) lt pos = rw add-one (ids_text-suc xs (suc i) lt)
