-- Reading ids one after another.
use Rattle.std.proofs.Common.{◌≡◌, ℕ, zero, suc, ◌+◌, ◌-◌, ◌<◌, ◌≤◌, Bool, true, false, nat_eq, List, [], ◌∷◌, ◌++◌, length, map, take, drop, Option, None, Some, refl, arith, ap, sym, ◌∙◌, append_assoc, subst, cond, not, ◌&&◌}
use Rattle.std.specs.Option.{option_map, ForSome, unwrap_or}
use Rattle.std.specs.List.{All, slice_index, slice_range, slice_split, position, position_or_len, before_first, after_first}
use Rattle.std.proofs.lemmas.Bool.Decides.{nat_tests}
use Rattle.std.proofs.lemmas.Grind.{common_steps}
use Rattle.std.proofs.lemmas.List.Splits.{slice_split_none, slice_split_first, length-slice_split}
use Rattle.std.proofs.lemmas.List.Sums.{fails_before_first}
use Rattle.nhi_address.specs.NhiFields.{IsId}
use Rattle.nhi_address.specs.NhiText.{id_of, all_with, all_of, ids_of, interface_of, nhi_with, nhi_of}

abbrev pub colon : ℕ → Bool
colon b = nat_eq b 58

pub position_some : (p : ℕ → Bool) (xs : List ℕ) (i : ℕ) → Some i ≡ position p xs → (i ≡ position_or_len p xs) × (i < length xs)
position_some p xs i e = grind (arith, nat_tests)

pub position_none : (p : ℕ → Bool) (xs : List ℕ) → None ≡ position p xs → length xs ≤ position_or_len p xs
position_none p xs e = grind (arith, nat_tests)

ids_of_first : (rest : List ℕ) → position_or_len colon rest < length rest → ids_of rest ≡ all_of (id_of (before_first colon rest) ∷ map id_of (slice_split colon (after_first colon rest)))
ids_of_first rest lt = ap (λ parts. all_of (map id_of parts)) (slice_split_first colon rest 0 lt)

ids_of_at : (rest : List ℕ) (at : ℕ) → Some at ≡ position colon rest → ids_of rest ≡ all_of (id_of (take at rest) ∷ map id_of (slice_split colon (drop (at + 1) rest)))
ids_of_at rest at found =
    let place = position_some colon rest at found in
    subst (λ (i : ℕ). ids_of rest ≡ all_of (id_of (take i rest) ∷ map id_of (slice_split colon (drop (i + 1) rest)))) (sym place.0) (ids_of_first rest (omega arith))

ids_of_last : (rest : List ℕ) → length rest ≤ position_or_len colon rest → ids_of rest ≡ all_of (id_of rest ∷ [])
ids_of_last rest le = ap (λ parts. all_of (map id_of parts)) (slice_split_none colon rest (λ k d lt. fails_before_first colon rest k d (omega arith)))

abbrev pub before : List ℕ → Option (List ℕ) → Option (List ℕ)
before ids more = option_map (λ (l : List ℕ). ids ++ l) more

before_more : (ids : List ℕ) (id : ℕ) (more : Option (List ℕ)) → before ids (option_map (λ l. id ∷ l) more) ≡ before (ids ++ id ∷ []) more
before_more ids id None = refl
before_more ids id (Some l) = ap Some (sym (append_assoc ids (id ∷ []) l))

-- an id before a colon was read
pub one_more_id : (ids rest : List ℕ) (at id : ℕ) → Some at ≡ position colon rest → id_of (take at rest) ≡ Some id → before ids (ids_of rest) ≡ before (ids ++ id ∷ []) (ids_of (drop (at + 1) rest))
one_more_id ids rest at id found read =
    ap (before ids) (ids_of_at rest at found ∙ ap (λ o. all_of (o ∷ map id_of (slice_split colon (drop (at + 1) rest)))) read)
    ∙ before_more ids id (ids_of (drop (at + 1) rest))

-- what stands before a colon is no id
pub no_more_ids : (rest : List ℕ) (at : ℕ) → Some at ≡ position colon rest → id_of (take at rest) ≡ None → ids_of rest ≡ None
no_more_ids rest at found read = ids_of_at rest at found ∙ ap (λ o. all_of (o ∷ map id_of (slice_split colon (drop (at + 1) rest)))) read

-- the last id was read
pub last_id : (ids rest : List ℕ) (id : ℕ) → None ≡ position colon rest → id_of rest ≡ Some id → before ids (ids_of rest) ≡ Some (ids ++ id ∷ [])
last_id ids rest id found read =
    ap (before ids) (ids_of_last rest (position_none colon rest found) ∙ ap (λ o. all_of (o ∷ [])) read)

-- what stands last is no id
pub no_last_id : (rest : List ℕ) → None ≡ position colon rest → id_of rest ≡ None → ids_of rest ≡ None
no_last_id rest found read = ids_of_last rest (position_none colon rest found) ∙ ap (λ o. all_of (o ∷ [])) read

-- the ids that a text spells are in their range, and there is one
id_small : (text : List ℕ) (id : ℕ) → id_of text ≡ Some id → IsId id
id_small text id read = grind (arith, nat_tests)

all_cons : (id : ℕ) (ids : List ℕ) → IsId id → All IsId ids → All IsId (id ∷ ids)
all_cons id ids small all zero d lt = small
all_cons id ids small all (suc k) d lt = all k d (omega arith)

all_nil : All IsId []
all_nil k d lt = absurd (omega arith)

small_more : (n : ℕ) (first : Option ℕ) (rest : Option (List ℕ)) (ids : List ℕ) → ForSome first IsId → ((l : List ℕ) → rest ≡ Some l → All IsId l × (length l ≡ n)) → all_with first rest ≡ Some ids → All IsId ids × (length ids ≡ suc n)
small_more n None rest ids small more read = cc
small_more n (Some id) None ids small more read = cc
small_more n (Some id) (Some l) ids small more read =
    let e : id ∷ l ≡ ids = cc in
    let m = more l refl in
    subst (λ (k : List ℕ). All IsId k × (length k ≡ suc n)) e (all_cons id l (small id refl) m.0, ap suc m.1)

ids_small : (os : List (List ℕ)) (ids : List ℕ) → all_of (map id_of os) ≡ Some ids → All IsId ids × (length ids ≡ length os)
ids_small [] ids read = let e : [] ≡ ids = cc in subst (λ (k : List ℕ). All IsId k × (length k ≡ 0)) e (all_nil, refl)
ids_small (o ∷ os) ids read = small_more (length os) (id_of o) (all_of (map id_of os)) ids (λ id e. id_small o id e) (λ l e. ids_small os l e) read

pub ids_are : (text ids : List ℕ) → ids_of text ≡ Some ids → All IsId ids × (0 < length ids)
ids_are text ids read =
    let small = ids_small (slice_split colon text) ids read in
    (small.0, omega (arith, small.1, length-slice_split colon text))

bracketed : (b d : Bool) (id : Option ℕ) (interface : Option ℕ) → ForSome id IsId → cond b (Some None) (cond d (option_map Some id) None) ≡ Some interface → ForSome interface IsId
bracketed true d id interface small read x e = cc
bracketed false true None interface small read x e = cc
bracketed false true (Some id) interface small read x e = small x cc
bracketed false false id interface small read x e = cc

pub interface_is : (text : List ℕ) (interface : Option ℕ) → interface_of text ≡ Some interface → ForSome interface IsId
interface_is text interface read =
    bracketed (nat_eq (length text) 0) (nat_eq (slice_index text 0) 40 && nat_eq (slice_index text (length text - 1)) 41)
    (id_of (slice_range text 1 (length text - 1))) interface (λ id e. id_small (slice_range text 1 (length text - 1)) id e) read

cond_le : (b : Bool) (n m : ℕ) → n ≤ m → cond (not b) (1 + n) 0 ≤ suc m
cond_le true n m le = omega arith
cond_le false n m le = omega arith

position_le : (p : ℕ → Bool) (text : List ℕ) → position_or_len p text ≤ length text
position_le p [] = omega arith
position_le p (x ∷ text) = cond_le (p x) (position_or_len p text) (length text) (position_le p text)

-- the bracket, or the end where there is none
pub bracket_or_end : (text : List ℕ) (p : ℕ → Bool) → unwrap_or (position p text) (length text) ≡ position_or_len p text
bracket_or_end text p = grind (arith, nat_tests, common_steps, position_le p text)

-- what is not there is None
pub is_none : {A : Type 0} (o : Option A) → ((x : A) → o ≡ Some x → ⊥) → None ≡ o
is_none None none = refl
is_none (Some x) none = absurd (none x refl)

abbrev pub bracket : ℕ → Bool
bracket b = nat_eq b 40

pub nhi_read : (text ids : List ℕ) (interface : Option ℕ) (front : ℕ) → front ≡ position_or_len bracket text → ids_of (take front text) ≡ Some ids → Some interface ≡ interface_of (drop front text) → nhi_of text ≡ Some (record { ids = ids; interface = interface })
nhi_read text ids interface front e read rest =
    subst (λ (i : ℕ). nhi_with (ids_of (take i text)) (interface_of (drop i text)) ≡ Some (record { ids = ids; interface = interface })) e
    (ap (λ o. nhi_with o (interface_of (drop front text))) read ∙ ap (nhi_with (Some ids)) (sym rest))

pub not_nhi_ids : (text : List ℕ) (front : ℕ) → front ≡ position_or_len bracket text → ids_of (take front text) ≡ None → nhi_of text ≡ None
not_nhi_ids text front e read =
    subst (λ (i : ℕ). nhi_with (ids_of (take i text)) (interface_of (drop i text)) ≡ None) e (ap (λ o. nhi_with o (interface_of (drop front text))) read)

pub not_nhi_interface : (text ids : List ℕ) (front : ℕ) → front ≡ position_or_len bracket text → ids_of (take front text) ≡ Some ids → None ≡ interface_of (drop front text) → nhi_of text ≡ None
not_nhi_interface text ids front e read rest =
    subst (λ (i : ℕ). nhi_with (ids_of (take i text)) (interface_of (drop i text)) ≡ None) e
    (ap (λ o. nhi_with o (interface_of (drop front text))) read ∙ ap (nhi_with (Some ids)) (sym rest))
