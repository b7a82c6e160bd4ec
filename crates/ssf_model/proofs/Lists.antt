-- Lists: what holds of each element, what stands at a place, and how many pass a test.
use Rattle.std.proofs.Common.{◌≡◌, ℕ, zero, suc, ◌+◌, ◌<◌, ◌≤◌, Bool, true, false, cond, nat_eq, List, [], ◌∷◌, ◌++◌, map, length, refl, sym, ap, ◌∙◌, subst, inl, inr, arith, count_by, Option, Some, None, IfSome, slice_get, slice_set}
use Rattle.std.specs.List.{All, flat_map, range_with_len}
use Rattle.std.proofs.lemmas.Grind.{common_steps}
use Rattle.event_order.specs.Pending.{Among}
use Rattle.event_order.proofs.Pending.{append_among, among_append_left, among_append_right}
use Rattle.ssf_model.specs.Reaction.{Each}

pub different : (a b : ℕ) → nat_eq a b ≡ false → a ≡ b → ⊥
different a b f e = grind (arith, common_steps)

-- ---- each element

pub each_first : {T : Type 0} (Q : T → Type 0) (xs ys : List T) → Each Q (xs ++ ys) → Each Q xs
each_first Q [] ys e = tt
each_first Q (x ∷ xs) ys e = (e.0, each_first Q xs ys e.1)

pub each_rest : {T : Type 0} (Q : T → Type 0) (xs ys : List T) → Each Q (xs ++ ys) → Each Q ys
each_rest Q [] ys e = e
each_rest Q (x ∷ xs) ys e = each_rest Q xs ys e.1

pub each_append : {T : Type 0} (Q : T → Type 0) (xs ys : List T) → Each Q xs → Each Q ys → Each Q (xs ++ ys)
each_append Q [] ys e f = f
each_append Q (x ∷ xs) ys e f = (e.0, each_append Q xs ys e.1 f)

pub each_get : {T : Type 0} (Q : T → Type 0) (xs : List T) (i : ℕ) (x : T) → Each Q xs → slice_get xs i ≡ Some x → Q x
each_get Q [] i x e h = absurd (cc)
each_get Q (y ∷ ys) zero x e h = let s : Some y ≡ Some x = h in let t : y ≡ x = cc in subst Q t e.0
each_get Q (y ∷ ys) (suc i) x e h = each_get Q ys i x e.1 h

pub each_among : {T : Type 0} (Q : T → Type 0) (xs : List T) (x : T) → Each Q xs → Among x xs → Q x
each_among Q [] x e a = absurd a
each_among Q (y ∷ ys) x e (inl s) = subst Q (sym s) e.0
each_among Q (y ∷ ys) x e (inr a) = each_among Q ys x e.1 a

pub each_of : {T : Type 0} (Q R : T → Type 0) (xs : List T) → ((x : T) → Q x → R x) → Each Q xs → Each R xs
each_of Q R [] f e = tt
each_of Q R (x ∷ xs) f e = (f x e.0, each_of Q R xs f e.1)

pub each_all : {T : Type 0} (Q : T → Type 0) (xs : List T) → Each Q xs → All Q xs
each_all Q [] e k d h = absurd (omega arith)
each_all Q (x ∷ xs) e zero d h = e.0
each_all Q (x ∷ xs) e (suc k) d h = each_all Q xs e.1 k d (omega arith)

-- ---- places

pub within_of : {T : Type 0} (xs : List T) (i : ℕ) (x : T) → slice_get xs i ≡ Some x → i < length xs
within_of [] i x h = absurd (cc)
within_of (y ∷ ys) zero x h = omega arith
within_of (y ∷ ys) (suc i) x h = let g = within_of ys i x h in omega arith

pub place_of : {T : Type 0} (xs : List T) (i : ℕ) → i < length xs → (x : T) × (slice_get xs i ≡ Some x)
place_of [] i h = absurd (omega arith)
place_of (x ∷ xs) zero h = (x, refl)
place_of (x ∷ xs) (suc i) h = place_of xs i (omega arith)

pub place_more : {T : Type 0} (xs ys : List T) (i : ℕ) (x : T) → slice_get xs i ≡ Some x → slice_get (xs ++ ys) i ≡ Some x
place_more [] ys i x h = absurd (cc)
place_more (y ∷ xs) ys zero x h = h
place_more (y ∷ xs) ys (suc i) x h = place_more xs ys i x h

pub place_among : {T : Type 0} (xs : List T) (i : ℕ) (x : T) → slice_get xs i ≡ Some x → Among x xs
place_among [] i x h = absurd (cc)
place_among (y ∷ xs) zero x h = inl (cc)
place_among (y ∷ xs) (suc i) x h = inr (place_among xs i x h)

pub among_place : {T : Type 0} (x : T) (xs : List T) → Among x xs → (i : ℕ) × (slice_get xs i ≡ Some x)
among_place x [] a = absurd a
among_place x (y ∷ xs) (inl e) = (0, ap (λ z. Some z) (sym e))
among_place x (y ∷ xs) (inr a) = let found = among_place x xs a in (suc found.0, found.1)

pub get_set_own : {T : Type 0} (xs : List T) (i : ℕ) (x : T) → i < length xs → slice_get (slice_set xs i x) i ≡ Some x
get_set_own [] i x h = absurd (omega arith)
get_set_own (y ∷ ys) zero x h = refl
get_set_own (y ∷ ys) (suc i) x h = get_set_own ys i x (omega arith)

pub get_set_other : {T : Type 0} (xs : List T) (i k : ℕ) (x : T) → (i ≡ k → ⊥) → slice_get (slice_set xs i x) k ≡ slice_get xs k
get_set_other [] i k x h = refl
get_set_other (y ∷ ys) zero zero x h = absurd (h refl)
get_set_other (y ∷ ys) zero (suc k) x h = refl
get_set_other (y ∷ ys) (suc i) zero x h = refl
get_set_other (y ∷ ys) (suc i) (suc k) x h = get_set_other ys i k x (λ e. h (ap suc e))

pub if_some : {T : Type 0} (o : Option T) (Q : T → Type 0) → ((x : T) → o ≡ Some x → Q x) → IfSome o Q
if_some None Q f = tt
if_some (Some x) Q f = f x refl

-- ---- maps

pub at_mapped : {T U : Type 0} (f : T → U) (xs ys : List T) (i : ℕ) (x : T) → map f xs ≡ map f ys → slice_get xs i ≡ Some x → (y : T) × (slice_get ys i ≡ Some y) × (f y ≡ f x)
at_mapped f [] ys i x e h = let n : None ≡ Some x = h in absurd (cc)
at_mapped f (x' ∷ xs) [] i x e h = absurd (cc)
at_mapped f (x' ∷ xs) (y ∷ ys) zero x e h = let first : f x' ≡ f y = cc in let here : x' ≡ x = cc in (y, refl, sym first ∙ ap f here)
at_mapped f (x' ∷ xs) (y ∷ ys) (suc i) x e h = let rest : map f xs ≡ map f ys = cc in at_mapped f xs ys i x rest h

pub mapped_length : {T U : Type 0} (f : T → U) (xs ys : List T) → map f xs ≡ map f ys → length xs ≡ length ys
mapped_length f [] [] e = refl
mapped_length f [] (y ∷ ys) e = absurd (cc)
mapped_length f (x ∷ xs) [] e = absurd (cc)
mapped_length f (x ∷ xs) (y ∷ ys) e = let rest : map f xs ≡ map f ys = cc in let h = mapped_length f xs ys rest in omega arith

-- an element set to one that looks the same
pub map_set : {T U : Type 0} (f : T → U) (xs : List T) (i : ℕ) (x y : T) → slice_get xs i ≡ Some x → f y ≡ f x → map f (slice_set xs i y) ≡ map f xs
map_set f [] i x y h e = refl
map_set f (x' ∷ xs) zero x y h e = let here : x' ≡ x = cc in ap (λ u. u ∷ map f xs) (e ∙ ap f (sym here))
map_set f (x' ∷ xs) (suc i) x y h e = ap (λ us. f x' ∷ us) (map_set f xs i x y h e)

-- an element of a list of lists, and the one that it comes from
pub record ComesFrom {T U : Type 0} (f : T → List U) (u : U) (xs : List T) : Type 0 where
  pub of : T
  pub among : Among of xs
  pub within : Among u (f of)

pub among_flat : {T U : Type 0} (f : T → List U) (u : U) (xs : List T) → Among u (flat_map f xs) → ComesFrom f u xs
among_flat f u [] a = absurd a
among_flat f u (x ∷ xs) a = elim (append_among u (f x) (flat_map f xs) a) [
  | inl b ↦ record { of = x; among = inl refl; within = b }
  | inr b ↦ let c = among_flat f u xs b in record { of = c.of; among = inr c.among; within = c.within }
]

pub record Mapped {T U : Type 0} (f : T → U) (u : U) (xs : List T) : Type 0 where
  pub of : T
  pub among : Among of xs
  pub is : u ≡ f of

pub among_map : {T U : Type 0} (f : T → U) (u : U) (xs : List T) → Among u (map f xs) → Mapped f u xs
among_map f u [] a = absurd a
among_map f u (x ∷ xs) (inl e) = record { of = x; among = inl refl; is = e }
among_map f u (x ∷ xs) (inr a) = let m = among_map f u xs a in record { of = m.of; among = inr m.among; is = m.is }

pub mapped_among : {T U : Type 0} (f : T → U) (x : T) (xs : List T) → Among x xs → Among (f x) (map f xs)
mapped_among f x [] a = absurd a
mapped_among f x (y ∷ xs) (inl e) = inl (ap f e)
mapped_among f x (y ∷ xs) (inr a) = inr (mapped_among f x xs a)

pub flat_among : {T U : Type 0} (f : T → List U) (u : U) (ts : List T) (i : ℕ) (t : T) → slice_get ts i ≡ Some t → Among u (f t) → Among u (flat_map f ts)
flat_among f u [] i t h a = let n : None ≡ Some t = h in absurd (cc)
flat_among f u (v ∷ ts) zero t h a = let same : v ≡ t = cc in among_append_left u (f v) (flat_map f ts) (subst (λ z. Among u (f z)) (sym same) a)
flat_among f u (v ∷ ts) (suc i) t h a = among_append_right u (f v) (flat_map f ts) (flat_among f u ts i t h a)

-- ---- how many

pub count_append : {T : Type 0} (p : T → Bool) (xs ys : List T) → count_by p (xs ++ ys) ≡ count_by p xs + count_by p ys
count_append p [] ys = omega arith
count_append p (x ∷ xs) ys = let h = count_append p xs ys in grind (arith, common_steps)

pub count_cons : {T : Type 0} (p : T → Bool) (x : T) (xs : List T) → count_by p (x ∷ xs) ≡ cond (p x) 1 0 + count_by p xs
count_cons p x xs = grind (arith, common_steps)

pub count_yes : {T : Type 0} (p : T → Bool) (x : T) (xs : List T) → p x ≡ true → count_by p (x ∷ xs) ≡ 1 + count_by p xs
count_yes p x xs h = count_cons p x xs ∙ rw h refl

pub count_no : {T : Type 0} (p : T → Bool) (x : T) (xs : List T) → p x ≡ false → count_by p (x ∷ xs) ≡ count_by p xs
count_no p x xs h = count_cons p x xs ∙ rw h (omega arith)

-- ---- numbers in a row, and lists without repetitions

pub among_range : (first n c : ℕ) → Among c (range_with_len first n) → c < first + n
among_range first zero c a = absurd a
among_range first (suc n) c (inl e) = omega arith
among_range first (suc n) c (inr a) = let h = among_range (first + 1) n c a in omega arith

pub above_range : (first n c : ℕ) → Among c (range_with_len first n) → first ≤ c
above_range first zero c a = absurd a
above_range first (suc n) c (inl e) = omega arith
above_range first (suc n) c (inr a) = let h = above_range (first + 1) n c a in omega arith

-- no element is among those that follow it
abbrev pub IsOnce : List ℕ → Type 0
IsOnce [] = Unit {0}
IsOnce (x ∷ xs) = (Among x xs → ⊥) × IsOnce xs

pub range_once : (first n : ℕ) → IsOnce (range_with_len first n)
range_once first zero = tt
range_once first (suc n) = ((λ a. let h = above_range (first + 1) n first a in omega arith), range_once (first + 1) n)

once_rest : (xs ys : List ℕ) → IsOnce (xs ++ ys) → IsOnce ys
once_rest [] ys o = o
once_rest (x ∷ xs) ys o = once_rest xs ys o.1

once_apart : (x : ℕ) (xs ys : List ℕ) → IsOnce (xs ++ ys) → Among x xs → Among x ys → ⊥
once_apart x [] ys o a b = absurd a
once_apart x (y ∷ xs) ys o (inl e) b = o.0 (subst (λ z. Among z (xs ++ ys)) e (among_append_right x xs ys b))
once_apart x (y ∷ xs) ys o (inr a) b = once_apart x xs ys o.1 a b

-- a list of lists in which nothing is repeated: an element stands in one of them
pub one_place : {T : Type 0} (f : T → List ℕ) (x : ℕ) (ts : List T) (i k : ℕ) (t u : T) → IsOnce (flat_map f ts) → slice_get ts i ≡ Some t → slice_get ts k ≡ Some u →
    Among x (f t) → Among x (f u) → i ≡ k
one_place f x [] i k t u o h g a b = let n : None ≡ Some t = h in absurd (cc)
one_place f x (v ∷ ts) zero zero t u o h g a b = refl
one_place f x (v ∷ ts) zero (suc k) t u o h g a b =
    let same : v ≡ t = cc in
    absurd (once_apart x (f v) (flat_map f ts) o (subst (λ z. Among x (f z)) (sym same) a) (flat_among f x ts k u g b))
one_place f x (v ∷ ts) (suc i) zero t u o h g a b =
    let same : v ≡ u = cc in
    absurd (once_apart x (f v) (flat_map f ts) o (subst (λ z. Among x (f z)) (sym same) b) (flat_among f x ts i t h a))
one_place f x (v ∷ ts) (suc i) (suc k) t u o h g a b = ap suc (one_place f x ts i k t u (once_rest (f v) (flat_map f ts) o) h g a b)

-- of a list in which no two look the same, two that look the same are one
pub one_mapped : {T : Type 0} (f : T → ℕ) (x y : T) (xs : List T) → IsOnce (map f xs) → Among x xs → Among y xs → f x ≡ f y → x ≡ y
one_mapped f x y [] o a b e = absurd a
one_mapped f x y (z ∷ xs) o (inl p) (inl q) e = p ∙ sym q
one_mapped f x y (z ∷ xs) o (inl p) (inr b) e = absurd (o.0 (subst (λ c. Among c (map f xs)) (sym e ∙ ap f p) (mapped_among f y xs b)))
one_mapped f x y (z ∷ xs) o (inr a) (inl q) e = absurd (o.0 (subst (λ c. Among c (map f xs)) (e ∙ ap f q) (mapped_among f x xs a)))
one_mapped f x y (z ∷ xs) o (inr a) (inr b) e = one_mapped f x y xs o.1 a b e
