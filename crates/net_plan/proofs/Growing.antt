-- Lists that grow by one, and lists of which one place is changed.
use Rattle.std.proofs.Common.{◌≡◌, ℕ, zero, suc, ◌+◌, ◌<◌, ◌≤◌, Bool, cond, List, [], ◌∷◌, ◌++◌, length, map, get_or, Option, Some, None, refl, sym, ap, subst, ◌∙◌, arith}
use Rattle.std.specs.Prelude.{slice_get}
use Rattle.std.specs.List.{All, filter_map, cons_option, range_with_len, enumerate_from}
use Rattle.std.proofs.lemmas.List.{append-nil}
use Rattle.std.proofs.lemmas.List.Elements.{All-nil, All-cons, filter_map-append}
use Rattle.std.proofs.lemmas.Bool.{eq-eqb, ne_eqb}
use Rattle.ssf_model.specs.declared.plan.Mapping.{Mapping}
use Rattle.ssf_model.specs.Drafts.{changed_to, changed_at, with_channels}
use Rattle.net_layout.specs.declared.wiring.Wire.{Wire}
use Rattle.net_layout.specs.Wiring.{mapping_of, mappings_from}
use Rattle.net_hosts.specs.HostOuts.{number_from, outs_in}

changed_behind : {T : Type 0} (f : T → T) (y : T) (ys : List T) (n : ℕ) (o : Option T) → changed_to f (y ∷ ys) (suc n) o ≡ y ∷ changed_to f ys n o
changed_behind f y ys n None = refl
changed_behind f y ys n (Some x) = refl

changed_cons : {T : Type 0} (f : T → T) (y : T) (ys : List T) (n : ℕ) → changed_at f (y ∷ ys) (suc n) ≡ y ∷ changed_at f ys n
changed_cons f y ys n = changed_behind f y ys n (slice_get ys n)

-- the last one is changed
pub changed_last : {T : Type 0} (f : T → T) (xs : List T) (x : T) (n : ℕ) → n ≡ length xs → changed_at f (xs ++ x ∷ []) n ≡ xs ++ f x ∷ []
changed_last f [] x zero e = refl
changed_last f [] x (suc n) e = absurd (omega (arith, e))
changed_last f (y ∷ ys) x zero e = absurd (omega (arith, e))
changed_last f (y ∷ ys) x (suc n) e = let rest : n ≡ length ys = omega (arith, e) in changed_cons f y (ys ++ x ∷ []) n ∙ ap (λ zs. y ∷ zs) (changed_last f ys x n rest)

same_made : {T : Type 0} (f g : ℕ → T) (a n : ℕ) → ((i : ℕ) → a ≤ i → f i ≡ g i) → map f (range_with_len a n) ≡ map g (range_with_len a n)
same_made f g a zero same = refl
same_made f g a (suc n) same = ap (λ x. x ∷ map f (range_with_len (a + 1) n)) (same a (omega arith)) ∙ ap (λ xs. g a ∷ xs) (same_made f g (a + 1) n (λ i low. same i (omega arith)))

-- of the things that are made of numbers the one at a place is changed
pub changed_made : {T : Type 0} (c : T → T) (f g : ℕ → T) (a n k : ℕ) → k < n → c (f (a + k)) ≡ g (a + k) → ((i : ℕ) → (i ≡ a + k → ⊥) → f i ≡ g i) → changed_at c (map f (range_with_len a n)) k ≡ map g (range_with_len a n)
changed_made c f g a zero k lt here others = absurd (omega arith)
changed_made c f g a (suc n) zero lt here others =
    let start : a + 0 ≡ a = omega arith in
    ap (λ x. x ∷ map f (range_with_len (a + 1) n)) (subst (λ i. c (f i) ≡ g i) start here)
    ∙ ap (λ xs. g a ∷ xs) (same_made f g (a + 1) n (λ i low. others i (λ e. omega arith)))
changed_made c f g a (suc n) (suc k) lt here others =
    let next : a + suc k ≡ a + 1 + k = omega arith in
    changed_cons c (f a) (map f (range_with_len (a + 1) n)) k
    ∙ ap (λ x. x ∷ changed_at c (map f (range_with_len (a + 1) n)) k) (others a (λ e. omega arith))
    ∙ ap (λ xs. g a ∷ xs) (changed_made c f g (a + 1) n k (omega arith) (subst (λ i. c (f i) ≡ g i) next here) (λ i ne. others i (λ e. ne (e ∙ next))))

pub last_at : {T : Type 0} (xs : List T) (x d : T) (n : ℕ) → n ≡ length xs → get_or (xs ++ x ∷ []) n d ≡ x
last_at [] x d zero e = refl
last_at [] x d (suc n) e = absurd (omega (arith, e))
last_at (y ∷ ys) x d zero e = absurd (omega (arith, e))
last_at (y ∷ ys) x d (suc n) e = last_at ys x d n (omega (arith, e))

-- wires

pub mappings_push : (first n : ℕ) (ws : List Wire) (w : Wire) → mappings_from first n (ws ++ w ∷ []) ≡ mappings_from first n ws ++ mapping_of first (n + length ws) w ∷ []
mappings_push first n [] w = let e : n ≡ n + 0 = omega arith in ap (λ k. mapping_of first k w ∷ []) e
mappings_push first n (x ∷ xs) w =
    let e : n + 1 + length xs ≡ n + length (x ∷ xs) = omega arith in
    ap (λ (ms : List Mapping). mapping_of first n x ∷ ms) (mappings_push first (n + 1) xs w ∙ ap (λ k. mappings_from first (n + 1) xs ++ mapping_of first k w ∷ []) e)

pub length-mappings : (first n : ℕ) (ws : List Wire) → length (mappings_from first n ws) ≡ length ws
length-mappings first n [] = refl
length-mappings first n (w ∷ ws) = ap suc (length-mappings first (n + 1) ws)

-- mappings get their channels when the plan is finished
pub channels_are : (c first n : ℕ) (ws : List Wire) → c ≡ first + n → with_channels c (mappings_from 0 n ws) ≡ mappings_from first n ws
channels_are c first n [] e = refl
channels_are c first n (w ∷ ws) e =
    let next : c + 1 ≡ first + (n + 1) = omega arith in
    ap (λ k. record (mapping_of first n w) { channel = k } ∷ with_channels (c + 1) (mappings_from 0 (n + 1) ws)) e
    ∙ ap (λ (ms : List Mapping). mapping_of first n w ∷ ms) (channels_are (c + 1) first (n + 1) ws next)

numbered_push : (a : ℕ) (ws : List Wire) (w : Wire) → enumerate_from a (ws ++ w ∷ []) ≡ enumerate_from a ws ++ (a + length ws, w) ∷ []
numbered_push a [] w = let e : a ≡ a + 0 = omega arith in ap (λ (k : ℕ). (k, w) ∷ []) e
numbered_push a (x ∷ xs) w =
    let e : a + 1 + length xs ≡ a + length (x ∷ xs) = omega arith in
    ap (λ (ns : List (ℕ × Wire)). (a, x) ∷ ns) (numbered_push (a + 1) xs w ∙ ap (λ (k : ℕ). enumerate_from (a + 1) xs ++ (k, w) ∷ []) e)

outs_push : (ws : List Wire) (w : Wire) (h : ℕ) → outs_in (ws ++ w ∷ []) h ≡ outs_in ws h ++ cons_option (number_from h (length ws, w)) []
outs_push ws w h =
    let e : 0 + length ws ≡ length ws = omega arith in
    ap (filter_map (number_from h)) (numbered_push 0 ws w)
    ∙ filter_map-append (number_from h) (enumerate_from 0 ws) ((0 + length ws, w) ∷ [])
    ∙ ap (λ (k : ℕ). outs_in ws h ++ cons_option (number_from h (k, w)) []) e

pub outs_more : (ws : List Wire) (w : Wire) (h : ℕ) → w.from ≡ h → outs_in ws h ++ length ws ∷ [] ≡ outs_in (ws ++ w ∷ []) h
outs_more ws w h e = sym (outs_push ws w h ∙ ap (λ (b : Bool). outs_in ws h ++ cons_option (cond b (Some (length ws)) None) []) (eq-eqb w.from h e))

pub outs_same : (ws : List Wire) (w : Wire) (h : ℕ) → (w.from ≡ h → ⊥) → outs_in ws h ≡ outs_in (ws ++ w ∷ []) h
outs_same ws w h ne = sym (outs_push ws w h ∙ ap (λ (b : Bool). outs_in ws h ++ cons_option (cond b (Some (length ws)) None) []) (ne_eqb w.from h ne) ∙ append-nil (outs_in ws h))

-- what holds of each number in range holds of each thing that is made of one
pub All_made : {B : Type 0} (P : B → Type 0) (f : ℕ → B) (a n : ℕ) → ((i : ℕ) → a ≤ i → i < a + n → P (f i)) → All P (map f (range_with_len a n))
All_made P f a zero each = All-nil P
All_made P f a (suc n) each = All-cons P (f a) (map f (range_with_len (a + 1) n)) (each a (omega arith) (omega arith)) (All_made P f (a + 1) n (λ i low high. each i (omega arith) (omega arith)))
