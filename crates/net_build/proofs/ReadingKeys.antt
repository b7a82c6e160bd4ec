-- Reading one thing after another.
use Rattle.std.proofs.Common.{◌≡◌, ℕ, zero, suc, ◌<◌, Bool, true, false, cond, ◌&&◌, nat_lt, nat_le, List, [], ◌∷◌, ◌++◌, length, Option, Some, None, Ok, Err, refl, arith, ap, sym, subst, ◌∙◌, append-nil, append_assoc, codes}
use Rattle.std.specs.List.{All}
use Rattle.std.specs.Option.{ForSome}
use Rattle.std.proofs.lemmas.Bool.Decides.{nat_tests}
use Rattle.dml_tree.specs.declared.tree.Attribute.{Attribute}
use Rattle.dml_tree.specs.declared.tree.Value.{Value}
use Rattle.dml_tree.specs.declared.tree.Value.TheVariants as value
use Rattle.nhi_address.specs.Number.{is_numeral}
use Rattle.std.specs.Str.Parse.{digits_value}
use Rattle.net_graph.specs.declared.fault.ShapeFault.{ShapeFault}
use Rattle.net_graph.specs.declared.fault.ShapeFault.TheVariants.{BadNumber}
use Rattle.net_graph.specs.Keys.{values_of, number_of_value}
use Rattle.ring_model.specs.declared.ring.Hop.{Hop}
use Rattle.net_build.specs.RingModel.{Read, then_read, read_each, first_number, absent_number, needed, optional, hop_of}

-- what was read before what is still to be read
abbrev pub onto : {A : Type 0} → List A → Read (List A) → Read (List A)
onto xs (Ok ys) = Ok (xs ++ ys)
onto xs (Err fault) = Err fault

pub onto_nil : {A : Type 0} (r : Read (List A)) → onto [] r ≡ r
onto_nil (Ok ys) = refl
onto_nil (Err fault) = refl

onto_cons : {A : Type 0} (xs : List A) (y : A) (r : Read (List A)) → onto xs (then_read r (λ ys. Ok (y ∷ ys))) ≡ onto (xs ++ y ∷ []) r
onto_cons xs y (Ok ys) = ap Ok (sym (append_assoc xs (y ∷ []) ys))
onto_cons xs y (Err fault) = refl

-- one more was read
pub onto_more : {A B : Type 0} (f : A → Read B) (before : List B) (x : A) (xs : List A) (y : B) → f x ≡ Ok y → onto before (read_each f (x ∷ xs)) ≡ onto (before ++ y ∷ []) (read_each f xs)
onto_more f before x xs y e = ap (λ r. onto before (then_read r (λ z. then_read (read_each f xs) (λ zs. Ok (z ∷ zs))))) e ∙ onto_cons before y (read_each f xs)

-- one could not be read
pub onto_fault : {A B : Type 0} (f : A → Read B) (before : List B) (x : A) (xs : List A) (fault : ShapeFault) → f x ≡ Err fault → onto before (read_each f (x ∷ xs)) ≡ Err fault
onto_fault f before x xs fault e = ap (λ r. onto before (then_read r (λ z. then_read (read_each f xs) (λ zs. Ok (z ∷ zs))))) e

-- all were read
pub onto_end : {A : Type 0} (xs : List A) → onto xs (Ok []) ≡ Ok xs
onto_end xs = ap Ok (append-nil xs)

all_cons : {B : Type 0} (P : B → Type 0) (y : B) (ys : List B) → P y → All P ys → All P (y ∷ ys)
all_cons P y ys here all zero d lt = here
all_cons P y ys here all (suc k) d lt = all k d (omega arith)

-- what holds of each thing that can be read holds of all that were read, and there are as many
read_more : {B : Type 0} (P : B → Type 0) (n : ℕ) (first : Read B) (rest : Read (List B)) (ys : List B) → ((y : B) → first ≡ Ok y → P y) → ((zs : List B) → rest ≡ Ok zs → All P zs × (length zs ≡ n)) → then_read first (λ z. then_read rest (λ zs. Ok (z ∷ zs))) ≡ Ok ys → All P ys × (length ys ≡ suc n)
read_more P n (Err fault) rest ys one more e = cc
read_more P n (Ok y) (Err fault) ys one more e = cc
read_more {B = B} P n (Ok y) (Ok zs) ys one more e =
    let same : y ∷ zs ≡ ys = cc in
    let m = more zs refl in
    subst (λ (l : List B). All P l × (length l ≡ suc n)) same (all_cons P y zs (one y refl) m.0, ap suc m.1)

pub read_all : {A B : Type 0} (P : B → Type 0) (f : A → Read B) → ((x : A) (y : B) → f x ≡ Ok y → P y) → (xs : List A) (ys : List B) → read_each f xs ≡ Ok ys → All P ys × (length ys ≡ length xs)
read_all {B = B} P f each [] ys e = let same : [] ≡ ys = cc in subst (λ (l : List B). All P l × (length l ≡ 0)) same (λ k d lt. absurd (omega arith), refl)
read_all P f each (x ∷ xs) ys e = read_more P (length xs) (f x) (read_each f xs) ys (λ y h. each x y h) (λ zs h. read_all P f each xs zs h) e

last_true : (b d : Bool) (n m : ℕ) (fault : ShapeFault) → cond (b && d) (Ok n) (Err fault) ≡ Ok m → (d ≡ true) × (n ≡ m)
last_true true true n m fault e = (refl, cc)
last_true true false n m fault e = cc
last_true false d n m fault e = cc

below : (n end : ℕ) → nat_lt n end ≡ true → n < end
below n end e = grind (arith, nat_tests)

-- a number that was read is below the end
pub number_small : (key : List ℕ) (least end : ℕ) (v : Value) (n : ℕ) → number_of_value key least end v ≡ Ok n → n < end
number_small key least end (value.Plain text) n e =
    let p = last_true (is_numeral 18 text && nat_le least (digits_value 10 text)) (nat_lt (digits_value 10 text) end) (digits_value 10 text) n (BadNumber key) e in
    subst (λ (m : ℕ). m < end) p.1 (below (digits_value 10 text) end p.0)
number_small key least end (value.List inner) n e = cc

-- the same of the first of some values, where a default is below the end too
pub first_small : (key : List ℕ) (end : ℕ) (default : Option ℕ) (vs : List Value) (n : ℕ) → ForSome default (λ d. d < end) → first_number key end (absent_number key default) vs ≡ Ok n → n < end
first_small key end None [] n small e = cc
first_small key end (Some d) [] n small e = let same : d ≡ n = cc in subst (λ (m : ℕ). m < end) same (small d refl)
first_small key end default (v ∷ vs) n small e = number_small key 0 end v n e

then_ok : {A B : Type 0} (r : Read A) (next : A → Read B) (y : B) → then_read r next ≡ Ok y → (x : A) × (r ≡ Ok x) × (next x ≡ Ok y)
then_ok (Ok x) next y e = (x, refl, e)
then_ok (Err fault) next y e = cc

ok_same : (a b : Hop) → ◌≡◌ {A = Read Hop} (Ok a) (Ok b) → a ≡ b
ok_same a b e = cc

-- the ends of a hop that was read are nodes
pub hop_within : (nodes : ℕ) (xs : List Attribute) (h : Hop) → hop_of nodes xs ≡ Ok h → (h.from < nodes) × (h.to < nodes)
hop_within nodes xs h e =
    let f = then_ok (needed (codes "from") nodes xs) _ h e in
    let t = then_ok (needed (codes "to") nodes xs) _ h f.2 in
    let d = then_ok (needed (codes "delay") 1000000000000000000 xs) _ h t.2 in
    let p = then_ok (optional (codes "priority") 256 xs) _ h d.2 in
    let from = first_small (codes "from") nodes None (values_of (codes "from") xs) f.0 (λ x e. cc) f.1 in
    let to = first_small (codes "to") nodes None (values_of (codes "to") xs) t.0 (λ x e. cc) t.1 in
    let same = ok_same _ h p.2 in
    subst (λ (k : Hop). (k.from < nodes) × (k.to < nodes)) same (from, to)
