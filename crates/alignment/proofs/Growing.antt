-- Forests of groups: what a lift leaves, what a join of two tops leaves, and how steps follow each other.
use Rattle.std.proofs.Common.{◌≡◌, subst, ℕ, ◌+◌, ◌<◌, ◌≤◌, ◌≢◌, ◌⊎◌, min, max, List, [], ◌∷◌, ◌++◌, length, get_or, slice_index, slice_set, refl, sym, ◌∙◌, ap, inl, inr, arith, ⊎_elim}
use Rattle.std.specs.List.{range_with_len}
use Rattle.std.proofs.lemmas.Bool.{cases_eq, cases_lt}
use Rattle.std.proofs.lemmas.List.{get_or_default, get_or-set_same, get_or-set_other, length-set, map-id}
use Rattle.std.proofs.lemmas.List.FromFn.{get_or-range_with_len, length-range_with_len, map-range_with_len_more}
use Rattle.alignment.specs.Alignment.{Ties, AreJoined}
use Rattle.alignment.specs.Forests.{IsForest, IsAlike, HasChains, IsSmoothed, IsTied}
use Rattle.alignment.proofs.Joining.{joined_self, joined_then, joined_turned}

-- ---- one entity gets another parent

at_set : (ps : List ℕ) (i v : ℕ) → i < length ps → slice_index (slice_set ps i v) i ≡ v
at_set ps i v h = get_or-set_same ps i v 0 h

beside_set : (ps : List ℕ) (i v e : ℕ) → e ≢ i → slice_index (slice_set ps i v) e ≡ slice_index ps e
beside_set ps i v e ne = get_or-set_other ps i e v 0 ne

set_count : (ps : List ℕ) (i v : ℕ) → length (slice_set ps i v) ≡ length ps
set_count ps i v = length-set ps i v

pub set_forest : (ps : List ℕ) (i v : ℕ) → i < length ps → v ≤ i → IsForest ps → IsForest (slice_set ps i v)
set_forest ps i v h low forest e within =
    let count = set_count ps i v in
    ⊎_elim (λ (same : e ≡ i). let here = at_set ps i v h in let P : ℕ → Type 0 = λ x. slice_index (slice_set ps i v) x ≤ x in subst P (sym same) (omega arith))
    (λ (ne : e ≡ i → ⊥). let there = beside_set ps i v e ne in let old = forest e (omega arith) in omega arith)
    (cases_eq e i)

-- what is alike in the new forest is so in the old one, where the entity and its old parent are alike
set_alike : (ps : List ℕ) (i v : ℕ) (f : ℕ → ℕ) → i < length ps → IsAlike f (slice_set ps i v) → f (slice_index ps i) ≡ f i → IsAlike f ps
set_alike ps i v f h alike own e within =
    ⊎_elim (λ (same : e ≡ i). let P : ℕ → Type 0 = λ x. f (slice_index ps x) ≡ f x in subst P (sym same) own)
    (λ (ne : e ≡ i → ⊥). let count = set_count ps i v in ap f (sym (beside_set ps i v e ne)) ∙ alike e (omega arith))
    (cases_eq e i)

set_own : (ps : List ℕ) (i v : ℕ) (f : ℕ → ℕ) → i < length ps → IsAlike f (slice_set ps i v) → f v ≡ f i
set_own ps i v f h alike = let count = set_count ps i v in ap f (sym (at_set ps i v h)) ∙ alike i (omega arith)

set_chains : (t : Ties) (ps : List ℕ) (i v : ℕ) → i < length ps → HasChains t ps → AreJoined t i v → HasChains t (slice_set ps i v)
set_chains t ps i v h chains joined e within =
    ⊎_elim (λ (same : e ≡ i). let P : ℕ → Type 0 = λ x. AreJoined t x (slice_index (slice_set ps i v) x) in let Q : ℕ → Type 0 = λ x. AreJoined t i x in subst P (sym same) (subst Q (sym (at_set ps i v h)) joined))
    (λ (ne : e ≡ i → ⊥). let count = set_count ps i v in let Q : ℕ → Type 0 = λ x. AreJoined t e x in subst Q (sym (beside_set ps i v e ne)) (chains e (omega arith)))
    (cases_eq e i)

-- ---- a lift

lifted_alike : (ps : List ℕ) (i p v : ℕ) (f : ℕ → ℕ) → i < length ps → slice_index ps i ≡ p → slice_index ps p ≡ v → p < i → IsAlike f (slice_set ps i v) → IsAlike f ps × (f v ≡ f i)
lifted_alike ps i p v f h is above low alike =
    let own = set_own ps i v f h alike in
    let ne : p ≢ i = λ e. omega arith in
    let count = set_count ps i v in
    let over : f v ≡ f p = ap f (sym above) ∙ (ap f (sym (beside_set ps i v p ne)) ∙ alike p (omega arith)) in
    (set_alike ps i v f h alike (ap f is ∙ (sym over ∙ own)), own)

lifted_chains : (t : Ties) (ps : List ℕ) (i p v : ℕ) → i < length ps → slice_index ps i ≡ p → slice_index ps p ≡ v → p < i → HasChains t ps → HasChains t (slice_set ps i v) × AreJoined t i v
lifted_chains t ps i p v h is above low chains =
    let first : AreJoined t i p = subst (λ x. AreJoined t i x) is (chains i h) in
    let then : AreJoined t p v = subst (λ x. AreJoined t p x) above (chains p (omega arith)) in
    let joined = joined_then t i p v first then in
    (set_chains t ps i v h chains joined, joined)

pub lifted : (ps : List ℕ) (i p v : ℕ) → i < length ps → slice_index ps i ≡ p → slice_index ps p ≡ v → p < i → IsSmoothed ps (slice_set ps i v) i v
lifted ps i p v h is above low = record {
  count = set_count ps i v;
  tops = λ e top. let ne : e ≢ i = λ same. let P : ℕ → Type 0 = λ x. slice_index ps x ≡ x in let own = subst P same top in omega arith in beside_set ps i v e ne ∙ top;
  alike = λ f alike. lifted_alike ps i p v f h is above low alike;
  chains = λ t chains. lifted_chains t ps i p v h is above low chains;
}

-- the same as the code has it: `items` is the list behind a forest
pub lifted_in : (ps items : List ℕ) (i p v : ℕ) → items ≡ ps → IsForest items → i < length ps → slice_index ps i < i → p ≡ get_or items i p → v ≡ get_or items p v → IsSmoothed ps (slice_set items i v) i v
lifted_in ps items i p v same forest h below is above =
    let P : List ℕ → Type 0 = λ xs. i < length xs in
    let Q : List ℕ → Type 0 = λ xs. slice_index xs i < i in
    let within : i < length items = subst P (sym same) h in
    let lower : slice_index items i < i = subst Q (sym same) below in
    let parent : slice_index items i ≡ p = get_or_default items i 0 p within ∙ sym is in
    let over : slice_index items p ≡ v = get_or_default items p 0 v (omega arith) ∙ sym above in
    subst (λ xs. IsSmoothed xs (slice_set items i v) i v) same (lifted items i p v within parent over (omega arith))

-- ---- steps in a row

pub smoothed_none : (ps : List ℕ) (a : ℕ) → IsSmoothed ps ps a a
smoothed_none ps a = record {
  count = refl;
  tops = λ e top. top;
  alike = λ f alike. (alike, refl);
  chains = λ t chains. (chains, joined_self t a);
}

pub smoothed_then : (ps qs rs : List ℕ) (a b c : ℕ) → IsSmoothed ps qs a b → IsSmoothed qs rs b c → IsSmoothed ps rs a c
smoothed_then ps qs rs a b c p q = record {
  count = q.count ∙ p.count;
  tops = λ e top. q.tops e (p.tops e top);
  alike = λ f alike. let later = q.alike f alike in let earlier = p.alike f later.0 in (earlier.0, later.1 ∙ earlier.1);
  chains = λ t chains. let first = p.chains t chains in let then = q.chains t first.0 in (then.0, joined_then t a b c first.1 then.1);
}

-- ---- the tops of two groups are tied

tops_alike : (ps qs rs : List ℕ) (a b x y high low : ℕ) (f : ℕ → ℕ) → IsSmoothed ps qs a x → IsSmoothed qs rs b y → ((high ≡ x) × (low ≡ y)) ⊎ ((high ≡ y) × (low ≡ x)) → slice_index rs high ≡ high → high < length rs
    → IsAlike f (slice_set rs high low) → IsAlike f ps × (f a ≡ f b)
tops_alike ps qs rs a b x y high low f p q (inl e) top within alike =
    let last = set_alike rs high low f within alike (ap f top) in
    let later = q.alike f last in let earlier = p.alike f later.0 in
    (earlier.0, sym earlier.1 ∙ (ap f (sym e.0) ∙ (sym (set_own rs high low f within alike) ∙ (ap f e.1 ∙ later.1))))
tops_alike ps qs rs a b x y high low f p q (inr e) top within alike =
    let last = set_alike rs high low f within alike (ap f top) in
    let later = q.alike f last in let earlier = p.alike f later.0 in
    (earlier.0, sym earlier.1 ∙ (ap f (sym e.1) ∙ (set_own rs high low f within alike ∙ (ap f e.0 ∙ later.1))))

tops_joined : (t : Ties) (a b x y high low : ℕ) → ((high ≡ x) × (low ≡ y)) ⊎ ((high ≡ y) × (low ≡ x)) → AreJoined t a x → AreJoined t b y → AreJoined t a b → AreJoined t high low
tops_joined t a b x y high low (inl e) p q r =
    let joined = joined_then t x a y (joined_turned t a x p) (joined_then t a b y r q) in
    subst (λ z. AreJoined t z low) (sym e.0) (subst (λ z. AreJoined t x z) (sym e.1) joined)
tops_joined t a b x y high low (inr e) p q r =
    let joined = joined_then t y b x (joined_turned t b y q) (joined_then t b a x (joined_turned t a b r) p) in
    subst (λ z. AreJoined t z low) (sym e.0) (subst (λ z. AreJoined t y z) (sym e.1) joined)

pub tops_tied : (ps qs rs : List ℕ) (a b x y high low : ℕ) → IsSmoothed ps qs a x → IsSmoothed qs rs b y → ((high ≡ x) × (low ≡ y)) ⊎ ((high ≡ y) × (low ≡ x)) → slice_index rs high ≡ high → high < length rs
    → IsTied ps (slice_set rs high low) a b
tops_tied ps qs rs a b x y high low p q e top within = record {
  count = set_count rs high low ∙ (q.count ∙ p.count);
  alike = λ f alike. tops_alike ps qs rs a b x y high low f p q e top within alike;
  chains = λ t chains joined.
      let first = p.chains t chains in let then = q.chains t first.0 in
      set_chains t rs high low within then.0 (tops_joined t a b x y high low e first.1 then.1 joined);
}

pub tied_in : (ps qs rs items : List ℕ) (a b x y high low : ℕ) → items ≡ rs → IsSmoothed ps qs a x → IsSmoothed qs rs b y → slice_index qs x ≡ x → slice_index rs y ≡ y → x < length qs → y < length rs → high ≡ max x y → low ≡ min x y
    → IsTied ps (slice_set items high low) a b
tied_in ps qs rs items a b x y high low same p q top_x top_y in_x in_y is_high is_low =
    let P : ℕ → Type 0 = λ z. slice_index rs z ≡ z in
    let count = q.count in
    let either : ((high ≡ x) × (low ≡ y)) ⊎ ((high ≡ y) × (low ≡ x)) =
    ⊎_elim (λ (h : x < y). inr (omega arith, omega arith)) (λ (h : y ≤ x). inl (omega arith, omega arith)) (cases_lt x y) in
    let top : slice_index rs high ≡ high =
    ⊎_elim (λ (e : (high ≡ x) × (low ≡ y)). subst P (sym e.0) (q.tops x top_x)) (λ (e : (high ≡ y) × (low ≡ x)). subst P (sym e.0) top_y) either in
    subst (λ xs. IsTied ps (slice_set xs high low) a b) (sym same) (tops_tied ps qs rs a b x y high low p q either top (omega arith))

-- ---- the forest in which each is alone

pub alone_parent : (n e : ℕ) → e < n → slice_index (range_with_len 0 n) e ≡ e
alone_parent n e h = let at = get_or-range_with_len 0 n e 0 h in omega arith

pub alone_forest : (n : ℕ) → IsForest (range_with_len 0 n)
alone_forest n e h = let count = length-range_with_len 0 n in let at = alone_parent n e (omega arith) in omega arith

pub alone_chains : (t : Ties) (n : ℕ) → HasChains t (range_with_len 0 n)
alone_chains t n e h = let count = length-range_with_len 0 n in let at = alone_parent n e (omega arith) in subst (λ x. AreJoined t e x) (sym at) (joined_self t e)

pub alone_push : (n : ℕ) → range_with_len 0 n ++ n ∷ [] ≡ range_with_len 0 (n + 1)
alone_push n = ap (λ xs. xs ++ n ∷ []) (sym (map-id (range_with_len 0 n))) ∙ (sym (map-range_with_len_more (λ (x : ℕ). x) 0 n n (omega arith)) ∙ map-id (range_with_len 0 (n + 1)))
