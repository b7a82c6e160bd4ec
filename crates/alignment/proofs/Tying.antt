-- Loops that tie entities one after another: those with one label, and the ends of mappings without delay.
use Rattle.std.proofs.Common.{◌≡◌, subst, ℕ, zero, suc, ◌+◌, ◌<◌, ◌≢◌, ◌⊎◌, cond, nat_eq, List, [], ◌∷◌, ◌++◌, length, slice_index_or, Option, Some, None, unwrap_or, refl, sym, ◌∙◌, ap, inl, inr, arith, ⊎_elim}
use Rattle.std.proofs.lemmas.Bool.{cases_eq, eq-eqb, ne_eqb}
use Rattle.event_order.specs.Pending.{Among}
use Rattle.event_order.proofs.Pending.{append_among, among_append_left, among_append_right}
use Rattle.ssf_model.specs.declared.plan.Mapping.{Mapping}
use Rattle.alignment.specs.Alignment.{Ties}
use Rattle.alignment.specs.Forests.{IsAlike, HasChains, IsTied, AreLabelsTied, AreEndsTied}
use Rattle.alignment.proofs.Joining.{joined_label, joined_mapping}

-- ---- labels

-- the first entity of each label among the first n, by a table
pub record AreFirsts (label : ℕ → ℕ) (n : ℕ) (table : ℕ → Option ℕ) : Type 0 where
  pub own : (l d : ℕ) → table l ≡ Some d → (d < n) × (label d ≡ l)
  pub each : (e : ℕ) → e < n → (d : ℕ) × (table (label e) ≡ Some d)

-- each of the first n entities is tied to the first one with its label
pub record AreSomeTied (old new : List ℕ) (label : ℕ → ℕ) (n : ℕ) (table : ℕ → Option ℕ) : Type 0 where
  pub firsts : AreFirsts label n table
  pub count : length new ≡ length old
  pub alike : (f : ℕ → ℕ) → IsAlike f new → IsAlike f old × ((e d : ℕ) → e < n → table (label e) ≡ Some d → f d ≡ f e)
  pub chains : (t : Ties) → HasChains t old → t.entities ≡ length old → ((e : ℕ) → t.label e ≡ label e) → HasChains t new

pub some_none : (old : List ℕ) (label : ℕ → ℕ) (table : ℕ → Option ℕ) → ((l : ℕ) → table l ≡ None) → AreSomeTied old old label 0 table
some_none old label table empty = record {
  firsts = record { own = λ l d h. let none = empty l in absurd (cc); each = λ e h. absurd (omega arith) };
  count = refl;
  alike = λ f alike. (alike, λ e d h is. absurd (omega arith));
  chains = λ t chains n l. chains;
}

-- the table after entity n, with its label's first
later_same : (label : ℕ → ℕ) (n first l : ℕ) (table later : ℕ → Option ℕ) → ((q : ℕ) → later q ≡ cond (nat_eq (label n) q) (Some first) (table q)) → label n ≡ l → later l ≡ Some first
later_same label n first l table later made same = made l ∙ ap (λ b. cond b (Some first) (table l)) (eq-eqb (label n) l same)

later_other : (label : ℕ → ℕ) (n first l : ℕ) (table later : ℕ → Option ℕ) → ((q : ℕ) → later q ≡ cond (nat_eq (label n) q) (Some first) (table q)) → label n ≢ l → later l ≡ table l
later_other label n first l table later made other = made l ∙ ap (λ b. cond b (Some first) (table l)) (ne_eqb (label n) l other)

some_same : (o : Option ℕ) (x y : ℕ) → o ≡ Some x → o ≡ Some y → x ≡ y
some_same o x y p q = let both : Some x ≡ Some y = sym p ∙ q in cc

first_or : (o : Option ℕ) (first n : ℕ) → first ≡ unwrap_or o n → (first ≡ n) ⊎ (o ≡ Some first)
first_or None first n h = inl h
first_or (Some d) first n h = inr (ap (λ x. Some x) (sym h))

first_own : (label : ℕ → ℕ) (n first : ℕ) (table : ℕ → Option ℕ) → AreFirsts label n table → (first ≡ n) ⊎ (table (label n) ≡ Some first) → (first < n + 1) × (label first ≡ label n)
first_own label n first table firsts (inl is) = (omega arith, ap label is)
first_own label n first table firsts (inr is) = let own = firsts.own (label n) first is in (omega arith, own.1)

firsts_own : (label : ℕ → ℕ) (n first : ℕ) (table later : ℕ → Option ℕ) → AreFirsts label n table → ((q : ℕ) → later q ≡ cond (nat_eq (label n) q) (Some first) (table q)) → (first ≡ n) ⊎ (table (label n) ≡ Some first)
    → (l d : ℕ) → later l ≡ Some d → (d < n + 1) × (label d ≡ l)
firsts_own label n first table later firsts made is l d h =
    ⊎_elim (λ (same : label n ≡ l).
    let one : first ≡ d = some_same (later l) first d (later_same label n first l table later made same) h in
    let own = first_own label n first table firsts is in
    (omega arith, ap label (sym one) ∙ (own.1 ∙ same)))
    (λ (other : label n ≡ l → ⊥). let own = firsts.own l d (sym (later_other label n first l table later made other) ∙ h) in (omega arith, own.1))
    (cases_eq (label n) l)

firsts_each : (label : ℕ → ℕ) (n first : ℕ) (table later : ℕ → Option ℕ) → AreFirsts label n table → ((q : ℕ) → later q ≡ cond (nat_eq (label n) q) (Some first) (table q))
    → (e : ℕ) → e < n + 1 → (d : ℕ) × (later (label e) ≡ Some d)
firsts_each label n first table later firsts made e h =
    ⊎_elim (λ (same : label n ≡ label e). (first, later_same label n first (label e) table later made same))
    (λ (other : label n ≡ label e → ⊥).
    let ne : e ≢ n = λ is. other (ap label (sym is)) in
    let d = firsts.each e (omega arith) in
    (d.0, later_other label n first (label e) table later made other ∙ d.1))
    (cases_eq (label n) (label e))

more_alike : (label : ℕ → ℕ) (n first : ℕ) (table later : ℕ → Option ℕ) (f : ℕ → ℕ) → AreFirsts label n table → ((q : ℕ) → later q ≡ cond (nat_eq (label n) q) (Some first) (table q)) → first ≡ unwrap_or (table (label n)) n
    → ((e d : ℕ) → e < n → table (label e) ≡ Some d → f d ≡ f e) → f first ≡ f n → (e d : ℕ) → e < n + 1 → later (label e) ≡ Some d → f d ≡ f e
more_alike label n first table later f firsts made is alike own e d h found =
    ⊎_elim (λ (last : e ≡ n).
    let one : first ≡ d = some_same (later (label e)) first d (later_same label n first (label e) table later made (ap label (sym last))) found in
    ap f (sym one) ∙ (own ∙ ap f (sym last)))
    (λ (before : e ≡ n → ⊥).
    ⊎_elim (λ (same : label n ≡ label e).
    let one : first ≡ d = some_same (later (label e)) first d (later_same label n first (label e) table later made same) found in
    let known = firsts.each e (omega arith) in
    let there : table (label n) ≡ Some known.0 = ap table same ∙ known.1 in
    let that : first ≡ known.0 = is ∙ ap (λ o. unwrap_or o n) there in
    ap f (sym one ∙ that) ∙ alike e known.0 (omega arith) known.1)
    (λ (other : label n ≡ label e → ⊥). alike e d (omega arith) (sym (later_other label n first (label e) table later made other) ∙ found))
    (cases_eq (label n) (label e)))
    (cases_eq e n)

pub some_more : (old new last : List ℕ) (label : ℕ → ℕ) (n first : ℕ) (table later : ℕ → Option ℕ) → AreSomeTied old new label n table → n < length old
    → first ≡ unwrap_or (table (label n)) n → ((q : ℕ) → later q ≡ cond (nat_eq (label n) q) (Some first) (table q)) → IsTied new last first n → AreSomeTied old last label (n + 1) later
some_more old new last label n first table later some within is made tied =
    let or = first_or (table (label n)) first n is in
    let own = first_own label n first table some.firsts or in
    record {
      firsts = record {
        own = firsts_own label n first table later some.firsts made or;
        each = firsts_each label n first table later some.firsts made;
      };
      count = tied.count ∙ some.count;
      alike = λ f alike.
          let before = tied.alike f alike in
          let all = some.alike f before.0 in
          (all.0, more_alike label n first table later f some.firsts made is all.1 before.1);
      chains = λ t chains count labels.
          tied.chains t (some.chains t chains count labels) (joined_label t first n (omega arith) (omega arith) (labels first ∙ (own.1 ∙ sym (labels n))));
    }

pub some_all : (old new : List ℕ) (label : ℕ → ℕ) (n : ℕ) (table : ℕ → Option ℕ) → n ≡ length old → AreSomeTied old new label n table → AreLabelsTied old new label
some_all old new label n table full some = record {
  count = some.count;
  alike = λ f alike. let all = some.alike f alike in (
    all.0,
    λ a b i j same.
        let d = some.firsts.each a (omega arith) in
        let at : table (label b) ≡ Some d.0 = ap table (sym same) ∙ d.1 in
        sym (all.1 a d.0 (omega arith) d.1) ∙ all.1 b d.0 (omega arith) at,
  );
  chains = some.chains;
}

-- ---- ends

pub ends_none : (old : List ℕ) → AreEndsTied old old []
ends_none old = record {
  count = refl;
  alike = λ f alike. (alike, λ m among d. absurd among);
  chains = λ t chains n l. chains;
}

last_alike : (f : ℕ → ℕ) (m x : Mapping) → f m.from ≡ f m.to → Among x (m ∷ []) → f x.from ≡ f x.to
last_alike f m x same (inl e) = let P : Mapping → Type 0 = λ y. f y.from ≡ f y.to in subst P (sym e) same
last_alike f m x same (inr none) = absurd none

passed_alike : (f : ℕ → ℕ) (m x : Mapping) → (m.delay ≡ 0 → ⊥) → Among x (m ∷ []) → x.delay ≡ 0 → f x.from ≡ f x.to
passed_alike f m x later (inl e) d = absurd (later (ap (λ y. y.delay) (sym e) ∙ d))
passed_alike f m x later (inr none) d = absurd none

-- one more mapping without delay, whose ends were joined
pub ends_joined : (old new last : List ℕ) (ms : List Mapping) (m : Mapping) → AreEndsTied old new ms → m.from < length old → m.to < length old → IsTied new last m.from m.to → m.delay ≡ 0 → AreEndsTied old last (ms ++ m ∷ [])
ends_joined old new last ms m ends from to tied at_once = record {
  count = tied.count ∙ ends.count;
  alike = λ f alike.
      let now = tied.alike f alike in
      let all = ends.alike f now.0 in
      (all.0, λ x among d. ⊎_elim (λ (before : Among x ms). all.1 x before d) (λ (here : Among x (m ∷ [])). last_alike f m x now.1 here) (append_among x ms (m ∷ []) among));
  chains = λ t chains n in_t.
      let before = ends.chains t chains n (λ x among. in_t x (among_append_left x ms (m ∷ []) among)) in
      tied.chains t before (joined_mapping t m (in_t m (among_append_right m ms (m ∷ []) (inl refl))) (omega arith) (omega arith) at_once);
}

-- one more mapping, with a delay
pub ends_passed : (old new : List ℕ) (ms : List Mapping) (m : Mapping) → AreEndsTied old new ms → (m.delay ≡ 0 → ⊥) → AreEndsTied old new (ms ++ m ∷ [])
ends_passed old new ms m ends later = record {
  count = ends.count;
  alike = λ f alike.
      let all = ends.alike f alike in
      (all.0, λ x among d. ⊎_elim (λ (before : Among x ms). all.1 x before d) (λ (here : Among x (m ∷ [])). passed_alike f m x later here d) (append_among x ms (m ∷ []) among));
  chains = λ t chains n in_t. ends.chains t chains n (λ x among. in_t x (among_append_left x ms (m ∷ []) among));
}

-- ---- as the code has it

abbrev pub nothing : Mapping
nothing = record { channel = 0; out_channel = 0; in_channel = 0; from = 0; to = 0; delay = 0; priority = 0 }

pub get_among : {T : Type 0} (xs : List T) (i : ℕ) (d : T) → i < length xs → Among (slice_index_or xs i d) xs
get_among [] i d h = absurd (omega arith)
get_among (x ∷ xs) zero d h = inl refl
get_among (x ∷ xs) (suc i) d h = inr (get_among xs i d (omega arith))

pub first_within : (old new : List ℕ) (label : ℕ → ℕ) (n first l : ℕ) (table : ℕ → Option ℕ) → AreSomeTied old new label n table → n < length old → l ≡ label n → first ≡ unwrap_or (table l) n → first < length new
first_within old new label n first l table some within is found =
    let own = first_own label n first table some.firsts (first_or (table (label n)) first n (found ∙ ap (λ k. unwrap_or (table k) n) is)) in
    let low = own.0 in
    let count = some.count in
    omega arith

pub some_next : (old new last : List ℕ) (label : ℕ → ℕ) (n first l : ℕ) (table later : ℕ → Option ℕ) → AreSomeTied old new label n table → n < length old → l ≡ label n
    → first ≡ unwrap_or (table l) n → ((q : ℕ) → later q ≡ cond (nat_eq l q) (Some first) (table q)) → IsTied new last first n → AreSomeTied old last label (n + 1) later
some_next old new last label n first l table later some within is found made tied =
    some_more old new last label n first table later some within (found ∙ ap (λ k. unwrap_or (table k) n) is)
    (λ q. made q ∙ ap (λ k. cond (nat_eq k q) (Some first) (table q)) is) tied
