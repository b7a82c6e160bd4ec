-- The rows of an index, filled end by end.
use Rattle.std.proofs.Common.{◌≡◌, ℕ, zero, suc, ◌+◌, ◌<◌, ◌≤◌, ◌⊎◌, List, [], ◌∷◌, ◌++◌, length, set, get_or, refl, sym, ap, ◌∙◌, subst, inl, inr, arith, Some, slice_get, Vec, Global}
use Rattle.std.specs.Prelude.{Contains}
use Rattle.std.proofs.lemmas.List.{length_push}
use Rattle.std.proofs.lemmas.List.Elements.{Contains-get_or, Contains-append_left, Contains-push, Contains-push_cases}
use Rattle.std.proofs.lemmas.Option.{slice_get_read, slice_get-get_or}
use Rattle.turn_table.proofs.Lookups.{alike}
use Rattle.plan_shares.specs.declared.crosses.CrossEnd.{CrossEnd}
use Rattle.core_rules.proofs.Lists.{get_known, got_at, set_here, set_there, set_length, none_some, one_of}
use Rattle.core_rules.specs.Cores.{CoreView}
use Rattle.share_turns.specs.declared.layout.Layout.{Layout}
use Rattle.share_turns.specs.Tables.{IsTableOf}
use Rattle.share_turns.specs.Rows.{IsRow, IsEndAt, ArePlacesOf, AreNear, HasAdded}

one_row : (rows : List (Vec ℕ Global)) (i : ℕ) (a b : List ℕ) → IsRow rows i a → IsRow rows i b → a ≡ b
one_row rows i a b p q = (let same : p.0 ≡ q.0 = one_of p.0 q.0 (sym p.1 ∙ q.1) in sym p.2 ∙ (ap (λ (x : Vec ℕ Global). x.items) same ∙ q.2))

-- ---- one place more

pub added : (rows : List (Vec ℕ Global)) (i place : ℕ) (row more : Vec ℕ Global) → i < length rows → row ≡ get_or rows i row → more.items ≡ row.items ++ place ∷ [] → HasAdded rows (set rows i more) i place
added rows i place row more known at pushed =
    let is : slice_get rows i ≡ Some row = slice_get_read rows (length rows) i row refl known at in
    record {
      many = set_length rows i more;
      own = λ places p. (more, set_here rows i more known, pushed ∙ ap (λ xs. xs ++ place ∷ []) (one_row rows i row.items places (row, is, refl) p));
      others = λ j places ne p. (p.0, set_there rows i j more known ne ∙ p.1, p.2);
    }

-- ---- no places

pushed_cases : {X : Type 0} (xs : List X) (x y : X) (k : ℕ) → slice_get (xs ++ x ∷ []) k ≡ Some y → (slice_get xs k ≡ Some y) ⊎ (x ≡ y)
pushed_cases [] x y zero at = inr (one_of x y at)
pushed_cases [] x y (suc k) at = absurd (none_some y at)
pushed_cases (z ∷ xs) x y zero at = inl at
pushed_cases (z ∷ xs) x y (suc k) at = pushed_cases xs x y k at

none_placed : (i : ℕ) (places : List ℕ) → places ≡ [] → ArePlacesOf [] i places
none_placed i places none = record {
  known = λ k c. (let there : Contains [] k = subst (λ xs. Contains xs k) none c in absurd (omega (arith, there.1)));
  all = λ k end at is. absurd (none_some end at);
}

pub near_none : AreNear [] 0 []
near_none = record { many = refl; of = λ i places row. absurd (none_some row.0 row.1) }

pub near_empty : (n : ℕ) (rows : List (Vec ℕ Global)) (row : Vec ℕ Global) → row.items ≡ [] → AreNear [] n rows → AreNear [] (n + 1) (rows ++ row ∷ [])
near_empty n rows row none q = record {
  many = (let long = length_push rows row in let was = q.many in omega (arith, long, was));
  of = λ i places at. elim (pushed_cases rows row at.0 i at.1) [
    | inl before ↦ q.of i places (at.0, before, at.2)
    | inr last ↦ none_placed i places (sym at.2 ∙ (ap (λ (x : Vec ℕ Global). x.items) (sym last) ∙ none))
  ];
}

-- ---- the places of the first ends

pub record ArePlacesTo (ends : List CrossEnd) (i n : ℕ) (places : List ℕ) : Type 0 where
  pub known : (k : ℕ) → Contains places k → (end : CrossEnd) × (slice_get ends k ≡ Some end) × IsEndAt i end
  pub all : (k : ℕ) (end : CrossEnd) → slice_get ends k ≡ Some end → IsEndAt i end → k < n → Contains places k

pub record AreNearTo (ends : List CrossEnd) (timelines n : ℕ) (rows : List (Vec ℕ Global)) : Type 0 where
  pub many : length rows ≡ timelines
  pub of : (i : ℕ) → i < timelines → (places : List ℕ) × IsRow rows i places × ArePlacesTo ends i n places

module _ (ends : List CrossEnd) (timelines : ℕ) where
  pub near_first : (rows : List (Vec ℕ Global)) → AreNear [] timelines rows → AreNearTo ends timelines 0 rows
  near_first rows q = record {
    many = q.many;
    of = λ i known. (let row = got_at rows i (let many = q.many in omega (arith, many)) in (
      row.0.items,
      (row.0, row.1, refl),
      record {
        known = λ k c. (let none = (q.of i row.0.items (row.0, row.1, refl)).known k c in absurd (none_some none.0 none.1));
        all = λ k end at is low. absurd (omega arith);
      },
    ));
  }

  pub near_all : (rows : List (Vec ℕ Global)) (n : ℕ) → length ends ≤ n → AreNearTo ends timelines n rows → AreNear ends timelines rows
  near_all rows n past q = record {
    many = q.many;
    of = λ i places at.
        let row = q.of i (let many = q.many in let low = get_known rows i at.0 at.1 in omega (arith, many, low)) in
        subst (ArePlacesOf ends i) (one_row rows i row.0 places row.1 at) (record {
          known = row.2.known;
          all = λ k end there is. row.2.all k end there is (let low = get_known ends k end there in omega (arith, low));
        });
  }

-- a row after a place was added to the row of timeline j
record IsAfter (j place i : ℕ) (places after : List ℕ) : Type 0 where
  kept : (k : ℕ) → Contains places k → Contains after k
  new : j ≡ i → Contains after place
  only : (k : ℕ) → Contains after k → Contains places k ⊎ ((k ≡ place) × (j ≡ i))

row_after : (old new : List (Vec ℕ Global)) (j place i : ℕ) (places : List ℕ) → HasAdded old new j place → IsRow old i places → (after : List ℕ) × IsRow new i after × IsAfter j place i places after
row_after old new j place i places h row = alike i j
    (λ same. (
      places ++ place ∷ [],
      subst (λ x. IsRow new x (places ++ place ∷ [])) (sym same) (h.own places (subst (λ x. IsRow old x places) same row)),
      record {
        kept = λ k c. Contains-append_left places (place ∷ []) k c;
        new = λ is. Contains-push places place;
        only = λ k c. elim (Contains-push_cases places place k c) [ inl before ↦ inl before | inr it ↦ inr (sym it, sym same) ];
      },
    ))
    (λ ne. (places, h.others i places ne row, record { kept = λ k c. c; new = λ is. absurd (ne (sym is)); only = λ k c. inl c }))

pub near_more : (ends : List CrossEnd) (timelines n : ℕ) (end : CrossEnd) (old mid new : List (Vec ℕ Global)) → slice_get ends n ≡ Some end → HasAdded old mid end.sender n → HasAdded mid new end.receiver n
    → AreNearTo ends timelines n old → AreNearTo ends timelines (n + 1) new
near_more ends timelines n end old mid new found first second q = record {
  many = second.many ∙ (first.many ∙ q.many);
  of = λ i known.
      let was = q.of i known in
      let one = row_after old mid end.sender n i was.0 first was.1 in
      let two = row_after mid new end.receiver n i one.0 second one.1 in (
        two.0,
        two.1,
        record {
          known = λ k c. elim (two.2.only k c) [
            | inl before ↦ elim (one.2.only k before) [
              | inl there ↦ was.2.known k there
              | inr it ↦ (end, ap (slice_get ends) it.0 ∙ found, inl it.1)
            ]
            | inr it ↦ (end, ap (slice_get ends) it.0 ∙ found, inr it.1)
          ];
          all = λ k e at is low. alike k n
              (λ same.
              let here : end ≡ e = one_of end e (sym found ∙ (ap (slice_get ends) (sym same) ∙ at)) in
              subst (λ x. Contains two.0 x) (sym same) (elim (subst (λ (x : CrossEnd). IsEndAt i x) (sym here) is) [
                | inl sends ↦ two.2.kept n (one.2.new sends)
                | inr receives ↦ two.2.new receives
              ]))
              (λ ne. two.2.kept k (one.2.kept k (was.2.all k e at is (omega arith))));
        },
      );
}

-- ---- the rows in use

-- a place stands among the first n of a row
abbrev pub IsBefore : List ℕ → ℕ → ℕ → Type 0
IsBefore places n k = (j : ℕ) × (j < n) × (slice_get places j ≡ Some k)

pub before_none : (places : List ℕ) (k : ℕ) → IsBefore places 0 k → ⊥
before_none places k before = absurd (let low = before.1 in omega (arith, low))

pub before_cases : (places : List ℕ) (n x k : ℕ) → slice_get places n ≡ Some x → IsBefore places (n + 1) k → IsBefore places n k ⊎ (k ≡ x)
before_cases places n x k found before = alike before.0 n
    (λ same. inr (one_of k x (sym before.2 ∙ (ap (slice_get places) same ∙ found))))
    (λ ne. inl (before.0, (let low = before.1 in omega (arith, low)), before.2))

before_all : (places : List ℕ) (n k : ℕ) → length places ≤ n → Contains places k → IsBefore places n k
before_all places n k past c = (c.0, (let low = c.1 in omega (arith, low)), slice_get_read places (length places) c.0 k refl c.1 (sym c.2))

pub place_here : (places : List ℕ) (n : ℕ) → n < length places → slice_get places n ≡ Some (get_or places n 0)
place_here places n low = slice_get-get_or places n 0 low

abbrev pub no_end : CrossEnd
no_end = record { channel = 0; sender = 0; receiver = 0 }

module _ {B S P : Type 0} (key : CoreView B S P) (ends : List CrossEnd) (rows : List (Vec ℕ Global)) (layout : Layout) (number : ℕ) (table : IsTableOf key ends rows layout number)
    (i : ℕ) (places : List ℕ) (row : IsRow rows i places) where
  -- a place in a row is that of an end
  pub end_there : (n : ℕ) → n < length places → slice_get key.ends (get_or places n 0) ≡ Some (get_or ends (get_or places n 0) no_end)
  end_there n low =
      let found = (table.near.of i places row).known (get_or places n 0) (Contains-get_or places n 0 low) in
      let there = get_known key.ends (get_or places n 0) found.0 found.1 in
      subst (λ (xs : List CrossEnd). slice_get key.ends (get_or places n 0) ≡ Some (get_or xs (get_or places n 0) no_end)) (sym table.own) (slice_get-get_or key.ends (get_or places n 0) no_end there)

  pub end_here : (n : ℕ) → n < length places → slice_get ends (get_or places n 0) ≡ Some (get_or ends (get_or places n 0) no_end)
  end_here n low = subst (λ (xs : List CrossEnd). slice_get xs (get_or places n 0) ≡ Some (get_or ends (get_or places n 0) no_end)) (sym table.own) (end_there n low)

  pub place_known : (n : ℕ) → n < length places → get_or places n 0 < length ends
  place_known n low = get_known ends (get_or places n 0) (get_or ends (get_or places n 0) no_end) (end_here n low)

  -- the place of each end of the timeline stands in its row
  pub place_before : (n k : ℕ) (end : CrossEnd) → length places ≤ n → slice_get key.ends k ≡ Some end → IsEndAt i end → IsBefore places n k
  place_before n k end past found is = before_all places n k past ((table.near.of i places row).all k end found is)
