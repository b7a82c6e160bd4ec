-- Members that are placed in turn begin where the definition says.
use Rattle.std.proofs.Common.{◌≡◌, ◌≢◌, ℕ, suc, nat_eq, eqb, ◌+◌, ◌^◌, ◌<◌, ◌≤◌, Bool, true, false, ◌&&◌, List, [], ◌∷◌, length, get_or, slice_index, slice_set, map, take, drop, sum_by, Option, Some, None, inl, inr, refl, sym, ap, subst, ◌∙◌, arith}
use Rattle.std.specs.List.{IsDistinct}
use Rattle.std.specs.Option.{option_map_or}
use Rattle.std.proofs.lemmas.List.{map_more, get_or-set_same, get_or-set_other, get_or_default, get_or-map, get_or-take, get_or-drop, length-take, length-drop, length-map}
use Rattle.std.proofs.lemmas.List.Sums.{sum_by-cons, sum_by-take-drop}
use Rattle.std.proofs.lemmas.List.Sorted.{IsPermutation-sym, Contains-permutation, sum_by-IsPermutation, length_permutation}
use Rattle.std.proofs.lemmas.List.Elements.{Contains-get_or}
use Rattle.std.proofs.lemmas.Map.Keys.{IsDistinct-from_apart, IsDistinct-IsPermutation, apart_from_distinct}
use Rattle.std.proofs.lemmas.Bool.{cases_Bool, cond-true, cond-false, ne_eqb, eqb-true, eqb-false, cases_eq, cases_lt, and_from, and_left, and_right, both_ways, eq-eqb}
use Rattle.ip_blocks.specs.declared.members.Member.{Member}
use Rattle.ip_blocks.specs.Blocks.{Part, size_of, lies_in, sum_in, goes_before, offset_in}
use Rattle.ip_blocks.specs.Tree.{at, no_part, IsTree}
use Rattle.ip_blocks.specs.Members.{part_of, no_member, AreNumbered, AreInTurn}
use Rattle.ip_blocks.proofs.Sums.{weight, weight_before, sum_in_is, sum_in-cons, offset_in_is}
use Rattle.ip_blocks.proofs.Bases.{weight_at, before_cases, before_itself, offset_within, parent_at}
use Rattle.ip_blocks.proofs.Layouts.{sum_by-zero}
use Rattle.ip_blocks.proofs.Adding.{sum_in_push, weight_top, weight_elsewhere}

sum_by-map : {X Y : Type 0} (f : Y → ℕ) (g : X → Y) (xs : List X) → sum_by f (map g xs) ≡ sum_by (λ x. f (g x)) xs
sum_by-map f g [] = refl
sum_by-map f g (x ∷ xs) = omega (arith, sum_by-cons f (g x) (map g xs), sum_by-cons (λ y. f (g y)) x xs, sum_by-map f g xs)

sum_by_same : {X : Type 0} (f g : X → ℕ) (d : X) (xs : List X) → ((j : ℕ) → j < length xs → f (get_or xs j d) ≡ g (get_or xs j d)) → sum_by f xs ≡ sum_by g xs
sum_by_same f g d [] h = refl
sum_by_same f g d (x ∷ xs) h = omega (arith, sum_by-cons f x xs, sum_by-cons g x xs, h 0 (omega arith), sum_by_same f g d xs (λ j lt. h (suc j) (omega arith)))

lies_in_back : (n : ℕ) (part : Part) (o : Option ℕ) → part.net ≡ o → option_map_or (λ m. nat_eq m n) o false ≡ true → part.net ≡ Some n
lies_in_back n part None e h = absurd (both_ways false refl h)
lies_in_back n part (Some m) e h = e ∙ ap Some (eqb-true m n h)

abbrev same_number : Member → Member → Bool
same_number a b = eqb a.number b.number

abbrev pub turn : List Member → ℕ → Member
turn members k = get_or members k no_member

module _ (members turns : List Member) (count : ℕ) (t : IsTree (map part_of members) count) (numbers : AreNumbered members) (order : AreInTurn members turns) where
  pub part_at : (x : ℕ) → x < length members → at (map part_of members) x ≡ part_of (turn members x)
  part_at x lt = get_or-map part_of members x no_member no_part lt

  pub turns_long : length turns ≡ length members
  turns_long = length_permutation members turns order.same

  -- a turn is a member
  pub turn_from : (k : ℕ) → k < length turns → (x : ℕ) × (x < length members) × (turn turns k ≡ turn members x)
  turn_from k lt =
      let found = Contains-permutation turns members (turn turns k) (IsPermutation-sym members turns order.same) (Contains-get_or turns k no_member lt) in
      (found.0, found.1, sym found.2 ∙ get_or_default members found.0 (turn turns k) no_member found.1)

  -- a member has its turn
  pub turn_of : (x : ℕ) → x < length members → (k : ℕ) × (k < length turns) × (turn turns k ≡ turn members x)
  turn_of x lt =
      let found = Contains-permutation members turns (turn members x) order.same (Contains-get_or members x no_member lt) in
      (found.0, found.1, get_or_default turns found.0 no_member (turn members x) found.1 ∙ found.2)

  distinct_turns : IsDistinct same_number turns
  distinct_turns = IsDistinct-IsPermutation same_number (λ a b. flips a.number b.number) members turns order.same
      (IsDistinct-from_apart same_number members (λ i j d less lt. ne_eqb (get_or members i d).number (get_or members j d).number (λ e. absurd (apart i j d less lt e))))
    where
      flips : (a b : ℕ) → eqb a b ≡ eqb b a
      flips a b = elim (cases_Bool (eqb a b)) [
        | inl so ↦ so ∙ sym (eq-eqb b a (sym (eqb-true a b so)))
        | inr not_so ↦ not_so ∙ sym (ne_eqb b a (λ e. eqb-false a b not_so (sym e)))
      ]

      apart : (i j : ℕ) (d : Member) → i < j → j < length members → (get_or members i d).number ≡ (get_or members j d).number → ⊥
      apart i j d less lt e =
          let at_i = ap (λ (m : Member). m.number) (get_or_default members i d no_member (omega arith)) ∙ numbers i (omega arith) in
          let at_j = ap (λ (m : Member). m.number) (get_or_default members j d no_member lt) ∙ numbers j lt in
          omega arith

  orders_differ : (j k n : ℕ) → j < k → k < length turns → (turn turns j).net ≡ Some n → (turn turns k).net ≡ Some n → (turn turns j).order ≢ (turn turns k).order
  orders_differ j k n less lt in_j in_k same =
      let from_j = turn_from j (omega arith) in
      let from_k = turn_from k lt in
      let pj = part_at from_j.0 from_j.1 ∙ ap part_of (sym from_j.2) in
      let pk = part_at from_k.0 from_k.1 ∙ ap part_of (sym from_k.2) in
      let x_same : from_j.0 ≡ from_k.0 = t.differ from_j.0 from_k.0 (omega (arith, from_j.1, length-map members part_of)) (omega (arith, from_k.1, length-map members part_of))
      (ap (λ (p : Part). p.net) pj ∙ in_j ∙ sym in_k ∙ sym (ap (λ (p : Part). p.net) pk))
      (ap (λ (p : Part). p.order) pj ∙ same ∙ sym (ap (λ (p : Part). p.order) pk)) in
      let one = ap (λ (m : Member). m.number) (from_j.2 ∙ ap (turn members) x_same ∙ sym from_k.2) in
      eqb-false (turn turns j).number (turn turns k).number (apart_from_distinct same_number turns j k no_member distinct_turns less lt) one

  -- what went before has all its weight, and the rest none
  earlier : (j k n : ℕ) → j < k → k < length turns → (turn turns k).net ≡ Some n → weight_before n (part_of (turn turns k)) (part_of (turn turns j)) ≡ weight n (part_of (turn turns j))
  earlier j k n less lt in_k =
      let a : Part = part_of (turn turns j) in
      let y : Part = part_of (turn turns k) in
      elim (cases_Bool (lies_in n a)) [
        | inl so ↦
            let in_j = lies_in_back n a a.net refl so in
            let not_after = order.larger_first j k no_member less lt in
            elim (before_cases a y (orders_differ j k n less lt in_j in_k)) [
              | inl first ↦ cond-true (lies_in n a && goes_before a y) (size_of a) 0 (and_from (lies_in n a) (goes_before a y) so first) ∙ sym (cond-true (lies_in n a) (size_of a) 0 so)
              | inr second ↦ absurd (both_ways (goes_before y a) not_after second)
            ]
        | inr not_so ↦ cond-false (lies_in n a && goes_before a y) (size_of a) 0 (and_left (lies_in n a) (goes_before a y) not_so) ∙ sym (cond-false (lies_in n a) (size_of a) 0 not_so)
      ]

  later : (j k n : ℕ) → k ≤ j → j < length turns → weight_before n (part_of (turn turns k)) (part_of (turn turns j)) ≡ 0
  later j k n more lt =
      let a : Part = part_of (turn turns j) in
      let y : Part = part_of (turn turns k) in
      let not_before : goes_before a y ≡ false = elim (cases_lt k j) [
        | inl less ↦ order.larger_first k j no_member less lt
        | inr same ↦ let e : j ≡ k = omega arith in subst (λ i. goes_before (part_of (turn turns i)) y ≡ false) (sym e) (before_itself y)
      ] in
      cond-false (lies_in n a && goes_before a y) (size_of a) 0 (and_right (lies_in n a) (goes_before a y) not_before)

  -- what was placed before a turn is what the definition puts before it
  pub used_is : (k n : ℕ) → k < length turns → (turn turns k).net ≡ Some n → sum_in n (map part_of (take k turns)) ≡ offset_in n (map part_of members) (part_of (turn turns k))
  used_is k n lt in_k =
      let y : Part = part_of (turn turns k) in
      let before : Member → ℕ = λ m. weight_before n y (part_of m) in
      let front : sum_by before (take k turns) ≡ sum_by (λ m. weight n (part_of m)) (take k turns) =
      sum_by_same before (λ m. weight n (part_of m)) no_member (take k turns)
      (λ j low.
      let less : j < k = omega (arith, length-take k turns) in
      rw (get_or-take k turns j no_member less) (earlier j k n less lt in_k)) in
      let back : sum_by before (drop k turns) ≡ 0 =
      sum_by-zero before no_member (drop k turns)
      (λ j low. rw (get_or-drop k turns j no_member) (later (k + j) k n (omega arith) (omega (arith, length-drop k turns)))) in
      let all : sum_by before turns ≡ sum_by before members = sum_by-IsPermutation before members turns order.same in
      omega (arith, sum_in_is n (map part_of (take k turns)), sum_by-map (weight n) part_of (take k turns), offset_in_is n (map part_of members) y, sum_by-map (weight_before n y) part_of members, sum_by-take-drop before turns k)

  -- there is room for a turn in what its Net has
  pub turn_fits : (k n : ℕ) → k < length turns → (turn turns k).net ≡ Some n → (n < count) × ((turn turns k).number < length members) × (sum_in n (map part_of (take k turns)) + 2 ^ (turn turns k).exponent ≤ sum_in n (map part_of members))
  turn_fits k n lt in_k =
      let from = turn_from k lt in
      let x : ℕ = from.0 in
      let part = part_at x from.1 ∙ ap part_of (sym from.2) in
      let there : x < length (map part_of members) = omega (arith, from.1, length-map members part_of) in
      let in_x = ap (λ (p : Part). p.net) part ∙ in_k in
      let room = offset_within (map part_of members) n x there in_x in
      let moved = rw part at room in (
        (parent_at (map part_of members) count t x n there in_x).1,
        omega (arith, ap (λ (m : Member). m.number) from.2, numbers x from.1, from.1),
        omega (arith, used_is k n lt in_k, moved),
      )

  pub turn_number : (k : ℕ) → k < length turns → (turn turns k).number < length members
  turn_number k lt =
      let from = turn_from k lt in
      omega (arith, ap (λ (m : Member). m.number) from.2, numbers from.0 from.1, from.1)

  same_turn : (j k : ℕ) → j < length turns → k < length turns → (turn turns j).number ≡ (turn turns k).number → turn turns j ≡ turn turns k
  same_turn j k lj lk e =
      let from_j = turn_from j lj in
      let from_k = turn_from k lk in
      let x_same : from_j.0 ≡ from_k.0 = omega (arith, ap (λ (m : Member). m.number) from_j.2, numbers from_j.0 from_j.1, ap (λ (m : Member). m.number) from_k.2, numbers from_k.0 from_k.1) in
      from_j.2 ∙ ap (turn members) x_same ∙ sym from_k.2

  -- what has been used of each Net before turn k
  abbrev pub Used : List ℕ → ℕ → Type 0
  Used used k = (n : ℕ) → n < count → slice_index used n ≡ sum_in n (map part_of (take k turns))

  -- the places given before turn k
  abbrev pub Placed : List ℕ → ℕ → Type 0
  Placed offsets k = (j n : ℕ) → j < k → (turn turns j).net ≡ Some n → slice_index offsets (turn turns j).number ≡ offset_in n (map part_of members) (part_of (turn turns j))

  take_turn : (k m : ℕ) → k < length turns → sum_in m (map part_of (take (k + 1) turns)) ≡ weight m (part_of (turn turns k)) + sum_in m (map part_of (take k turns))
  take_turn k m lt =
      ap (sum_in m) (map_more part_of turns k no_member lt)
      ∙ sum_in_push m (part_of (turn turns k)) (map part_of (take k turns))
      ∙ sum_in-cons m (part_of (turn turns k)) (map part_of (take k turns))

  pub used_top : (used : List ℕ) (k : ℕ) → k < length turns → (turn turns k).net ≡ None → Used used k → Used used (k + 1)
  used_top used k lt top h n low = omega (arith, h n low, take_turn k n lt, weight_top n (part_of (turn turns k)) top)

  pub used_more : (used : List ℕ) (k n : ℕ) → k < length turns → length used ≡ count → (turn turns k).net ≡ Some n → Used used k → Used (slice_set used n (slice_index used n + 2 ^ (turn turns k).exponent)) (k + 1)
  used_more used k n lt long in_k h m low = elim (cases_eq m n) [
    | inl same ↦
        let there : n < length used = omega arith in
        let set_there = get_or-set_same used n (slice_index used n + 2 ^ (turn turns k).exponent) 0 there in
        let heavy = weight_at n (part_of (turn turns k)) in_k in
        let total = take_turn k n lt in
        let old = h n (omega arith) in
        subst (λ i. slice_index (slice_set used n (slice_index used n + 2 ^ (turn turns k).exponent)) i ≡ sum_in i (map part_of (take (k + 1) turns))) (sym same) (set_there ∙ omega arith)
    | inr other ↦ get_or-set_other used n m (slice_index used n + 2 ^ (turn turns k).exponent) 0 other
        ∙ omega (arith, h m low, take_turn k m lt, weight_elsewhere m n (part_of (turn turns k)) in_k other)
  ]

  pub placed_top : (offsets : List ℕ) (k : ℕ) → (turn turns k).net ≡ None → Placed offsets k → Placed offsets (k + 1)
  placed_top offsets k top h j n less in_j = elim (cases_eq j k) [
    | inl same ↦ absurd (no_net_there (sym (ap (λ i. (turn turns i).net) same) ∙ in_j))
    | inr other ↦ h j n (omega arith) in_j
  ]
    where
      no_net_there : {n : ℕ} → (turn turns k).net ≡ Some n → ⊥
      no_net_there e = let both = sym top ∙ e in cc

  pub placed_more : (used offsets : List ℕ) (k n : ℕ) → k < length turns → n < count → length offsets ≡ length members → (turn turns k).net ≡ Some n → Used used k → Placed offsets k → Placed (slice_set offsets (turn turns k).number (slice_index used n)) (k + 1)
  placed_more used offsets k n lt low long in_k u h j m less in_j = elim (cases_eq (turn turns j).number (turn turns k).number) [
    | inl same ↦
        let one = same_turn j k (omega arith) lt same in
        let nets = sym in_j ∙ ap (λ (t : Member). t.net) one ∙ in_k in
        let net : m ≡ n = cc in
        ap (slice_index (slice_set offsets (turn turns k).number (slice_index used n))) same
        ∙ get_or-set_same offsets (turn turns k).number (slice_index used n) 0 (omega (arith, turn_number k lt))
        ∙ u n low ∙ used_is k n lt in_k
        ∙ ap (λ (t : Member). offset_in n (map part_of members) (part_of t)) (sym one)
        ∙ ap (λ i. offset_in i (map part_of members) (part_of (turn turns j))) (sym net)
    | inr other ↦
        get_or-set_other offsets (turn turns k).number (turn turns j).number (slice_index used n) 0 other
        ∙ h j m (elim (cases_eq j k) [ inl e ↦ absurd (other (ap (λ i. (turn turns i).number) e)) | inr ne ↦ omega arith ]) in_j
  ]

  pub all_placed : (offsets : List ℕ) → Placed offsets (length turns) → (x n : ℕ) → x < length members → (at (map part_of members) x).net ≡ Some n → slice_index offsets x ≡ offset_in n (map part_of members) (at (map part_of members) x)
  all_placed offsets h x n lt in_x =
      let of_x = turn_of x lt in
      let k : ℕ = of_x.0 in
      let same = ap part_of of_x.2 ∙ sym (part_at x lt) in
      let number : (turn turns k).number ≡ x = ap (λ (m : Member). m.number) of_x.2 ∙ numbers x lt in
      ap (slice_index offsets) (sym number)
      ∙ h k n of_x.1 (ap (λ (p : Part). p.net) same ∙ in_x)
      ∙ ap (offset_in n (map part_of members)) same
