-- Of which places the count words of a shape speak, and which marks are lost.
use Rattle.std.specs.Prelude.{ℕ, zero, suc, ◌≡◌, ◌+◌, ◌<◌, ◌==◌, Bool, true, false, ◌&&◌, ◌||◌, List, [], ◌∷◌, ◌++◌, map, length, get_or, Some, slice_get}
use Rattle.std.proofs.Common.{refl, sym, ap, ◌∙◌, subst, inl, inr, arith, eq-eqb, length-append}
use Rattle.std.proofs.lemmas.List.{get_or_append_left, get_or-append-add, get_or-map}
use Rattle.std.proofs.lemmas.List.FromFn.{get_or-map-range_with_len, length-map-range_with_len}
use Rattle.std.proofs.lemmas.Option.{get_or_from_slice_get}
use Rattle.turn_table.specs.Shapes.{words_in, spoken, Speaks, is_listed, is_cleared}
use Rattle.plan_shares.specs.declared.crosses.CrossEnd.{CrossEnd}
use Rattle.core_rules.specs.Cores.{CoreView}
use Rattle.core_rules.proofs.Lists.{map_length, get_known}
use Rattle.share_rules.specs.Places.{count_of, mail_place, barrier_place, posted_word, taken_word, done_word, round_word, posted_places, taken_places, round_cleared, done_cleared, twice, numbers, shape_of}

-- ---- three lists and an item, one after the other

module _ {T : Type 0} (ps bs cs : List T) (z d : T) (a b c : ℕ) (first : length ps ≡ a) (second : length bs ≡ b) (third : length cs ≡ c) where
  abbrev pub in_row : List T
  in_row = ps ++ (bs ++ (cs ++ z ∷ []))

  pub row_first : (i : ℕ) → i < a → get_or in_row i d ≡ get_or ps i d
  row_first i h = get_or_append_left ps (bs ++ (cs ++ z ∷ [])) d i (omega arith)

  pub row_second : (i : ℕ) → i < b → get_or in_row (a + i) d ≡ get_or bs i d
  row_second i h =
      ap (λ n. get_or in_row (n + i) d) (sym first)
      ∙ (get_or-append-add ps (bs ++ (cs ++ z ∷ [])) i d ∙ get_or_append_left bs (cs ++ z ∷ []) d i (omega arith))

  behind : (i : ℕ) → get_or in_row ((a + b) + i) d ≡ get_or (cs ++ z ∷ []) i d
  behind i =
      let at : (a + b) + i ≡ length ps + (length bs + i) = omega arith in
      ap (λ n. get_or in_row n d) at ∙ (get_or-append-add ps (bs ++ (cs ++ z ∷ [])) (length bs + i) d ∙ get_or-append-add bs (cs ++ z ∷ []) i d)

  pub row_third : (i : ℕ) → i < c → get_or in_row ((a + b) + i) d ≡ get_or cs i d
  row_third i h = behind i ∙ get_or_append_left cs (z ∷ []) d i (omega arith)

  pub row_last : get_or in_row ((a + b) + c) d ≡ z
  row_last =
      let at : c ≡ length cs + 0 = omega arith in
      behind c ∙ (ap (λ n. get_or (cs ++ z ∷ []) n d) at ∙ get_or-append-add cs (z ∷ []) 0 d)

  pub row_long : length in_row ≡ ((a + b) + c) + 1
  row_long =
      let one = length-append ps (bs ++ (cs ++ z ∷ [])) in
      let two = length-append bs (cs ++ z ∷ []) in
      let three = length-append cs (z ∷ []) in
      omega (arith, one, two, three, first, second, third)

-- ---- what was found at a number

pub map_at : {T U : Type 0} (f : T → U) (xs : List T) (i : ℕ) (x : T) (d : U) → slice_get xs i ≡ Some x → get_or (map f xs) i d ≡ f x
map_at f xs i x d found = get_or-map f xs i x d (get_known xs i x found) ∙ ap f (get_or_from_slice_get xs i x x found)

pub numbers_at : {U : Type 0} (f : ℕ → U) (n i : ℕ) (d : U) → i < n → get_or (map f (numbers n)) i d ≡ f i
numbers_at f n i d h = let at : 0 + i ≡ i = omega arith in get_or-map-range_with_len f 0 n i i d h at

listed_at : (xs : List (ℕ × ℕ)) (i p c : ℕ) → i < length xs → get_or xs i (0, 0) ≡ (p, c) → is_listed xs p c ≡ true
listed_at [] i p c h at = absurd (omega arith)
listed_at (x ∷ xs) zero p c h at =
    let one : (p == x.0) ≡ true = eq-eqb p x.0 (sym (ap (λ (y : ℕ × ℕ). y.0) at)) in
    let two : (c == x.1) ≡ true = eq-eqb c x.1 (sym (ap (λ (y : ℕ × ℕ). y.1) at)) in
    rw (one, two) refl
listed_at (x ∷ xs) (suc i) p c h at = or_right (p == x.0 && c == x.1) (is_listed xs p c) (listed_at xs i p c (omega arith) at)
  where
    or_right : (a b : Bool) → b ≡ true → (a || b) ≡ true
    or_right a b e = elim a as (λ k. (k || b) ≡ true) [ true ↦ refl | false ↦ e ]

module _ {B S P : Type 0} (key : CoreView B S P) where
  abbrev ps : List (ℕ × ℕ)
  ps = map (posted_places key) key.ends

  abbrev bs : List (ℕ × ℕ)
  bs = map (taken_places key) key.ends

  abbrev cs : List (ℕ × ℕ)
  cs = map twice (numbers (count_of key))

  ps_long : length ps ≡ length key.ends
  ps_long = map_length (posted_places key) key.ends

  bs_long : length bs ≡ length key.ends
  bs_long = map_length (taken_places key) key.ends

  cs_long : length cs ≡ count_of key
  cs_long = length-map-range_with_len twice 0 (count_of key)

  -- ---- how many there are

  pub words_long : words_in (shape_of key) ≡ round_word key + 1
  words_long = row_long ps bs cs (twice (barrier_place key)) (0, 0) (length key.ends) (length key.ends) (count_of key) ps_long bs_long cs_long

  -- ---- of which places

  pub posted_speaks : (k : ℕ) (end : CrossEnd) → slice_get key.ends k ≡ Some end → spoken (shape_of key) (posted_word key k) ≡ posted_places key end
  posted_speaks k end found =
      row_first ps bs cs (twice (barrier_place key)) (0, 0) (length key.ends) (length key.ends) (count_of key) ps_long bs_long cs_long k (get_known key.ends k end found)
      ∙ map_at (posted_places key) key.ends k end (0, 0) found

  pub taken_speaks : (k : ℕ) (end : CrossEnd) → slice_get key.ends k ≡ Some end → spoken (shape_of key) (taken_word key k) ≡ taken_places key end
  taken_speaks k end found =
      row_second ps bs cs (twice (barrier_place key)) (0, 0) (length key.ends) (length key.ends) (count_of key) ps_long bs_long cs_long k (get_known key.ends k end found)
      ∙ map_at (taken_places key) key.ends k end (0, 0) found

  pub done_speaks : (i : ℕ) → i < count_of key → spoken (shape_of key) (done_word key i) ≡ twice i
  done_speaks i known =
      row_third ps bs cs (twice (barrier_place key)) (0, 0) (length key.ends) (length key.ends) (count_of key) ps_long bs_long cs_long i known
      ∙ numbers_at twice (count_of key) i (0, 0) known

  pub round_speaks : spoken (shape_of key) (round_word key) ≡ twice (barrier_place key)
  round_speaks = row_last ps bs cs (twice (barrier_place key)) (0, 0) (length key.ends) (length key.ends) (count_of key) ps_long bs_long cs_long

  speaks_first : (c p q : ℕ) → c < round_word key + 1 → spoken (shape_of key) c ≡ (p, q) → Speaks (shape_of key) c p
  speaks_first c p q small is = (subst (λ n. c < n) (sym words_long) small, inl (ap (λ (x : ℕ × ℕ). x.0) is))

  speaks_second : (c p q : ℕ) → c < round_word key + 1 → spoken (shape_of key) c ≡ (p, q) → Speaks (shape_of key) c q
  speaks_second c p q small is = (subst (λ n. c < n) (sym words_long) small, inr (ap (λ (x : ℕ × ℕ). x.1) is))

  pub posted_of_sender : (k : ℕ) (end : CrossEnd) → slice_get key.ends k ≡ Some end → Speaks (shape_of key) (posted_word key k) end.sender
  posted_of_sender k end found = let small = get_known key.ends k end found in speaks_first k end.sender (mail_place key end.receiver) (omega arith) (posted_speaks k end found)

  pub posted_of_mail : (k : ℕ) (end : CrossEnd) → slice_get key.ends k ≡ Some end → Speaks (shape_of key) (posted_word key k) (mail_place key end.receiver)
  posted_of_mail k end found = let small = get_known key.ends k end found in speaks_second k end.sender (mail_place key end.receiver) (omega arith) (posted_speaks k end found)

  pub taken_of_mail : (k : ℕ) (end : CrossEnd) → slice_get key.ends k ≡ Some end → Speaks (shape_of key) (taken_word key k) (mail_place key end.receiver)
  taken_of_mail k end found = let small = get_known key.ends k end found in speaks_first (taken_word key k) (mail_place key end.receiver) end.receiver (omega arith) (taken_speaks k end found)

  pub taken_of_receiver : (k : ℕ) (end : CrossEnd) → slice_get key.ends k ≡ Some end → Speaks (shape_of key) (taken_word key k) end.receiver
  taken_of_receiver k end found = let small = get_known key.ends k end found in speaks_second (taken_word key k) (mail_place key end.receiver) end.receiver (omega arith) (taken_speaks k end found)

  pub done_of_timeline : (i : ℕ) → i < count_of key → Speaks (shape_of key) (done_word key i) i
  done_of_timeline i known = speaks_first (done_word key i) i i (omega arith) (done_speaks i known)

  pub round_of_barrier : Speaks (shape_of key) (round_word key) (barrier_place key)
  round_of_barrier = speaks_first (round_word key) (barrier_place key) (barrier_place key) (omega arith) round_speaks

  -- ---- which marks are lost

  abbrev rounds : List (ℕ × ℕ)
  rounds = map (round_cleared key) (numbers (count_of key))

  abbrev dones : List (ℕ × ℕ)
  dones = map (done_cleared key) (numbers (count_of key))

  rounds_long : length rounds ≡ count_of key
  rounds_long = length-map-range_with_len (round_cleared key) 0 (count_of key)

  dones_long : length dones ≡ count_of key
  dones_long = length-map-range_with_len (done_cleared key) 0 (count_of key)

  pub round_is_cleared : (i : ℕ) → i < count_of key → is_cleared (shape_of key) i (round_word key) ≡ true
  round_is_cleared i known =
      let all = length-append rounds dones in
      let one = rounds_long in
      listed_at (rounds ++ dones) i i (round_word key) (omega (arith, all, one, known))
      (get_or_append_left rounds dones (0, 0) i (omega (arith, one, known)) ∙ numbers_at (round_cleared key) (count_of key) i (0, 0) known)

  pub done_is_cleared : (i : ℕ) → i < count_of key → is_cleared (shape_of key) (barrier_place key) (done_word key i) ≡ true
  done_is_cleared i known =
      let all = length-append rounds dones in
      let one = rounds_long in
      let two = dones_long in
      listed_at (rounds ++ dones) (length rounds + i) (barrier_place key) (done_word key i) (omega (arith, all, one, two, known))
      (get_or-append-add rounds dones i (0, 0) ∙ numbers_at (done_cleared key) (count_of key) i (0, 0) known)
