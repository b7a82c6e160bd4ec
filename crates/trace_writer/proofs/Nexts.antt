-- The heap of the entries that come next: what a head more and a head less leave of it.
use Rattle.std.proofs.Common.{◌≡◌, subst, ℕ, zero, suc, ◌+◌, ◌<◌, ◌≤◌, Bool, true, false, cond, nat_lt, List, [], ◌∷◌, ◌++◌, length, drop, Option, Some, None, slice_get, refl, sym, ◌∙◌, ap, inl, inr, arith, ⊎_elim}
use Rattle.std.specs.List.{sum_by, slice_index_or, Contains, AllByRecursion}
use Rattle.std.specs.List.Sorted.{IsPermutation}
use Rattle.std.specs.Ordering.{is_lt}
use Rattle.std.specs.declared.cmp.Reverse.{Reverse}
use Rattle.std.specs.BinaryHeap.{IsUpperBound}
use Rattle.std.proofs.lemmas.Bool.{cases_eq, eq-eqb, ne_eqb}
use Rattle.std.proofs.lemmas.List.Sums.{sum_by-cons, sum_by-append}
use Rattle.std.proofs.lemmas.List.Sorted.{Contains-permutation, sum_by-IsPermutation, IsPermutation-sym}
use Rattle.event_order.specs.Order.{comes_before, IsBefore}
use Rattle.event_order.specs.Pending.{Among}
use Rattle.event_order.proofs.Pending.{test_cases, append_among, among_append_left, among_append_right}
use Rattle.ssf_model.specs.declared.event.Entry.{Entry}
use Rattle.ssf_model.proofs.Lists.{place_among, within_of}
use Rattle.trace_writer.specs.declared.heads.Head.{Head}
use Rattle.trace_writer.specs.Merging.{IsInOrder, in_key_order}
use Rattle.trace_writer.specs.Heads.{head_cmp, head_order, head_of, head_at, entry_at, left_from, left_in_order, is_of, IsHead, AreHeads}
use Rattle.trace_writer.proofs.Merges.{before_then, late_then, head_key, head_history, least_first, first_of, after_of, IsLeft, left_of, IsMoved, split_left}

-- ---- lists

contained : {T : Type 0} (x : T) (xs : List T) → Among x xs → Contains xs x
contained x [] a = absurd a
contained x (y ∷ ys) (inl e) = (0, omega arith, sym e)
contained x (y ∷ ys) (inr a) = let rest = contained x ys a in let low = rest.1 in (suc rest.0, omega arith, rest.2)

among_at : {T : Type 0} (x : T) (xs : List T) (k : ℕ) → k < length xs → slice_index_or xs k x ≡ x → Among x xs
among_at x [] k h e = absurd (omega arith)
among_at x (y ∷ ys) zero h e = inl (sym e)
among_at x (y ∷ ys) (suc k) h e = inr (among_at x ys k (omega arith) e)

pub among_moved : {T : Type 0} (x : T) (xs ys : List T) → IsPermutation xs ys → Among x xs → Among x ys
among_moved x xs ys p a = let c = Contains-permutation xs ys x p (contained x xs a) in among_at x ys c.0 c.1 c.2

all_among : {T : Type 0} (P : T → Type 0) (xs : List T) (x : T) → AllByRecursion P xs → Among x xs → P x
all_among P [] x all a = absurd a
all_among P (y ∷ ys) x all (inl e) = subst P (sym e) all.0
all_among P (y ∷ ys) x all (inr a) = all_among P ys x all.1 a

sum_member : {T : Type 0} (f : T → ℕ) (xs : List T) (x : T) → Among x xs → f x ≤ sum_by f xs
sum_member f [] x a = absurd a
sum_member f (y ∷ ys) x (inl e) = let sum = sum_by-cons f y ys in let same : f x ≡ f y = ap f e in omega arith
sum_member f (y ∷ ys) x (inr a) = let sum = sum_by-cons f y ys in let rest = sum_member f ys x a in omega arith

same_some : {T : Type 0} (o : Option T) (x y : T) → o ≡ Some x → o ≡ Some y → x ≡ y
same_some o x y p q = let both : Some x ≡ Some y = sym p ∙ q in cc

-- ---- one head

abbrev the_head : Entry → ℕ → ℕ → Reverse Head
the_head e i a = record { 0 = record { key = e.key; history = i; at = a } }

head_at_is : (lists : List (List Entry)) (below i a : ℕ) (history : List Entry) (e : Entry) → slice_get lists i ≡ Some history → slice_get history a ≡ Some e → nat_lt e.key.time below ≡ true → head_at lists below i a ≡ the_head e i a ∷ []
head_at_is lists below i a history e is_history is_entry early =
    ap (λ o. head_of below i a (entry_at a o)) is_history ∙ (ap (λ o. head_of below i a o) is_entry ∙ ap (λ b. cond b (the_head e i a ∷ []) []) early)

-- the only head that there may be
pub record IsHeadAt (lists : List (List Entry)) (below i a : ℕ) (h : Reverse Head) : Type 0 where
  pub history : List Entry
  pub entry : Entry
  pub is_history : slice_get lists i ≡ Some history
  pub is_entry : slice_get history a ≡ Some entry
  pub early : nat_lt entry.key.time below ≡ true
  pub head : h ≡ the_head entry i a

of_entry : (lists : List (List Entry)) (below i a : ℕ) (history : List Entry) (o : Option Entry) (h : Reverse Head) → slice_get lists i ≡ Some history → slice_get history a ≡ o → Among h (head_of below i a o) → IsHeadAt lists below i a h
of_entry lists below i a history None h is_history is_entry among = absurd among
of_entry lists below i a history (Some e) h is_history is_entry among =
    ⊎_elim (λ (early : nat_lt e.key.time below ≡ true).
    let one : Among h (the_head e i a ∷ []) = subst (λ b. Among h (cond b (the_head e i a ∷ []) [])) early among in
    ⊎_elim (λ (same : h ≡ the_head e i a). record { history = history; entry = e; is_history = is_history; is_entry = is_entry; early = early; head = same })
    (λ (none : ⊥). absurd none) one)
    (λ (late : nat_lt e.key.time below ≡ false). let none : Among h [] = subst (λ b. Among h (cond b (the_head e i a ∷ []) [])) late among in absurd none)
    (test_cases (nat_lt e.key.time below))

of_history : (lists : List (List Entry)) (below i a : ℕ) (o : Option (List Entry)) (h : Reverse Head) → slice_get lists i ≡ o → Among h (head_of below i a (entry_at a o)) → IsHeadAt lists below i a h
of_history lists below i a None h is among = absurd among
of_history lists below i a (Some history) h is among = of_entry lists below i a history (slice_get history a) h is refl among

head_at_among : (lists : List (List Entry)) (below i a : ℕ) (h : Reverse Head) → Among h (head_at lists below i a) → IsHeadAt lists below i a h
head_at_among lists below i a h among = of_history lists below i a (slice_get lists i) h refl among

-- how many heads of history j there are
count_of : (below i a j : ℕ) (o : Option Entry) → (sum_by (is_of j) (head_of below i a o) ≤ 1) × ((j ≡ i → ⊥) → sum_by (is_of j) (head_of below i a o) ≡ 0)
count_of below i a j None = (omega arith, λ ne. refl)
count_of below i a j (Some e) =
    let P : Bool → Type 0 = λ b. (sum_by (is_of j) (cond b (the_head e i a ∷ []) []) ≤ 1) × ((j ≡ i → ⊥) → sum_by (is_of j) (cond b (the_head e i a ∷ []) []) ≡ 0) in
    let one = sum_by-cons (is_of j) (the_head e i a) [] in
    let some : P true = (
      ⊎_elim (λ (same : i ≡ j). let is : is_of j (the_head e i a) ≡ 1 = ap (λ b. cond b 1 0) (eq-eqb i j same) in omega (arith, one))
          (λ (ne : i ≡ j → ⊥). let is : is_of j (the_head e i a) ≡ 0 = ap (λ b. cond b 1 0) (ne_eqb i j ne) in omega (arith, one)) (cases_eq i j),
      λ ne. let is : is_of j (the_head e i a) ≡ 0 = ap (λ b. cond b 1 0) (ne_eqb i j (λ same. ne (sym same))) in omega (arith, one),
    ) in
    let none : P false = (omega arith, λ ne. refl) in
    ⊎_elim (λ (early : nat_lt e.key.time below ≡ true). subst P (sym early) some) (λ (late : nat_lt e.key.time below ≡ false). subst P (sym late) none) (test_cases (nat_lt e.key.time below))

-- ---- one head more

-- the heads of the first n histories but i
pub record AreOthers (lists : List (List Entry)) (below : ℕ) (at : ℕ → ℕ) (n i : ℕ) (heads : List (Reverse Head)) : Type 0 where
  pub sound : (h : Reverse Head) → Among h heads → IsHead lists below at h.0 × (h.0.history < n) × (h.0.history ≡ i → ⊥)
  pub complete : (j : ℕ) (history : List Entry) (entry : Entry) → j < n → (j ≡ i → ⊥) → slice_get lists j ≡ Some history → slice_get history (at j) ≡ Some entry → nat_lt entry.key.time below ≡ true
      → (h : Reverse Head) × Among h heads × (h.0.history ≡ j)
  pub once : (j : ℕ) → sum_by (is_of j) heads ≤ 1
  pub none : sum_by (is_of i) heads ≡ 0

own_sound : (lists : List (List Entry)) (below : ℕ) (at : ℕ → ℕ) (n i a : ℕ) (h : Reverse Head) → a ≡ at i → i < n → IsHeadAt lists below i a h → IsHead lists below at h.0 × (h.0.history < n)
own_sound lists below at n i a h place within is =
    let P : Reverse Head → Type 0 = λ x. IsHead lists below at x.0 × (x.0.history < n) in
    subst P (sym is.head) (record { history = is.history; entry = is.entry; is_history = is.is_history; place = place; is_entry = is.is_entry; key = refl; early = is.early }, within)

pub heads_more : (lists : List (List Entry)) (below : ℕ) (at : ℕ → ℕ) (n i a : ℕ) (old new : List (Reverse Head)) → a ≡ at i → i < n → AreOthers lists below at n i old → IsPermutation (head_at lists below i a ++ old) new → AreHeads lists below at n new
heads_more lists below at n i a old new place within others moved_in =
    let own = head_at lists below i a in
    record {
      sound = λ h among.
          ⊎_elim (λ (mine : Among h own). own_sound lists below at n i a h place within (head_at_among lists below i a h mine))
          (λ (other : Among h old). let is = others.sound h other in (is.0, is.1))
          (append_among h own old (among_moved h new (own ++ old) (IsPermutation-sym (own ++ old) new moved_in) among));
      complete = λ j history entry low is_history is_entry early.
          ⊎_elim (λ (same : j ≡ i).
          let at_i : slice_get lists i ≡ Some history = subst (λ k. slice_get lists k ≡ Some history) same is_history in
          let at_a : slice_get history a ≡ Some entry = subst (λ k. slice_get history k ≡ Some entry) (ap at same ∙ sym place) is_entry in
          let one = head_at_is lists below i a history entry at_i at_a early in
          let here : Among (the_head entry i a) own = subst (λ hs. Among (the_head entry i a) hs) (sym one) (inl refl) in
          (the_head entry i a, among_moved (the_head entry i a) (own ++ old) new moved_in (among_append_left (the_head entry i a) own old here), sym same))
          (λ (ne : j ≡ i → ⊥).
          let found = others.complete j history entry low ne is_history is_entry early in
          (found.0, among_moved found.0 (own ++ old) new moved_in (among_append_right found.0 own old found.1), found.2))
          (cases_eq j i);
      once = λ j.
          let total = sum_by-IsPermutation (is_of j) (own ++ old) new moved_in in
          let parts = sum_by-append (is_of j) own old in
          let mine = count_of below i a j (entry_at a (slice_get lists i)) in
          let few = mine.0 in
          let rest = others.once j in
          ⊎_elim (λ (same : j ≡ i). let none : sum_by (is_of j) old ≡ 0 = ap (λ k. sum_by (is_of k) old) same ∙ others.none in omega (arith, total, parts))
          (λ (ne : j ≡ i → ⊥). let zero_of = mine.1 ne in omega (arith, total, parts))
          (cases_eq j i);
    }

-- the heads of the first i histories are others than i
pub others_first : (lists : List (List Entry)) (below : ℕ) (at : ℕ → ℕ) (i : ℕ) (heads : List (Reverse Head)) → AreHeads lists below at i heads → AreOthers lists below at (i + 1) i heads
others_first lists below at i heads are = record {
  sound = λ h among. let is = are.sound h among in let low = is.1 in (is.0, omega arith, λ same. omega arith);
  complete = λ j history entry low ne is_history is_entry early. are.complete j history entry (omega arith) is_history is_entry early;
  once = are.once;
  none = none_of heads (λ h among. let low = (are.sound h among).1 in λ same. omega arith);
}
  where
    none_of : (heads : List (Reverse Head)) → ((h : Reverse Head) → Among h heads → h.0.history ≡ i → ⊥) → sum_by (is_of i) heads ≡ 0
    none_of [] f = refl
    none_of (x ∷ xs) f =
        let sum = sum_by-cons (is_of i) x xs in
        let own : is_of i x ≡ 0 = ap (λ b. cond b 1 0) (ne_eqb x.0.history i (f x (inl refl))) in
        let rest = none_of xs (λ h among. f h (inr among)) in
        omega (arith, sum)

pub heads_none : (lists : List (List Entry)) (below : ℕ) (at : ℕ → ℕ) → AreHeads lists below at 0 []
heads_none lists below at = record { sound = λ h among. absurd among; complete = λ i history entry low. absurd (omega arith); once = λ i. omega arith }

-- ---- one head less

-- a head is one of its history alone
apart : (rest : List (Reverse Head)) (i : ℕ) (g : Reverse Head) → sum_by (is_of i) rest ≡ 0 → Among g rest → g.0.history ≡ i → ⊥
apart rest i g none among same =
    let member = sum_member (is_of i) rest g among in
    let one : is_of i g ≡ 1 = ap (λ b. cond b 1 0) (eq-eqb g.0.history i same) in
    omega arith

pub others_left : (lists : List (List Entry)) (below : ℕ) (at after : ℕ → ℕ) (n : ℕ) (old rest : List (Reverse Head)) (h : Reverse Head) → AreHeads lists below at n old → IsPermutation old (h ∷ rest) → IsMoved at after h.0.history
    → AreOthers lists below after n h.0.history rest
others_left lists below at after n old rest h are popped move =
    let i = h.0.history in
    let back = IsPermutation-sym old (h ∷ rest) popped in
    let total = sum_by-IsPermutation (is_of i) old (h ∷ rest) popped in
    let parts = sum_by-cons (is_of i) h rest in
    let own : is_of i h ≡ 1 = ap (λ b. cond b 1 0) (eq-eqb i i refl) in
    let few = are.once i in
    let none : sum_by (is_of i) rest ≡ 0 = omega (arith, total, parts) in
    record {
      sound = λ g among.
          let is = are.sound g (among_moved g (h ∷ rest) old back (inr among)) in
          let ne = apart rest i g none among in
          (record { history = is.0.history; entry = is.0.entry; is_history = is.0.is_history; place = is.0.place ∙ sym (move.others g.0.history ne); is_entry = is.0.is_entry; key = is.0.key; early = is.0.early }, is.1, ne);
      complete = λ j history entry low ne is_history is_entry early.
          let found = are.complete j history entry low is_history (subst (λ a. slice_get history a ≡ Some entry) (move.others j ne) is_entry) early in
          ⊎_elim (λ (same : found.0 ≡ h). absurd (ne (sym found.2 ∙ ap (λ (g : Reverse Head). g.0.history) same)))
          (λ (among : Among found.0 rest). (found.0, among, found.2))
          (among_moved found.0 old (h ∷ rest) popped found.1);
      once = λ j.
          let all = sum_by-IsPermutation (is_of j) old (h ∷ rest) popped in
          let sum = sum_by-cons (is_of j) h rest in
          let most = are.once j in
          omega (arith, all, sum);
      none = none;
    }

-- ---- the least head is the least of all that is left

-- the head of a history of which y is left
pub record IsAhead (lists : List (List Entry)) (below : ℕ) (at : ℕ → ℕ) (heads : List (Reverse Head)) (y : Entry) (j : ℕ) : Type 0 where
  pub head : Reverse Head
  pub among : Among head heads
  pub history : head.0.history ≡ j
  pub late : comes_before y.key head.0.key ≡ false

ahead_of : (lists : List (List Entry)) (below : ℕ) (at : ℕ → ℕ) (n : ℕ) (heads : List (Reverse Head)) (y : Entry) (j : ℕ) → ((history : List Entry) → Among history lists → IsInOrder history) → n ≡ length lists → AreHeads lists below at n heads → IsLeft below at lists y j
    → IsAhead lists below at heads y j
ahead_of lists below at n heads y j order count are left =
    let within = within_of lists j left.history left.is in
    let first = first_of below left.history (at j) y (order left.history (place_among lists j left.history left.is)) left.left in
    let found = are.complete j left.history first.0 (omega arith) left.is first.1.is first.1.early in
    let is = (are.sound found.0 found.1).0 in
    let one : is.history ≡ left.history = same_some (slice_get lists j) is.history left.history (subst (λ k. slice_get lists k ≡ Some is.history) found.2 is.is_history) left.is in
    let place : found.0.0.at ≡ at j = is.place ∙ ap at found.2 in
    let entry : is.entry ≡ first.0 = same_some (slice_get left.history (at j)) is.entry first.0
    (subst (λ a. slice_get left.history a ≡ Some is.entry) place (subst (λ xs. slice_get xs found.0.0.at ≡ Some is.entry) one is.is_entry)) first.1.is in
    let key = is.key ∙ ap (λ (e : Entry). e.key) entry in
    record { head = found.0; among = found.1; history = found.2; late = subst (λ k. comes_before y.key k ≡ false) (sym key) first.1.late }

pub taken_least : (lists : List (List Entry)) (below : ℕ) (at after : ℕ → ℕ) (n : ℕ) (old : List (Reverse Head)) (h : Reverse Head) (history : List Entry) (e : Entry) → ((xs : List Entry) → Among xs lists → IsInOrder xs) → n ≡ length lists
    → AreHeads lists below at n old → IsUpperBound head_order h old → IsMoved at after h.0.history → slice_get lists h.0.history ≡ Some history → slice_get history (at h.0.history) ≡ Some e → nat_lt e.key.time below ≡ true → h.0.key ≡ e.key
    → left_in_order lists below at ≡ e ∷ left_in_order lists below after
taken_least lists below at after n old h history e order count are bound move is_history is_entry early key =
    let i = h.0.history in
    let split = split_left below at after lists i history e move is_history is_entry early in
    let not_less : (g : Reverse Head) → Among g old → is_lt (head_cmp g.0 h.0) ≡ false = λ g among. all_among (λ (x : Reverse Head). is_lt (head_cmp x.0 h.0) ≡ false) old g bound among in
    let before : (y : Entry) → Among y split.pre → IsBefore e.key y.key = λ y among.
    let found = split.first y among in
    let low = found.1 in
    let ahead = ahead_of lists below at n old y found.0 order count are found.2 in
    let its = ahead.history in
    let less = head_history ahead.head.0 h.0 (not_less ahead.head ahead.among) (omega arith) in
    before_then e.key ahead.head.0.key y.key (subst (λ k. IsBefore k ahead.head.0.key) key less) ahead.late in
    let behind : (y : Entry) → Among y split.post → comes_before y.key e.key ≡ false = λ y among.
    ⊎_elim (λ (own : Among y (drop (suc (at i)) history)). after_of history (at i) e y (order history (place_among lists i history is_history)) is_entry own)
    (λ (other : (j : ℕ) × (i < j) × IsLeft below at lists y j).
    let ahead = ahead_of lists below at n old y other.0 order count are other.2 in
    let late = head_key ahead.head.0 h.0 (not_less ahead.head ahead.among) in
    late_then e.key ahead.head.0.key y.key (subst (λ k. comes_before ahead.head.0.key k ≡ false) key late) ahead.late)
    (split.last y among) in
    ap (λ xs. in_key_order xs) split.is ∙ (least_first e split.pre split.post before behind ∙ ap (λ xs. e ∷ in_key_order xs) (sym split.then))

-- where no head is left, nothing is
none_left : (xs : List Entry) → ((y : Entry) → Among y xs → ⊥) → xs ≡ []
none_left [] f = refl
none_left (x ∷ xs) f = absurd (f x (inl refl))

pub nothing_left : (lists : List (List Entry)) (below : ℕ) (at : ℕ → ℕ) (n : ℕ) → ((xs : List Entry) → Among xs lists → IsInOrder xs) → n ≡ length lists → AreHeads lists below at n [] → left_in_order lists below at ≡ []
nothing_left lists below at n order count are =
    ap (λ xs. in_key_order xs) (none_left (left_from below at lists) (λ y among.
    let left = left_of below at lists y among in
    let ahead = ahead_of lists below at n [] y left.0 order count are left.1 in
    ahead.among))
