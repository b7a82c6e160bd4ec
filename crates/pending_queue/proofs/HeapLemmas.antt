-- Items that go up and down in a heap.
use Rattle.std.proofs.Common.{◌≡◌, ℕ, zero, suc, ◌+◌, ◌*◌, ◌<◌, ◌≤◌, ◌≢◌, Bool, true, false, List, length, Some, refl, sym, ap, ◌∙◌, inl, inr, arith}
use Rattle.std.proofs.lemmas.Bool.{cases_eq}
use Rattle.std.proofs.lemmas.Option.{slice_get-get_or, get_or_from_slice_get}
use Rattle.std.specs.List.{slice_index_or, SwappedAt, SameBelow}
use Rattle.event_order.specs.declared.key.Key.{Key}
use Rattle.event_order.specs.Order.{comes_before}
use Rattle.pending_queue.specs.Heap.{above, AreInOrder, IsHeap, IsHeapBut, IsOverAll, CanRise}
use Rattle.event_order.specs.Pending.{Among}
use Rattle.pending_queue.proofs.SortLemmas.{among_held}
use Rattle.pending_queue.proofs.KeyLemmas.{at_most_itself, at_most_later, at_most_trans}

module _ {T : Type 0} (key : T → Key) where
  -- two items in order are so at other places of another list
  moved : (xs ys : List T) (p q p' q' : ℕ) → ((d : T) → slice_index_or ys p d ≡ slice_index_or xs p' d) → ((d : T) → slice_index_or ys q d ≡ slice_index_or xs q' d) → AreInOrder key xs p' q' → AreInOrder key ys p q
  moved xs ys p q p' q' e f h d = (λ i. comes_before (key (f d i)) (key (e d i))) ∙ h d

  -- the same in one list, at an equal place
  there : (xs : List T) (p p' q : ℕ) → p ≡ p' → AreInOrder key xs p' q → AreInOrder key xs p q
  there xs p p' q e h = moved xs xs p q p' q (λ d. ap (λ k. slice_index_or xs k d) e) (λ d. refl) h

  pub in_order_itself : (xs : List T) (p : ℕ) → AreInOrder key xs p p
  in_order_itself xs p d = at_most_itself (key (slice_index_or xs p d))

  pub in_order_trans : (xs : List T) (p q r : ℕ) → AreInOrder key xs p q → AreInOrder key xs q r → AreInOrder key xs p r
  in_order_trans xs p q r h k d = at_most_trans _ _ _ (h d) (k d)

  pub in_order_same : (xs : List T) (p q : ℕ) → q ≡ p → AreInOrder key xs p q
  in_order_same xs p q e = there xs p q q (sym e) (in_order_itself xs q)

  -- the item at one place comes before none of so many, and the next place joins them
  pub least_more : (xs : List T) (first child least next : ℕ) → AreInOrder key xs next least → AreInOrder key xs next child → ((c : ℕ) → first ≤ c → c < child → AreInOrder key xs least c) →
      (c : ℕ) → first ≤ c → c < child + 1 → AreInOrder key xs next c
  least_more xs first child least next h k all c a b = elim (cases_eq c child) [
    | inl e ↦ in_order_trans xs next child c k (in_order_same xs child c e)
    | inr n ↦ in_order_trans xs next least c h (all c a (omega arith))
  ]

  -- of two pairs of places, one that is in order with the lesser of both
  pub least_of_pairs : (xs : List T) (first left right least : ℕ) → AreInOrder key xs left first → AreInOrder key xs left (first + 1) → AreInOrder key xs right (first + 2) → AreInOrder key xs right (first + 3) →
      AreInOrder key xs least left → AreInOrder key xs least right → (c : ℕ) → first ≤ c → c < first + 4 → AreInOrder key xs least c
  least_of_pairs xs first left right least a b d e l r c from to = elim (cases_eq c first) [
    | inl s ↦ in_order_trans xs least left c l (in_order_trans xs left first c a (in_order_same xs first c s))
    | inr n ↦ elim (cases_eq c (first + 1)) [
      | inl s ↦ in_order_trans xs least left c l (in_order_trans xs left (first + 1) c b (in_order_same xs (first + 1) c s))
      | inr m ↦ elim (cases_eq c (first + 2)) [
        | inl s ↦ in_order_trans xs least right c r (in_order_trans xs right (first + 2) c d (in_order_same xs (first + 2) c s))
        | inr o ↦ in_order_trans xs least right c r (in_order_trans xs right (first + 3) c e (in_order_same xs (first + 3) c (omega arith)))
      ]
    ]
  ]

  -- the key of an item that was read, at any default
  pub key_read : (xs : List T) (i : ℕ) (x : T) (k : Key) → i < length xs → x ≡ slice_index_or xs i x → k ≡ key x → (d : T) → k ≡ key (slice_index_or xs i d)
  key_read xs i x k inside is e d = e ∙ ap key (sym (get_or_from_slice_get xs i x d (slice_get-get_or xs i x inside ∙ ap Some (sym is))))

  -- what a test of two keys that were read says of the items
  pub read_test : (xs : List T) (p q : ℕ) (j k : Key) (b : Bool) → ((d : T) → j ≡ key (slice_index_or xs p d)) → ((d : T) → k ≡ key (slice_index_or xs q d)) → b ≡ comes_before j k → (d : T) → comes_before (key (slice_index_or xs p d)) (key (slice_index_or xs q d)) ≡ b
  read_test xs p q j k b e f t d = sym (t ∙ (λ i. comes_before (e d i) (f d i)))

  pub read_before : (xs : List T) (p q : ℕ) (j k : Key) (b : Bool) → ((d : T) → j ≡ key (slice_index_or xs p d)) → ((d : T) → k ≡ key (slice_index_or xs q d)) → b ≡ comes_before j k → b ≡ true → AreInOrder key xs p q
  read_before xs p q j k b e f t h d = at_most_later _ _ (read_test xs p q j k b e f t d ∙ h)

  -- ---- up

  module _ (xs ys : List T) (at : ℕ) (some : 0 < at) (inside : at < length xs) (len : length ys ≡ length xs) (s : SwappedAt xs ys (above at) at)
      (less : (d : T) → comes_before (key (slice_index_or xs at d)) (key (slice_index_or xs (above at) d)) ≡ true) (can : CanRise key xs at) where
    behind : (c : ℕ) → 0 < c → c < length ys → above c ≡ above at → c ≢ at → AreInOrder key xs (above at) c
    behind c z l e n = there xs (above at) (above c) c (sym e) (can.0.0 c z (omega arith) n (omega arith))

    rise_but : (c : ℕ) → 0 < c → c < length ys → c ≢ above at → above c ≢ above at → AreInOrder key ys (above c) c
    rise_but c z l n m =
        let other : c ≢ at = λ e. m (ap above e) in
        elim (cases_eq (above c) at) [
          | inl e ↦ moved xs ys (above c) c (above at) c (λ d. ap (λ k. slice_index_or ys k d) e ∙ s.1 d) (λ d. s.2 c d n other) (can.0.1 c some (omega arith) e)
          | inr w ↦ moved xs ys (above c) c (above c) c (λ d. s.2 (above c) d m w) (λ d. s.2 c d n other) (can.0.0 c z (omega arith) other w)
        ]

    rise_below : (c : ℕ) → 0 < above at → c < length ys → above c ≡ above at → AreInOrder key ys (above (above at)) c
    rise_below c z l e =
        let first : above (above at) ≢ above at = omega arith in
        let second : above (above at) ≢ at = omega arith in
        let over = can.0.0 (above at) z (omega arith) (omega arith) second in
        elim (cases_eq c at) [
          | inl same ↦ moved xs ys (above (above at)) c (above (above at)) (above at) (λ d. s.2 _ d first second) (λ d. ap (λ k. slice_index_or ys k d) same ∙ s.1 d) over
          | inr n ↦ moved xs ys (above (above at)) c (above (above at)) c (λ d. s.2 _ d first second) (λ d. s.2 c d (omega arith) n)
              (in_order_trans xs _ _ _ over (behind c (omega arith) l e n))
        ]

    rise_over : IsOverAll key ys (above at)
    rise_over c z l e = elim (cases_eq c at) [
      | inl same ↦ moved xs ys (above at) c at (above at) s.0 (λ d. ap (λ k. slice_index_or ys k d) same ∙ s.1 d) (λ d. at_most_later _ _ (less d))
      | inr n ↦ moved xs ys (above at) c at c s.0 (λ d. s.2 c d (omega arith) n) (in_order_trans xs at (above at) c (λ d. at_most_later _ _ (less d)) (behind c z l e n))
    ]

    pub rise_steps : CanRise key ys (above at)
    rise_steps = ((rise_but, rise_below), rise_over)

  -- the item has come to its place, where it stands on top or comes after the one above it
  pub rise_ends : (xs : List T) (at : ℕ) → (0 < at → AreInOrder key xs (above at) at) → CanRise key xs at → IsHeap key xs
  rise_ends xs at ends can c z l = elim (cases_eq c at) [
    | inl same ↦ moved xs xs (above c) c (above at) at (λ d. ap (λ k. slice_index_or xs (above k) d) same) (λ d. ap (λ k. slice_index_or xs k d) same) (ends (omega arith))
    | inr n ↦ elim (cases_eq (above c) at) [ inl e ↦ there xs (above c) at c e (can.1 c z l e) | inr w ↦ can.0.0 c z l n w ]
  ]

  -- an item was put behind a heap
  pub rise_begins : (xs ys : List T) → length ys ≡ length xs + 1 → SameBelow xs ys (length xs) → IsHeap key xs → CanRise key ys (length xs)
  rise_begins xs ys len same heap = (
    (
      λ c z l n m. let low : c < length xs = omega arith in moved xs ys (above c) c (above c) c (λ d. same (above c) d (omega arith)) (λ d. same c d low) (heap c z low),
      λ c z l e. absurd (omega arith),
    ),
    λ c z l e. absurd (omega arith),
  )

  -- ---- down

  module _ (xs ys : List T) (at child : ℕ) (from : 4 * at + 1 ≤ child) (to : child < 4 * at + 1 + 4) (inside : child < length xs) (len : length ys ≡ length xs) (s : SwappedAt xs ys at child)
      (least : (c : ℕ) → 4 * at + 1 ≤ c → c < 4 * at + 1 + 4 → c < length xs → AreInOrder key xs child c) (but : IsHeapBut key xs at) where
    sink_but : (c : ℕ) → 0 < c → c < length ys → c ≢ child → above c ≢ child → AreInOrder key ys (above c) c
    sink_but c z l n m = elim (cases_eq c at) [
      | inl same ↦ moved xs ys (above c) c (above at) child (λ d. ap (λ k. slice_index_or ys (above k) d) same ∙ s.2 (above at) d (omega arith) (omega arith))
          (λ d. ap (λ k. slice_index_or ys k d) same ∙ s.0 d) (but.1 child (omega arith) inside (omega arith))
      | inr other ↦ elim (cases_eq (above c) at) [
        | inl e ↦ moved xs ys (above c) c child c (λ d. ap (λ k. slice_index_or ys k d) e ∙ s.0 d) (λ d. s.2 c d other n) (least c (omega arith) (omega arith) (omega arith))
        | inr w ↦ moved xs ys (above c) c (above c) c (λ d. s.2 (above c) d w m) (λ d. s.2 c d other n) (but.0 c z (omega arith) other w)
      ]
    ]

    sink_below : (c : ℕ) → 0 < child → c < length ys → above c ≡ child → AreInOrder key ys (above child) c
    sink_below c z l e =
        let top : above child ≡ at = omega arith in
        moved xs ys (above child) c child c (λ d. ap (λ k. slice_index_or ys k d) top ∙ s.0 d) (λ d. s.2 c d (omega arith) (omega arith))
        (there xs child (above c) c (sym e) (but.0 c (omega arith) (omega arith) (omega arith) (omega arith)))

    pub sink_steps : IsHeapBut key ys child
    sink_steps = (sink_but, sink_below)

  pub sink_ends : (xs : List T) (at : ℕ) → length xs ≤ 4 * at + 1 → IsHeapBut key xs at → CanRise key xs at
  sink_ends xs at leaf but = (but, λ c z l e. absurd (omega arith))

  -- the first item of a heap was taken out, and another stands there
  pub sink_begins : (xs ys : List T) → length ys + 1 ≡ length xs → ((k : ℕ) (d : T) → k ≢ 0 → k + 1 < length xs → slice_index_or ys k d ≡ slice_index_or xs k d) → IsHeap key xs → IsHeapBut key ys 0
  sink_begins xs ys len same heap = (
    λ c z l n m. moved xs ys (above c) c (above c) c (λ d. same (above c) d m (omega arith)) (λ d. same c d n (omega arith)) (heap c z (omega arith)),
    λ c z l e. absurd (omega arith),
  )

  -- ---- the top

  pub top_least : (xs : List T) → IsHeap key xs → (fuel k : ℕ) → k ≤ fuel → k < length xs → AreInOrder key xs 0 k
  top_least xs heap zero k a l = there xs 0 k k (omega arith) (in_order_itself xs k)
  top_least xs heap (suc fuel) k a l = elim (cases_eq k 0) [
    | inl e ↦ there xs 0 k k (sym e) (in_order_itself xs k)
    | inr n ↦ in_order_trans xs 0 (above k) k (top_least xs heap fuel (above k) (omega arith) (omega arith)) (heap k (omega arith) l)
  ]

  -- no item comes before the one on top
  pub top_first : (xs : List T) (x : T) → x ≡ slice_index_or xs 0 x → 0 < length xs → IsHeap key xs → (y : T) → Among y xs → comes_before (key y) (key x) ≡ false
  top_first xs x is some heap y a =
      let at = among_held y xs a in
      let own = key_read xs at.0 y (key y) at.1 (sym at.2) refl y in
      let top = key_read xs 0 x (key x) some is refl y in
      (λ i. comes_before (own i) (top i)) ∙ top_least xs heap at.0 at.0 (omega arith) at.1 y
