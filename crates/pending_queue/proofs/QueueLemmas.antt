-- What a queue's items say of its model.
use Rattle.std.proofs.Common.{◌≡◌, ℕ, ◌<◌, ◌↔◌, true, false, Bor, List, [], ◌∷◌, ◌++◌, length, Option, Some, None, IsNone, IfSome, take, drop, refl, sym, ap, ◌∙◌, subst, arith}
use Rattle.std.proofs.lemmas.List.{append-nil, take_all, drop_all}
use Rattle.std.specs.List.{slice_get, slice_index_or, swap_remove}
use Rattle.std.specs.Option.{option_copied}
use Rattle.std.specs.List.Sorted.{IsPermutation}
use Rattle.std.proofs.lemmas.List.Sorted.{IsPermutation-refl, IsPermutation-sym, IsPermutation-trans, IsPermutation-cons, IsPermutation-to_front, IsPermutation-swap_remove}
use Rattle.event_order.specs.declared.key.Key.{Key}
use Rattle.event_order.specs.Pending.{put, Among, IsRising, IsApart}
use Rattle.pending_queue.specs.Heap.{IsHeap}
use Rattle.pending_queue.specs.Queue.{Queue, queue, sorted, IsQueue}
use Rattle.pending_queue.proofs.HeapLemmas.{top_first}
use Rattle.pending_queue.proofs.SortLemmas.{apart_permuted, in_sorted, sorted_rises, sorted_more, sorted_less, length_sorted}

module _ {T : Type 0} where
  -- the items of a vector whose slice was lent and came back
  pub back : (xs ys : List T) (n : ℕ) → n ≡ length xs → length ys ≡ length xs → take n (ys ++ drop (length ys) xs) ≡ ys
  back xs ys n e f =
      let none : drop (length ys) xs ≡ [] = drop_all (length ys) xs (omega arith) in
      rw (none, append-nil) (take_all n ys (omega arith))

  -- what a look at the first item says, where the list in order has the same one
  pub first_none : (o : Option (Bor T)) (xs : List T) → option_copied o ≡ slice_get xs 0 → IsNone o ↔ (xs ≡ [])
  first_none None [] e = ((λ h. refl), λ h. refl)
  first_none None (x ∷ xs) e = absurd (cc)
  first_none (Some r) [] e = absurd (cc)
  first_none (Some r) (x ∷ xs) e = ((λ h. absurd (cc)), λ h. absurd (cc))

  pub first_some : (o : Option (Bor T)) (xs : List T) → option_copied o ≡ slice_get xs 0 → IfSome o (λ r. slice_get xs 0 ≡ Some r.now)
  first_some None xs e = tt
  first_some (Some r) xs e = sym e

  -- some item was taken out
  pub none_taken : (xs : List T) → 0 < length xs → (true ≡ false → xs ≡ []) × (xs ≡ [] → true ≡ false)
  none_taken [] l = absurd (omega arith)
  none_taken (x ∷ xs) l = ((λ h. absurd (cc)), λ h. absurd (cc))

  module _ (key : T → Key) where
    pub rises : (xs : List T) (spare : ℕ) (q : Queue T) → IsQueue key xs → queue (sorted key xs) spare ≡ q → IsRising key q.items
    rises xs spare q is e = subst (λ (p : Queue T). IsRising key p.items) e (sorted_rises key xs is.apart)

    pub counted : (xs : List T) (spare : ℕ) (q : Queue T) → queue (sorted key xs) spare ≡ q → length q.items ≡ length xs
    counted xs spare q e = ap (λ (p : Queue T). length p.items) (sym e) ∙ length_sorted key xs

    -- the first item of the list in order is the one on top
    pub first_sorted : (xs : List T) → IsQueue key xs → slice_get (sorted key xs) 0 ≡ slice_get xs 0
    first_sorted [] is = refl
    first_sorted (x ∷ xs) is = ap (λ l. slice_get l 0) (sorted_less key x (x ∷ xs) xs (IsPermutation-refl (x ∷ xs)) is.apart (top_first key (x ∷ xs) x refl (omega arith) is.heap))

    -- an item was put behind the others, and rose
    pub came : (x : T) (xs mid ys : List T) → IsQueue key xs → ((y : T) → Among y (sorted key xs) → key y ≡ key x → ⊥) → mid ≡ xs ++ x ∷ [] → IsPermutation mid ys → IsHeap key ys → IsQueue key ys × (sorted key ys ≡ put key x (sorted key xs))
    came x xs mid ys is new e p heap =
        let parted : IsApart key (x ∷ xs) = ((λ y a same. new y (in_sorted key y xs a) (sym same)), is.apart) in
        let front = IsPermutation-sym (xs ++ x ∷ []) (x ∷ xs) (IsPermutation-to_front xs x) in
        let all = IsPermutation-trans (x ∷ xs) mid ys (subst (λ l. IsPermutation (x ∷ xs) l) (sym e) front) p in
        (record { heap = heap; apart = apart_permuted key (x ∷ xs) ys all parted }, sorted_more key x xs ys all parted)

    -- the item on top was taken out, and the last one settled in its place
    pub went : (x : T) (xs mid ys : List T) → IsQueue key xs → 0 < length xs → x ≡ slice_index_or xs 0 x → mid ≡ swap_remove xs 0 x → IsPermutation mid ys → IsHeap key ys → IsQueue key ys × (sorted key xs ≡ x ∷ sorted key ys)
    went x xs mid ys is some top e p heap =
        let all = IsPermutation-trans xs (x ∷ mid) (x ∷ ys) (subst (λ l. IsPermutation xs (x ∷ l)) (sym e) (IsPermutation-swap_remove xs 0 x some top)) (IsPermutation-cons x mid ys p) in
        let parted : IsApart key (x ∷ ys) = apart_permuted key xs (x ∷ ys) all is.apart in
        (record { heap = heap; apart = parted.1 }, sorted_less key x xs ys all is.apart (top_first key xs x top some is.heap))
