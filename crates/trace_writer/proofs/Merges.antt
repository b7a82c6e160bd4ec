-- Merging: of what is left of several histories the least is one of the entries that come next.
use Rattle.std.proofs.Common.{◌≡◌, subst, ℕ, zero, suc, ◌<◌, ◌≤◌, ◌⊎◌, Bool, true, false, cond, nat_eq, nat_lt, List, [], ◌∷◌, ◌++◌, drop, append_assoc, Some, slice_get, refl, sym, ◌∙◌, ap, inl, inr, arith, ⊎_elim}
use Rattle.std.specs.Ordering.{nat_cmp, is_lt, ordering_then, ordering_reverse}
use Rattle.std.specs.declared.cmp.Ordering.{Ordering}
use Rattle.std.specs.declared.cmp.Ordering.TheVariants.{Less, Equal, Greater}
use Rattle.std.proofs.lemmas.Bool.{eq-eqb, ne_eqb, ltb-true, lt-ltb, cases_lt}
use Rattle.event_order.specs.declared.key.Key.{Key}
use Rattle.event_order.specs.Order.{comes_before, IsBefore, key_cmp}
use Rattle.event_order.specs.Pending.{Among, put, put_all}
use Rattle.event_order.proofs.Order.{before_trans, before_cases, before_irrefl, earlier, key_cmp_total}
use Rattle.event_order.proofs.Pending.{test_cases, append_among, filter_among, put_all_among}
use Rattle.ssf_model.specs.declared.event.Entry.{Entry}
use Rattle.trace_writer.specs.declared.heads.Head.{Head}
use Rattle.trace_writer.specs.Merging.{IsInOrder, entries_before, in_key_order}
use Rattle.trace_writer.specs.Heads.{head_cmp, left_from, moved}

-- ---- keys

true_or : (b : Bool) → (b ≡ true → ⊥) → b ≡ false
true_or b f = ⊎_elim (λ (t : b ≡ true). absurd (f t)) (λ (t : b ≡ false). t) (test_cases b)

not_both : (b : Bool) → b ≡ true → b ≡ false → ⊥
not_both b t f = let both : true ≡ false = sym t ∙ f in cc

-- y is not before a key that is after e
pub before_then : (e f y : Key) → IsBefore e f → comes_before y f ≡ false → IsBefore e y
before_then e f y less late =
    ⊎_elim (λ (h : IsBefore e y). h)
    (λ (o : (e ≡ y) ⊎ IsBefore y e). ⊎_elim
    (λ (same : e ≡ y). let P : Key → Type 0 = λ k. IsBefore k f in absurd (not_both (comes_before y f) (subst P same less) late))
    (λ (h : IsBefore y e). absurd (not_both (comes_before y f) (before_trans y e f h less) late)) o)
    (before_cases e y)

-- y is not before f, and f not before e
pub late_then : (e f y : Key) → comes_before f e ≡ false → comes_before y f ≡ false → comes_before y e ≡ false
late_then e f y first late = true_or (comes_before y e) (λ less.
    ⊎_elim (λ (h : IsBefore f e). not_both (comes_before f e) h first)
    (λ (o : (f ≡ e) ⊎ IsBefore e f). ⊎_elim
    (λ (same : f ≡ e). let P : Key → Type 0 = λ k. IsBefore y k in not_both (comes_before y f) (subst P (sym same) less) late)
    (λ (h : IsBefore e f). not_both (comes_before y f) (before_trans y e f less h) late) o)
    (before_cases f e))

not_itself : (a : Key) → comes_before a a ≡ false
not_itself a = true_or (comes_before a a) (before_irrefl a)

late_time : (a b : Key) → comes_before b a ≡ false → a.time ≤ b.time
late_time a b late = ⊎_elim (λ (less : b.time < a.time). absurd (not_both (comes_before b a) (earlier b a less) late)) (λ (h : a.time ≤ b.time). h) (cases_lt b.time a.time)

first_not : (s r : Ordering) → is_lt (ordering_then s r) ≡ false → is_lt s ≡ false
first_not Less r h = h
first_not Equal r h = refl
first_not Greater r h = refl

greater_turned : (s t : Ordering) → s ≡ ordering_reverse t → s ≡ Greater → is_lt t ≡ true
greater_turned s Less e g = refl
greater_turned s Equal e g = absurd (cc)
greater_turned s Greater e g = absurd (cc)

history_less : (s : Ordering) (a b : ℕ) (r : Ordering) → is_lt (ordering_then s (ordering_then (nat_cmp a b) r)) ≡ false → a < b → s ≡ Greater
history_less Less a b r h less = absurd (cc)
history_less Equal a b r h less =
    let first : nat_cmp a b ≡ Less = ap (λ t. cond t Less (cond (nat_eq a b) Equal Greater)) (lt-ltb a b less) in
    let denied : is_lt (ordering_then Less r) ≡ false = subst (λ o. is_lt (ordering_then o r) ≡ false) first h in
    absurd (cc)
history_less Greater a b r h less = refl

pub head_key : (a b : Head) → is_lt (head_cmp a b) ≡ false → comes_before a.key b.key ≡ false
unfolding comes_before
head_key a b h = first_not (key_cmp a.key b.key) (ordering_then (nat_cmp a.history b.history) (nat_cmp a.at b.at)) h

pub head_history : (a b : Head) → is_lt (head_cmp a b) ≡ false → a.history < b.history → IsBefore b.key a.key
unfolding comes_before
head_history a b h less =
    greater_turned (key_cmp a.key b.key) (key_cmp b.key a.key) (key_cmp_total.antisymm a.key b.key)
    (history_less (key_cmp a.key b.key) a.history b.history (nat_cmp a.at b.at) h less)

-- ---- the least of a list is the first in key order

put_first : (e : Entry) (ys : List Entry) → ((y : Entry) → Among y ys → IsBefore e.key y.key) → put (λ (x : Entry). x.key) e ys ≡ e ∷ ys
put_first e [] h = refl
put_first e (y ∷ ys) h = rw (h y (inl refl)) refl

put_later : (e y : Entry) (ys : List Entry) → comes_before y.key e.key ≡ false → put (λ (x : Entry). x.key) y (e ∷ ys) ≡ e ∷ put (λ (x : Entry). x.key) y ys
put_later e y ys h = rw h refl

put_all_later : (e : Entry) (ys zs : List Entry) → ((y : Entry) → Among y ys → comes_before y.key e.key ≡ false) → put_all (λ (x : Entry). x.key) ys (e ∷ zs) ≡ e ∷ put_all (λ (x : Entry). x.key) ys zs
put_all_later e [] zs h = refl
put_all_later e (y ∷ ys) zs h =
    ap (λ ws. put_all (λ (x : Entry). x.key) ys ws) (put_later e y zs (h y (inl refl))) ∙ put_all_later e ys (put (λ (x : Entry). x.key) y zs) (λ z a. h z (inr a))

put_all_append : (xs ys zs : List Entry) → put_all (λ (x : Entry). x.key) (xs ++ ys) zs ≡ put_all (λ (x : Entry). x.key) ys (put_all (λ (x : Entry). x.key) xs zs)
put_all_append [] ys zs = refl
put_all_append (x ∷ xs) ys zs = put_all_append xs ys (put (λ (y : Entry). y.key) x zs)

only_own : (y : Entry) (xs : List Entry) → Among y xs ⊎ Among y [] → Among y xs
only_own y xs (inl a) = a
only_own y xs (inr a) = absurd a

pub least_first : (e : Entry) (pre post : List Entry) → ((y : Entry) → Among y pre → IsBefore e.key y.key) → ((y : Entry) → Among y post → comes_before y.key e.key ≡ false)
    → in_key_order (pre ++ e ∷ post) ≡ e ∷ in_key_order (pre ++ post)
least_first e pre post before after =
    let key : Entry → Key = λ x. x.key in
    put_all_append pre (e ∷ post) []
    ∙ (ap (λ zs. put_all key post zs) (put_first e (put_all key pre []) (λ y a. before y (only_own y pre (put_all_among key y pre [] a))))
    ∙ (put_all_later e post (put_all key pre []) after ∙ ap (λ zs. e ∷ zs) (sym (put_all_append pre post []))))

-- ---- what is left of one history

drop_at : (xs : List Entry) (a : ℕ) (e : Entry) → slice_get xs a ≡ Some e → drop a xs ≡ e ∷ drop (suc a) xs
drop_at [] a e h = absurd (cc)
drop_at (x ∷ xs) zero e h = let same : x ≡ e = cc in ap (λ y. y ∷ xs) same
drop_at (x ∷ xs) (suc a) e h = drop_at xs a e h

kept_first : (below : ℕ) (e : Entry) (xs : List Entry) → nat_lt e.key.time below ≡ true → entries_before below (e ∷ xs) ≡ e ∷ entries_before below xs
kept_first below e xs h = rw h refl

left_first : (below : ℕ) (xs : List Entry) (a : ℕ) (e : Entry) → slice_get xs a ≡ Some e → nat_lt e.key.time below ≡ true → entries_before below (drop a xs) ≡ e ∷ entries_before below (drop (suc a) xs)
left_first below xs a e is early = ap (λ ys. entries_before below ys) (drop_at xs a e is) ∙ kept_first below e (drop (suc a) xs) early

-- the first entry of what is left, of which y is one
pub record IsFirstOf (below a : ℕ) (xs : List Entry) (y e : Entry) : Type 0 where
  pub is : slice_get xs a ≡ Some e
  pub early : nat_lt e.key.time below ≡ true
  pub late : comes_before y.key e.key ≡ false

first_here : (below : ℕ) (x : Entry) (xs : List Entry) (y : Entry) → IsInOrder (x ∷ xs) → nat_lt y.key.time below ≡ true → Among y (x ∷ xs) → IsFirstOf below 0 (x ∷ xs) y x
first_here below x xs y order early (inl same) = record {
  is = refl;
  early = subst (λ (z : Entry). nat_lt z.key.time below ≡ true) same early;
  late = subst (λ (z : Entry). comes_before z.key x.key ≡ false) (sym same) (not_itself x.key);
}
first_here below x xs y order early (inr among) =
    let late = order.0 y among in
    let low = late_time x.key y.key late in
    let less = ltb-true y.key.time below early in
    record { is = refl; early = lt-ltb x.key.time below (omega arith); late = late }

pub first_of : (below : ℕ) (xs : List Entry) (a : ℕ) (y : Entry) → IsInOrder xs → Among y (entries_before below (drop a xs)) → (e : Entry) × IsFirstOf below a xs y e
first_of below [] zero y order among = absurd among
first_of below [] (suc a) y order among = absurd among
first_of below (x ∷ xs) zero y order among =
    let found = filter_among (λ (e : Entry). nat_lt e.key.time below) y (x ∷ xs) among in
    (x, first_here below x xs y order found.passes found.among)
first_of below (x ∷ xs) (suc a) y order among =
    let rest = first_of below xs a y order.1 among in
    (rest.0, record { is = rest.1.is; early = rest.1.early; late = rest.1.late })

pub after_of : (xs : List Entry) (a : ℕ) (e y : Entry) → IsInOrder xs → slice_get xs a ≡ Some e → Among y (drop (suc a) xs) → comes_before y.key e.key ≡ false
after_of [] a e y order is among = absurd (cc)
after_of (x ∷ xs) zero e y order is among = let same : x ≡ e = cc in subst (λ (z : Entry). comes_before y.key z.key ≡ false) same (order.0 y among)
after_of (x ∷ xs) (suc a) e y order is among = after_of xs a e y order.1 is among

-- ---- what is left of all histories

-- y is left of history j
pub record IsLeft (below : ℕ) (at : ℕ → ℕ) (histories : List (List Entry)) (y : Entry) (j : ℕ) : Type 0 where
  pub history : List Entry
  pub is : slice_get histories j ≡ Some history
  pub left : Among y (entries_before below (drop (at j) history))

left_next : (below : ℕ) (at : ℕ → ℕ) (h : List Entry) (hs : List (List Entry)) (y : Entry) (j : ℕ) → IsLeft below (λ i. at (suc i)) hs y j → IsLeft below at (h ∷ hs) y (suc j)
left_next below at h hs y j l = record { history = l.history; is = l.is; left = l.left }

pub left_of : (below : ℕ) (at : ℕ → ℕ) (hs : List (List Entry)) (y : Entry) → Among y (left_from below at hs) → (j : ℕ) × IsLeft below at hs y j
left_of below at [] y among = absurd among
left_of below at (h ∷ hs) y among =
    ⊎_elim (λ (here : Among y (entries_before below (drop (at 0) h))). (0, record { history = h; is = refl; left = here }))
    (λ (later : Among y (left_from below (λ i. at (suc i)) hs)).
    let rest = left_of below (λ i. at (suc i)) hs y later in
    (suc rest.0, left_next below at h hs y rest.0 rest.1))
    (append_among y (entries_before below (drop (at 0) h)) (left_from below (λ i. at (suc i)) hs) among)

-- one place moves on
pub record IsMoved (at after : ℕ → ℕ) (i : ℕ) : Type 0 where
  pub own : after i ≡ suc (at i)
  pub others : (j : ℕ) → (j ≡ i → ⊥) → after j ≡ at j

pub is_moved : (at : ℕ → ℕ) (i : ℕ) → IsMoved at (moved at i) i
is_moved at i = record {
  own = ap (λ b. cond b (suc (at i)) (at i)) (eq-eqb i i refl);
  others = λ j ne. ap (λ b. cond b (suc (at j)) (at j)) (ne_eqb j i ne);
}

left_same : (below : ℕ) (f g : ℕ → ℕ) (hs : List (List Entry)) → ((j : ℕ) → f j ≡ g j) → left_from below f hs ≡ left_from below g hs
left_same below f g [] same = refl
left_same below f g (h ∷ hs) same =
    ap (λ a. entries_before below (drop a h) ++ left_from below (λ i. f (suc i)) hs) (same 0)
    ∙ ap (λ ys. entries_before below (drop (g 0) h) ++ ys) (left_same below (λ i. f (suc i)) (λ i. g (suc i)) hs (λ j. same (suc j)))

-- what is left of the histories before i, and what is left behind the next entry of i
pub record IsSplit (below : ℕ) (at after : ℕ → ℕ) (hs : List (List Entry)) (i : ℕ) (history : List Entry) (e : Entry) : Type 0 where
  pub pre : List Entry
  pub post : List Entry
  pub is : left_from below at hs ≡ pre ++ e ∷ post
  pub then : left_from below after hs ≡ pre ++ post
  pub first : (y : Entry) → Among y pre → (j : ℕ) × (j < i) × IsLeft below at hs y j
  pub last : (y : Entry) → Among y post → Among y (drop (suc (at i)) history) ⊎ ((j : ℕ) × (i < j) × IsLeft below at hs y j)

split_here : (below : ℕ) (at after : ℕ → ℕ) (h : List Entry) (hs : List (List Entry)) (e : Entry) → IsMoved at after 0 → slice_get h (at 0) ≡ Some e → nat_lt e.key.time below ≡ true → IsSplit below at after (h ∷ hs) 0 h e
split_here below at after h hs e move is early =
    let behind = entries_before below (drop (suc (at 0)) h) in
    let others = left_from below (λ i. at (suc i)) hs in
    record {
      pre = [];
      post = behind ++ others;
      is = ap (λ ys. ys ++ others) (left_first below h (at 0) e is early);
      then = ap (λ a. entries_before below (drop a h) ++ left_from below (λ i. after (suc i)) hs) move.own
          ∙ ap (λ ys. behind ++ ys) (left_same below (λ i. after (suc i)) (λ i. at (suc i)) hs (λ j. move.others (suc j) (λ z. absurd (omega (arith, z)))));
      first = λ y a. absurd a;
      last = λ y a. ⊎_elim (λ (own : Among y behind). inl (filter_among (λ (x : Entry). nat_lt x.key.time below) y (drop (suc (at 0)) h) own).among)
          (λ (other : Among y others). let l = left_of below (λ i. at (suc i)) hs y other in inr (suc l.0, omega arith, left_next below at h hs y l.0 l.1))
          (append_among y behind others a);
    }

pub split_left : (below : ℕ) (at after : ℕ → ℕ) (hs : List (List Entry)) (i : ℕ) (history : List Entry) (e : Entry) → IsMoved at after i → slice_get hs i ≡ Some history → slice_get history (at i) ≡ Some e → nat_lt e.key.time below ≡ true
    → IsSplit below at after hs i history e
split_left below at after [] i history e move is at_e early = absurd (cc)
split_left below at after (h ∷ hs) zero history e move is at_e early =
    let same : h ≡ history = cc in
    subst (λ x. IsSplit below at after (h ∷ hs) 0 x e) same (split_here below at after h hs e move (subst (λ x. slice_get x (at 0) ≡ Some e) (sym same) at_e) early)
split_left below at after (h ∷ hs) (suc i) history e move is at_e early =
    let next : IsMoved (λ j. at (suc j)) (λ j. after (suc j)) i = record { own = move.own; others = λ j ne. move.others (suc j) (λ z. ne (omega (arith, z))) } in
    let rest = split_left below (λ j. at (suc j)) (λ j. after (suc j)) hs i history e next is at_e early in
    let here = entries_before below (drop (at 0) h) in
    record {
      pre = here ++ rest.pre;
      post = rest.post;
      is = ap (λ ys. here ++ ys) rest.is ∙ sym (append_assoc here rest.pre (e ∷ rest.post));
      then = ap (λ a. entries_before below (drop a h) ++ left_from below (λ j. after (suc j)) hs) (move.others 0 (λ z. absurd (omega (arith, z))))
          ∙ (ap (λ ys. here ++ ys) rest.then ∙ sym (append_assoc here rest.pre rest.post));
      first = λ y a. ⊎_elim (λ (own : Among y here). (0, omega arith, record { history = h; is = refl; left = own }))
          (λ (other : Among y rest.pre). let l = rest.first y other in let low = l.1 in (suc l.0, omega arith, left_next below at h hs y l.0 l.2))
          (append_among y here rest.pre a);
      last = λ y a. ⊎_elim (λ (own : Among y (drop (suc (at (suc i))) history)). inl own)
          (λ (other : (j : ℕ) × (i < j) × IsLeft below (λ k. at (suc k)) hs y j). let low = other.1 in inr (suc other.0, omega arith, left_next below at h hs y other.0 other.2))
          (rest.last y a);
    }
