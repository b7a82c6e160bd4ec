-- Lists of entries in key order, their parts, and several of them one after another.
use Rattle.std.proofs.Common.{◌≡◌, ℕ, zero, suc, ◌+◌, ◌*◌, ◌<◌, ◌≤◌, Bool, true, nat_le, List, [], ◌∷◌, ◌++◌, length, map, refl, sym, ap, ◌∙◌, subst, inl, inr, arith, Option, Some, None, option_map, slice_get, length-append}
use Rattle.std.specs.List.{filter}
use Rattle.event_order.specs.declared.key.Key.{Key}
use Rattle.event_order.specs.Order.{IsBefore, comes_before}
use Rattle.event_order.specs.Pending.{Among, IsRising, IsApart}
use Rattle.event_order.proofs.Order.{before_time, before_asym}
use Rattle.event_order.proofs.Pending.{test_cases, append_among, among_append_left, among_append_right, rising_apart}
use Rattle.event_order.proofs.Steps.{le_true, le_false, le_test}
use Rattle.ssf_model.specs.declared.event.Entry.{Entry}
use Rattle.trace_writer.specs.Merging.{IsInOrder}
use Rattle.trace_writer.specs.Report.{events_of}
use Rattle.core_rules.proofs.Lists.{none_some, one_of, get_map}

abbrev pub key_in : Entry → Key
key_in x = x.key

module _ {T : Type 0} where
  pub no_items : (xs : List T) → length xs ≡ 0 → xs ≡ []
  no_items [] h = refl
  no_items (x ∷ xs) h = absurd (omega arith)

  -- two lists with parts of the same length have the same parts
  pub same_parts : (xs ys us ws : List T) → length xs ≡ length us → xs ++ ys ≡ us ++ ws → (xs ≡ us) × (ys ≡ ws)
  same_parts [] ys [] ws long same = (refl, same)
  same_parts [] ys (u ∷ us) ws long same = absurd (omega arith)
  same_parts (x ∷ xs) ys [] ws long same = absurd (omega arith)
  same_parts (x ∷ xs) ys (u ∷ us) ws long same =
      let head : x ≡ u = cc in
      let tail : xs ++ ys ≡ us ++ ws = cc in
      let rest = same_parts xs ys us ws (omega arith) tail in
      (ap (λ y. y ∷ xs) head ∙ ap (λ zs. u ∷ zs) rest.0, rest.1)

  pub all_pass : (p : T → Bool) (xs : List T) → ((x : T) → Among x xs → p x ≡ true) → filter p xs ≡ xs
  all_pass p [] all = refl
  all_pass p (x ∷ xs) all = rw (all x (inl refl)) (ap (λ ys. x ∷ ys) (all_pass p xs (λ y a. all y (inr a))))

mapped : {T U : Type 0} (f : T → U) (o : Option T) (u : U) → option_map f o ≡ Some u → (t : T) × (o ≡ Some t) × (f t ≡ u)
mapped f None u h = absurd (none_some u h)
mapped f (Some t) u h = (t, refl, one_of (f t) u h)

-- what stands at a place of a mapped list
pub map_there : {T U : Type 0} (f : T → U) (xs : List T) (i : ℕ) (u : U) → slice_get (map f xs) i ≡ Some u → (t : T) × (slice_get xs i ≡ Some t) × (f t ≡ u)
map_there f xs i u got = mapped f (slice_get xs i) u (sym (get_map f xs i) ∙ got)

-- ---- key order

-- the later part of a list in key order, and two of them where one is before the other
pub rising_rest : (xs ys : List Entry) → IsRising key_in (xs ++ ys) → IsRising key_in ys
rising_rest [] ys r = r
rising_rest (x ∷ xs) ys r = rising_rest xs ys r.1

pub rising_both : (xs ys : List Entry) → IsRising key_in xs → IsRising key_in ys → ((x y : Entry) → Among x xs → Among y ys → IsBefore x.key y.key) → IsRising key_in (xs ++ ys)
rising_both [] ys r q before = q
rising_both (x ∷ xs) ys r q before = (
  (λ y a. elim (append_among y xs ys a) [ inl b ↦ r.0 y b | inr b ↦ before x y (inl refl) b ]),
  rising_both xs ys r.1 q (λ z y a b. before z y (inr a) b),
)

pub in_order : (xs : List Entry) → IsRising key_in xs → IsInOrder xs
in_order [] r = tt
in_order (x ∷ xs) r = (
  (λ y a. elim (test_cases (comes_before y.key x.key)) [ inl t ↦ absurd (before_asym x.key y.key (r.0 y a) t) | inr f ↦ f ]),
  in_order xs r.1,
)

-- the entries of a list in key order with times from `below` on are its last ones
pub record IsSplitAt (below : ℕ) (xs : List Entry) : Type 0 where
  pub low : List Entry
  pub whole : low ++ filter (λ (x : Entry). nat_le below x.key.time) xs ≡ xs
  pub before : (x : Entry) → Among x low → x.key.time < below

pub split_at : (below : ℕ) (xs : List Entry) → IsRising key_in xs → IsSplitAt below xs
split_at below [] r = record { low = []; whole = refl; before = λ x a. absurd a }
split_at below (x ∷ xs) r = elim (test_cases (nat_le below x.key.time)) [
  | inl t ↦ record {
    low = [];
    whole = rw t (ap (λ ys. x ∷ ys) (all_pass (λ (y : Entry). nat_le below y.key.time) xs (λ y a. le_test below y.key.time (let low = le_true below x.key.time t in let later = before_time x.key y.key (r.0 y a) in omega arith))));
    before = λ y a. absurd a;
  }
  | inr f ↦ (let rest = split_at below xs r.1 in record {
    low = x ∷ rest.low;
    whole = rw f (ap (λ ys. x ∷ ys) rest.whole);
    before = λ y a. elim a [ inl same ↦ subst (λ (z : Entry). z.key.time < below) (sym same) (le_false below x.key.time f) | inr b ↦ rest.before y b ];
  })
]

-- ---- several histories

-- an entry of one of them
pub record IsIn (hs : List (List Entry)) (x : Entry) : Type 0 where
  pub index : ℕ
  pub history : List Entry
  pub at : slice_get hs index ≡ Some history
  pub among : Among x history

pub in_events : (hs : List (List Entry)) (x : Entry) → Among x (events_of hs) → IsIn hs x
in_events [] x a = absurd a
in_events (h ∷ hs) x a = elim (append_among x h (events_of hs) a) [
  | inl b ↦ record { index = 0; history = h; at = refl; among = b }
  | inr b ↦ (let rest = in_events hs x b in record { index = suc rest.index; history = rest.history; at = rest.at; among = rest.among })
]

pub events_in : (hs : List (List Entry)) (i : ℕ) (h : List Entry) (x : Entry) → slice_get hs i ≡ Some h → Among x h → Among x (events_of hs)
events_in [] i h x at a = absurd (none_some h at)
events_in (k ∷ hs) zero h x at a = among_append_left x k (events_of hs) (subst (λ ys. Among x ys) (sym (one_of k h at)) a)
events_in (k ∷ hs) (suc i) h x at a = among_append_right x k (events_of hs) (events_in hs i h x at a)

apart_both : (xs ys : List Entry) → IsApart key_in xs → IsApart key_in ys → ((x y : Entry) → Among x xs → Among y ys → x.key ≡ y.key → ⊥) → IsApart key_in (xs ++ ys)
apart_both [] ys p q apart = q
apart_both (x ∷ xs) ys p q apart = (
  (λ y a e. elim (append_among y xs ys a) [ inl b ↦ p.0 y b e | inr b ↦ apart x y (inl refl) b e ]),
  apart_both xs ys p.1 q (λ z y a b. apart z y (inr a) b),
)

-- where each is in key order, and no key stands in two of them, no key stands twice
pub events_apart : (hs : List (List Entry)) → ((i : ℕ) (h : List Entry) → slice_get hs i ≡ Some h → IsRising key_in h)
    → ((i j : ℕ) (h k : List Entry) (x y : Entry) → slice_get hs i ≡ Some h → slice_get hs j ≡ Some k → Among x h → Among y k → x.key ≡ y.key → i ≡ j) → IsApart key_in (events_of hs)
events_apart [] rise one = tt
events_apart (h ∷ hs) rise one = apart_both h (events_of hs) (rising_apart key_in h (rise 0 h refl))
    (events_apart hs (λ i k at. rise (suc i) k at) (λ i j a b x y at there c d e. (let same = one (suc i) (suc j) a b x y at there c d e in omega arith)))
    (λ x y a b e. (let q = in_events hs y b in let same = one 0 (suc q.index) h q.history x y refl q.at a q.among e in absurd (omega arith)))

-- together they have at most so many entries
pub events_most : (hs : List (List Entry)) → ((i : ℕ) (h : List Entry) → slice_get hs i ≡ Some h → length h ≤ 1000000000000) → length (events_of hs) ≤ length hs * 1000000000000
events_most [] most = omega arith
events_most (h ∷ hs) most =
    let rest = events_most hs (λ i k at. most (suc i) k at) in
    let first = most 0 h refl in
    let long : length (events_of (h ∷ hs)) ≡ length h + length (events_of hs) = length-append h (events_of hs) in
    omega (arith, rest, first, long)
