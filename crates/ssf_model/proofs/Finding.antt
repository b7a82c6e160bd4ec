-- What the searches of an opening's test find.
use Rattle.std.proofs.Common.{length-drop, ℕ, zero, suc, ◌≡◌, ◌+◌, ◌-◌, ◌<◌, ◌≤◌, ◌↔◌, ◌∙◌, sym, ap, subst, refl, inl, inr, Bool, true, false, cond, nat_eq, List, [], ◌∷◌, map, length, drop, get_or, Some, None, slice_get, Result, Ok, Err, IsTrue, arith, eqb-true}
use Rattle.std.proofs.lemmas.Bool.Decides.{nat_tests}
use Rattle.std.specs.List.{range_with_len, find}
use Rattle.std.specs.List.Sorted.{IsStrictlyIncreasing, IsBinarySearchResult}
use Rattle.std.specs.Result.{is_ok}
use Rattle.std.specs.Ordering.{nat_cmp}
use Rattle.std.proofs.lemmas.List.Sorted.{searched}
use Rattle.std.proofs.lemmas.Bool.{cases_lt}
use Rattle.event_order.specs.declared.key.Key.{Key}
use Rattle.event_order.specs.Pending.{Among, IsRising}
use Rattle.event_order.specs.Order.{IsBefore}
use Rattle.event_order.proofs.Order.{before_trans}
use Rattle.ssf_model.specs.declared.plan.Mapping.{Mapping}
use Rattle.ssf_model.specs.Run.{HasAt, IsMessageOn}
use Rattle.ssf_model.proofs.Checks.{ahead}

-- ---- among numbers that rise

rises_by : (xs : List ℕ) (i n : ℕ) → IsStrictlyIncreasing xs → i + n < length xs → get_or xs i 0 ≤ get_or xs (i + n) 0
rises_by xs i zero rising within = let e : i + 0 ≡ i = omega arith in rw e (omega arith)
rises_by xs i (suc n) rising within =
    let rest = rises_by xs i n rising (omega arith) in
    let e : i + suc n ≡ (i + n) + 1 = omega arith in
    let step = rising (i + n) (omega arith) in
    rw e (omega arith)

rises : (xs : List ℕ) → IsStrictlyIncreasing xs → (i j : ℕ) → i ≤ j → j < length xs → get_or xs i 0 ≤ get_or xs j 0
rises xs rising i j le within = let e : i + (j - i) ≡ j = omega arith in subst (λ k. get_or xs i 0 ≤ get_or xs k 0) e (rises_by xs i (j - i) rising (omega arith))

among_place : (xs : List ℕ) (x : ℕ) → Among x xs → (k : ℕ) × (k < length xs) × (get_or xs k 0 ≡ x)
among_place [] x a = absurd a
among_place (y ∷ xs) x (inl e) = (zero, omega arith, sym e)
among_place (y ∷ xs) x (inr a) = let rest = among_place xs x a in (suc rest.0, omega (arith, rest.1), rest.2)

place_among : (xs : List ℕ) (x k : ℕ) → k < length xs → get_or xs k 0 ≡ x → Among x xs
place_among [] x k h e = absurd (omega arith)
place_among (y ∷ xs) x zero h e = inl (sym e)
place_among (y ∷ xs) x (suc k) h e = inr (place_among xs x k (omega arith) e)

pub found_iff : (xs : List ℕ) (x : ℕ) (r : Result ℕ ℕ) → IsStrictlyIncreasing xs → IsBinarySearchResult (λ y. nat_cmp y x) xs r → IsTrue (is_ok r) ↔ Among x xs
found_iff xs x (Ok i) rising position =
    let s = searched xs x (Ok i) position (rises xs rising) in
    ((λ _. place_among xs x i s.0 s.1), (λ _. refl))
found_iff xs x (Err i) rising position =
    let s = searched xs x (Err i) position (rises xs rising) in (
      (λ h. absurd (cc)),
      (λ a.
          let p = among_place xs x a in
          elim (cases_lt p.0 i) [
            | inl low ↦ let less = s.1 p.0 low in let is = p.2 in absurd (omega arith)
            | inr high ↦ let more = s.2 p.0 high p.1 in let is = p.2 in absurd (omega arith)
          ]),
    )

-- ---- keys that rise

module _ {T : Type 0} (key : T → Key) where
  pub rising_next : (x y : T) (zs : List T) → IsBefore (key x) (key y) → IsRising key (y ∷ zs) → IsRising key (x ∷ y ∷ zs)
  rising_next x y zs less rising = (
    (λ z a. elim a [
      | inl e ↦ subst (λ (v : T). IsBefore (key x) (key v)) (sym e) less
      | inr later ↦ before_trans (key x) (key y) (key z) less (rising.0 z later)
    ]),
    rising,
  )

  pub two_ahead : (W : Type 0) (xs : List T) (i : ℕ) (x y : T) → 1 ≤ i → i < length xs → x ≡ get_or xs (i - 1) x → y ≡ get_or xs i y → drop (i - 1) xs ≡ x ∷ drop i xs
  two_ahead W xs i x y one h e f = let s : (i - 1) + 1 ≡ i = omega arith in rw s at (ahead xs (i - 1) x (omega arith) e)

  pub keys_next : (W : Type 0) (xs : List T) (i : ℕ) (x y : T) → 1 ≤ i → i < length xs → x ≡ get_or xs (i - 1) x → y ≡ get_or xs i y → IsBefore (key x) (key y)
      → (W ↔ IsRising key (drop (i - 1) xs)) → (W ↔ IsRising key (drop i xs))
  keys_next W xs i x y one h e f less left =
      let d = two_ahead W xs i x y one h e f in
      let g = ahead xs i y h f in (
        (λ w. (subst (λ (zs : List T). IsRising key zs) d (left.0 w)).1),
        (λ rest. left.1 (subst (λ (zs : List T). IsRising key zs) (sym d)
            (subst (λ (zs : List T). IsRising key (x ∷ zs)) (sym g) (rising_next x y (drop (i + 1) xs) less (subst (λ (zs : List T). IsRising key zs) g rest))))),
      )

  pub keys_stop : (W : Type 0) (xs : List T) (i : ℕ) (x y : T) → 1 ≤ i → i < length xs → x ≡ get_or xs (i - 1) x → y ≡ get_or xs i y → (IsBefore (key x) (key y) → ⊥)
      → (W ↔ IsRising key (drop (i - 1) xs)) → W → ⊥
  keys_stop W xs i x y one h e f never left w =
      let d = two_ahead W xs i x y one h e f in
      let g = ahead xs i y h f in
      let first = (subst (λ (zs : List T). IsRising key zs) d (left.0 w)).0 in
      never (first y (subst (λ (zs : List T). Among y zs) (sym g) (inl refl)))

  short_rises : (zs : List T) → length zs ≤ 1 → IsRising key zs
  short_rises [] h = tt
  short_rises (z ∷ []) h = ((λ y a. absurd a), tt)
  short_rises (z ∷ y ∷ zs) h = absurd (omega arith)

  pub keys_end : (W : Type 0) (xs : List T) (i : ℕ) → length xs ≤ i → (W ↔ IsRising key (drop (i - 1) xs)) → W
  keys_end W xs i h left = left.1 (short_rises (drop (i - 1) xs) (let size = length-drop (i - 1) xs in omega arith))

-- ---- the mapping on a channel

pub find_is : (first channel : ℕ) (ms : List Mapping) → map (λ (m : Mapping). m.channel) ms ≡ range_with_len first (length ms) → first ≤ channel
    → find (λ (m : Mapping). nat_eq m.channel channel) ms ≡ slice_get ms (channel - first)
find_is first channel [] e h = refl
find_is first channel (m ∷ ms) e h =
    let here : m.channel ≡ first = cc in
    let rest : map (λ (k : Mapping). k.channel) ms ≡ range_with_len (first + 1) (length ms) = cc in
    elim (cases_lt first channel) [
      | inl later ↦
          let other : nat_eq m.channel channel ≡ false = grind (arith, nat_tests) in
          let i : channel - first ≡ suc (channel - (first + 1)) = omega arith in
          rw (other, i) (find_is (first + 1) channel ms rest (omega arith))
      | inr now ↦
          let same : nat_eq m.channel channel ≡ true = grind (arith, nat_tests) in
          let i : channel - first ≡ 0 = omega arith in
          rw (same, i) refl
    ]

pub find_none : (first channel : ℕ) (ms : List Mapping) → map (λ (m : Mapping). m.channel) ms ≡ range_with_len first (length ms) → channel < first
    → find (λ (m : Mapping). nat_eq m.channel channel) ms ≡ None
find_none first channel [] e h = refl
find_none first channel (m ∷ ms) e h =
    let here : m.channel ≡ first = cc in
    let rest : map (λ (k : Mapping). k.channel) ms ≡ range_with_len (first + 1) (length ms) = cc in
    let other : nat_eq m.channel channel ≡ false = grind (arith, nat_tests) in
    rw other (find_none (first + 1) channel ms rest (omega arith))

channel_from : (first : ℕ) (ms : List Mapping) (m : Mapping) → map (λ (k : Mapping). k.channel) ms ≡ range_with_len first (length ms) → Among m ms → first ≤ m.channel
channel_from first [] m e a = absurd a
channel_from first (k ∷ ms) m e (inl is) = let here : k.channel ≡ first = cc in let same : m.channel ≡ k.channel = ap (λ (v : Mapping). v.channel) is in omega arith
channel_from first (k ∷ ms) m e (inr a) =
    let rest : map (λ (v : Mapping). v.channel) ms ≡ range_with_len (first + 1) (length ms) = cc in
    let after = channel_from (first + 1) ms m rest a in omega arith

-- the first mapping has the first channel
pub first_is : (first : ℕ) (ms : List Mapping) (m : Mapping) → map (λ (k : Mapping). k.channel) ms ≡ range_with_len first (length ms) → slice_get ms 0 ≡ Some m → m.channel ≡ first
first_is first [] m e h = absurd (cc)
first_is first (k ∷ ms) m e h = let here : k.channel ≡ first = cc in let same : k ≡ m = cc in ap (λ (v : Mapping). v.channel) (sym same) ∙ here

find_own : (first channel : ℕ) (ms : List Mapping) (m : Mapping) → map (λ (k : Mapping). k.channel) ms ≡ range_with_len first (length ms) → Among m ms → m.channel ≡ channel
    → find (λ (k : Mapping). nat_eq k.channel channel) ms ≡ Some m
find_own first channel [] m e a on = absurd a
find_own first channel (k ∷ ms) m e (inl is) on =
    let same : k.channel ≡ channel = ap (λ (v : Mapping). v.channel) (sym is) ∙ on in
    let test : nat_eq k.channel channel ≡ true = grind (arith, nat_tests) in
    rw test (ap (λ (v : Mapping). Some v) (sym is))
find_own first channel (k ∷ ms) m e (inr a) on =
    let here : k.channel ≡ first = cc in
    let rest : map (λ (v : Mapping). v.channel) ms ≡ range_with_len (first + 1) (length ms) = cc in
    let after = channel_from (first + 1) ms m rest a in
    let test : nat_eq k.channel channel ≡ false = grind (arith, nat_tests) in
    rw test (find_own (first + 1) channel ms m rest a on)

found_first : (channel : ℕ) (k : Mapping) (ms : List Mapping) (m : Mapping) → (find (λ (v : Mapping). nat_eq v.channel channel) ms ≡ Some m → (m.channel ≡ channel) × Among m ms)
    → (b : Bool) → nat_eq k.channel channel ≡ b → cond b (Some k) (find (λ (v : Mapping). nat_eq v.channel channel) ms) ≡ Some m → (m.channel ≡ channel) × Among m (k ∷ ms)
found_first channel k ms m later true test e =
    let is : k ≡ m = cc in
    (ap (λ (v : Mapping). v.channel) (sym is) ∙ eqb-true k.channel channel test, inl (sym is))
found_first channel k ms m later false test e = let rest = later e in (rest.0, inr rest.1)

pub found_among : (channel : ℕ) (ms : List Mapping) (m : Mapping) → find (λ (k : Mapping). nat_eq k.channel channel) ms ≡ Some m → (m.channel ≡ channel) × Among m ms
found_among channel [] m e = absurd (cc)
found_among channel (k ∷ ms) m e = found_first channel k ms m (λ h. found_among channel ms m h) (nat_eq k.channel channel) refl e

-- where a mapping is on the key's channel, a message may go on it exactly where one may go on any
pub message_iff : (b : Bool) (ms : List Mapping) (entity : ℕ) (key : Key) (in_channel : ℕ) (m : Mapping) → ((first : ℕ) × (map (λ (k : Mapping). k.channel) ms ≡ range_with_len first (length ms)))
    → find (λ (k : Mapping). nat_eq k.channel key.channel) ms ≡ Some m → (IsTrue b ↔ IsMessageOn entity key in_channel m)
    → (IsTrue b ↔ ((k : Mapping) × Among k ms × IsMessageOn entity key in_channel k))
message_iff b ms entity key in_channel m run found leads = (
  (λ t. (m, (found_among key.channel ms m found).1, leads.0 t)),
  (λ other.
      let own : Some m ≡ Some other.0 = sym found ∙ find_own run.0 key.channel ms other.0 run.1 other.1 (other.2).on in
      let same : other.0 ≡ m = cc in
      leads.1 (subst (λ (k : Mapping). IsMessageOn entity key in_channel k) same other.2)),
)

pub no_message : (ms : List Mapping) (entity : ℕ) (key : Key) (in_channel : ℕ) → ((first : ℕ) × (map (λ (k : Mapping). k.channel) ms ≡ range_with_len first (length ms)))
    → find (λ (k : Mapping). nat_eq k.channel key.channel) ms ≡ None → ((k : Mapping) × Among k ms × IsMessageOn entity key in_channel k) → ⊥
no_message ms entity key in_channel run none other =
    let own : None ≡ Some other.0 = sym none ∙ find_own run.0 key.channel ms other.0 run.1 other.1 (other.2).on in
    absurd (cc)

-- ---- places

pub at_place : {T : Type 0} (xs : List T) (i : ℕ) (x : T) (Q : T → Type 0) → slice_get xs i ≡ Some x → HasAt xs i Q → Q x
at_place {T} xs i x Q here has =
    let one : Some has.0 ≡ Some x = sym has.1 ∙ here in
    let same : has.0 ≡ x = cc in
    subst Q same has.2
