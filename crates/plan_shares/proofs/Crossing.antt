-- The mappings between two timelines, one by one in the order of the plan.
use Rattle.std.proofs.Common.{◌≡◌, ℕ, zero, suc, ◌+◌, ◌<◌, ◌≤◌, true, false, cond, nat_lt, List, [], ◌∷◌, ◌++◌, length, get_or, take, map, slice_get, Some, refl, sym, ap, ◌∙◌, subst, inl, inr, arith}
use Rattle.std.specs.List.{filter, enumerate_from}
use Rattle.std.proofs.lemmas.List.{append-nil, map-append, take_more}
use Rattle.std.proofs.lemmas.List.Elements.{filter-append}
use Rattle.event_order.specs.Pending.{Among}
use Rattle.event_order.proofs.Pending.{test_cases, filter_among}
use Rattle.ssf_model.specs.declared.plan.Mapping.{Mapping}
use Rattle.alignment.specs.declared.mappings.Class.{Class}
use Rattle.alignment.specs.declared.mappings.Class.TheVariants.{Inside, Appointed, Windowed}
use Rattle.alignment.specs.Classes.{is_cross, class_of}
use Rattle.timeline_parts.specs.declared.part.Cross.{Cross}
use Rattle.plan_shares.specs.Shares.{cross_of, crosses_of}
use Rattle.plan_shares.specs.Lists.{crossing}

-- a mapping and a cross one of zeros, which stand for what is past the end of a list
abbrev pub nothing : Mapping
nothing = record { channel = 0; out_channel = 0; in_channel = 0; from = 0; to = 0; delay = 0; priority = 0 }

abbrev pub no_cross : Cross
no_cross = record { mapping = nothing; place = 0; appointed = false }

enumerate_length : {T : Type 0} (n : ℕ) (xs : List T) → length (enumerate_from n xs) ≡ length xs
enumerate_length n [] = refl
enumerate_length n (x ∷ xs) = ap suc (enumerate_length (n + 1) xs)

enumerate_push : {T : Type 0} (n k : ℕ) (xs : List T) (x : T) → n + length xs ≡ k → enumerate_from n (xs ++ x ∷ []) ≡ enumerate_from n xs ++ (k, x) ∷ []
enumerate_push n k [] x h = ap (λ m. (m, x) ∷ []) (omega arith)
enumerate_push n k (y ∷ ys) x h = ap (λ zs. (n, y) ∷ zs) (enumerate_push (n + 1) k ys x (omega arith))

pub crosses_length : (lines : List ℕ) (threshold : ℕ) (ms : List Mapping) → length (crosses_of lines threshold ms) ≡ length (filter (is_cross lines) ms)
crosses_length lines threshold ms = map_length (enumerate_from 0 (filter (is_cross lines) ms)) ∙ enumerate_length 0 (filter (is_cross lines) ms)
  where
    map_length : (xs : List (ℕ × Mapping)) → length (map (cross_of threshold) xs) ≡ length xs
    map_length [] = refl
    map_length (x ∷ xs) = ap suc (map_length xs)

-- the class of a mapping that crosses, and of one that does not
class_cross : (lines : List ℕ) (threshold place : ℕ) (m : Mapping) → is_cross lines m ≡ true → crossing (class_of lines threshold m) place m ≡ cross_of threshold (place, m) ∷ []
class_cross lines threshold place m cross = elim (test_cases (nat_lt m.delay threshold)) [
  | inl t ↦ rw (cross, t) refl
  | inr f ↦ rw (cross, f) refl
]

class_inside : (lines : List ℕ) (threshold place : ℕ) (m : Mapping) → is_cross lines m ≡ false → crossing (class_of lines threshold m) place m ≡ []
class_inside lines threshold place m inside = rw inside refl

crosses_push : (lines : List ℕ) (threshold : ℕ) (ms : List Mapping) (m : Mapping) → crosses_of lines threshold (ms ++ m ∷ []) ≡ crosses_of lines threshold ms ++ crossing (class_of lines threshold m) (length (crosses_of lines threshold ms)) m
crosses_push lines threshold ms m =
    let filtered : filter (is_cross lines) (ms ++ m ∷ []) ≡ filter (is_cross lines) ms ++ filter (is_cross lines) (m ∷ []) = filter-append (is_cross lines) ms (m ∷ []) in
    elim (test_cases (is_cross lines m)) [
      | inl t ↦ (let kept : filter (is_cross lines) (ms ++ m ∷ []) ≡ filter (is_cross lines) ms ++ m ∷ [] = filtered ∙ ap (λ ys. filter (is_cross lines) ms ++ ys) (one_kept t) in
          ap (λ ys. map (cross_of threshold) (enumerate_from 0 ys)) kept
          ∙ (ap (λ ys. map (cross_of threshold) ys) (enumerate_push 0 (length (crosses_of lines threshold ms)) (filter (is_cross lines) ms) m (omega (arith, crosses_length lines threshold ms)))
          ∙ (map-append (cross_of threshold) (enumerate_from 0 (filter (is_cross lines) ms)) ((length (crosses_of lines threshold ms), m) ∷ [])
          ∙ ap (λ ys. crosses_of lines threshold ms ++ ys) (sym (class_cross lines threshold (length (crosses_of lines threshold ms)) m t)))))
      | inr f ↦ (let kept : filter (is_cross lines) (ms ++ m ∷ []) ≡ filter (is_cross lines) ms = filtered ∙ (ap (λ ys. filter (is_cross lines) ms ++ ys) (none_kept f) ∙ append-nil (filter (is_cross lines) ms)) in
          ap (λ ys. map (cross_of threshold) (enumerate_from 0 ys)) kept
          ∙ (sym (append-nil (crosses_of lines threshold ms))
          ∙ ap (λ ys. crosses_of lines threshold ms ++ ys) (sym (class_inside lines threshold (length (crosses_of lines threshold ms)) m f))))
    ]
  where
    one_kept : is_cross lines m ≡ true → filter (is_cross lines) (m ∷ []) ≡ m ∷ []
    one_kept t = ap (λ b. cond b (m ∷ []) []) t

    none_kept : is_cross lines m ≡ false → filter (is_cross lines) (m ∷ []) ≡ []
    none_kept f = ap (λ b. cond b (m ∷ []) []) f

class_at : (f : Mapping → Class) (ms : List Mapping) (k : ℕ) (m : Mapping) (c : Class) → k < length ms → m ≡ get_or ms k m → slice_get (map f ms) k ≡ Some c → c ≡ f m
class_at f [] k m c h at is = absurd (omega arith)
class_at f (x ∷ xs) zero m c h at is = let same : f x ≡ c = cc in sym same ∙ ap f (sym at)
class_at f (x ∷ xs) (suc k) m c h at is = class_at f xs k m c (omega arith) at is

-- after one more mapping, with its class
pub crosses_more : (lines : List ℕ) (threshold : ℕ) (ms : List Mapping) (classes : List Class) (k : ℕ) (m : Mapping) (c : Class) (old new : List Cross) → k < length ms → m ≡ get_or ms k m
    → classes ≡ map (class_of lines threshold) ms → slice_get classes k ≡ Some c → old ≡ crosses_of lines threshold (take k ms) → new ≡ old ++ crossing c (length old) m → new ≡ crosses_of lines threshold (take (k + 1) ms)
crosses_more lines threshold ms classes k m c old new h at known is was next =
    let class : c ≡ class_of lines threshold m = class_at (class_of lines threshold) ms k m c h at (subst (λ cs. slice_get cs k ≡ Some c) known is) in
    let step : take (k + 1) ms ≡ take k ms ++ m ∷ [] = take_more ms k m h ∙ ap (λ x. take k ms ++ x ∷ []) (sym at) in
    next ∙ (ap (λ xs. xs ++ crossing c (length xs) m) was ∙ (ap (λ x. crosses_of lines threshold (take k ms) ++ crossing x (length (crosses_of lines threshold (take k ms))) m) class
    ∙ (sym (crosses_push lines threshold (take k ms) m) ∙ ap (λ xs. crosses_of lines threshold xs) (sym step))))

pub crossing_short : (c : Class) (place : ℕ) (m : Mapping) → length (crossing c place m) ≤ 1
crossing_short Inside place m = omega arith
crossing_short Appointed place m = omega arith
crossing_short Windowed place m = omega arith

-- ---- what these mappings are

-- each is a mapping of the plan that crosses
pub record IsCrossOf (lines : List ℕ) (threshold : ℕ) (ms : List Mapping) (x : Cross) : Type 0 where
  pub among : Among x.mapping ms
  pub cross : is_cross lines x.mapping ≡ true
  pub appointed : x.appointed ≡ nat_lt x.mapping.delay threshold

from_numbered : (threshold n : ℕ) (ms : List Mapping) (x : Cross) → Among x (map (cross_of threshold) (enumerate_from n ms)) → Among x.mapping ms × (x.appointed ≡ nat_lt x.mapping.delay threshold)
from_numbered threshold n [] x a = absurd a
from_numbered threshold n (m ∷ ms) x (inl e) =
    (inl (ap (λ (y : Cross). y.mapping) e), ap (λ (y : Cross). y.appointed) e ∙ ap (λ (k : Mapping). nat_lt k.delay threshold) (sym (ap (λ (y : Cross). y.mapping) e)))
from_numbered threshold n (m ∷ ms) x (inr a) = let rest = from_numbered threshold (n + 1) ms x a in (inr rest.0, rest.1)

pub cross_is : (lines : List ℕ) (threshold : ℕ) (ms : List Mapping) (x : Cross) → Among x (crosses_of lines threshold ms) → IsCrossOf lines threshold ms x
cross_is lines threshold ms x a =
    let found = from_numbered threshold 0 (filter (is_cross lines) ms) x a in
    let passed = filter_among (is_cross lines) x.mapping ms found.0 in
    record { among = passed.among; cross = passed.passes; appointed = found.1 }

-- ---- the places

at_place : (threshold n : ℕ) (ms : List Mapping) (x : Cross) → Among x (map (cross_of threshold) (enumerate_from n ms)) → (k : ℕ) × (n + k ≡ x.place) × (slice_get (map (cross_of threshold) (enumerate_from n ms)) k ≡ Some x)
at_place threshold n [] x a = absurd a
at_place threshold n (m ∷ ms) x (inl e) = let place : x.place ≡ n = ap (λ (y : Cross). y.place) e in (0, omega arith, ap (λ y. Some y) (sym e))
at_place threshold n (m ∷ ms) x (inr a) = let rest = at_place threshold (n + 1) ms x a in let place = rest.1 in (suc rest.0, omega arith, rest.2)

pub stands_at : (lines : List ℕ) (threshold : ℕ) (ms : List Mapping) (x : Cross) → Among x (crosses_of lines threshold ms) → slice_get (crosses_of lines threshold ms) x.place ≡ Some x
stands_at lines threshold ms x a =
    let found = at_place threshold 0 (filter (is_cross lines) ms) x a in
    let same : found.0 ≡ x.place = let is = found.1 in omega arith in
    subst (λ k. slice_get (crosses_of lines threshold ms) k ≡ Some x) same found.2
