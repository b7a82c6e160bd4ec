-- Lists of ranges in order of their beginnings, and one scan of them.
use Rattle.std.proofs.Common.{◌≡◌, ℕ, zero, suc, ◌+◌, ◌<◌, ◌≤◌, Bool, true, false, not, max, nat_lt, List, [], ◌∷◌, length, drop, refl, sym, ◌∙◌, ap, arith, inl, inr, if◌then◌else◌, cond, unwrap_or, Some, None, get_or, drop-cons}
use Rattle.std.specs.List.{position, position_or_len, prefix_len, insert}
use Rattle.std.proofs.lemmas.Bool.Decides.{nat_tests}
use Rattle.tcp_rules.specs.declared.records.Range.{Range}
use Rattle.tcp_rules.specs.Servers.{holds, covers, placed, hole, IsHole, beyond}
use Rattle.tcp_rules.proofs.Cases.{before_or_from, if_case}
use Rattle.tcp_rules.proofs.Holes.{hole_is, one_hole, neither, not_held, not_yet_held, either}
use Rattle.tcp_session.specs.Rising.{RiseFrom, IsRising}

-- placing is inserting before the first that begins later
place_step : (b : Bool) (r k : Range) (ks rest : List Range) (n : ℕ) → rest ≡ insert ks n r
    → (if b then r ∷ k ∷ ks else k ∷ rest) ≡ insert (k ∷ ks) (cond (not b) (1 + n) 0) r
place_step true r k ks rest n same = refl
place_step false r k ks rest n same = let next : 1 + n ≡ suc n = omega arith in rw next (ap (λ (rs : List Range). k ∷ rs) same)

placed_at : (r : Range) (ks : List Range) → placed r ks ≡ insert ks (position_or_len (λ k. nat_lt r.from k.from) ks) r
placed_at r [] = refl
placed_at r (k ∷ ks) = place_step (nat_lt r.from k.from) r k ks (placed r ks) (position_or_len (λ k. nat_lt r.from k.from) ks) (placed_at r ks)

prefix_within : (p : Range → Bool) (rs : List Range) → prefix_len p rs ≤ length rs
prefix_within p [] = omega arith
prefix_within p (r ∷ rs) = if_case (λ n. n ≤ length (r ∷ rs)) (p r)
    (λ e. let rest = prefix_within p rs in omega arith) (λ e. omega arith)

place_found : (n end : ℕ) → n ≤ end → unwrap_or (cond (nat_lt n end) (Some n) None) end ≡ n
place_found n end within = if_case (λ o. unwrap_or o end ≡ n) (nat_lt n end) (λ e. refl) (λ e. grind (arith, nat_tests))

pub placed_inserts : (r : Range) (ks : List Range) → placed r ks ≡ insert ks (unwrap_or (position (λ k. nat_lt r.from k.from) ks) (length ks)) r
placed_inserts r ks =
    placed_at r ks
    ∙ ap (λ n. insert ks n r) (sym (place_found (position_or_len (λ k. nat_lt r.from k.from) ks) (length ks) (prefix_within (λ k. not (nat_lt r.from k.from)) ks)))

rise_lower : (low least : ℕ) (rs : List Range) → low ≤ least → RiseFrom least rs → RiseFrom low rs
rise_lower low least [] le rise = tt
rise_lower low least (r ∷ rs) le rise = (omega arith, rise.1)

placed_rise : (least : ℕ) (r : Range) (ks : List Range) → least ≤ r.from → RiseFrom least ks → RiseFrom least (placed r ks)
placed_rise least r [] low rise = (low, tt)
placed_rise least r (k ∷ ks) low rise = if_case (RiseFrom least) (nat_lt r.from k.from)
    (λ e. (low, (grind (arith, nat_tests), rise.1))) (λ e. (rise.0, placed_rise k.from r ks (grind (arith, nat_tests)) rise.1))

pub placed_rises : (r : Range) (ks : List Range) → IsRising ks → IsRising (placed r ks)
placed_rises r ks rise = placed_rise 0 r ks (omega arith) rise

beyond_rise : (least q : ℕ) (rs : List Range) → RiseFrom least rs → RiseFrom least (beyond q rs)
beyond_rise least q [] rise = tt
beyond_rise least q (r ∷ rs) rise = if_case (RiseFrom least) (nat_lt q r.to)
    (λ e. (rise.0, beyond_rise r.from q rs rise.1))
    (λ e. rise_lower least r.from (beyond q rs) rise.0 (beyond_rise r.from q rs rise.1))

pub beyond_rises : (q : ℕ) (rs : List Range) → IsRising rs → IsRising (beyond q rs)
beyond_rises q rs rise = beyond_rise 0 q rs rise

-- how far one scan comes
abbrev pub reach : ℕ → List Range → ℕ
reach p [] = p
reach p (r ∷ rs) = if nat_lt p r.from then p else reach (max p r.to) rs

-- nothing is held before all ranges begin
none_before : (least : ℕ) (rs : List Range) (p : ℕ) → RiseFrom least rs → p < least → covers rs p ≡ false
none_before least [] p rise early = refl
none_before least (r ∷ rs) p rise early =
    let low = rise.0 in
    neither (holds r p) (covers rs p) (not_yet_held r p (omega arith)) (none_before r.from rs p rise.1 (omega arith))

held_at : (r : Range) (p : ℕ) → r.from ≤ p → p < r.to → holds r p ≡ true
held_at r p from to = grind (arith, nat_tests)

reach_is : (least : ℕ) (rs : List Range) (p : ℕ) → RiseFrom least rs → IsHole rs p (reach p rs)
reach_is least [] p rise = record { low = omega arith; passed = λ q from to. absurd (omega arith); stops = refl }
reach_is least (r ∷ rs) p rise = if_case (IsHole (r ∷ rs) p) (nat_lt p r.from)
    (λ e. let early : p < r.from = grind (arith, nat_tests) in record {
      low = omega arith;
      passed = λ q from to. absurd (omega arith);
      stops = neither (holds r p) (covers rs p) (not_yet_held r p early) (none_before r.from rs p rise.1 early);
    })
    (λ e.
    let begun : r.from ≤ p = grind (arith, nat_tests) in
    let rest = reach_is r.from rs (max p r.to) rise.1 in
    let low = rest.low in
    record {
      low = omega arith;
      passed = λ q from to. elim (before_or_from q r.to) [
        | inl w ↦ either (holds r q) (covers rs q) (inl (held_at r q (omega arith) w))
        | inr w ↦ either (holds r q) (covers rs q) (inr (rest.passed q (omega arith) to))
      ];
      stops = neither (holds r (reach (max p r.to) rs)) (covers rs (reach (max p r.to) rs)) (not_held r (reach (max p r.to) rs) (omega arith)) rest.stops;
    })

-- one scan finds the hole
pub reach_is_hole : (rs : List Range) (p : ℕ) → IsRising rs → reach p rs ≡ hole rs p
reach_is_hole rs p rise = one_hole rs p (reach p rs) (hole rs p) (reach_is 0 rs p rise) (hole_is rs p)

reach_here : (i p : ℕ) (rs : List Range) (d : Range) → i < length rs → p < (get_or rs i d).from → reach p (drop i rs) ≡ p
reach_here i p rs d there early = rw (drop-cons rs i d) (if_case (λ h. h ≡ p) (nat_lt p (get_or rs i d).from) (λ e. refl) (λ e. absurd (grind (arith, nat_tests))))

reach_end : (i p : ℕ) (rs : List Range) → length rs ≤ i → reach p (drop i rs) ≡ p
reach_end i p rs over = let none : drop i rs ≡ [] = drop_all i rs over in rw none refl
  where
    drop_all : (i : ℕ) (rs : List Range) → length rs ≤ i → drop i rs ≡ []
    drop_all zero [] over = refl
    drop_all (suc i) [] over = refl
    drop_all zero (r ∷ rs) over = absurd (omega arith)
    drop_all (suc i) (r ∷ rs) over = drop_all i rs (omega arith)

-- a scan that has come so far ends where the next range begins later, or at the end of the list
pub scan_stops : (rs : List Range) (p q i : ℕ) (d : Range) → IsRising rs → reach p rs ≡ reach q (drop i rs) → i < length rs
    → q < (get_or rs i d).from → q ≡ hole rs p
scan_stops rs p q i d rise so_far there early = sym (reach_here i q rs d there early) ∙ (sym so_far ∙ reach_is_hole rs p rise)

pub scan_ends : (rs : List Range) (p q i : ℕ) → IsRising rs → reach p rs ≡ reach q (drop i rs) → length rs ≤ i → q ≡ hole rs p
scan_ends rs p q i rise so_far over = sym (reach_end i q rs over) ∙ (sym so_far ∙ reach_is_hole rs p rise)
