-- What the reports of a round say as they come.
use Rattle.std.proofs.Common.{ℕ, zero, suc, ◌≡◌, ◌+◌, ◌<◌, ◌≤◌, ◌∙◌, sym, ap, refl, true, false, eqb, List, [], ◌∷◌, ◌++◌, min, length, set, take, drop, replicate, Option, Some, None, slice_get, arith}
use Rattle.std.specs.Option.{option_eq}
use Rattle.std.proofs.lemmas.Bool.{le-leb, lt-leb, eqb-true, eqb-false, eq-eqb, ne_eqb}
use Rattle.std.proofs.lemmas.List.{take_all, drop_all, append-nil, length-replicate}
use Rattle.ssf_model.specs.Truth.{next_window}
use Rattle.barrier_window.specs.BarrierFields.{BarrierFields}
use Rattle.barrier_window.specs.Crossings.{latest_of, first_without, least_report, after_report, crossing}
use Rattle.barrier_window.specs.declared.barrier.Crossing.TheVariants.{Crossed, Waiting, Ended}

-- ---- no reports

pub least_of_none : (end n : ℕ) → least_report end (replicate n None) ≡ end
least_of_none end zero = refl
least_of_none end (suc n) = least_of_none end n

pub none_long : (rs : List (Option ℕ)) (n : ℕ) → rs ≡ replicate n None → length rs ≡ n
none_long rs n all = ap length all ∙ length-replicate n None

-- ---- one more report

pub least_more : (end least : ℕ) (rs : List (Option ℕ)) (t : ℕ) → slice_get rs t ≡ Some None → least_report end (set rs t (Some least)) ≡ min (least_report end rs) least
least_more end least [] t at = absurd (cc)
least_more end least (None ∷ rs) zero at = omega arith
least_more end least (Some r ∷ rs) zero at = absurd (cc)
least_more end least (None ∷ rs) (suc t) at = least_more end least rs t at
least_more end least (Some r ∷ rs) (suc t) at = let rest = least_more end least rs t at in rw rest (omega arith)

-- the first timeline without a report stays the first until it reports
first_other : (from : ℕ) (rs : List (Option ℕ)) (t least : ℕ) (o : Option ℕ) → slice_get rs t ≡ Some None → o ≡ first_without from rs → (o ≡ Some (from + t) → ⊥) → o ≡ first_without from (set rs t (Some least))
first_other from [] t least o at is differ = absurd (cc)
first_other from (None ∷ rs) zero least o at is differ = let e : from + 0 ≡ from = omega arith in absurd (differ (is ∙ ap Some (sym e)))
first_other from (Some r ∷ rs) zero least o at is differ = absurd (cc)
first_other from (None ∷ rs) (suc t) least o at is differ = is
first_other from (Some r ∷ rs) (suc t) least o at is differ =
    let e : from + suc t ≡ from + 1 + t = omega arith in
    first_other (from + 1) rs t least o at is (λ is_t. differ (is_t ∙ ap Some (sym e)))

pub first_stays : (rs : List (Option ℕ)) (t least : ℕ) (o : Option ℕ) → slice_get rs t ≡ Some None → o ≡ first_without 0 rs → (o ≡ Some t → ⊥) → o ≡ first_without 0 (set rs t (Some least))
first_stays rs t least o at is differ = let e : 0 + t ≡ t = omega arith in first_other 0 rs t least o at is (λ is_t. differ (is_t ∙ ap Some e))

first_at_least : (from : ℕ) (rs : List (Option ℕ)) (k : ℕ) → first_without from rs ≡ Some k → from ≤ k
first_at_least from [] k is = absurd (cc)
first_at_least from (None ∷ rs) k is = let e : from ≡ k = cc in omega arith
first_at_least from (Some r ∷ rs) k is = let more = first_at_least (from + 1) rs k is in omega arith

first_passes : (from : ℕ) (rs : List (Option ℕ)) (t least : ℕ) → first_without from rs ≡ Some (from + t) → first_without from (set rs t (Some least)) ≡ first_without (from + suc t) (drop (suc t) (set rs t (Some least)))
first_passes from [] t least is = absurd (cc)
first_passes from (None ∷ rs) zero least is = refl
first_passes from (Some r ∷ rs) zero least is = let more = first_at_least (from + 1) rs (from + 0) is in absurd (omega arith)
first_passes from (None ∷ rs) (suc t) least is = let e : from ≡ from + suc t = cc in absurd (omega arith)
first_passes from (Some r ∷ rs) (suc t) least is =
    let e : from + suc t ≡ from + 1 + t = omega arith in
    let up : from + 1 + suc t ≡ from + suc (suc t) = omega arith in
    first_passes (from + 1) rs t least (is ∙ ap Some e) ∙ ap (λ i. first_without i (drop (suc t) (set rs t (Some least)))) up

-- and then the next one is the first
pub first_goes : (rs : List (Option ℕ)) (t least : ℕ) (o : Option ℕ) → o ≡ Some t → o ≡ first_without 0 rs → first_without (t + 1) (drop (t + 1) (set rs t (Some least))) ≡ first_without 0 (set rs t (Some least))
first_goes rs t least o was is =
    let from : t ≡ 0 + t = omega arith in
    let up : 0 + suc t ≡ t + 1 = omega arith in
    let same : suc t ≡ t + 1 = omega arith in
    let passes = first_passes 0 rs t least (sym is ∙ was ∙ ap Some from) in
    sym (passes ∙ ap (λ i. first_without i (drop (suc t) (set rs t (Some least)))) up ∙ ap (λ i. first_without (t + 1) (drop i (set rs t (Some least)))) same)

-- ---- a look from one timeline on

passed_by : (rs : List (Option ℕ)) (i from least : ℕ) → slice_get rs i ≡ Some (Some least) → first_without from (drop i rs) ≡ first_without (from + 1) (drop (suc i) rs)
passed_by [] i from least at = absurd (cc)
passed_by (None ∷ rs) zero from least at = absurd (cc)
passed_by (Some r ∷ rs) zero from least at = refl
passed_by (r ∷ rs) (suc i) from least at = passed_by rs i from least at

pub passed_here : (rs : List (Option ℕ)) (i least : ℕ) → slice_get rs i ≡ Some (Some least) → first_without i (drop i rs) ≡ first_without (i + 1) (drop (i + 1) rs)
passed_here rs i least at = let same : suc i ≡ i + 1 = omega arith in passed_by rs i i least at ∙ ap (λ k. first_without (i + 1) (drop k rs)) same

found_by : (rs : List (Option ℕ)) (i from : ℕ) → slice_get rs i ≡ Some None → first_without from (drop i rs) ≡ Some from
found_by [] i from at = absurd (cc)
found_by (None ∷ rs) zero from at = refl
found_by (Some r ∷ rs) zero from at = absurd (cc)
found_by (r ∷ rs) (suc i) from at = found_by rs i from at

pub found_here : (rs : List (Option ℕ)) (i : ℕ) → slice_get rs i ≡ Some None → first_without i (drop i rs) ≡ Some i
found_here rs i at = found_by rs i i at

-- ---- what a report leaves

-- a list whose items were all put in anew
pub put_back : (xs ys : List ℕ) (n : ℕ) → n ≡ length xs → length ys ≡ length xs → take n (ys ++ drop (length ys) xs) ≡ ys
put_back xs ys n e f =
    let none : drop (length ys) xs ≡ [] = drop_all (length ys) xs (omega arith) in
    rw (none, append-nil) (take_all n ys (omega arith))

pub is_timeline : (o : Option ℕ) (t : ℕ) → option_eq eqb o (Some t) ≡ true → o ≡ Some t
is_timeline None t same = absurd (cc)
is_timeline (Some x) t same = ap Some (eqb-true x t same)

pub is_other : (o : Option ℕ) (t : ℕ) → option_eq eqb o (Some t) ≡ false → o ≡ Some t → ⊥
is_other None t other is = cc
is_other (Some x) t other is = eqb-false x t other (cc)

pub stays_at_stale : (b : BarrierFields) (t round least : ℕ) (ps : List (ℕ × ℕ)) → (round ≡ b.round → ⊥) → b ≡ after_report t round least ps b
unfolding after_report
stays_at_stale b t round least ps other = let test = ne_eqb round b.round other in rw test refl

pub taken_is : (b : BarrierFields) (t round least : ℕ) (ps : List (ℕ × ℕ)) (sent : List ℕ) → round ≡ b.round → sent ≡ latest_of ps b.channels b.sent
    → record b { reports = set b.reports t (Some least); sent = sent } ≡ after_report t round least ps b
unfolding after_report
taken_is b t round least ps sent same numbers = let test = eq-eqb round b.round same in rw (test, numbers) refl

-- ---- what a crossing answers

pub crossing_ended : (b : BarrierFields) → b.ended ≡ true → Ended ≡ crossing b
unfolding crossing
crossing_ended b ended = rw ended refl

pub crossing_waits : (b : BarrierFields) (t : ℕ) → b.ended ≡ false → first_without 0 b.reports ≡ Some t → Waiting t ≡ crossing b
unfolding crossing
crossing_waits b t running first = rw (running, first) refl

pub crossing_ends : (b : BarrierFields) → b.ended ≡ false → first_without 0 b.reports ≡ None → b.until < least_report (b.until + 1) b.reports → Ended ≡ crossing b
unfolding crossing
crossing_ends b running first late = let t = lt-leb (least_report (b.until + 1) b.reports) b.until late in rw (running, first, t) refl

pub crossing_crosses : (b : BarrierFields) → b.ended ≡ false → first_without 0 b.reports ≡ None → least_report (b.until + 1) b.reports ≤ b.until → Crossed (next_window b.lookahead b.until (least_report (b.until + 1) b.reports)) ≡ crossing b
unfolding crossing
crossing_crosses b running first soon = let t = le-leb (least_report (b.until + 1) b.reports) b.until soon in rw (running, first, t) refl
