-- Components that are read, and those that follow.
use Rattle.std.proofs.Common.{◌≡◌, ℕ, ◌<◌, ◌≤◌, ◌+◌, ◌-◌, suc, List, [], ◌∷◌, ◌++◌, length, get_or, drop, take, refl, ap, sym, ◌∙◌, arith, append_assoc, add-one, length-drop}
use Rattle.std.specs.Prelude.{Option, Some, None, slice_range, if◌then◌else◌}
use Rattle.std.proofs.Math.Seq.{take-suc, drop-cons}
use Rattle.std.proofs.lemmas.List.{get_or-drop, length-take}
use Rattle.std.proofs.lemmas.Bool.{ne_eqb}
use Rattle.dml_resolve.specs.Resolving.{components_from, next_component}

-- these components, and then those that follow
abbrev pub after : List (List ℕ) → Option (List (List ℕ)) → Option (List (List ℕ))
after done None = None
after done (Some others) = Some (done ++ others)

range_more : (t : List ℕ) (from at : ℕ) → from ≤ at → at < length t → slice_range t from (at + 1) ≡ slice_range t from at ++ get_or t at 0 ∷ []
range_more t from at ordered lt =
    let e : at + 1 - from ≡ suc (at - from) = omega arith in
    let within : at - from < length (drop from t) = simp length-drop (omega arith) in
    let place : from + (at - from) ≡ at = omega arith in
    ap (λ n. take n (drop from t)) e ∙ (take-suc (drop from t) (at - from) 0 within
    ∙ ap (λ b. take (at - from) (drop from t) ++ b ∷ []) (get_or-drop from t (at - from) 0 ∙ ap (λ n. get_or t n 0) place))

drop_byte : (t : List ℕ) (at : ℕ) → at < length t → drop at t ≡ get_or t at 0 ∷ drop (at + 1) t
drop_byte t at lt = drop-cons t at 0 lt ∙ ap (λ n. get_or t at 0 ∷ drop n t) (sym (add-one at))

-- a byte that is no `.` is one more of the component
pub other_byte : (t : List ℕ) (from at : ℕ) → from ≤ at → at < length t → (get_or t at 0 ≡ 46 → ⊥) → components_from (slice_range t from at) (drop at t) ≡ components_from (slice_range t from (at + 1)) (drop (at + 1) t)
other_byte t from at ordered lt other =
    ap (components_from (slice_range t from at)) (drop_byte t at lt)
    ∙ (ap (λ b. if b then next_component (slice_range t from at) (components_from [] (drop (at + 1) t)) else components_from (slice_range t from at ++ get_or t at 0 ∷ []) (drop (at + 1) t)) (ne_eqb _ _ other)
    ∙ ap (λ r. components_from r (drop (at + 1) t)) (sym (range_more t from at ordered lt)))

next_step : (done : List (List ℕ)) (read : List ℕ) (found : Option (List (List ℕ))) → (read ≡ [] → ⊥) → after done (next_component read found) ≡ after (done ++ read ∷ []) found
next_step done [] found some = absurd (some refl)
next_step done (b ∷ bs) None some = refl
next_step done (b ∷ bs) (Some others) some = ap Some (sym (append_assoc done ((b ∷ bs) ∷ []) others))

range_some : (t : List ℕ) (from at : ℕ) → from < at → at ≤ length t → slice_range t from at ≡ [] → ⊥
range_some t from at lt within e =
    let n : length (take (at - from) (drop from t)) ≡ 0 = ap length e in
    let m : 0 < length (take (at - from) (drop from t)) = simp (length-take, length-drop) (omega arith) in
    omega arith

range_none : (t : List ℕ) (at : ℕ) → slice_range t at at ≡ []
range_none t at = let e : at - at ≡ 0 = omega arith in ap (λ n. take n (drop at t)) e

-- a `.` ends the component
pub dot : (t : List ℕ) (from at : ℕ) (done : List (List ℕ)) → from < at → at < length t → get_or t at 0 ≡ 46 → after done (components_from (slice_range t from at) (drop at t)) ≡ after (done ++ slice_range t from at ∷ []) (components_from (slice_range t (at + 1) (at + 1)) (drop (at + 1) t))
dot t from at done lt within is =
    ap (λ l. after done (components_from (slice_range t from at) l)) (drop_byte t at within ∙ ap (λ b. b ∷ drop (at + 1) t) is)
    ∙ (next_step done (slice_range t from at) (components_from [] (drop (at + 1) t)) (range_some t from at lt (omega arith))
    ∙ ap (λ r. after (done ++ slice_range t from at ∷ []) (components_from r (drop (at + 1) t))) (sym (range_none t (at + 1))))
