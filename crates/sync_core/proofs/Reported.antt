-- Which timelines have reported.
use Rattle.std.proofs.Common.{ℕ, ◌≡◌, ◌+◌, ◌<◌, ◌∙◌, refl, sym, ap, List, drop, length, get_or, Option, Some, None, slice_get}
use Rattle.std.proofs.lemmas.Option.{slice_get_within, get_or_from_slice_get, slice_get-get_or}
use Rattle.barrier_window.specs.Crossings.{first_without}
use Rattle.sync_steps.proofs.Taking.{rest_is}

pub waits_here : (rs : List (Option ℕ)) (t : ℕ) → slice_get rs t ≡ Some None → first_without t (drop t rs) ≡ Some t
waits_here rs t at = rw (rest_is rs t None (slice_get_within rs t None at) (sym (get_or_from_slice_get rs t None None at))) refl

by_report : (rs : List (Option ℕ)) (t : ℕ) (x : Option ℕ) → t < length rs → x ≡ get_or rs t x → (x ≡ None → ⊥) → first_without t (drop t rs) ≡ first_without (t + 1) (drop (t + 1) rs)
by_report rs t None within read told = absurd (told refl)
by_report rs t (Some m) within read told = rw (rest_is rs t (Some m) within read) refl

pub reported_more : (rs : List (Option ℕ)) (t : ℕ) → t < length rs → (slice_get rs t ≡ Some None → ⊥) → first_without t (drop t rs) ≡ first_without (t + 1) (drop (t + 1) rs)
reported_more rs t within told =
    let here = slice_get-get_or rs t None within in
    by_report rs t (get_or rs t None) within (sym (get_or_from_slice_get rs t (get_or rs t None) (get_or rs t None) here)) (λ none. told (here ∙ ap Some none))
