-- All parts at first.
use Rattle.std.proofs.Common.{ℕ, zero, suc, ◌≡◌, ◌+◌, ◌<◌, refl, sym, ap, ◌∙◌, subst, arith, List, [], ◌∷◌, ◌++◌, map, take, drop, length, get_or, length-append, Some, slice_get}
use Rattle.std.proofs.lemmas.List.{take_more}
use Rattle.timeline_parts.specs.declared.part.Cross.{Cross}
use Rattle.timeline_parts.specs.declared.part.Part.{Part}
use Rattle.timeline.specs.View.{TimelineOf}
use Rattle.timeline.specs.Opening.{IsFirst, first_in, first_out}
use Rattle.sync_steps.specs.Between.{in_place, cross_place, out_delay, cross_delay}
use Rattle.sync_core.specs.Cores.{AreFirst, IsOneOf}

places_first : (xs : List Cross) → map in_place (map first_in xs) ≡ map cross_place xs
places_first [] = refl
places_first (x ∷ xs) = ap (λ ps. cross_place x ∷ ps) (places_first xs)

delays_first : (P : Type 0) (xs : List Cross) → map (out_delay {P = P}) (map (first_out {P = P}) xs) ≡ map cross_delay xs
delays_first P [] = refl
delays_first P (x ∷ xs) = ap (λ ds. cross_delay x ∷ ds) (delays_first P xs)

module _ {B S P : Type 0} where
  pub first_has_crosses : (p : Part B S P) (until budget : ℕ) (t : TimelineOf B S P) → IsFirst p until budget t → IsOneOf until t
  first_has_crosses p until budget t q = record {
    last = q.last;
    crosses = record {
      ins = ap (map in_place) q.in_ends ∙ (places_first p.ins ∙ ap (map cross_place) (sym q.ins));
      outs = ap (map out_delay) q.out_ends ∙ (delays_first P p.outs ∙ ap (map cross_delay) (sym q.outs));
    };
  }

  pub first_more : (until budget : ℕ) (ps : List (Part B S P)) (ts : List (TimelineOf B S P)) (p : Part B S P) (t : TimelineOf B S P) → AreFirst until budget ps ts → IsFirst p until budget t
      → AreFirst until budget (ps ++ p ∷ []) (ts ++ t ∷ [])
  first_more until budget [] [] p t all is = (is, tt)
  first_more until budget [] (u ∷ us) p t all is = absurd all
  first_more until budget (q ∷ qs) [] p t all is = absurd all
  first_more until budget (q ∷ qs) (u ∷ us) p t all is = (all.0, first_more until budget qs us p t all.1 is)

  pub first_length : (until budget : ℕ) (ps : List (Part B S P)) (ts : List (TimelineOf B S P)) → AreFirst until budget ps ts → length ts ≡ length ps
  first_length until budget [] [] all = refl
  first_length until budget [] (u ∷ us) all = absurd all
  first_length until budget (q ∷ qs) [] all = absurd all
  first_length until budget (q ∷ qs) (u ∷ us) all = ap suc (first_length until budget qs us all.1)

  -- each of the timelines has its part
  pub first_each : (until budget : ℕ) (ps : List (Part B S P)) (ts : List (TimelineOf B S P)) (i : ℕ) (t : TimelineOf B S P) → AreFirst until budget ps ts → slice_get ts i ≡ Some t
      → (p : Part B S P) × (slice_get ps i ≡ Some p) × IsFirst p until budget t
  first_each until budget [] [] i t all h = absurd (cc)
  first_each until budget [] (u ∷ us) i t all h = absurd all
  first_each until budget (q ∷ qs) [] i t all h = absurd all
  first_each until budget (q ∷ qs) (u ∷ us) zero t all h = let same : u ≡ t = cc in (q, refl, subst (IsFirst q until budget) same all.0)
  first_each until budget (q ∷ qs) (u ∷ us) (suc i) t all h = first_each until budget qs us i t all.1 h

  -- one more timeline, of the next part
  pub first_next : (until budget : ℕ) (parts : List (Part B S P)) (ts next : List (TimelineOf B S P)) (p : Part B S P) (t : TimelineOf B S P) → length ts < length parts → p ≡ get_or parts (length ts) p
      → next ≡ ts ++ t ∷ [] → AreFirst until budget (take (length ts) parts) ts → IsFirst p until budget t → AreFirst until budget (take (length next) parts) next
  first_next until budget parts ts next p t within read then all is =
      let more = first_more until budget (take (length ts) parts) ts p t all is in
      let front : take (length ts + 1) parts ≡ take (length ts) parts ++ p ∷ [] = take_more parts (length ts) p within ∙ ap (λ q. take (length ts) parts ++ q ∷ []) (sym read) in
      let size : length ts + 1 ≡ length (ts ++ t ∷ []) = omega (arith, length-append ts (t ∷ [])) in
      subst (λ (us : List (TimelineOf B S P)). AreFirst until budget (take (length us) parts) us) (sym then)
      (subst (λ n. AreFirst until budget (take n parts) (ts ++ t ∷ [])) size (subst (λ (ps : List (Part B S P)). AreFirst until budget ps (ts ++ t ∷ [])) (sym front) more))

  pub rest_next : (parts : List (Part B S P)) (ts next : List (TimelineOf B S P)) (t : TimelineOf B S P) (rest : List (Part B S P)) → next ≡ ts ++ t ∷ [] → drop (length ts + 1) parts ≡ rest
      → drop (length next) parts ≡ rest
  rest_next parts ts next t rest then left =
      let size : length next ≡ length ts + 1 = ap length then ∙ length-append ts (t ∷ []) in
      ap (λ n. drop n parts) size ∙ left
