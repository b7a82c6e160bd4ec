-- A share counts the channels on which its entities write.
use Rattle.std.proofs.Common.{◌≡◌, ℕ, zero, suc, ◌+◌, true, false, nat_eq, List, [], ◌∷◌, map, slice_get, Some, refl, sym, ap, ◌∙◌, subst, inl, inr, arith, eqb-true, eq-eqb}
use Rattle.std.specs.List.{filter, enumerate_from}
use Rattle.event_order.specs.Pending.{Among}
use Rattle.event_order.proofs.Pending.{test_cases, among_append_left, among_append_right, append_among, among_filter, filter_among}
use Rattle.ssf_model.specs.declared.entity.Entity.{Entity}
use Rattle.ssf_model.specs.declared.plan.Mapping.{Mapping}
use Rattle.ssf_model.specs.declared.plan.Plan.{Plan}
use Rattle.ssf_model.specs.Run.{counts_of}
use Rattle.ssf_model.proofs.Lists.{among_map, mapped_among, among_flat}
use Rattle.run_health.specs.Groups.{IsWriterOn}
use Rattle.alignment.specs.Alignment.{line_of}
use Rattle.timeline_parts.specs.Tables.{numbers_of}
use Rattle.timeline_parts.specs.Sending.{count_of}
use Rattle.plan_shares.specs.Shares.{is_on, entities_on, timers_in, timers_on, mapped_on, channels_on, counted_in}
use Rattle.plan_shares.proofs.ForEach.{flat_of}
use Rattle.plan_shares.proofs.InOrder.{numbers_counted}

-- ---- items with their numbers

module _ {T : Type 0} where
  pub numbered_place : (n : ℕ) (xs : List T) (x : ℕ × T) → Among x (enumerate_from n xs) → (k : ℕ) × (n + k ≡ x.0) × (slice_get xs k ≡ Some x.1)
  numbered_place n [] x a = absurd a
  numbered_place n (y ∷ ys) x (inl e) = let number : x.0 ≡ n = ap (λ (z : ℕ × T). z.0) e in (0, omega arith, ap (λ (z : ℕ × T). Some z.1) (sym e))
  numbered_place n (y ∷ ys) x (inr a) = let rest = numbered_place (n + 1) ys x a in let number = rest.1 in (suc rest.0, omega arith, rest.2)

  pub place_numbered : (n : ℕ) (xs : List T) (k m : ℕ) (x : T) → n + k ≡ m → slice_get xs k ≡ Some x → Among (m, x) (enumerate_from n xs)
  place_numbered n [] k m x h e = absurd (cc)
  place_numbered n (y ∷ ys) zero m x h e = let same : y ≡ x = cc in let number : m ≡ n = omega arith in inl (ap (λ k. (k, x)) number ∙ ap (λ z. (n, z)) (sym same))
  place_numbered n (y ∷ ys) (suc k) m x h e = inr (place_numbered (n + 1) ys k m x (omega arith) e)

-- ---- who writes

-- an entity of timeline i writes on channel c
abbrev pub IsWrittenOn : {B S P : Type 0} → Plan B S P → List ℕ → ℕ → ℕ → Type 0
IsWrittenOn plan lines i c = (k : ℕ) × (line_of lines k ≡ i) × IsWriterOn plan k c

module _ {B S P : Type 0} (plan : Plan B S P) (lines : List ℕ) (i c : ℕ) where
  writer_of : Among c (channels_on plan lines i) → IsWrittenOn plan lines i c
  writer_of a = elim (append_among c (timers_on lines i plan.entities) (mapped_on lines i plan.mappings) a) [
    | inl b ↦ (let found = among_flat (λ (x : ℕ × Entity B S P). timers_in x.1.processes) c (entities_on lines i plan.entities) b in
        let kept = filter_among (λ (x : ℕ × Entity B S P). is_on lines i x.0) found.of (enumerate_from 0 plan.entities) found.among in
        let place = numbered_place 0 plan.entities found.of kept.among in
        let same : place.0 ≡ found.of.0 = let is = place.1 in omega arith in
        (place.0, subst (λ k. line_of lines k ≡ i) (sym same) (eqb-true (line_of lines found.of.0) i kept.passes), inr (found.of.1, place.2, found.within)))
    | inr b ↦ (let found = among_map (λ (m : Mapping). m.channel) c (filter (λ m. is_on lines i m.from) plan.mappings) b in
        let kept = filter_among (λ (m : Mapping). is_on lines i m.from) found.of plan.mappings found.among in
        (found.of.from, eqb-true (line_of lines found.of.from) i kept.passes, inl (found.of, kept.among, record { source = refl; channel_is = sym found.is })))
  ]

  of_writer : IsWrittenOn plan lines i c → Among c (channels_on plan lines i)
  of_writer (k, on, inl (m, among, from)) =
      let test : is_on lines i m.from ≡ true = eq-eqb (line_of lines m.from) i (ap (λ e. line_of lines e) from.source ∙ on) in
      let kept = among_filter (λ (x : Mapping). is_on lines i x.from) m plan.mappings among test in
      among_append_right c (timers_on lines i plan.entities) (mapped_on lines i plan.mappings)
      (subst (λ d. Among d (mapped_on lines i plan.mappings)) from.channel_is (mapped_among (λ (x : Mapping). x.channel) m (filter (λ x. is_on lines i x.from) plan.mappings) kept))
  of_writer (k, on, inr (e, at, timer)) =
      let kept = among_filter (λ (x : ℕ × Entity B S P). is_on lines i x.0) (k, e) (enumerate_from 0 plan.entities) (place_numbered 0 plan.entities k k e (omega arith) at) (eq-eqb (line_of lines k) i on) in
      among_append_left c (timers_on lines i plan.entities) (mapped_on lines i plan.mappings)
      (flat_of (λ (x : ℕ × Entity B S P). timers_in x.1.processes) c (entities_on lines i plan.entities) (k, e) kept timer)

  pub counted_writer : Among c (numbers_of (map (counted_in plan.counts) (channels_on plan lines i))) → IsWrittenOn plan lines i c
  counted_writer a = writer_of (subst (λ xs. Among c xs) (numbers_counted plan.counts (channels_on plan lines i)) a)

  pub writer_counted : IsWrittenOn plan lines i c → Among c (numbers_of (map (counted_in plan.counts) (channels_on plan lines i)))
  writer_counted w = subst (λ xs. Among c xs) (sym (numbers_counted plan.counts (channels_on plan lines i))) (of_writer w)

pub counted_as : (counts cs : List ℕ) (c : ℕ) → Among c (numbers_of (map (counted_in counts) cs)) → count_of (map (counted_in counts) cs) c ≡ counts_of counts c
counted_as counts [] c a = absurd a
counted_as counts (d ∷ ds) c a = elim (test_cases (nat_eq c d)) [
  | inl t ↦ rw t (ap (counts_of counts) (sym (eqb-true c d t)))
  | inr f ↦ rw f (counted_as counts ds c (later f (let b : Among c (d ∷ numbers_of (map (counted_in counts) ds)) = a in b)))
]
  where
    later : nat_eq c d ≡ false → Among c (d ∷ numbers_of (map (counted_in counts) ds)) → Among c (numbers_of (map (counted_in counts) ds))
    later f (inl e) = absurd (let wrong : true ≡ false = sym (eq-eqb c d e) ∙ f in cc)
    later f (inr b) = b
