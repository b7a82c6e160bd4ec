-- The writes of any run by their place on a channel: a write has one place, and at one place stands one write. Stretches,
-- promises and true parcels.
use Rattle.std.proofs.Common.{ℕ, zero, suc, ◌≡◌, ◌⊎◌, ◌+◌, ◌<◌, ◌∙◌, sym, ap, subst, refl, inl, inr, true, List, [], ◌∷◌, ◌++◌, length, Option, Some, None, slice_get, arith, zero-add, suc-add, append-nil, eqb-true, eq-eqb}
use Rattle.std.specs.List.{flat_map}
use Rattle.std.proofs.lemmas.List.Elements.{filter-append}
use Rattle.event_order.specs.Pending.{Among}
use Rattle.event_order.proofs.Pending.{among_append_right, append_among, among_filter, filter_among}
use Rattle.event_order.specs.Machine.{option_list}
use Rattle.event_order.proofs.Steps.{lt_or_ge, difference}
use Rattle.ssf_model.specs.Scene.{Scene, world_at, event_at, time_of, channel_of}
use Rattle.ssf_model.specs.Truth.{writes_within, writes_on, has_channel, IsWrite, IsRunWrite, IsStretch, IsTrueParcel}
use Rattle.ssf_model.proofs.Lists.{place_of, place_more, place_among, among_place}

module _ {X E : Type 0} (s : Scene X E) where
  -- what is in the list after some events is in it after more
  later_more : (c n k m : ℕ) (d : E) → slice_get (writes_on s c n) k ≡ Some d → slice_get (writes_on s c (m + n)) k ≡ Some d
  later_more c n k zero d h = rw zero-add h
  later_more c n k (suc m) d h =
      let joined = filter-append (has_channel s c) (writes_within s (m + n)) (flat_map (s.machine.writes (world_at s (m + n)).state) (option_list (event_at s (m + n)))) in
      rw (suc-add, joined) (place_more _ _ k d (later_more c n k m d h))

  pub one_write : (c k : ℕ) (d e : E) → IsWrite s c k d → IsWrite s c k e → d ≡ e
  one_write c k d e first second =
      let one = later_more c first.within k second.within d first.is in
      let two = later_more c second.within k first.within e second.is in
      let same : second.within + first.within ≡ first.within + second.within = omega arith in
      let both : Some d ≡ Some e = sym one ∙ (ap (λ n. slice_get (writes_on s c n) k) same ∙ two) in
      cc

  pub has_write : (d : E) → IsRunWrite s d → (k : ℕ) × IsWrite s (channel_of s d) k d
  has_write d is =
      let c = channel_of s d in
      let told : Among d (flat_map (s.machine.writes (world_at s is.at).state) (option_list (event_at s is.at))) = rw (is.is, append-nil) is.written in
      let all : Among d (writes_on s c (suc is.at)) = among_filter (has_channel s c) d (writes_within s (suc is.at)) (among_append_right d (writes_within s is.at) _ told) (eq-eqb c c refl) in
      let found = among_place d _ all in
      (found.0, record { within = suc is.at; is = found.1 })

  -- a write by one event
  by_event : (n : ℕ) (d : E) (o : Option E) → event_at s n ≡ o → Among d (flat_map (s.machine.writes (world_at s n).state) (option_list o)) → IsRunWrite s d
  by_event n d None is a = absurd a
  by_event n d (Some e) is a = record { at = n; by = e; is = is; written = subst (λ (ds : List E). Among d ds) (append-nil (s.machine.writes (world_at s n).state e)) a }

  by_some : (n : ℕ) (d : E) → Among d (writes_within s n) → IsRunWrite s d
  by_some zero d a = absurd a
  by_some (suc n) d a = elim (append_among d (writes_within s n) _ a) [ inl before ↦ by_some n d before | inr now ↦ by_event n d (event_at s n) refl now ]

  pub is_written : (c k : ℕ) (d : E) → IsWrite s c k d → IsRunWrite s d
  is_written c k d is = by_some is.within d (filter_among (has_channel s c) d (writes_within s is.within) (place_among _ k d is.is)).among

  pub write_channel : (c k : ℕ) (d : E) → IsWrite s c k d → channel_of s d ≡ c
  write_channel c k d is = eqb-true (channel_of s d) c (filter_among (has_channel s c) d (writes_within s is.within) (place_among _ k d is.is)).passes

  -- ---- stretches

  pub stretch_length : (c first end : ℕ) (ds : List E) → IsStretch s c first ds end → end ≡ first + length ds
  stretch_length c first end [] h = omega (arith, h)
  stretch_length c first end (d ∷ ds) h = omega (arith, stretch_length c (suc first) end ds h.1)

  pub stretch_at : (c first end : ℕ) (ds : List E) → IsStretch s c first ds end → (j : ℕ) (d : E) → slice_get ds j ≡ Some d → IsWrite s c (first + j) d
  stretch_at c first end [] h j d at = absurd (cc)
  stretch_at c first end (x ∷ ds) h zero d at =
      let same : x ≡ d = cc in
      let place : first ≡ first + 0 = omega arith in
      subst (λ n. IsWrite s c n d) place (subst (λ y. IsWrite s c first y) same h.0)
  stretch_at c first end (x ∷ ds) h (suc j) d at =
      let place : suc first + j ≡ first + suc j = omega arith in
      subst (λ n. IsWrite s c n d) place (stretch_at c (suc first) end ds h.1 j d at)

  pub stretch_of : (c first : ℕ) (ds : List E) (end : ℕ) → end ≡ first + length ds → ((j : ℕ) (d : E) → slice_get ds j ≡ Some d → IsWrite s c (first + j) d) → IsStretch s c first ds end
  stretch_of c first [] end long h = omega arith
  stretch_of c first (x ∷ ds) end long h = (
    (let place : first + 0 ≡ first = omega arith in subst (λ n. IsWrite s c n x) place (h 0 x refl)),
    stretch_of c (suc first) ds end (omega arith) (λ j d at. let place : first + suc j ≡ suc first + j = omega arith in subst (λ n. IsWrite s c n d) place (h (suc j) d at)),
  )

  pub stretch_joined : (c first between end : ℕ) (xs ys : List E) → IsStretch s c first xs between → IsStretch s c between ys end → IsStretch s c first (xs ++ ys) end
  stretch_joined c first between end [] ys a b = subst (λ n. IsStretch s c n ys end) (sym a) b
  stretch_joined c first between end (x ∷ xs) ys a b = (a.0, stretch_joined c (suc first) between end xs ys a.1 b)

  -- ---- parcels

  pub parcels_agree : (c first end bound first' end' bound' : ℕ) (ds es : List E) → IsTrueParcel s c first ds end bound → IsTrueParcel s c first' es end' bound'
      → (i j : ℕ) (d e : E) → first + i ≡ first' + j → slice_get ds i ≡ Some d → slice_get es j ≡ Some e → d ≡ e
  parcels_agree c first end bound first' end' bound' ds es p q i j d e same at there =
      one_write c (first + i) d e (stretch_at c first end ds p.events i d at) (subst (λ n. IsWrite s c n e) (sym same) (stretch_at c first' end' es q.events j e there))

  pub parcel_whole : (c first end bound : ℕ) (ds : List E) → s.net.appointed c ≡ true → IsTrueParcel s c first ds end bound → (k : ℕ) (d : E) → IsWrite s c k d → time_of s d < bound
      → (k < first) ⊎ Among d ds
  parcel_whole c first end bound ds own is k d write early =
      let below : k < end = is.promise own k d write early in
      elim (lt_or_ge k first) [
        | inl before ↦ inl before
        | inr later ↦
            let rest = difference first k later in
            let place : rest.0 < length ds = omega (arith, rest.1, stretch_length c first end ds is.events) in
            let there = place_of ds rest.0 place in
            let held : IsWrite s c k there.0 = let sum : first + rest.0 ≡ k = omega (arith, rest.1) in subst (λ n. IsWrite s c n there.0) sum (stretch_at c first end ds is.events rest.0 there.0 there.1) in
            inr (place_among ds rest.0 d (there.1 ∙ ap (λ z. Some z) (one_write c k there.0 d held write)))
      ]
