-- Each call of a builder keeps who owns the channels of its draft.
use Rattle.std.proofs.Common.{ℕ, zero, suc, ◌≡◌, ◌⊎◌, ◌+◌, ◌<◌, ◌≤◌, ◌^◌, ◌∙◌, sym, ap, subst, refl, inl, inr, Bool, List, [], ◌∷◌, ◌++◌, length, Option, Some, None, slice_get, slice_set, slice_index, nat_le, nat_lt, arith, zero-add, option_map, length-append, length-set, append-nil}
use Rattle.std.specs.List.{range_with_len}
use Rattle.std.specs.List.Sorted.{IsStrictlyIncreasing}
use Rattle.std.proofs.Math.ListN.{get_or-append}
use Rattle.std.proofs.Math.Seq.{get_or-append_seam}
use Rattle.std.proofs.lemmas.Bool.{cases_lt}
use Rattle.std.proofs.lemmas.List.{map-append, length-map}
use Rattle.std.proofs.lemmas.List.Sums.{sum_by-cons}
use Rattle.std.proofs.lemmas.Bool.Decides.{nat_tests}
use Rattle.std.proofs.lemmas.Option.{slice_get-map, slice_get-get_or}
use Rattle.event_order.specs.Pending.{Among}
use Rattle.event_order.proofs.Pending.{among_append_left, among_append_right, append_among}
use Rattle.ssf_model.specs.declared.builder.BuildFault.{BuildFault}
use Rattle.ssf_model.specs.declared.builder.DraftEntity.{DraftEntity}
use Rattle.ssf_model.specs.declared.builder.OutChannel.{OutChannel}
use Rattle.ssf_model.specs.declared.plan.Mapping.{Mapping}
use Rattle.ssf_model.specs.Reaction.{Each, LongestDelay}
use Rattle.ssf_model.specs.Drafts.{Draft, empty_draft, MostChannels, MostEnds, channels_of, all_timers, timers, out_at, refuse_if, changed_to, changed_at, add_in, add_out, with_entity, with_in_channel, with_out_channel, with_mapping}
use Rattle.ssf_model.specs.Owners.{AreOwned, owners_of, IsDrawn, HasOwners, IsOwned, IsDraft}
use Rattle.ssf_model.proofs.Drafted.{all_timers_push, range_suc}

-- ---- lists by place

pub get_more : {T : Type 0} (xs ys : List T) (i : ℕ) (x : T) → slice_get xs i ≡ Some x → slice_get (xs ++ ys) i ≡ Some x
get_more [] ys i x h = absurd (cc)
get_more (y ∷ xs) ys zero x h = h
get_more (y ∷ xs) ys (suc i) x h = get_more xs ys i x h

pub get_last : {T : Type 0} (xs : List T) (y : T) → slice_get (xs ++ y ∷ []) (length xs) ≡ Some y
get_last [] y = refl
get_last (x ∷ xs) y = get_last xs y

pub record IsLast {T : Type 0} (xs : List T) (y : T) (i : ℕ) (x : T) : Type 0 where
  pub place : i ≡ length xs
  pub same : x ≡ y

pub get_cases : {T : Type 0} (xs : List T) (y : T) (i : ℕ) (x : T) → slice_get (xs ++ y ∷ []) i ≡ Some x → (slice_get xs i ≡ Some x) ⊎ IsLast xs y i x
get_cases [] y zero x h = inr (record { place = refl; same = cc })
get_cases [] y (suc i) x h = absurd (cc)
get_cases (z ∷ xs) y zero x h = inl h
get_cases (z ∷ xs) y (suc i) x h = elim (get_cases xs y i x h) [ inl old ↦ inl old | inr last ↦ inr (record { place = ap (λ n. suc n) last.place; same = last.same }) ]

pub set_same : {T : Type 0} (xs : List T) (i : ℕ) (x y : T) → slice_get xs i ≡ Some x → slice_get (slice_set xs i y) i ≡ Some y
set_same [] i x y h = absurd (cc)
set_same (z ∷ xs) zero x y h = refl
set_same (z ∷ xs) (suc i) x y h = set_same xs i x y h

pub set_other : {T : Type 0} (xs : List T) (i j : ℕ) (y : T) → (j ≡ i → ⊥) → slice_get (slice_set xs i y) j ≡ slice_get xs j
set_other [] i j y apart = refl
set_other (z ∷ xs) zero zero y apart = absurd (apart refl)
set_other (z ∷ xs) zero (suc j) y apart = refl
set_other (z ∷ xs) (suc i) zero y apart = refl
set_other (z ∷ xs) (suc i) (suc j) y apart = set_other xs i j y (λ e. apart (ap (λ n. suc n) e))

same_or_not : (i j : ℕ) → (i ≡ j) ⊎ (i ≡ j → ⊥)
same_or_not zero zero = inl refl
same_or_not zero (suc j) = inr (λ e. omega arith)
same_or_not (suc i) zero = inr (λ e. omega arith)
same_or_not (suc i) (suc j) = elim (same_or_not i j) [ inl e ↦ inl (ap (λ n. suc n) e) | inr apart ↦ inr (λ e. apart (omega arith)) ]

pub there : {T : Type 0} (xs : List T) (i : ℕ) → i < length xs → (x : T) × (slice_get xs i ≡ Some x)
there [] i h = absurd (omega arith)
there (x ∷ xs) zero h = (x, refl)
there (x ∷ xs) (suc i) h = there xs i (omega arith)

pub each_more : {T : Type 0} (Q : T → Type 0) (xs : List T) (y : T) → Each Q xs → Q y → Each Q (xs ++ y ∷ [])
each_more Q [] y each last = (last, tt)
each_more Q (x ∷ xs) y each last = (each.0, each_more Q xs y each.1 last)

pub each_set : {T : Type 0} (Q : T → Type 0) (xs : List T) (i : ℕ) (y : T) → Each Q xs → Q y → Each Q (slice_set xs i y)
each_set Q [] i y each new = tt
each_set Q (x ∷ xs) zero y each new = (new, each.1)
each_set Q (x ∷ xs) (suc i) y each new = (each.0, each_set Q xs i y each.1 new)

pub each_at : {T : Type 0} (Q : T → Type 0) (xs : List T) (i : ℕ) (x : T) → Each Q xs → slice_get xs i ≡ Some x → Q x
each_at Q [] i x each h = absurd (cc)
each_at Q (y ∷ xs) zero x each h = let e : y ≡ x = cc in subst Q e each.0
each_at Q (y ∷ xs) (suc i) x each h = each_at Q xs i x each.1 h

pub each_to : {T : Type 0} (Q R : T → Type 0) (xs : List T) → ((x : T) → Q x → R x) → Each Q xs → Each R xs
each_to Q R [] f each = tt
each_to Q R (x ∷ xs) f each = (f x each.0, each_to Q R xs f each.1)

-- a place at which something stands is one of the list
pub place_within : {T : Type 0} (xs : List T) (i : ℕ) (x : T) → slice_get xs i ≡ Some x → i < length xs
place_within [] i x h = absurd (cc)
place_within (y ∷ xs) zero x h = omega arith
place_within (y ∷ xs) (suc i) x h = let rest = place_within xs i x h in omega arith

pub each_from_places : {T : Type 0} (Q : T → Type 0) (xs : List T) → ((i : ℕ) (x : T) → slice_get xs i ≡ Some x → Q x) → Each Q xs
each_from_places Q [] f = tt
each_from_places Q (x ∷ xs) f = (f zero x refl, each_from_places Q xs (λ i y h. f (suc i) y h))

pub each_from_among : {T : Type 0} (Q : T → Type 0) (xs : List T) → ((x : T) → Among x xs → Q x) → Each Q xs
each_from_among Q [] f = tt
each_from_among Q (x ∷ xs) f = (f x (inl refl), each_from_among Q xs (λ y a. f y (inr a)))

-- ---- lists that rise

among_at : (xs : List ℕ) (k : ℕ) → k < length xs → Among (slice_index xs k) xs
among_at [] k h = absurd (omega arith)
among_at (x ∷ xs) zero h = inl refl
among_at (x ∷ xs) (suc k) h = inr (among_at xs k (omega arith))

-- numbers that rise, and one above them all
rising_more : (xs : List ℕ) (n : ℕ) → IsStrictlyIncreasing xs → ((c : ℕ) → Among c xs → c < n) → IsStrictlyIncreasing (xs ++ n ∷ [])
rising_more xs n rising above k within =
    let long = length-append xs (n ∷ []) in
    let here : k < length xs = omega arith in
    elim (cases_lt (k + 1) (length xs)) [
      | inl inner ↦ rw (get_or-append xs (n ∷ []) 0 (k + 1) inner, get_or-append xs (n ∷ []) 0 k here) (rising k inner)
      | inr last ↦
          let e : k + 1 ≡ length xs = omega arith in
          rw (e, get_or-append_seam xs n [] 0, get_or-append xs (n ∷ []) 0 k here) (above (slice_index xs k) (among_at xs k here))
    ]

-- ---- owners of channels

module _ {T : Type 0} (lists : T → List ℕ) where
  -- one more entity, which has no channels
  pub owned_entity : (owners : List ℕ) (es : List T) (e : T) → lists e ≡ [] → AreOwned lists owners es → AreOwned lists owners (es ++ e ∷ [])
  owned_entity owners es e bare is = record {
    listed = λ channel owner h. let old = is.listed channel owner h in (old.0, get_more es (e ∷ []) owner old.0 old.1, old.2);
    sole = λ channel entity x h among. elim (get_cases es e entity x h) [
      | inl old ↦ is.sole channel entity x old among
      | inr last ↦ absurd (subst (λ (cs : List ℕ). Among channel cs) bare (subst (λ (y : T). Among channel (lists y)) last.same among))
    ];
    rising = each_more (λ (x : T). IsStrictlyIncreasing (lists x)) es e is.rising (subst IsStrictlyIncreasing (sym bare) (λ k within. absurd (omega arith)));
  }

  -- an entity whose channels stay as they are
  pub owned_same : (owners : List ℕ) (es : List T) (place : ℕ) (old new : T) → slice_get es place ≡ Some old → lists new ≡ lists old → AreOwned lists owners es → AreOwned lists owners (slice_set es place new)
  owned_same owners es place old new here same is = record {
    listed = λ channel owner h. let found = is.listed channel owner h in elim (same_or_not owner place) [
      | inl e ↦
          let one : Some found.0 ≡ Some old = sym found.1 ∙ (ap (λ i. slice_get es i) e ∙ here) in
          let it : found.0 ≡ old = cc in (
            new,
            ap (λ i. slice_get (slice_set es place new) i) e ∙ set_same es place old new here,
            subst (λ (cs : List ℕ). Among channel cs) (sym same) (subst (λ (y : T). Among channel (lists y)) it found.2),
          )
      | inr apart ↦ (found.0, set_other es place owner new apart ∙ found.1, found.2)
    ];
    sole = λ channel entity x h among. elim (same_or_not entity place) [
      | inl e ↦
          let one : Some new ≡ Some x = sym (set_same es place old new here) ∙ (sym (ap (λ i. slice_get (slice_set es place new) i) e) ∙ h) in
          let it : x ≡ new = cc in
          is.sole channel entity old (ap (λ i. slice_get es i) e ∙ here) (subst (λ (cs : List ℕ). Among channel cs) same (subst (λ (y : T). Among channel (lists y)) it among))
      | inr apart ↦ is.sole channel entity x (sym (set_other es place entity new apart) ∙ h) among
    ];
    rising = each_set (λ (x : T). IsStrictlyIncreasing (lists x)) es place new is.rising
        (subst IsStrictlyIncreasing (sym same) (each_at (λ (x : T). IsStrictlyIncreasing (lists x)) es place old is.rising here));
  }

  -- the next channel is this entity's
  pub owned_channel : (owners : List ℕ) (es : List T) (place : ℕ) (old new : T) → slice_get es place ≡ Some old → lists new ≡ lists old ++ length owners ∷ [] → AreOwned lists owners es
      → AreOwned lists (owners ++ place ∷ []) (slice_set es place new)
  owned_channel owners es place old new here more is = record {
    listed = λ channel owner h. elim (get_cases owners place channel owner h) [
      | inl before ↦ let found = is.listed channel owner before in elim (same_or_not owner place) [
        | inl e ↦
            let one : Some found.0 ≡ Some old = sym found.1 ∙ (ap (λ i. slice_get es i) e ∙ here) in
            let it : found.0 ≡ old = cc in (
              new,
              ap (λ i. slice_get (slice_set es place new) i) e ∙ set_same es place old new here,
              subst (λ (cs : List ℕ). Among channel cs) (sym more) (among_append_left channel (lists old) _ (subst (λ (y : T). Among channel (lists y)) it found.2)),
            )
        | inr apart ↦ (found.0, set_other es place owner new apart ∙ found.1, found.2)
      ]
      | inr last ↦ (
        new,
        ap (λ i. slice_get (slice_set es place new) i) last.same ∙ set_same es place old new here,
        subst (λ (cs : List ℕ). Among channel cs) (sym more) (among_append_right channel (lists old) _ (inl last.place)),
      )
    ];
    sole = λ channel entity x h among. elim (same_or_not entity place) [
      | inl e ↦
          let one : Some new ≡ Some x = sym (set_same es place old new here) ∙ (sym (ap (λ i. slice_get (slice_set es place new) i) e) ∙ h) in
          let it : x ≡ new = cc in
          let own : Among channel (lists old ++ length owners ∷ []) = subst (λ (cs : List ℕ). Among channel cs) more (subst (λ (y : T). Among channel (lists y)) it among) in
          elim (append_among channel (lists old) _ own) [
            | inl before ↦ get_more owners (place ∷ []) channel entity (is.sole channel entity old (ap (λ i. slice_get es i) e ∙ here) before)
            | inr now ↦ elim now [
              | inl it_is ↦ ap (λ i. slice_get (owners ++ place ∷ []) i) it_is ∙ (get_last owners place ∙ ap (λ n. Some n) (sym e))
              | inr none ↦ absurd none
            ]
          ]
      | inr apart ↦ get_more owners (place ∷ []) channel entity (is.sole channel entity x (sym (set_other es place entity new apart) ∙ h) among)
    ];
    rising = each_set (λ (x : T). IsStrictlyIncreasing (lists x)) es place new is.rising
        (subst IsStrictlyIncreasing (sym more) (rising_more (lists old) (length owners) (each_at (λ (x : T). IsStrictlyIncreasing (lists x)) es place old is.rising here)
        (λ c among. place_within owners c place (is.sole c place old here among))));
  }

-- ---- mappings

drawn_more : (ins outs more_ins more_outs : List ℕ) (m : Mapping) → IsDrawn ins outs m → IsDrawn (ins ++ more_ins) (outs ++ more_outs) m
drawn_more ins outs more_ins more_outs m is = record {
  from = get_more outs more_outs m.out_channel m.from is.from;
  to = get_more ins more_ins m.in_channel m.to is.to;
  delay = is.delay;
  priority = is.priority;
}

drawn_in : (ins outs : List ℕ) (place : ℕ) (ms : List Mapping) → Each (IsDrawn ins outs) ms → Each (IsDrawn (ins ++ place ∷ []) outs) ms
drawn_in ins outs place ms each =
    each_to (IsDrawn ins outs) (IsDrawn (ins ++ place ∷ []) outs) ms (λ m is. subst (λ (os : List ℕ). IsDrawn (ins ++ place ∷ []) os m) (append-nil outs) (drawn_more ins outs (place ∷ []) [] m is)) each

drawn_out : (ins outs : List ℕ) (place : ℕ) (ms : List Mapping) → Each (IsDrawn ins outs) ms → Each (IsDrawn ins (outs ++ place ∷ [])) ms
drawn_out ins outs place ms each =
    each_to (IsDrawn ins outs) (IsDrawn ins (outs ++ place ∷ [])) ms (λ m is. subst (λ (is : List ℕ). IsDrawn is (outs ++ place ∷ []) m) (append-nil ins) (drawn_more ins outs [] (place ∷ []) m is)) each

-- ---- the calls

abbrev bare : {S : Type 0} → S → List Bool → DraftEntity S
bare state timed = record { state = state; timed = timed; in_channels = []; out_channels = [] }

pub owned_with_entity : {B S : Type 0} (d : Draft B S) (state : S) (timed : List Bool) → length timed ≤ 2 ^ 32 → IsOwned d → IsOwned (with_entity d state timed)
unfolding IsOwned
owned_with_entity d state timed short owned = let is : HasOwners d = owned in record {
  ins = owned_entity (λ e. e.in_channels) d.in_owners d.entities (bare state timed) refl is.ins;
  outs = owned_entity (λ e. e.out_channels) (owners_of d.outs) d.entities (bare state timed) refl is.outs;
  mappings = is.mappings;
  places = is.places;
  few = each_more _ d.entities (bare state timed) is.few short;
}

-- ---- sizes

all_timers_set : {S : Type 0} (es : List (DraftEntity S)) (place : ℕ) (old new : DraftEntity S) → slice_get es place ≡ Some old → new.timed ≡ old.timed → all_timers (slice_set es place new) ≡ all_timers es
all_timers_set [] place old new here same = refl
all_timers_set (e ∷ es) zero old new here same =
    let one : e ≡ old = cc in
    let flags : timers new.timed ≡ timers e.timed = ap timers (same ∙ sym (ap (λ (x : DraftEntity _). x.timed) one)) in
    sum_by-cons (λ x. timers x.timed) new es ∙ (ap (λ n. n + all_timers es) flags ∙ sym (sum_by-cons (λ x. timers x.timed) e es))
all_timers_set (e ∷ es) (suc place) old new here same =
    sum_by-cons (λ x. timers x.timed) e (slice_set es place new) ∙ (ap (λ n. timers e.timed + n) (all_timers_set es place old new here same) ∙ sym (sum_by-cons (λ x. timers x.timed) e es))

-- ---- the calls

pub draft_entity : {B S : Type 0} (t t' : ℕ) (d : Draft B S) (state : S) (timed : List Bool) → length timed < 2 ^ 32 → t' ≡ t + timers timed → channels_of d + (1 + timers timed) ≤ MostChannels → IsDraft t d
    → IsDraft t' (with_entity d state timed)
draft_entity t t' d state timed short more few is =
    let sum = all_timers_push d.entities (bare state timed) in
    let told = is.range.timed_is in
    let long = length-append d.entities (bare state timed ∷ []) in
    record {
      range = record { timed_is = omega arith; channels = omega arith; ins = is.range.ins; outs = is.range.outs };
      owned = owned_with_entity d state timed (omega arith) is.owned;
    }

pub draft_in_channel : {B S : Type 0} (t : ℕ) (d : Draft B S) (place : ℕ) → place < length d.entities → length d.in_owners < MostEnds → IsDraft t d → IsDraft t (with_in_channel d place)
unfolding IsOwned
draft_in_channel {B} {S} t d place within few is =
    let found = there d.entities place within in
    let old : DraftEntity S = found.0 in
    let new : DraftEntity S = add_in (length d.in_owners) old in
    let set : changed_at (add_in (length d.in_owners)) d.entities place ≡ slice_set d.entities place new = ap (λ (o : Option (DraftEntity S)). changed_to (add_in (length d.in_owners)) d.entities place o) found.1 in
    let sum = all_timers_set d.entities place old new found.1 refl in
    let sum2 : all_timers (changed_at (add_in (length d.in_owners)) d.entities place) ≡ all_timers d.entities = ap all_timers set ∙ sum in
    let long : length (changed_at (add_in (length d.in_owners)) d.entities place) ≡ length d.entities = ap length set ∙ length-set d.entities place new in
    let more = length-append d.in_owners (place ∷ []) in
    let ranges = is.range in
    let own : HasOwners d = is.owned in
    record {
      range = record { timed_is = omega arith; channels = omega arith; ins = omega arith; outs = ranges.outs };
      owned = record {
        ins = subst (λ (es : List (DraftEntity S)). AreOwned (λ e. e.in_channels) (d.in_owners ++ place ∷ []) es) (sym set) (owned_channel (λ e. e.in_channels) d.in_owners d.entities place old new found.1 refl own.ins);
        outs = subst (λ (es : List (DraftEntity S)). AreOwned (λ e. e.out_channels) (owners_of d.outs) es) (sym set) (owned_same (λ e. e.out_channels) (owners_of d.outs) d.entities place old new found.1 refl own.outs);
        mappings = drawn_in d.in_owners (owners_of d.outs) place d.mappings own.mappings;
        places = own.places;
        few = subst (λ (es : List (DraftEntity S)). Each (λ e. length e.timed ≤ 2 ^ 32) es) (sym set) (each_set (λ (e : DraftEntity S). length e.timed ≤ 2 ^ 32) d.entities place new own.few (each_at (λ (e : DraftEntity S). length e.timed ≤ 2 ^ 32) d.entities place old own.few found.1));
      };
    }

pub draft_out_channel : {B S : Type 0} (t : ℕ) (d : Draft B S) (place delay : ℕ) → place < length d.entities → length d.outs < MostEnds → IsDraft t d → IsDraft t (with_out_channel d place delay)
unfolding IsOwned
draft_out_channel {B} {S} t d place delay within few is =
    let found = there d.entities place within in
    let old : DraftEntity S = found.0 in
    let new : DraftEntity S = add_out (length d.outs) old in
    let set : changed_at (add_out (length d.outs)) d.entities place ≡ slice_set d.entities place new = ap (λ (o : Option (DraftEntity S)). changed_to (add_out (length d.outs)) d.entities place o) found.1 in
    let sum = all_timers_set d.entities place old new found.1 refl in
    let sum2 : all_timers (changed_at (add_out (length d.outs)) d.entities place) ≡ all_timers d.entities = ap all_timers set ∙ sum in
    let long : length (changed_at (add_out (length d.outs)) d.entities place) ≡ length d.entities = ap length set ∙ length-set d.entities place new in
    let out : OutChannel = record { entity = place; delay = delay } in
    let more = length-append d.outs (out ∷ []) in
    let owners : owners_of (d.outs ++ out ∷ []) ≡ owners_of d.outs ++ place ∷ [] = map-append (λ (o : OutChannel). o.entity) d.outs (out ∷ []) in
    let number : length (owners_of d.outs) ≡ length d.outs = length-map d.outs (λ (o : OutChannel). o.entity) in
    let ranges = is.range in
    let own : HasOwners d = is.owned in
    record {
      range = record { timed_is = omega arith; channels = omega arith; ins = ranges.ins; outs = omega arith };
      owned = record {
        ins = subst (λ (es : List (DraftEntity S)). AreOwned (λ e. e.in_channels) d.in_owners es) (sym set) (owned_same (λ e. e.in_channels) d.in_owners d.entities place old new found.1 refl own.ins);
        outs = subst (λ (es : List (DraftEntity S)). AreOwned (λ e. e.out_channels) (owners_of (d.outs ++ out ∷ [])) es) (sym set)
            (subst (λ (os : List ℕ). AreOwned (λ e. e.out_channels) os (slice_set d.entities place new)) (sym owners)
            (owned_channel (λ e. e.out_channels) (owners_of d.outs) d.entities place old new found.1 (ap (λ n. old.out_channels ++ n ∷ []) (sym number)) own.outs));
        mappings = subst (λ (os : List ℕ). Each (IsDrawn d.in_owners os) d.mappings) (sym owners) (drawn_out d.in_owners (owners_of d.outs) place d.mappings own.mappings);
        places = own.places;
        few = subst (λ (es : List (DraftEntity S)). Each (λ e. length e.timed ≤ 2 ^ 32) es) (sym set) (each_set (λ (e : DraftEntity S). length e.timed ≤ 2 ^ 32) d.entities place new own.few (each_at (λ (e : DraftEntity S). length e.timed ≤ 2 ^ 32) d.entities place old own.few found.1));
      };
    }

pub draft_mapping : {B S : Type 0} (t : ℕ) (d : Draft B S) (from to delay priority : ℕ) → from < length d.outs → to < length d.in_owners → (out_at d from).delay + delay ≤ LongestDelay
    → channels_of d < MostChannels → priority < 2 ^ 8 → IsDraft t d → IsDraft t (with_mapping d from to delay priority)
unfolding IsOwned
draft_mapping t d from to delay priority within_outs within_ins short few level is =
    let none : OutChannel = record { entity = 0; delay = 0 } in
    let m : Mapping = record {
      channel = length d.mappings;
      out_channel = from;
      in_channel = to;
      from = (out_at d from).entity;
      to = slice_index d.in_owners to;
      delay = (out_at d from).delay + delay;
      priority = priority;
    } in
    let out : slice_get (owners_of d.outs) from ≡ Some m.from = slice_get-map (λ (o : OutChannel). o.entity) d.outs from ∙ ap (λ (o : Option OutChannel). option_map (λ (x : OutChannel). x.entity) o) (slice_get-get_or d.outs from none within_outs) in
    let more = length-append d.mappings (m ∷ []) in
    let long : length (d.mappings ++ m ∷ []) ≡ suc (length d.mappings) = omega arith in
    let ranges = is.range in
    let own : HasOwners d = is.owned in
    record {
      range = record { timed_is = ranges.timed_is; channels = omega arith; ins = ranges.ins; outs = ranges.outs };
      owned = record {
        ins = own.ins;
        outs = own.outs;
        mappings = each_more (IsDrawn d.in_owners (owners_of d.outs)) d.mappings m own.mappings (record { from = out; to = slice_get-get_or d.in_owners to 0 within_ins; delay = short; priority = level });
        places = map-append (λ (k : Mapping). k.channel) d.mappings (m ∷ [])
            ∙ (ap (λ (cs : List ℕ). cs ++ length d.mappings ∷ []) own.places
            ∙ sym (ap (λ n. range_with_len 0 n) long ∙ (range_suc 0 (length d.mappings) ∙ ap (λ k. range_with_len 0 (length d.mappings) ++ k ∷ []) (zero-add (length d.mappings)))));
        few = own.few;
      };
    }

-- ---- what the calls make

pub no_room : (fault : BuildFault) (n most : ℕ) → n < most → refuse_if (nat_le most n) fault None ≡ None
no_room fault n most less = grind (arith, nat_tests)

pub made_in : {B S : Type 0} (d : Draft B S) (place : ℕ) (old : DraftEntity S) (ins owners : List ℕ) → slice_get d.entities place ≡ Some old → ins ≡ old.in_channels ++ length d.in_owners ∷ [] → owners ≡ d.in_owners ++ place ∷ []
    → record d { entities = slice_set d.entities place (record { state = old.state; timed = old.timed; in_channels = ins; out_channels = old.out_channels }); in_owners = owners } ≡ with_in_channel d place
made_in {B} {S} d place old ins owners here ins_is owners_is =
    let set : changed_at (add_in (length d.in_owners)) d.entities place ≡ slice_set d.entities place (add_in (length d.in_owners) old) = ap (λ (o : Option (DraftEntity S)). changed_to (add_in (length d.in_owners)) d.entities place o) here in
    cc

pub made_out : {B S : Type 0} (d : Draft B S) (place delay : ℕ) (old : DraftEntity S) (channels : List ℕ) (outs : List OutChannel) → slice_get d.entities place ≡ Some old → channels ≡ old.out_channels ++ length d.outs ∷ []
    → outs ≡ d.outs ++ record { entity = place; delay = delay } ∷ []
    → record d { entities = slice_set d.entities place (record { state = old.state; timed = old.timed; in_channels = old.in_channels; out_channels = channels }); outs = outs } ≡ with_out_channel d place delay
made_out {B} {S} d place delay old channels outs here channels_is outs_is =
    let set : changed_at (add_out (length d.outs)) d.entities place ≡ slice_set d.entities place (add_out (length d.outs) old) = ap (λ (o : Option (DraftEntity S)). changed_to (add_out (length d.outs)) d.entities place o) here in
    cc

pub kept_entity : {B S : Type 0} (t t' : ℕ) (d : Draft B S) (state : S) (timed flags : List Bool) (ins outs : List ℕ) (es : List (DraftEntity S)) → length timed < 2 ^ 32 → t' ≡ t + timers timed
    → channels_of d + (1 + timers timed) ≤ MostChannels → flags ≡ timed → ins ≡ [] → outs ≡ [] → es ≡ d.entities ++ record { state = state; timed = flags; in_channels = ins; out_channels = outs } ∷ []
    → IsDraft t d → IsDraft t' (record d { entities = es })
kept_entity {B} {S} t t' d state timed flags ins outs es short more few flags_are ins_are outs_are es_are is =
    let made : with_entity d state timed ≡ record d { entities = es } = cc in
    subst (λ (x : Draft B S). IsDraft t' x) made (draft_entity t t' d state timed short more few is)

pub no_long : (fault : BuildFault) (n most : ℕ) (rest : Option BuildFault) → n ≤ most → rest ≡ None → refuse_if (nat_lt most n) fault rest ≡ None
no_long fault n most rest less none = grind (arith, nat_tests)

pub kept_mapping : {B S : Type 0} (t : ℕ) (d : Draft B S) (from to delay priority place owner total : ℕ) (out : OutChannel) (ms : List Mapping) → from < length d.outs → out ≡ out_at d from → to < length d.in_owners
    → owner ≡ slice_index d.in_owners to → total ≡ out.delay + delay → total ≤ LongestDelay → channels_of d < MostChannels → priority < 2 ^ 8 → place ≡ length d.mappings
    → ms ≡ d.mappings ++ record { channel = place; out_channel = from; in_channel = to; from = out.entity; to = owner; delay = total; priority = priority } ∷ []
    → IsDraft t d → IsDraft t (record d { mappings = ms })
kept_mapping {B} {S} t d from to delay priority place owner total out ms within_outs out_is within_ins owner_is total_is short few level place_is ms_are is =
    let same : total ≡ (out_at d from).delay + delay = total_is ∙ ap (λ (o : OutChannel). o.delay + delay) out_is in
    let short_sum : (out_at d from).delay + delay ≤ LongestDelay = subst (λ n. n ≤ LongestDelay) same short in
    let made : with_mapping d from to delay priority ≡ record d { mappings = ms } = cc in
    subst (λ (x : Draft B S). IsDraft t x) made (draft_mapping t d from to delay priority within_outs within_ins short_sum few level is)

draft_new : {B S : Type 0} (behaviour : B) → IsDraft 0 (empty_draft {S = S} behaviour)
unfolding IsOwned
draft_new {B} {S} behaviour =
    let has : HasOwners (empty_draft {S = S} behaviour) = record {
      ins = record { listed = λ channel owner h. absurd (cc); sole = λ channel entity e h among. absurd (cc); rising = tt };
      outs = record { listed = λ channel owner h. absurd (cc); sole = λ channel entity e h among. absurd (cc); rising = tt };
      mappings = tt;
      places = refl;
      few = tt;
    } in
    record { range = record { timed_is = refl; channels = omega arith; ins = omega arith; outs = omega arith }; owned = has }

pub kept_new : {B S : Type 0} (behaviour : B) (es : List (DraftEntity S)) (ins : List ℕ) (outs : List OutChannel) (ms : List Mapping) → es ≡ [] → ins ≡ [] → outs ≡ [] → ms ≡ []
    → IsDraft 0 (record { behaviour = behaviour; entities = es; in_owners = ins; outs = outs; mappings = ms })
kept_new {B} {S} behaviour es ins outs ms es_are ins_are outs_are ms_are =
    let made : empty_draft {S = S} behaviour ≡ record { behaviour = behaviour; entities = es; in_owners = ins; outs = outs; mappings = ms } = cc in
    subst (λ (x : Draft B S). IsDraft 0 x) made (draft_new behaviour)
