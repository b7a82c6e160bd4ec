-- What can be told of a timeline's ends by its mappings.
use Rattle.std.proofs.Common.{◌≡◌, ℕ, ◌+◌, ◌<◌, Bool, true, false, cond, nat_eq, nat_le, ◌&&◌, min, List, [], ◌∷◌, map, refl, sym, ap, ◌∙◌, subst, inl, inr, arith, Some, eqb-true, eq-eqb}
use Rattle.std.specs.Prelude.{slice_index}
use Rattle.std.proofs.lemmas.Bool.{ne_eqb}
use Rattle.event_order.specs.Pending.{Among}
use Rattle.event_order.proofs.Pending.{test_cases}
use Rattle.timeline_parts.specs.declared.ends.InEnd.{InEnd}
use Rattle.timeline_parts.specs.declared.ends.OutEnd.{OutEnd}
use Rattle.timeline_parts.specs.declared.part.Cross.{Cross}
use Rattle.timeline_parts.specs.Tables.{AreNumbered, numbers_of, item_at}
use Rattle.timeline_parts.specs.Parts.{channel_of}
use Rattle.timeline.specs.View.{TimelineOf}
use Rattle.timeline.specs.Holding.{has_taken, taken_of, low_in}
use Rattle.sync_steps.specs.Between.{HasItsCrosses, HasItsEnds, in_place, cross_place, out_delay, cross_delay, promised_by, promised_on, promised_among, promise_in, has_taken_on}

-- ---- channels

pub places_numbers : (ends : List (ℕ × InEnd)) (xs : List Cross) → map in_place ends ≡ map cross_place xs → numbers_of ends ≡ map channel_of xs
places_numbers [] [] e = refl
places_numbers [] (x ∷ xs) e = absurd (cc)
places_numbers (y ∷ ys) [] e = absurd (cc)
places_numbers (y ∷ ys) (x ∷ xs) e =
    let head : in_place y ≡ cross_place x = cc in
    let rest : map in_place ys ≡ map cross_place xs = cc in
    let num : y.0 ≡ channel_of x = ap (λ (p : ℕ × ℕ). p.0) head in
    ap (λ n. n ∷ numbers_of ys) num ∙ ap (λ ns. channel_of x ∷ ns) (places_numbers ys xs rest)

pub delays_numbers : {P : Type 0} (ends : List (ℕ × OutEnd P)) (xs : List Cross) → map out_delay ends ≡ map cross_delay xs → numbers_of ends ≡ map channel_of xs
delays_numbers [] [] e = refl
delays_numbers [] (x ∷ xs) e = absurd (cc)
delays_numbers (y ∷ ys) [] e = absurd (cc)
delays_numbers (y ∷ ys) (x ∷ xs) e =
    let head : out_delay y ≡ cross_delay x = cc in
    let rest : map out_delay ys ≡ map cross_delay xs = cc in
    let num : y.0 ≡ channel_of x = ap (λ (p : ℕ × (Bool × ℕ)). p.0) head in
    ap (λ n. n ∷ numbers_of ys) num ∙ ap (λ ns. channel_of x ∷ ns) (delays_numbers ys xs rest)

module _ {B S P : Type 0} where
  -- a timeline whose ends stand so has an end for each of its mappings
  pub crosses_have_ends : (t : TimelineOf B S P) → HasItsCrosses t → HasItsEnds t
  crosses_have_ends t q = record { ins = places_numbers t.in_ends t.ins q.ins; outs = delays_numbers t.out_ends t.outs q.outs }

-- ---- promises

module _ {P : Type 0} where
  promised_is : (ends : List (ℕ × OutEnd P)) (xs : List Cross) (c low top : ℕ) → map out_delay ends ≡ map cross_delay xs → promised_by low top (item_at c ends) ≡ promised_among xs c low top
  promised_is [] [] c low top e = refl
  promised_is [] (x ∷ xs) c low top e = absurd (cc)
  promised_is (y ∷ ys) [] c low top e = absurd (cc)
  promised_is (y ∷ ys) (x ∷ xs) c low top e =
      let head : out_delay y ≡ cross_delay x = cc in
      let rest : map out_delay ys ≡ map cross_delay xs = cc in
      let num : y.0 ≡ channel_of x = ap (λ (p : ℕ × (Bool × ℕ)). p.0) head in
      let appointed : y.1.appointed ≡ x.appointed = ap (λ (p : ℕ × (Bool × ℕ)). p.1.0) head in
      let delay : y.1.delay ≡ x.mapping.delay = ap (λ (p : ℕ × (Bool × ℕ)). p.1.1) head in
      elim (test_cases (nat_eq c y.0)) [
        | inl t ↦
            let there : nat_eq (channel_of x) c ≡ true = eq-eqb (channel_of x) c (sym num ∙ sym (eqb-true c y.0 t)) in
            let value : cond y.1.appointed (min (low + y.1.delay) top) 0 ≡ promised_on x low top =
            ap (λ b. cond b (min (low + y.1.delay) top) 0) appointed ∙ ap (λ d. cond x.appointed (min (low + d) top) 0) delay in
            rw (t, there) value
        | inr f ↦
            let other : nat_eq (channel_of x) c ≡ false = ne_eqb (channel_of x) c (λ same. let t = eq-eqb c y.0 (sym same ∙ sym num) in absurd (cc)) in
            rw (f, other) (promised_is ys xs c low top rest)
      ]

module _ {B S P : Type 0} where
  pub promise_is : (t : TimelineOf B S P) (c low top : ℕ) (xs : List Cross) → HasItsCrosses t → xs ≡ t.outs → low ≡ low_in t → top ≡ t.until + 1 → promised_among xs c low top ≡ promise_in t c
  promise_is t c low top xs q same at upto =
      ap (λ ys. promised_among ys c low top) same ∙ (sym (promised_is t.out_ends t.outs c low top q.outs)
      ∙ (ap (λ l. promised_by l top (item_at c t.out_ends)) at ∙ ap (λ u. promised_by (low_in t) u (item_at c t.out_ends)) upto))

-- ---- what was taken

number_among : {T : Type 0} (xs : List (ℕ × T)) (y : ℕ × T) → Among y xs → Among y.0 (numbers_of xs)
number_among [] y a = absurd a
number_among (x ∷ xs) y (inl e) = inl (ap (λ (z : ℕ × _). z.0) e)
number_among (x ∷ xs) y (inr a) = inr (number_among xs y a)

-- each item of a table stands under its number
pub item_found : {T : Type 0} (xs : List (ℕ × T)) → AreNumbered xs → (y : ℕ × T) → Among y xs → item_at y.0 xs ≡ Some y.1
item_found [] r y a = absurd a
item_found {T} (x ∷ xs) r y (inl e) = let t : nat_eq y.0 x.0 ≡ true = eq-eqb y.0 x.0 (ap (λ (z : ℕ × T). z.0) e) in rw t (ap (λ (z : ℕ × T). Some z.1) (sym e))
item_found (x ∷ xs) r y (inr a) =
    let less : x.0 < y.0 = r.0 y.0 (number_among xs y a) in
    let other : nat_eq y.0 x.0 ≡ false = ne_eqb y.0 x.0 (λ same. omega arith) in
    rw other (item_found xs r.1 y a)

taken_is : (ends all : List (ℕ × InEnd)) (xs : List Cross) (counts : List ℕ) → ((y : ℕ × InEnd) → Among y ends → item_at y.0 all ≡ Some y.1)
    → map in_place ends ≡ map cross_place xs → has_taken ends counts ≡ has_taken_on all counts xs
taken_is [] all [] counts found e = refl
taken_is [] all (x ∷ xs) counts found e = absurd (cc)
taken_is (y ∷ ys) all [] counts found e = absurd (cc)
taken_is (y ∷ ys) all (x ∷ xs) counts found e =
    let head : in_place y ≡ cross_place x = cc in
    let rest : map in_place ys ≡ map cross_place xs = cc in
    let num : y.0 ≡ channel_of x = ap (λ (p : ℕ × ℕ). p.0) head in
    let place : y.1.place ≡ x.place = ap (λ (p : ℕ × ℕ). p.1) head in
    let here : item_at y.0 all ≡ Some y.1 = found y (inl refl) in
    let taken : taken_of all y.0 ≡ y.1.taken = rw here refl in
    let there : taken_of all (channel_of x) ≡ y.1.taken = subst (λ n. taken_of all n ≡ y.1.taken) num taken in
    let one : nat_le (slice_index counts y.1.place) y.1.taken ≡ nat_le (slice_index counts x.place) (taken_of all (channel_of x)) =
    ap (λ p. nat_le (slice_index counts p) y.1.taken) place ∙ ap (λ n. nat_le (slice_index counts x.place) n) (sym there) in
    ap (λ b. b && has_taken ys counts) one
    ∙ ap (λ b. nat_le (slice_index counts x.place) (taken_of all (channel_of x)) && b) (taken_is ys all xs counts (λ z a. found z (inr a)) rest)

pub taken_by_mappings : (ends : List (ℕ × InEnd)) (xs ins : List Cross) (counts : List ℕ) → AreNumbered ends → map in_place ends ≡ map cross_place ins → xs ≡ ins → has_taken_on ends counts xs ≡ has_taken ends counts
taken_by_mappings ends xs ins counts r e same = ap (λ ys. has_taken_on ends counts ys) same ∙ sym (taken_is ends ends ins counts (item_found ends r) e)
