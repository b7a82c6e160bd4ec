-- What lies at the places of the parts of a run.
use Rattle.std.proofs.Common.{◌≡◌, ℕ, zero, suc, ◌+◌, ◌⊎◌, List, [], ◌∷◌, ◌++◌, length, map, refl, sym, ap, ◌∙◌, inl, inr, ⊎_elim, arith, Some, slice_get, length-append}
use mathlib.Core.Option.{some, some-injective, none-ne-some}
use lib.ListN.{get_elem?}
use Rattle.event_order.specs.Pending.{Among}
use Rattle.timeline.specs.View.{TimelineOf}
use Rattle.appointments.specs.Mails.{Mails}
use Rattle.core_rules.specs.Cores.{CoreView}
use Rattle.core_rules.proofs.Lists.{map_length}
use Rattle.share_rules.specs.Places.{ShareOf, shares_of}
use Rattle.share_rules.specs.Places.ShareOf.{timeline, mail, barrier}

-- ---- lists

pub among_at : {T : Type 0} (xs : List T) (x : T) → Among x xs → (k : ℕ) × (slice_get xs k ≡ Some x)
among_at [] x a = absurd a
among_at (y ∷ ys) x (inl e) = (0, ap (λ z. Some z) (sym e))
among_at (y ∷ ys) x (inr a) = (let q = among_at ys x a in (suc q.0, q.1))

pub at_among : {T : Type 0} (xs : List T) (k : ℕ) (x : T) → slice_get xs k ≡ Some x → Among x xs
at_among [] k x at = absurd (cc)
at_among (y ∷ ys) zero x at = (let is : y ≡ x = cc in inl (sym is))
at_among (y ∷ ys) (suc k) x at = inr (at_among ys k x at)

module _ {T V : Type 0} (f : T → V) where
  -- in the first list, or in the rest
  pub found_in : (xs : List T) (rest : List V) (p : ℕ) (x : V) → get_elem? (map f xs ++ rest) p ≡ some x
      → ((t : T) × (slice_get xs p ≡ Some t) × (x ≡ f t)) ⊎ ((q : ℕ) × (p ≡ length xs + q) × (get_elem? rest q ≡ some x))
  found_in [] rest p x h = inr (p, omega arith, h)
  found_in (y ∷ ys) rest zero x h = inl (y, refl, sym (some-injective (f y) x h))
  found_in (y ∷ ys) rest (suc p) x h = ⊎_elim
      (λ here. inl here)
      (λ there. let before = there.1 in inr (there.0, omega (arith, before), there.2))
      (found_in ys rest p x h)

  pub here_in : (xs : List T) (rest : List V) (p : ℕ) (t : T) → slice_get xs p ≡ Some t → get_elem? (map f xs ++ rest) p ≡ some (f t)
  here_in [] rest p t h = absurd (cc)
  here_in (y ∷ ys) rest zero t h = (let is : y ≡ t = cc in ap (λ z. some (f z)) is)
  here_in (y ∷ ys) rest (suc p) t h = here_in ys rest p t h

  pub there_in : (xs : List T) (rest : List V) (p q : ℕ) → p ≡ length xs + q → get_elem? (map f xs ++ rest) p ≡ get_elem? rest q
  there_in [] rest p q is = (let same : p ≡ q = omega (arith, is) in ap (get_elem? rest) same)
  there_in (y ∷ ys) rest zero q is = absurd (omega (arith, is))
  there_in (y ∷ ys) rest (suc p) q is = there_in ys rest p q (omega (arith, is))

alone : {V : Type 0} (z x : V) (q : ℕ) → get_elem? (z ∷ []) q ≡ some x → (q ≡ 0) × (x ≡ z)
alone z x zero h = (refl, sym (some-injective z x h))
alone z x (suc q) h = absurd (none-ne-some x h)

-- ---- the parts

module _ {B S P : Type 0} (core : CoreView B S P) where
  -- what lies at a place
  pub data IsAt (p : ℕ) (x : ShareOf B S P) : Type 0 where
    a_timeline : (t : TimelineOf B S P) → slice_get core.timelines p ≡ Some t → x ≡ timeline t → IsAt p x
    a_mail : (i : ℕ) (m : Mails P) → p ≡ length core.timelines + i → slice_get core.mails i ≡ Some m → x ≡ mail m → IsAt p x
    the_barrier : p ≡ length core.timelines + length core.mails → x ≡ barrier core.barrier → IsAt p x

  pub is_at : (p : ℕ) (x : ShareOf B S P) → get_elem? (shares_of core) p ≡ some x → IsAt p x
  is_at p x h = ⊎_elim
      (λ here. a_timeline here.0 here.1 here.2)
      (λ behind. ⊎_elim
      (λ here. a_mail behind.0 here.0 behind.1 here.1 here.2)
      (λ last. (let q = alone (barrier core.barrier) x last.0 last.2 in
      let one = behind.1 in
      let two = last.1 in
      let three = q.0 in
      the_barrier (omega (arith, one, two, three)) q.1))
      (found_in mail core.mails (barrier core.barrier ∷ []) behind.0 x behind.2))
      (found_in timeline core.timelines (map mail core.mails ++ barrier core.barrier ∷ []) p x h)

  pub timeline_stands : (i : ℕ) (t : TimelineOf B S P) → slice_get core.timelines i ≡ Some t → get_elem? (shares_of core) i ≡ some (timeline t)
  timeline_stands i t own = here_in timeline core.timelines (map mail core.mails ++ barrier core.barrier ∷ []) i t own

  pub mail_stands : (p i : ℕ) (m : Mails P) → p ≡ length core.timelines + i → slice_get core.mails i ≡ Some m → get_elem? (shares_of core) p ≡ some (mail m)
  mail_stands p i m at own =
      there_in timeline core.timelines (map mail core.mails ++ barrier core.barrier ∷ []) p i at ∙ here_in mail core.mails (barrier core.barrier ∷ []) i m own

  pub barrier_stands : (p : ℕ) → p ≡ length core.timelines + length core.mails → get_elem? (shares_of core) p ≡ some (barrier core.barrier)
  barrier_stands p at =
      there_in timeline core.timelines (map mail core.mails ++ barrier core.barrier ∷ []) p (length core.mails) at
      ∙ there_in mail core.mails (barrier core.barrier ∷ []) (length core.mails) 0 (omega arith)

  pub shares_long : length (shares_of core) ≡ (length core.timelines + length core.mails) + 1
  shares_long =
      let one = length-append {A = ShareOf B S P} (map timeline core.timelines) (map mail core.mails ++ barrier core.barrier ∷ []) in
      let two = length-append {A = ShareOf B S P} (map mail core.mails) (barrier core.barrier ∷ []) in
      let three = map_length {T = TimelineOf B S P} {U = ShareOf B S P} timeline core.timelines in
      let four = map_length {T = Mails P} {U = ShareOf B S P} mail core.mails in
      omega (arith, one, two, three, four)
