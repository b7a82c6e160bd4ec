-- The ends of a timeline's channels after a step: their places, delays and numbers.
use Rattle.std.proofs.Common.{◌≡◌, ◌≢◌, ℕ, zero, suc, ◌≤◌, Bool, true, false, cond, nat_eq, min, List, [], ◌∷◌, map, refl, sym, ap, ◌∙◌, subst, inl, inr, arith, Option, Some, None, option_map, unwrap_or, slice_get}
use Rattle.event_order.specs.Pending.{Among}
use Rattle.event_order.proofs.Pending.{test_cases}
use Rattle.ssf_model.specs.declared.event.Event.{Event}
use Rattle.sync_rules.specs.Bounds.{head_time}
use Rattle.plan_shares.specs.declared.crosses.CrossEnd.{CrossEnd}
use Rattle.timeline_parts.specs.declared.ends.InEnd.{InEnd}
use Rattle.timeline_parts.specs.declared.ends.OutEnd.{OutEnd}
use Rattle.timeline_parts.specs.Tables.{AreRising, item_at, change, changed}
use Rattle.timeline_parts.specs.Sending.{all_put, put_one, with_event}
use Rattle.timeline_parts.proofs.Tables.{item_changed}
use Rattle.timeline.specs.View.{TimelineOf, time_in}
use Rattle.timeline.specs.Holding.{least_held, low_in}
use Rattle.timeline.specs.Moving.{posted_end, entered_at}
use Rattle.timeline.specs.Lines.{posted_of}
use Rattle.appointments.specs.Mails.{Mails, mail_at}
use Rattle.appointments.specs.Posts.{taken_parcel}
use Rattle.sync_steps.specs.Between.{HasItsCrosses, in_place, cross_place, out_delay, cross_delay, taken_all, taken_on}
use Rattle.sync_steps.specs.Sounds.{HaveTheirPlaces}
use Rattle.core_rules.specs.Cores.{channel_in}
use Rattle.core_rules.proofs.Lists.{differ_test, one_of, none_some}

-- ---- ends that go out

module _ {P : Type 0} where
  delays_changed : (c : ℕ) (f : OutEnd P → OutEnd P) → ((o : OutEnd P) → ((f o).appointed ≡ o.appointed) × ((f o).delay ≡ o.delay))
      → (ends : List (ℕ × OutEnd P)) → map out_delay (changed c f ends) ≡ map out_delay ends
  delays_changed c f keeps [] = refl
  delays_changed c f keeps (x ∷ xs) = ap (λ d. d ∷ map out_delay (changed c f xs)) one ∙ ap (λ ds. out_delay x ∷ ds) (delays_changed c f keeps xs)
    where
      one : out_delay (change c f x) ≡ out_delay x
      one = elim (test_cases (nat_eq c x.0)) [
        | inl t ↦ rw t (ap (λ b. (x.0, (b, (f x.1).delay))) (keeps x.1).0 ∙ ap (λ d. (x.0, (x.1.appointed, d))) (keeps x.1).1)
        | inr o ↦ rw o refl
      ]

  pub delays_put : (es : List (Event P)) (ends : List (ℕ × OutEnd P)) → map out_delay (all_put es ends) ≡ map out_delay ends
  delays_put [] ends = refl
  delays_put (e ∷ es) ends = delays_put es (put_one e ends) ∙ delays_changed e.key.channel (with_event e) (λ o. (refl, refl)) ends

  pub delays_posted : (c : ℕ) (ends : List (ℕ × OutEnd P)) → map out_delay (changed c posted_end ends) ≡ map out_delay ends
  delays_posted c ends = delays_changed c posted_end (λ o. (refl, refl)) ends

  posted_mapped : (f : OutEnd P → OutEnd P) → ((o : OutEnd P) → (f o).posted ≡ o.posted) → (o : Option (OutEnd P))
      → unwrap_or (option_map (λ (x : OutEnd P). x.posted) (option_map f o)) 0 ≡ unwrap_or (option_map (λ (x : OutEnd P). x.posted) o) 0
  posted_mapped f keeps None = refl
  posted_mapped f keeps (Some o) = keeps o

  -- the number that was posted on a channel stays where other numbers or other channels change
  posted_changed : (c d : ℕ) (f : OutEnd P → OutEnd P) → ((o : OutEnd P) → (f o).posted ≡ o.posted) → (ends : List (ℕ × OutEnd P)) → posted_of (changed d f ends) c ≡ posted_of ends c
  posted_changed c d f keeps ends =
      ap (λ (o : Option (OutEnd P)). unwrap_or (option_map (λ (x : OutEnd P). x.posted) o) 0) (item_changed c d f ends)
      ∙ (elim (test_cases (nat_eq c d)) [
        | inl t ↦ rw t (posted_mapped f keeps (item_at c ends))
        | inr o ↦ rw o refl
      ])

  pub posted_put : (c : ℕ) (es : List (Event P)) (ends : List (ℕ × OutEnd P)) → posted_of (all_put es ends) c ≡ posted_of ends c
  posted_put c [] ends = refl
  posted_put c (e ∷ es) ends = posted_put c es (put_one e ends) ∙ posted_changed c e.key.channel (with_event e) (λ o. refl) ends

  pub posted_other : (c d : ℕ) (f : OutEnd P → OutEnd P) (ends : List (ℕ × OutEnd P)) → c ≢ d → posted_of (changed d f ends) c ≡ posted_of ends c
  posted_other c d f ends other =
      (let o : nat_eq c d ≡ false = differ_test c d other in
      let at : item_at c (changed d f ends) ≡ item_at c ends = item_changed c d f ends ∙ rw o refl in
      ap (λ (x : Option (OutEnd P)). unwrap_or (option_map (λ (y : OutEnd P). y.posted) x) 0) at)

-- ---- ends that come in

places_changed : (c : ℕ) (f : InEnd → InEnd) → ((e : InEnd) → (f e).place ≡ e.place) → (ends : List (ℕ × InEnd)) → map in_place (changed c f ends) ≡ map in_place ends
places_changed c f keeps [] = refl
places_changed c f keeps (x ∷ xs) = ap (λ p. p ∷ map in_place (changed c f xs)) one ∙ ap (λ ps. in_place x ∷ ps) (places_changed c f keeps xs)
  where
    one : in_place (change c f x) ≡ in_place x
    one = elim (test_cases (nat_eq c x.0)) [
      | inl t ↦ rw t (ap (λ p. (x.0, p)) (keeps x.1))
      | inr o ↦ rw o refl
    ]

-- an item that is found has the place that was there before
place_found : (xs ys : List (ℕ × InEnd)) → map in_place ys ≡ map in_place xs → (c : ℕ) (e : InEnd) → item_at c ys ≡ Some e → (d : InEnd) × (item_at c xs ≡ Some d) × (d.place ≡ e.place)
place_found [] [] same c e at = absurd (none_some e at)
place_found (x ∷ xs) [] same c e at = absurd (cc)
place_found [] (y ∷ ys) same c e at = absurd (cc)
place_found (x ∷ xs) (y ∷ ys) same c e at =
    let head : in_place y ≡ in_place x = cc in
    let rest : map in_place ys ≡ map in_place xs = cc in
    let number : y.0 ≡ x.0 = ap (λ (p : ℕ × ℕ). p.0) head in
    let place : y.1.place ≡ x.1.place = ap (λ (p : ℕ × ℕ). p.1) head in
    elim (test_cases (nat_eq c y.0)) [
      | inl t ↦ (let here : nat_eq c x.0 ≡ true = ap (nat_eq c) (sym number) ∙ t in
          let is : Some y.1 ≡ Some e = rw t at at in
          let one : y.1 ≡ e = one_of y.1 e is in
          (x.1, rw here refl, sym place ∙ ap (λ (z : InEnd). z.place) one))
      | inr f ↦ (let there : nat_eq c x.0 ≡ false = ap (nat_eq c) (sym number) ∙ f in
          let behind : item_at c ys ≡ Some e = rw f at at in
          let q = place_found xs ys rest c e behind in
          (q.0, rw there q.1, q.2))
    ]

pub places_move : (xs ys : List (ℕ × InEnd)) (channels : List ℕ) → map in_place ys ≡ map in_place xs → HaveTheirPlaces xs channels → HaveTheirPlaces ys channels
places_move xs ys channels same places c e at = (let q = place_found xs ys same c e at in subst (λ n. slice_get channels n ≡ Some c) q.2 (places c q.0 q.1))

-- ---- timelines

module _ {B S P : Type 0} where
  pub crosses_move : (t a : TimelineOf B S P) → a.ins ≡ t.ins → a.outs ≡ t.outs → map in_place a.in_ends ≡ map in_place t.in_ends → map out_delay a.out_ends ≡ map out_delay t.out_ends
      → HasItsCrosses t → HasItsCrosses a
  crosses_move t a ins outs places delays q = record {
    ins = places ∙ (q.ins ∙ ap (map cross_place) (sym ins));
    outs = delays ∙ (q.outs ∙ ap (map cross_delay) (sym outs));
  }

  -- a timeline that takes mail changes in two fields
  pub taken_is : (mail : Mails P) (cs : List ℕ) (t : TimelineOf B S P) → taken_all mail cs t ≡ record t { in_ends = (taken_all mail cs t).in_ends; pending = (taken_all mail cs t).pending }
  taken_is mail [] t = refl
  taken_is mail (c ∷ cs) t = taken_is mail cs (taken_on c (taken_parcel (mail_at mail c)) t)

  pub taken_places : (mail : Mails P) (cs : List ℕ) (t : TimelineOf B S P) → map in_place (taken_all mail cs t).in_ends ≡ map in_place t.in_ends
  taken_places mail [] t = refl
  taken_places mail (c ∷ cs) t = taken_places mail cs (taken_on c (taken_parcel (mail_at mail c)) t) ∙ places_changed c _ (λ e. refl) t.in_ends

-- ---- a later window

held_up : (ends : List (ℕ × InEnd)) (a b : ℕ) → a ≤ b → least_held a ends ≤ least_held b ends
held_up [] a b up = up
held_up (x ∷ xs) a b up = held_up xs (cond x.1.appointed (min a x.1.held) a) (cond x.1.appointed (min b x.1.held) b) (one x.1.appointed)
  where
    one : (k : Bool) → cond k (min a x.1.held) a ≤ cond k (min b x.1.held) b
    one true = omega arith
    one false = up

head_up : {P : Type 0} (es : List (Event P)) (a b : ℕ) → a ≤ b → head_time time_in a es ≤ head_time time_in b es
head_up [] a b up = up
head_up (e ∷ es) a b up = omega arith

module _ {B S P : Type 0} where
  pub entered_low : (t : TimelineOf B S P) (window : ℕ) → t.entered ≤ window → low_in t ≤ low_in (entered_at window t)
  entered_low t window up = head_up t.pending (least_held t.entered t.in_ends) (least_held window t.in_ends) (held_up t.in_ends t.entered window up)

-- ---- the ends of all channels

channel_among : (ends : List CrossEnd) (k : ℕ) (end : CrossEnd) → slice_get ends k ≡ Some end → Among end.channel (map channel_in ends)
channel_among [] k end at = absurd (none_some end at)
channel_among (x ∷ xs) zero end at = (let is : x ≡ end = one_of x end at in inl (ap channel_in (sym is)))
channel_among (x ∷ xs) (suc k) end at = inr (channel_among xs k end at)

-- each channel has one place
pub one_place : (ends : List CrossEnd) → AreRising (map channel_in ends) → (k j : ℕ) (end other : CrossEnd) → slice_get ends k ≡ Some end → slice_get ends j ≡ Some other → end.channel ≡ other.channel → k ≡ j
one_place [] rising k j end other at there same = absurd (none_some end at)
one_place (x ∷ xs) rising zero zero end other at there same = refl
one_place (x ∷ xs) rising zero (suc j) end other at there same =
    (let is : x ≡ end = one_of x end at in
    let less = rising.0 other.channel (channel_among xs j other there) in
    let one : x.channel ≡ end.channel = ap channel_in is in
    absurd (omega (arith, less, one, same)))
one_place (x ∷ xs) rising (suc k) zero end other at there same =
    (let is : x ≡ other = one_of x other there in
    let less = rising.0 end.channel (channel_among xs k end at) in
    let one : x.channel ≡ other.channel = ap channel_in is in
    absurd (omega (arith, less, one, same)))
one_place (x ∷ xs) rising (suc k) (suc j) end other at there same = ap (λ n. suc n) (one_place xs rising.1 k j end other at there same)
