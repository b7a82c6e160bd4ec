-- What a timeline tells of itself is what the rules tell of its view: its bounds, and what it has of its ends.
use Rattle.std.proofs.Common.{◌≡◌, ℕ, ◌+◌, ◌≤◌, ◌⊎◌, true, cond, nat_eq, min, List, [], ◌∷◌, refl, sym, ap, ◌∙◌, inl, inr, arith, eq-eqb, eqb-true, Option, Some, option_map, unwrap_or}
use Rattle.event_order.specs.declared.key.Key.{Key}
use Rattle.event_order.specs.Pending.{Among}
use Rattle.event_order.proofs.Pending.{test_cases}
use Rattle.event_order.proofs.Steps.{lt_or_ge}
use Rattle.ssf_model.specs.declared.event.Event.{Event}
use Rattle.ssf_model.specs.Scene.{Scene, Net}
use Rattle.sync_rules.specs.Bounds.{bound_of, low_of, least_ahead_of, head_time}
use Rattle.sync_rules.specs.Shared.{IsJoining}
use Rattle.sync_rules.proofs.Bounds.{comes, held_top, held_below, held_cases}
use Rattle.timeline_parts.specs.declared.ends.InEnd.{InEnd}
use Rattle.timeline_parts.specs.Tables.{numbers_of, AreNumbered, item_at}
use Rattle.timeline.specs.View.{TimelineOf, key_of}
use Rattle.timeline.specs.Holding.{least_held, bound_in, low_in, ahead_in, held_of}
use Rattle.timeline.specs.Lines.{line_of, IsPlacedIn}

-- ---- tables

module _ {T : Type 0} where
  pub number_among : (x : ℕ × T) (xs : List (ℕ × T)) → Among x xs → Among x.0 (numbers_of xs)
  number_among x [] a = absurd a
  number_among x (y ∷ ys) (inl same) = inl (ap (λ (z : ℕ × T). z.0) same)
  number_among x (y ∷ ys) (inr a) = inr (number_among x ys a)

  -- an item of a table is the one with its number
  pub among_item : (x : ℕ × T) (xs : List (ℕ × T)) → AreNumbered xs → Among x xs → item_at x.0 xs ≡ Some x.1
  among_item x [] r a = absurd a
  among_item x (y ∷ ys) r (inl same) =
      let t : nat_eq x.0 y.0 ≡ true = eq-eqb x.0 y.0 (ap (λ (z : ℕ × T). z.0) same) in
      rw t (ap (λ (z : ℕ × T). Some z.1) (sym same))
  among_item x (y ∷ ys) r (inr a) = elim (test_cases (nat_eq x.0 y.0)) [
    | inr f ↦ rw f (among_item x ys r.1 a)
    | inl t ↦ (let up = r.0 x.0 (number_among x ys a) in let same = eqb-true x.0 y.0 t in absurd (omega (arith, up, same)))
  ]

  pub item_among : (n : ℕ) (x : T) (xs : List (ℕ × T)) → item_at n xs ≡ Some x → Among (n, x) xs
  item_among n x [] h = absurd (cc)
  item_among n x (y ∷ ys) h = elim (test_cases (nat_eq n y.0)) [
    | inl t ↦ (let here : Some y.1 ≡ Some x = rw t at h in let value : y.1 ≡ x = cc in
        inl (ap (λ k. (k, x)) (eqb-true n y.0 t) ∙ ap (λ v. (y.0, v)) (sym value)))
    | inr f ↦ inr (item_among n x ys (rw f at h))
  ]

-- ---- the bound

in_top : (top : ℕ) (es : List (ℕ × InEnd)) → least_held top es ≤ top
in_top top [] = omega arith
in_top top (e ∷ es) = elim (test_cases e.1.appointed) [
  | inl t ↦ rw t (let rest = in_top (min top e.1.held) es in omega arith)
  | inr f ↦ rw f (in_top top es)
]

in_each : (top : ℕ) (es : List (ℕ × InEnd)) (e : ℕ × InEnd) → Among e es → e.1.appointed ≡ true → least_held top es ≤ e.1.held
in_each top [] e a h = absurd a
in_each top (d ∷ ds) e (inl same) h =
    let t : d.1.appointed ≡ true = ap (λ (x : ℕ × InEnd). x.1.appointed) (sym same) ∙ h in
    let one : d.1.held ≡ e.1.held = ap (λ (x : ℕ × InEnd). x.1.held) (sym same) in
    rw t (let rest = in_top (min top d.1.held) ds in omega (arith, one))
in_each top (d ∷ ds) e (inr a) h = in_each (cond d.1.appointed (min top d.1.held) top) ds e a h

record HoldsAt (bound : ℕ) (es : List (ℕ × InEnd)) : Type 0 where
  end : ℕ × InEnd
  among : Among end es
  appointed : end.1.appointed ≡ true
  is : bound ≡ end.1.held

lesser_cases : (a b c : ℕ) → c ≡ min a b → (c ≡ a) ⊎ (c ≡ b)
lesser_cases a b c is = elim (lt_or_ge a b) [ inl less ↦ inl (omega (arith, is)) | inr more ↦ inr (omega (arith, is)) ]

in_cases : (top : ℕ) (es : List (ℕ × InEnd)) → (least_held top es ≡ top) ⊎ HoldsAt (least_held top es) es
in_cases top [] = inl refl
in_cases top (d ∷ ds) = elim (test_cases d.1.appointed) [
  | inr f ↦ (let next : least_held top (d ∷ ds) ≡ least_held top ds = ap (λ b. least_held (cond b (min top d.1.held) top) ds) f in
      elim (in_cases top ds) [
        | inl same ↦ inl (next ∙ same)
        | inr h ↦ inr (record { end = h.end; among = inr h.among; appointed = h.appointed; is = next ∙ h.is })
      ])
  | inl t ↦ (let next : least_held top (d ∷ ds) ≡ least_held (min top d.1.held) ds = ap (λ b. least_held (cond b (min top d.1.held) top) ds) t in
      elim (in_cases (min top d.1.held) ds) [
        | inr h ↦ inr (record { end = h.end; among = inr h.among; appointed = h.appointed; is = next ∙ h.is })
        | inl same ↦ elim (lesser_cases top d.1.held (least_held top (d ∷ ds)) (next ∙ same)) [
          | inl one ↦ inl one
          | inr other ↦ inr (record { end = d; among = inl refl; appointed = t; is = other })
        ]
      ])
]

module _ {B S P : Type 0} (net : Net) (joining : IsJoining net) (i : ℕ) (t : TimelineOf B S P) (order : AreNumbered t.in_ends) (placed : IsPlacedIn net i t) where
  held_at : (c : ℕ) (e : InEnd) → item_at c t.in_ends ≡ Some e → held_of t.in_ends c ≡ e.held
  held_at c e at = ap (λ (o : Option InEnd). unwrap_or (option_map (λ (x : InEnd). x.held) o) 0) at

  bound_below : (m : ℕ) → bound_in t ≤ bound_of net i (line_of m t)
  bound_below m = elim (held_cases net i t.entered (held_of t.in_ends) net.channels) [
    | inl top ↦ omega (arith, top, in_top t.entered t.in_ends)
    | inr h ↦
        let found = placed.ins h.channel h.into in
        let appointed : found.0.appointed ≡ true = found.2 ∙ h.appointed in
        let low = in_each t.entered t.in_ends (h.channel, found.0) (item_among h.channel found.0 t.in_ends found.1) appointed in
        omega (arith, low, held_at h.channel found.0 found.1, h.is)
  ]

  bound_above : (m : ℕ) → bound_of net i (line_of m t) ≤ bound_in t
  bound_above m = elim (in_cases t.entered t.in_ends) [
    | inl top ↦ omega (arith, top, held_top net i t.entered (held_of t.in_ends) net.channels)
    | inr h ↦
        let c = h.end.0 in
        let into = placed.into c (number_among h.end t.in_ends h.among) in
        let found = placed.ins c into in
        let at : item_at c t.in_ends ≡ Some h.end.1 = among_item h.end t.in_ends order h.among in
        let same : found.0 ≡ h.end.1 = (let both : Some found.0 ≡ Some h.end.1 = sym found.1 ∙ at in cc) in
        let appointed : net.appointed c ≡ true = sym found.2 ∙ ap (λ (x : InEnd). x.appointed) same ∙ h.appointed in
        let low = held_below net i t.entered (held_of t.in_ends) net.channels c (joining.known c into.cross) (comes net i c into appointed) in
        omega (arith, low, held_at c h.end.1 at, h.is)
  ]

  -- the bound of a timeline is that of its view
  pub bound_is : (m : ℕ) → bound_in t ≡ bound_of net i (line_of m t)
  bound_is m = omega (arith, bound_below m, bound_above m)

abbrev times : {P : Type 0} → (Event P → Key) → ℕ → List (Event P) → ℕ
times key top ps = head_time (λ e. (key e).time) top ps

module _ {B S P X : Type 0} (s : Scene X (Event P)) (keys : s.machine.key ≡ key_of) where
  pub low_is : (i m : ℕ) (t : TimelineOf B S P) → bound_in t ≡ bound_of s.net i (line_of m t) → low_in t ≡ low_of s i (line_of m t)
  low_is i m t bound = ap (λ b. times key_of b t.pending) bound ∙ ap (λ key. times key (bound_of s.net i (line_of m t)) t.pending) (sym keys)

  pub ahead_is : (m : ℕ) (t : TimelineOf B S P) → t.until ≡ s.until → ahead_in t ≡ least_ahead_of s (line_of m t)
  ahead_is m t until = ap (λ u. min (times key_of (u + 1) t.pending) t.arrival) until ∙ ap (λ key. min (times key (s.until + 1) t.pending) t.arrival) (sym keys)
