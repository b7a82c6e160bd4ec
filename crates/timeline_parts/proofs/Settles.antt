-- The loop by which written events come to their places.
use Rattle.std.proofs.Common.{◌≡◌, ℕ, zero, suc, ◌+◌, ◌-◌, ◌<◌, ◌≤◌, Bool, true, false, cond, nat_le, ◌&&◌, min, not, nat_eq, option_map, List, [], ◌∷◌, ◌++◌, length, get_or, take, drop, refl, sym, ap, ◌∙◌, subst, inl, inr, arith, add-one, drop-cons, is_some, Option, Some, None}
use Rattle.std.specs.List.{filter}
use Rattle.std.specs.Option.{IfNone, IfSome}
use Rattle.std.proofs.lemmas.Grind.{common_steps}
use Rattle.std.proofs.lemmas.List.{take_more}
use Rattle.std.proofs.Math.Seq.{take-length}
use Rattle.event_order.specs.declared.key.Key.{Key}
use Rattle.event_order.specs.Pending.{Among, IsApart, put, put_all}
use Rattle.event_order.proofs.Pending.{test_cases, put_all_among, among_append_left}
use Rattle.ssf_model.specs.declared.event.Event.{Event}
use Rattle.timeline_parts.specs.declared.ends.OutEnd.{OutEnd}
use Rattle.timeline_parts.specs.Tables.{numbers_of, item_at, changed}
use Rattle.timeline_parts.specs.Sending.{put_one, all_put, with_event}
use Rattle.timeline_parts.specs.Settling.{key_of, goes, staying, least_arriving, AreNew}
use Rattle.timeline_parts.proofs.Tables.{item_none, item_changed, known_item, numbers_length}

filter_append : {T : Type 0} (p : T → Bool) (xs ys : List T) → filter p (xs ++ ys) ≡ filter p xs ++ filter p ys
filter_append p [] ys = refl
filter_append p (x ∷ xs) ys = elim (test_cases (p x)) [ inl t ↦ rw t (ap (λ zs. x ∷ zs) (filter_append p xs ys)) | inr f ↦ rw f (filter_append p xs ys) ]

put_all_append : {T : Type 0} (key : T → Key) (xs ys zs : List T) → put_all key (xs ++ ys) zs ≡ put_all key ys (put_all key xs zs)
put_all_append key [] ys zs = refl
put_all_append key (x ∷ xs) ys zs = put_all_append key xs ys (put key x zs)

middle : {P : Type 0} (xs bs : List (Event P)) (x : Event P) → Among x (xs ++ x ∷ bs)
middle [] bs x = inl refl
middle (z ∷ xs) bs x = inr (middle xs bs x)

pub none_holds : {A : Type 0} {Q : Type 0} (o : Option A) → is_some o ≡ false → IfNone o Q → Q
none_holds None t h = h
none_holds (Some x) t h = absurd (cc)

pub some_holds : {A : Type 0} {Q : A → Type 0} (o : Option A) → is_some o ≡ true → IfSome o Q → (x : A) × (o ≡ Some x) × Q x
some_holds None t h = absurd (cc)
some_holds (Some x) t h = (x, refl, h)

pub le_false : (a b : ℕ) → b < a → nat_le a b ≡ false
le_false a b h = grind (arith, common_steps)

-- the place that was found is within
pub same_within : {T : Type 0} (xs : List (ℕ × T)) (i j : ℕ) (o : Option ℕ) → o ≡ Some i → o ≡ Some j → j < length xs → i < length (numbers_of xs)
same_within xs i j o a b h = let e : Some i ≡ Some j = sym a ∙ b in let s : i ≡ j = cc in omega (arith, s, h, numbers_length xs)

-- of items that are apart, those before one have other keys
apart_before : {P : Type 0} (xs bs : List (Event P)) (x y : Event P) → IsApart key_of (xs ++ x ∷ bs) → Among y xs → key_of y ≡ key_of x → ⊥
apart_before [] bs x y h a q = absurd a
apart_before (z ∷ xs) bs x y h (inl e) q = h.0 x (middle xs bs x) (ap key_of (sym e) ∙ q)
apart_before (z ∷ xs) bs x y h (inr a) q = apart_before xs bs x y h.1 a q

module _ {P : Type 0} (ends : List (ℕ × OutEnd P)) (from : ℕ) where
  pub record Settled (ws : List (Event P)) (i : ℕ) (p0 : List (Event P)) (arrival0 : ℕ) (p : List (Event P)) (spare : ℕ) (arrival : ℕ) : Type 0 where
    pub pending : p ≡ put_all key_of (staying ends (take i ws)) p0
    pub least : arrival ≡ least_arriving ends from (take i ws) arrival0
    pub room : length ws ≤ spare + i

  pub settled_first : (ws : List (Event P)) (p0 : List (Event P)) (arrival spare : ℕ) → length ws ≤ spare → Settled ws 0 p0 arrival p0 spare arrival
  settled_first ws p0 arrival spare h = record { pending = refl; least = refl; room = omega arith }

  arriving_append : (xs ys : List (Event P)) (found : ℕ) → least_arriving ends from (xs ++ ys) found ≡ least_arriving ends from ys (least_arriving ends from xs found)
  arriving_append [] ys found = refl
  arriving_append (e ∷ es) ys found = arriving_append es ys (cond (goes ends e && nat_le from e.key.time) (min e.key.time found) found)

  pub goes_not : (e : Event P) → (Among e.key.channel (numbers_of ends) → ⊥) → goes ends e ≡ false
  goes_not e h = ap is_some (item_none e.key.channel ends h)

  pub goes_yes : (e : Event P) → Among e.key.channel (numbers_of ends) → goes ends e ≡ true
  goes_yes e a = let found = known_item e.key.channel ends a in ap is_some found.1

  split_at : (ws : List (Event P)) (i : ℕ) (x : Event P) → i < length ws → x ≡ get_or ws i x → ws ≡ take i ws ++ x ∷ drop (i + 1) ws
  split_at [] i x h e = absurd (omega arith)
  split_at (w ∷ ws) zero x h e = ap (λ (z : Event P). z ∷ ws) (sym e)
  split_at (w ∷ ws) (suc i) x h e = rw add-one (ap (λ zs. w ∷ zs) (split_at ws i x (omega arith) e ∙ rw add-one refl))

  pub staying_new : (ws : List (Event P)) (i : ℕ) (x : Event P) (p0 p : List (Event P)) (arrival0 spare arrival : ℕ) → AreNew (staying ends ws) p0 → i < length ws → x ≡ get_or ws i x → goes ends x ≡ false →
      Settled ws i p0 arrival0 p spare arrival → (y : Event P) → Among y p → key_of y ≡ key_of x → ⊥
  staying_new ws i x p0 p arrival0 spare arrival new h e stays s y a q =
      let test : not (goes ends x) ≡ true = rw stays refl in
      let parts : staying ends ws ≡ staying ends (take i ws) ++ (x ∷ staying ends (drop (i + 1) ws)) =
      ap (staying ends) (split_at ws i x h e) ∙ (filter_append (λ d. not (goes ends d)) (take i ws) (x ∷ drop (i + 1) ws)
      ∙ ap (λ ds. staying ends (take i ws) ++ ds) (rw stays refl)) in
      let among : Among x (staying ends ws) = subst (λ ds. Among x ds) (sym parts) (middle (staying ends (take i ws)) (staying ends (drop (i + 1) ws)) x) in
      elim (put_all_among key_of y (staying ends (take i ws)) p0 (subst (λ ds. Among y ds) s.pending a)) [
        | inl b ↦ apart_before (staying ends (take i ws)) (staying ends (drop (i + 1) ws)) x y (subst (λ ds. IsApart key_of ds) parts new.apart) b q
        | inr b ↦ new.others x y among b (sym q)
      ]

  next_staying : (ws : List (Event P)) (i : ℕ) (x : Event P) → i < length ws → x ≡ get_or ws i x → staying ends (take (i + 1) ws) ≡ staying ends (take i ws) ++ staying ends (x ∷ [])
  next_staying ws i x h e = ap (staying ends) (take_more ws i x h ∙ ap (λ z. take i ws ++ z ∷ []) (sym e)) ∙ filter_append (λ d. not (goes ends d)) (take i ws) (x ∷ [])

  next_arriving : (ws : List (Event P)) (i : ℕ) (x : Event P) (found : ℕ) → i < length ws → x ≡ get_or ws i x →
      least_arriving ends from (take (i + 1) ws) found ≡ least_arriving ends from (x ∷ []) (least_arriving ends from (take i ws) found)
  next_arriving ws i x found h e = ap (λ ds. least_arriving ends from ds found) (take_more ws i x h ∙ ap (λ z. take i ws ++ z ∷ []) (sym e)) ∙ arriving_append (take i ws) (x ∷ []) found

  -- an event that stays
  pub settled_stays : (ws : List (Event P)) (i : ℕ) (x : Event P) (p0 p p' : List (Event P)) (arrival0 spare spare' arrival : ℕ) → i < length ws → x ≡ get_or ws i x → goes ends x ≡ false →
      Settled ws i p0 arrival0 p spare arrival → p' ≡ put key_of x p → spare ≤ spare' + 1 → Settled ws (i + 1) p0 arrival0 p' spare' arrival
  settled_stays ws i x p0 p p' arrival0 spare spare' arrival h e stays s put_is room = record {
    pending = put_is ∙ (ap (λ ds. put key_of x ds) s.pending ∙ sym (ap (λ ds. put_all key_of ds p0) (next_staying ws i x h e ∙ ap (λ ds. staying ends (take i ws) ++ ds) (rw stays refl))
        ∙ put_all_append key_of (staying ends (take i ws)) (x ∷ []) p0));
    least = s.least ∙ sym (next_arriving ws i x arrival0 h e ∙ rw stays refl);
    room = omega (arith, s.room, room);
  }

  -- an event that goes
  pub settled_goes : (ws : List (Event P)) (i : ℕ) (x : Event P) (p0 p : List (Event P)) (arrival0 spare arrival arrival' : ℕ) → i < length ws → x ≡ get_or ws i x → goes ends x ≡ true →
      Settled ws i p0 arrival0 p spare arrival → arrival' ≡ cond (nat_le from x.key.time) (min x.key.time arrival) arrival → Settled ws (i + 1) p0 arrival0 p spare arrival'
  settled_goes ws i x p0 p arrival0 spare arrival arrival' h e goes_on s is = record {
    pending = s.pending ∙ sym (ap (λ ds. put_all key_of ds p0) (next_staying ws i x h e ∙ ap (λ ds. staying ends (take i ws) ++ ds) (rw goes_on refl))
        ∙ put_all_append key_of (staying ends (take i ws)) [] p0);
    least = is ∙ (ap (λ a. cond (nat_le from x.key.time) (min x.key.time a) a) s.least ∙ sym (next_arriving ws i x arrival0 h e ∙ rw goes_on refl));
    room = omega (arith, s.room);
  }

  pub settled_done : (ws : List (Event P)) (i : ℕ) (p0 p : List (Event P)) (arrival0 spare arrival : ℕ) → i ≡ length ws → Settled ws i p0 arrival0 p spare arrival →
      (p ≡ put_all key_of (staying ends ws) p0) × (arrival ≡ least_arriving ends from ws arrival0)
  settled_done ws i p0 p arrival0 spare arrival e s = let all : take i ws ≡ ws = rw e (take-length ws) in
      (s.pending ∙ ap (λ ds. put_all key_of (staying ends ds) p0) all, s.least ∙ ap (λ ds. least_arriving ends from ds arrival0) all)

mapped : {T : Type 0} (f : T → T) (o : Option T) → is_some (option_map f o) ≡ is_some o
mapped f None = refl
mapped f (Some x) = refl

some_changed : {T : Type 0} (k n : ℕ) (f : T → T) (xs : List (ℕ × T)) → is_some (item_at k (changed n f xs)) ≡ is_some (item_at k xs)
some_changed k n f xs = ap is_some (item_changed k n f xs) ∙ elim (test_cases (nat_eq k n)) [
  | inl t ↦ rw t (mapped f (item_at k xs))
  | inr o ↦ rw o refl
]

-- what goes is the same after something was put into the outboxes
module _ {P : Type 0} where
  goes_put : (es : List (Event P)) (ends : List (ℕ × OutEnd P)) (e : Event P) → goes (all_put es ends) e ≡ goes ends e
  goes_put [] ends e = refl
  goes_put (d ∷ es) ends e = goes_put es (put_one d ends) e ∙ some_changed e.key.channel d.key.channel (with_event d) ends

  pub staying_put : (es ws : List (Event P)) (ends : List (ℕ × OutEnd P)) → staying (all_put es ends) ws ≡ staying ends ws
  staying_put es [] ends = refl
  staying_put es (e ∷ ws) ends = let same = goes_put es ends e in elim (test_cases (goes ends e)) [
    | inl t ↦ let u : goes (all_put es ends) e ≡ true = same ∙ t in rw (t, u) (staying_put es ws ends)
    | inr f ↦ let u : goes (all_put es ends) e ≡ false = same ∙ f in rw (f, u) (ap (λ ds. e ∷ ds) (staying_put es ws ends))
  ]

  pub arriving_put : (es ws : List (Event P)) (ends : List (ℕ × OutEnd P)) (from found : ℕ) → least_arriving (all_put es ends) from ws found ≡ least_arriving ends from ws found
  arriving_put es [] ends from found = refl
  arriving_put es (e ∷ ws) ends from found = rw (goes_put es ends e) (arriving_put es ws ends from (cond (goes ends e && nat_le from e.key.time) (min e.key.time found) found))
