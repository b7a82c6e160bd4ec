-- The loops over the ends of channels, over mappings and over events.
use Rattle.std.proofs.Common.{◌≡◌, ℕ, zero, suc, ◌+◌, ◌<◌, true, false, cond, nat_eq, nat_le, ◌&&◌, min, List, [], ◌∷◌, ◌++◌, length, get_or, take, drop, slice_index, refl, sym, ap, ◌∙◌, subst, inl, inr, arith, add-one, drop-cons}
use Rattle.std.proofs.lemmas.List.{take_more}
use Rattle.event_order.specs.declared.key.Key.{Key}
use Rattle.event_order.specs.Pending.{Among, IsApart, put, put_all}
use Rattle.event_order.proofs.Pending.{put_all_among}
use Rattle.ssf_model.specs.declared.event.Event.{Event}
use Rattle.timeline_parts.specs.declared.ends.InEnd.{InEnd}
use Rattle.timeline_parts.specs.Settling.{AreNew}
use Rattle.timeline.specs.declared.answers.Holder.{Holder}
use Rattle.timeline.specs.View.{key_of}
use Rattle.timeline.specs.Holding.{least_held, holder_of, has_taken}

next_take : {T : Type 0} (xs : List T) (i : ℕ) (x : T) → i < length xs → x ≡ get_or xs i x → take (i + 1) xs ≡ take i xs ++ x ∷ []
next_take xs i x h e = take_more xs i x h ∙ ap (λ z. take i xs ++ z ∷ []) (sym e)

-- ---- ends

held_append : (top : ℕ) (xs ys : List (ℕ × InEnd)) → least_held top (xs ++ ys) ≡ least_held (least_held top xs) ys
held_append top [] ys = refl
held_append top (x ∷ xs) ys = held_append (cond x.1.appointed (min top x.1.held) top) xs ys

pub held_next : (top : ℕ) (xs : List (ℕ × InEnd)) (i : ℕ) (x : ℕ × InEnd) (old new : ℕ) → i < length xs → x ≡ get_or xs i x → old ≡ least_held top (take i xs) →
    new ≡ cond x.1.appointed (min old x.1.held) old → new ≡ least_held top (take (i + 1) xs)
held_next top xs i x old new h e before is =
    is ∙ (ap (λ b. cond x.1.appointed (min b x.1.held) b) before ∙ sym (ap (least_held top) (next_take xs i x h e) ∙ held_append top (take i xs) (x ∷ [])))

-- none of the first i ends holds this time
pub holder_next : (bound : ℕ) (xs : List (ℕ × InEnd)) (i : ℕ) (x : ℕ × InEnd) → i < length xs → x ≡ get_or xs i x → (x.1.appointed && nat_eq x.1.held bound) ≡ false →
    holder_of bound (drop i xs) ≡ holder_of bound (drop (i + 1) xs)
holder_next bound xs i x h e f = rw (drop-cons xs i x h, ← e, add-one) (rw f refl)

pub holder_here : (bound : ℕ) (xs : List (ℕ × InEnd)) (i : ℕ) (x : ℕ × InEnd) → i < length xs → x ≡ get_or xs i x → (x.1.appointed && nat_eq x.1.held bound) ≡ true →
    holder_of bound (drop i xs) ≡ Rattle.timeline.specs.declared.answers.Holder.TheVariants.Channel x.0
holder_here bound xs i x h e t = rw (drop-cons xs i x h, ← e) (rw t refl)

pub taken_next : (counts : List ℕ) (xs : List (ℕ × InEnd)) (i : ℕ) (x : ℕ × InEnd) → i < length xs → x ≡ get_or xs i x → nat_le (slice_index counts x.1.place) x.1.taken ≡ true →
    has_taken (drop i xs) counts ≡ has_taken (drop (i + 1) xs) counts
taken_next counts xs i x h e t = rw (drop-cons xs i x h, ← e, add-one) (rw t refl)

pub taken_not : (counts : List ℕ) (xs : List (ℕ × InEnd)) (i : ℕ) (x : ℕ × InEnd) → i < length xs → x ≡ get_or xs i x → nat_le (slice_index counts x.1.place) x.1.taken ≡ false →
    has_taken (drop i xs) counts ≡ false
taken_not counts xs i x h e f = rw (drop-cons xs i x h, ← e) (rw f refl)

-- ---- events that are put to the pending ones

put_all_append : {T : Type 0} (key : T → Key) (xs ys zs : List T) → put_all key (xs ++ ys) zs ≡ put_all key ys (put_all key xs zs)
put_all_append key [] ys zs = refl
put_all_append key (x ∷ xs) ys zs = put_all_append key xs ys (put key x zs)

module _ {P : Type 0} where
  among_at : (es : List (Event P)) (i : ℕ) (x : Event P) → i < length es → x ≡ get_or es i x → Among x es
  among_at [] i x h e = absurd (omega arith)
  among_at (d ∷ es) zero x h e = inl e
  among_at (d ∷ es) (suc i) x h e = inr (among_at es i x (omega arith) e)

  apart_earlier : (es : List (Event P)) (i : ℕ) (x y : Event P) → IsApart key_of es → i < length es → x ≡ get_or es i x → Among y (take i es) → key_of y ≡ key_of x → ⊥
  apart_earlier [] i x y r h e a q = absurd (omega arith)
  apart_earlier (d ∷ es) zero x y r h e a q = absurd a
  apart_earlier (d ∷ es) (suc i) x y r h e (inl s) q = r.0 x (among_at es i x (omega arith) e) (ap key_of (sym s) ∙ q)
  apart_earlier (d ∷ es) (suc i) x y r h e (inr a) q = apart_earlier es i x y r.1 (omega arith) e a q

  pub put_new : (es : List (Event P)) (i : ℕ) (x : Event P) (p0 p : List (Event P)) → AreNew es p0 → i < length es → x ≡ get_or es i x → p ≡ put_all key_of (take i es) p0 →
      (y : Event P) → Among y p → key_of y ≡ key_of x → ⊥
  put_new es i x p0 p new h e is y a q = elim (put_all_among key_of y (take i es) p0 (subst (λ ds. Among y ds) is a)) [
    | inl b ↦ apart_earlier es i x y new.apart h e b q
    | inr b ↦ new.others x y (among_at es i x h e) b (sym q)
  ]

  pub put_next : (es : List (Event P)) (i : ℕ) (x : Event P) (p0 p p' : List (Event P)) → i < length es → x ≡ get_or es i x → p ≡ put_all key_of (take i es) p0 → p' ≡ put key_of x p →
      p' ≡ put_all key_of (take (i + 1) es) p0
  put_next es i x p0 p p' h e is put_is = put_is ∙ (ap (λ ds. put key_of x ds) is ∙ sym (ap (λ ds. put_all key_of ds p0) (next_take es i x h e) ∙ put_all_append key_of (take i es) (x ∷ []) p0))
