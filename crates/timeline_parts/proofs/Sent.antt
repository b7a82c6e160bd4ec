-- A loop that sends for each item of a list.
use Rattle.std.proofs.Common.{◌≡◌, ℕ, ◌+◌, ◌<◌, List, [], ◌∷◌, ◌++◌, length, get_or, take, drop, refl, ap, sym, ◌∙◌, subst, append-nil, add-one, drop-cons}
use Rattle.std.specs.List.{flat_map}
use Rattle.std.proofs.lemmas.Grind.{flat_map-append}
use Rattle.std.proofs.lemmas.List.{take_more}
use Rattle.std.proofs.Math.Seq.{take-length}
use Rattle.event_order.specs.declared.key.Key.{Key}
use Rattle.ssf_model.specs.declared.event.Event.{Event}
use Rattle.ssf_model.specs.Channels.{Sent}
use Rattle.timeline_parts.specs.declared.ends.OutEnd.{OutEnd}
use Rattle.timeline_parts.specs.Sending.{MaySend, IsSent, IsSentInPart}
use Rattle.timeline_parts.proofs.Sending.{sent_none, sent_append, part_after, may_first, may_rest}

module _ {P T : Type 0} (parent : Key) (f : T → List (Sent P)) where
  -- before item number i: what was sent for the earlier ones, and that the others may be sent for
  pub record Partway (xs : List T) (i : ℕ) (c0 : List (ℕ × ℕ)) (o0 : List (ℕ × OutEnd P)) (w0 : List (Event P)) (c : List (ℕ × ℕ)) (o : List (ℕ × OutEnd P)) (w : List (Event P)) : Type 0 where
    pub done : IsSent parent (flat_map f (take i xs)) c0 o0 w0 c o w
    pub ahead : MaySend parent (flat_map f (drop i xs)) c o

  pub partway_first : (xs : List T) (c : List (ℕ × ℕ)) (o : List (ℕ × OutEnd P)) (w : List (Event P)) → MaySend parent (flat_map f xs) c o → Partway xs 0 c o w c o w
  partway_first xs c o w m = record { done = sent_none parent c o w; ahead = m }

  next_is : (xs : List T) (i : ℕ) (x : T) → i < length xs → get_or xs i x ≡ x → flat_map f (drop i xs) ≡ f x ++ flat_map f (drop (i + 1) xs)
  next_is xs i x h e = rw (drop-cons xs i x h, e, add-one) refl

  pub partway_may : (xs : List T) (i : ℕ) (c0 c : List (ℕ × ℕ)) (o0 o : List (ℕ × OutEnd P)) (w0 w : List (Event P)) (x : T) → i < length xs → get_or xs i x ≡ x →
      Partway xs i c0 o0 w0 c o w → MaySend parent (f x) c o
  partway_may xs i c0 c o0 o w0 w x h e p = may_first parent (f x) (flat_map f (drop (i + 1) xs)) c o (subst (λ ss. MaySend parent ss c o) (next_is xs i x h e) p.ahead)

  pub partway_next : (xs : List T) (i : ℕ) (c0 c c' : List (ℕ × ℕ)) (o0 o o' : List (ℕ × OutEnd P)) (w0 w w' : List (Event P)) (x : T) → i < length xs → get_or xs i x ≡ x →
      Partway xs i c0 o0 w0 c o w → IsSent parent (f x) c o w c' o' w' → Partway xs (i + 1) c0 o0 w0 c' o' w'
  partway_next xs i c0 c c' o0 o o' w0 w w' x h e p q = record {
    done = rw (take_more xs i x h, e, flat_map-append f (take i xs) (x ∷ []), append-nil)
        (sent_append parent (flat_map f (take i xs)) (f x) c0 c c' o0 o o' w0 w w' p.done q);
    ahead = may_rest parent (f x) (flat_map f (drop (i + 1) xs)) c c' o o' w w' (subst (λ ss. MaySend parent ss c o) (next_is xs i x h e) p.ahead) q;
  }

  pub partway_done : (xs : List T) (i : ℕ) (c0 c : List (ℕ × ℕ)) (o0 o : List (ℕ × OutEnd P)) (w0 w : List (Event P)) → i ≡ length xs →
      Partway xs i c0 o0 w0 c o w → IsSent parent (flat_map f xs) c0 o0 w0 c o w
  partway_done xs i c0 c o0 o w0 w e p = let all : take i xs ≡ xs = rw e (take-length xs) in subst (λ ys. IsSent parent (flat_map f ys) c0 o0 w0 c o w) all p.done

  pub partway_part : (xs : List T) (i : ℕ) (c0 c c' : List (ℕ × ℕ)) (o0 o o' : List (ℕ × OutEnd P)) (w0 w w' : List (Event P)) →
      Partway xs i c0 o0 w0 c o w → IsSentInPart c o w c' o' w' → IsSentInPart c0 o0 w0 c' o' w'
  partway_part xs i c0 c c' o0 o o' w0 w w' p q = part_after parent (flat_map f (take i xs)) c0 c c' o0 o o' w0 w w' p.done q
