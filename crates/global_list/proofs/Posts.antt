-- What is sent part by part.
use Rattle.std.proofs.Common.{◌≡◌, ℕ, ◌+◌, ◌^◌, ◌<◌, Bool, true, false, cond, List, [], ◌∷◌, ◌++◌, length, refl, sym, ap, ◌∙◌, subst, inl, inr, arith, count_by, append-nil, get_or, take, drop, add-one, drop-cons, eq-eqb}
use Rattle.std.specs.List.{flat_map}
use Rattle.std.proofs.lemmas.Grind.{flat_map-append}
use Rattle.std.proofs.lemmas.List.{take_more}
use Rattle.std.proofs.Math.Seq.{take-length}
use Rattle.std.proofs.lemmas.Grind.{common_steps}
use Rattle.event_order.specs.declared.key.Key.{Key}
use Rattle.event_order.specs.Order.{child_of}
use Rattle.event_order.specs.Pending.{put, put_all, Among}
use Rattle.event_order.proofs.Pending.{put_all_among, among_append_left, among_append_right}
use Rattle.ssf_model.specs.declared.event.Event.{Event}
use Rattle.ssf_model.specs.Reaction.{Each}
use Rattle.ssf_model.specs.Channels.{Sent, raised, counted, numbered}
use Rattle.ssf_model.specs.Run.{counts_of}
use Rattle.global_list.specs.Pending.{key_of}
use Rattle.ssf_model.specs.Channels.{is_on}
use Rattle.ssf_model.proofs.Lists.{each_first, each_rest, count_append, count_yes}
use Rattle.ssf_model.proofs.Counts.{counted_is, numbered_told}
use Rattle.global_list.specs.Posting.{IsSendable, MayPost, IsPosted}

put_all_append : {T : Type 0} (key : T → Key) (xs ys zs : List T) → put_all key (xs ++ ys) zs ≡ put_all key ys (put_all key xs zs)
put_all_append key [] ys zs = refl
put_all_append key (x ∷ xs) ys zs = put_all_append key xs ys (put key x zs)

module _ {P : Type 0} where
  counted_append : (counts : ℕ → ℕ) (ss ts : List (Sent P)) → counted counts (ss ++ ts) ≡ counted (counted counts ss) ts
  counted_append counts [] ts = refl
  counted_append counts (s ∷ ss) ts = counted_append (raised counts s.channel) ss ts

  numbered_append : (key : Key) (counts : ℕ → ℕ) (ss ts : List (Sent P)) → numbered key counts (ss ++ ts) ≡ numbered key counts ss ++ numbered key (counted counts ss) ts
  numbered_append key counts [] ts = refl
  numbered_append key counts (s ∷ ss) ts =
      ap (λ (es : List (Event P)). record { key = child_of key s.delay s.priority s.channel (counts s.channel); entity = s.entity; kind = s.kind } ∷ es)
      (numbered_append key (raised counts s.channel) ss ts)

  -- ---- parts of what is sent

  pub posted_none : (parent : Key) (c : List ℕ) (p : List (Event P)) → IsPosted parent [] c p c p
  posted_none parent c p = record { counts = refl; size = refl; pending = refl }

  pub posted_append : (parent : Key) (ss ts : List (Sent P)) (c0 c1 c2 : List ℕ) (p0 p1 p2 : List (Event P)) →
      IsPosted parent ss c0 p0 c1 p1 → IsPosted parent ts c1 p1 c2 p2 → IsPosted parent (ss ++ ts) c0 p0 c2 p2
  posted_append parent ss ts c0 c1 c2 p0 p1 p2 a b = record {
    counts = b.counts ∙ (ap (λ (f : ℕ → ℕ). counted f ts) a.counts ∙ sym (counted_append (counts_of c0) ss ts));
    size = b.size ∙ a.size;
    pending = b.pending ∙ (ap (λ (f : ℕ → ℕ). put_all key_of (numbered parent f ts) p1) a.counts
        ∙ (ap (λ ps. put_all key_of (numbered parent (counted (counts_of c0) ss) ts) ps) a.pending
        ∙ (sym (put_all_append key_of (numbered parent (counts_of c0) ss) (numbered parent (counted (counts_of c0) ss) ts) p0)
        ∙ ap (λ es. put_all key_of es p0) (sym (numbered_append parent (counts_of c0) ss ts)))));
  }

  -- room for one
  pub one_room : (parent : Key) (s : Sent P) (c : List ℕ) (p : List (Event P)) → MayPost parent (s ∷ []) c p → counts_of c s.channel + 1 < 2 ^ 64
  one_room parent s c p m =
      let room = m.room s (inl refl) in
      let one = count_yes (is_on s.channel) s [] (eq-eqb s.channel s.channel refl) in
      omega arith

  pub may_first : (parent : Key) (ss ts : List (Sent P)) (c : List ℕ) (p : List (Event P)) → MayPost parent (ss ++ ts) c p → MayPost parent ss c p
  may_first parent ss ts c p m = record {
    time = m.time;
    round = m.round;
    sendable = each_first (IsSendable (length c)) ss ts m.sendable;
    room = λ s a. let all = m.room s (among_append_left s ss ts a) in omega (arith, count_append (is_on s.channel) ss ts);
    told = m.told;
  }

  pub posted_told : (parent : Key) (ss : List (Sent P)) (c c' : List ℕ) (p p' : List (Event P)) →
      ((d : Event P) → Among d p → d.key.number < counts_of c d.key.channel) → IsPosted parent ss c p c' p' →
      (d : Event P) → Among d p' → d.key.number < counts_of c' d.key.channel
  posted_told parent ss c c' p p' told q d a =
      let now : counts_of c' d.key.channel ≡ counted (counts_of c) ss d.key.channel = ap (λ (f : ℕ → ℕ). f d.key.channel) q.counts in
      elim (put_all_among key_of d (numbered parent (counts_of c) ss) p (subst (λ xs. Among d xs) q.pending a)) [
        | inl b ↦ omega (arith, numbered_told parent (counts_of c) ss d b)
        | inr b ↦ omega (arith, told d b, counted_is (counts_of c) ss d.key.channel)
      ]

  pub may_rest : (parent : Key) (ss ts : List (Sent P)) (c c' : List ℕ) (p p' : List (Event P)) → MayPost parent (ss ++ ts) c p → IsPosted parent ss c p c' p' → MayPost parent ts c' p'
  may_rest parent ss ts c c' p p' m q = record {
    time = m.time;
    round = m.round;
    sendable = rw q.size (each_rest (IsSendable (length c)) ss ts m.sendable);
    room = λ s a. let k : ℕ = s.channel in let all = m.room s (among_append_right s ss ts a) in let now : counts_of c' k ≡ counted (counts_of c) ss k = ap (λ (f : ℕ → ℕ). f k) q.counts in
        omega (arith, count_append (is_on k) ss ts, counted_is (counts_of c) ss k);
    told = posted_told parent ss c c' p p' m.told q;
  }

-- ---- a loop that sends for each item of a list

module _ {P T : Type 0} (parent : Key) (f : T → List (Sent P)) where
  -- before item number i: what was sent for the earlier ones, and that the others may be sent for
  pub record Partway (xs : List T) (i : ℕ) (c0 : List ℕ) (p0 : List (Event P)) (c : List ℕ) (p : List (Event P)) : Type 0 where
    pub done : IsPosted parent (flat_map f (take i xs)) c0 p0 c p
    pub ahead : MayPost parent (flat_map f (drop i xs)) c p

  pub partway_first : (xs : List T) (c : List ℕ) (p : List (Event P)) → MayPost parent (flat_map f xs) c p → Partway xs 0 c p c p
  partway_first xs c p m = record { done = posted_none parent c p; ahead = m }

  next_is : (xs : List T) (i : ℕ) (x : T) → i < length xs → get_or xs i x ≡ x → flat_map f (drop i xs) ≡ f x ++ flat_map f (drop (i + 1) xs)
  next_is xs i x h e = rw (drop-cons xs i x h, e, add-one) refl

  pub partway_may : (xs : List T) (i : ℕ) (c0 c : List ℕ) (p0 p : List (Event P)) (x : T) → i < length xs → get_or xs i x ≡ x → Partway xs i c0 p0 c p → MayPost parent (f x) c p
  partway_may xs i c0 c p0 p x h e w = may_first parent (f x) (flat_map f (drop (i + 1) xs)) c p (subst (λ ss. MayPost parent ss c p) (next_is xs i x h e) w.ahead)

  pub partway_next : (xs : List T) (i : ℕ) (c0 c c' : List ℕ) (p0 p p' : List (Event P)) (x : T) → i < length xs → get_or xs i x ≡ x →
      Partway xs i c0 p0 c p → IsPosted parent (f x) c p c' p' → Partway xs (i + 1) c0 p0 c' p'
  partway_next xs i c0 c c' p0 p p' x h e w q = record {
    done = rw (take_more xs i x h, e, flat_map-append f (take i xs) (x ∷ []), append-nil)
        (posted_append parent (flat_map f (take i xs)) (f x) c0 c c' p0 p p' w.done q);
    ahead = may_rest parent (f x) (flat_map f (drop (i + 1) xs)) c c' p p' (subst (λ ss. MayPost parent ss c p) (next_is xs i x h e) w.ahead) q;
  }

  pub partway_done : (xs : List T) (i : ℕ) (c0 c : List ℕ) (p0 p : List (Event P)) → i ≡ length xs → Partway xs i c0 p0 c p → IsPosted parent (flat_map f xs) c0 p0 c p
  partway_done xs i c0 c p0 p e w = let all : take i xs ≡ xs = rw e (take-length xs) in subst (λ ys. IsPosted parent (flat_map f ys) c0 p0 c p) all w.done
