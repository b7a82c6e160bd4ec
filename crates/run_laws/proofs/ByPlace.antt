-- The writes of a run on one channel have its numbers in a row, whether the cut keeps them or not.
use Rattle.std.proofs.Common.{ℕ, zero, suc, ◌≡◌, ◌⊎◌, ◌+◌, ◌<◌, ◌∙◌, sym, ap, subst, refl, inl, inr, Bool, true, false, nat_eq, List, [], ◌∷◌, ◌++◌, length, Option, Some, None, slice_get, arith, append-nil, length-append, eqb-true, eq-eqb}
use Rattle.std.specs.List.{filter}
use Rattle.std.proofs.lemmas.List.Elements.{filter-append}
use Rattle.std.proofs.lemmas.Bool.Decides.{nat_tests}
use Rattle.event_order.specs.declared.key.Key.{Key}
use Rattle.event_order.specs.Pending.{Among}
use Rattle.event_order.proofs.Pending.{test_cases}
use Rattle.event_order.specs.Machine.{World}
use Rattle.event_order.proofs.Steps.{step_cases}
use Rattle.ssf_model.specs.declared.event.Event.{Event}
use Rattle.ssf_model.specs.declared.entity.Entity.{Entity}
use Rattle.ssf_model.specs.declared.plan.Plan.{Plan}
use Rattle.ssf_model.specs.Reaction.{Reaction}
use Rattle.ssf_model.specs.Channels.{Sent, sent_by, numbered, raised, counted}
use Rattle.ssf_model.specs.Run.{States, acts_at, writes_at, machine_of, counts_of, world_after}
use Rattle.ssf_model.specs.Scene.{Net, Scene, scene_of, time_of, channel_of}
use Rattle.ssf_model.specs.Truth.{writes_within, writes_on, IsWrite, IsRunWrite, IsStretch, IsPromise, IsTrueParcel}
use Rattle.run_laws.specs.Numbers.{HasNumbersBelow, AreNumbered}
use Rattle.ssf_model.proofs.Lists.{different}
use Rattle.ssf_model.proofs.Places.{has_write, is_written, write_channel, stretch_at, stretch_of, parcel_whole}

-- ---- numbers

test_apart : (a b : ℕ) → (a ≡ b → ⊥) → nat_eq a b ≡ false
test_apart a b apart = grind (arith, nat_tests)

raised_here : (c : ℕ) (counts : ℕ → ℕ) (channel : ℕ) → channel ≡ c → raised counts channel c ≡ counts c + 1
raised_here c counts channel e = rw (eq-eqb c channel (sym e)) refl

raised_else : (c : ℕ) (counts : ℕ → ℕ) (channel : ℕ) → (channel ≡ c → ⊥) → raised counts channel c ≡ counts c
raised_else c counts channel apart = rw (test_apart c channel (λ e. apart (sym e))) refl

module _ {P : Type 0} (c : ℕ) where
  abbrev on : Event P → Bool
  on d = nat_eq d.key.channel c

  -- events of channel c with the numbers from `first` on
  pub record IsRow (first : ℕ) (ds : List (Event P)) : Type 0 where
    pub channel : (k : ℕ) (d : Event P) → slice_get ds k ≡ Some d → d.key.channel ≡ c
    pub number : (k : ℕ) (d : Event P) → slice_get ds k ≡ Some d → d.key.number ≡ first + k

  row_none : (first : ℕ) → IsRow first []
  row_none first = record { channel = λ k d h. absurd (cc); number = λ k d h. absurd (cc) }

  row_channel : (first : ℕ) (x : Event P) (ds : List (Event P)) → x.key.channel ≡ c → IsRow (first + 1) ds → (k : ℕ) (d : Event P) → slice_get (x ∷ ds) k ≡ Some d → d.key.channel ≡ c
  row_channel first x ds own rest zero d h = let same : x ≡ d = cc in subst (λ (e : Event P). e.key.channel ≡ c) same own
  row_channel first x ds own rest (suc k) d h = rest.channel k d h

  row_number : (first : ℕ) (x : Event P) (ds : List (Event P)) → x.key.number ≡ first → IsRow (first + 1) ds → (k : ℕ) (d : Event P) → slice_get (x ∷ ds) k ≡ Some d → d.key.number ≡ first + k
  row_number first x ds own rest zero d h = let same : x ≡ d = cc in subst (λ (e : Event P). e.key.number ≡ first + 0) same (omega arith)
  row_number first x ds own rest (suc k) d h = let told = rest.number k d h in omega arith

  row_cons : (first : ℕ) (x : Event P) (ds : List (Event P)) → x.key.channel ≡ c → x.key.number ≡ first → IsRow (first + 1) ds → IsRow first (x ∷ ds)
  row_cons first x ds channel number rest = record { channel = row_channel first x ds channel rest; number = row_number first x ds number rest }

  row_tail : (first : ℕ) (x : Event P) (ds : List (Event P)) → IsRow first (x ∷ ds) → IsRow (first + 1) ds
  row_tail first x ds row = record {
    channel = λ k d h. row.channel (suc k) d h;
    number = λ k d h. let told = row.number (suc k) d h in omega arith;
  }

  row_joined : (first : ℕ) (xs ys : List (Event P)) → IsRow first xs → IsRow (first + length xs) ys → IsRow first (xs ++ ys)
  row_joined first [] ys row more = let same : first + 0 ≡ first = omega arith in subst (λ n. IsRow n ys) same more
  row_joined first (x ∷ xs) ys row more =
      let same : first + suc (length xs) ≡ (first + 1) + length xs = omega arith in
      row_cons first x (xs ++ ys) (row.channel 0 x refl) (let told = row.number 0 x refl in omega arith)
      (row_joined (first + 1) xs ys (row_tail first x xs row) (subst (λ n. IsRow n ys) same more))

  -- some writes on channel c, of which it counted `before` earlier, and `after` with them
  pub record Counts (before after : ℕ) (ds : List (Event P)) : Type 0 where
    pub row : IsRow before (filter on ds)
    pub total : after ≡ before + length (filter on ds)

  counts_none : (n : ℕ) → Counts n n []
  counts_none n = record { row = row_none n; total = omega arith }

  numbered_counts : (key : Key) (counts : ℕ → ℕ) (ss : List (Sent P)) → Counts (counts c) (counted counts ss c) (numbered key counts ss)
  numbered_counts key counts [] = counts_none (counts c)
  numbered_counts key counts (s ∷ ss) =
      let rest = numbered_counts key (raised counts s.channel) ss in
      elim (test_cases (nat_eq s.channel c)) [
        | inl t ↦
            let e : s.channel ≡ c = eqb-true s.channel c t in
            let up : raised counts s.channel c ≡ counts c + 1 = raised_here c counts s.channel e in
            let row : IsRow (counts c + 1) (filter on (numbered key (raised counts s.channel) ss)) = subst (λ n. IsRow n (filter on (numbered key (raised counts s.channel) ss))) up rest.row in
            let total = rest.total in
            record {
              row = rw t (row_cons (counts c) _ _ e (ap counts e) row);
              total = rw t (omega arith);
            }
        | inr f ↦
            let apart = different s.channel c f in
            let same : raised counts s.channel c ≡ counts c = raised_else c counts s.channel apart in
            let total = rest.total in
            record {
              row = rw f (subst (λ n. IsRow n (filter on (numbered key (raised counts s.channel) ss))) same rest.row);
              total = rw f (omega arith);
            }
      ]

  counts_joined : (before between after : ℕ) (xs ys : List (Event P)) → Counts before between xs → Counts between after ys → Counts before after (xs ++ ys)
  counts_joined before between after xs ys first more =
      let joined = filter-append on xs ys in
      let one = first.total in
      let two = more.total in
      record {
        row = rw joined (row_joined before _ _ first.row (subst (λ n. IsRow n (filter on ys)) one more.row));
        total = rw joined (omega (arith, length-append (filter on xs) (filter on ys)));
      }

module _ {B S P : Type 0} (r : Reaction S P) (plan : Plan B S P) (until : ℕ) (kept : Key → Bool) (line : ℕ → ℕ) (net : Net) where
  abbrev run : Scene (States B S P) (Event P)
  run = scene_of r plan until kept line net

  act_counts : (c : ℕ) (x : States B S P) (e : Event P) (o : Option (Entity B S P)) → Counts c (x.counts c) ((acts_at r plan.mappings x e o).counts c) (writes_at r plan.mappings x e o)
  act_counts c x e None = counts_none c (x.counts c)
  act_counts c x e (Some entity) = numbered_counts c e.key x.counts (sent_by r plan.mappings e entity)

  step_counts : (c : ℕ) (x : States B S P) (e : Event P) → Counts c (x.counts c) (((machine_of r plan.mappings).acts x e).counts c) ((machine_of r plan.mappings).writes x e)
  unfolding machine_of
  step_counts c x e = act_counts c x e (slice_get x.entities e.entity)

  run_counts : (c n : ℕ) → Counts c (counts_of plan.counts c) ((world_after r plan until kept n).state.counts c) (writes_within run n)
  run_counts c zero = counts_none c (counts_of plan.counts c)
  run_counts c (suc n) =
      let v : World (States B S P) (Event P) = world_after r plan until kept n in
      counts_joined c _ (v.state.counts c) _ _ _ (run_counts c n)
      (elim (step_cases (machine_of r plan.mappings) until kept v.state v.pending) [
        | inl t ↦ rw (t.due_is, t.next_is, append-nil) (step_counts c v.state t.head)
        | inr q ↦ rw (q.none, q.next_is) (counts_none c (v.state.counts c))
      ])

  pub count_after : (c n : ℕ) → (world_after r plan until kept n).state.counts c ≡ counts_of plan.counts c + length (writes_on run c n)
  unfolding machine_of
  count_after c n = (run_counts c n).total

  pub write_number : (c k : ℕ) (d : Event P) → IsWrite run c k d → d.key.number ≡ counts_of plan.counts c + k
  unfolding machine_of
  write_number c k d is = (run_counts c is.within).row.number k d is.is

  pub one_place : (c j k : ℕ) (d : Event P) → IsWrite run c j d → IsWrite run c k d → j ≡ k
  one_place c j k d first second = let one = write_number c j d first in let two = write_number c k d second in omega arith

  own_channel : (d : Event P) → channel_of run d ≡ d.key.channel
  unfolding machine_of
  own_channel d = refl

  own_time : (d : Event P) → time_of run d ≡ d.key.time
  unfolding machine_of
  own_time d = refl

  -- a write on channel c
  place_on : (c : ℕ) (d : Event P) → IsRunWrite run d → d.key.channel ≡ c → (k : ℕ) × IsWrite run c k d
  place_on c d is own = let found = has_write run d is in (found.0, subst (λ x. IsWrite run x found.0 d) (own_channel d ∙ own) found.1)

  pub channel_is : (c k : ℕ) (d : Event P) → IsWrite run c k d → d.key.channel ≡ c
  channel_is c k d is = sym (own_channel d) ∙ write_channel run c k d is

  pub has_place : (d : Event P) → IsRunWrite run d → (k : ℕ) × IsWrite run d.key.channel k d
  has_place d is = place_on d.key.channel d is refl

  -- ---- promises

  pub promise_tells : (c bound n : ℕ) → IsPromise run c bound n → HasNumbersBelow run (counts_of plan.counts c + n) c bound
  promise_tells c bound n promise d is own early =
      let found = place_on c d is own in
      let below = promise found.0 d found.1 (rw (own_time d) early) in
      let number = write_number c found.0 d found.1 in
      omega arith

  pub promise_told : (c bound n : ℕ) → HasNumbersBelow run (counts_of plan.counts c + n) c bound → IsPromise run c bound n
  promise_told c bound n told k d is early =
      let below = told d (is_written run c k d is) (channel_is c k d is) (rw (← own_time d) early) in
      let number = write_number c k d is in
      omega arith

  -- ---- parcels

  pub parcel_leaves_none : (c first end bound : ℕ) (ds : List (Event P)) → net.appointed c ≡ true → IsTrueParcel run c first ds end bound → (d : Event P) → IsRunWrite run d → d.key.channel ≡ c → d.key.time < bound
      → (d.key.number < counts_of plan.counts c + first) ⊎ Among d ds
  parcel_leaves_none c first end bound ds appointed is d written own early =
      let found = place_on c d written own in
      let number = write_number c found.0 d found.1 in
      elim (parcel_whole run c first end bound ds appointed is found.0 d found.1 (rw (own_time d) early)) [ inl before ↦ inl (omega arith) | inr a ↦ inr a ]

  pub stretch_tells : (c first end : ℕ) (ds : List (Event P)) → IsStretch run c first ds end → AreNumbered run c (counts_of plan.counts c + first) ds
  stretch_tells c first end ds is j d at =
      let w = stretch_at run c first end ds is j d at in (is_written run c (first + j) d w, channel_is c (first + j) d w, let number = write_number c (first + j) d w in omega arith)

  pub stretch_told : (c first end : ℕ) (ds : List (Event P)) → end ≡ first + length ds → AreNumbered run c (counts_of plan.counts c + first) ds → IsStretch run c first ds end
  stretch_told c first end ds long told = stretch_of run c first ds end long (λ j d at.
      let has = told j d at in
      let found = place_on c d has.0 has.1 in
      let number = write_number c found.0 d found.1 in
      let given = has.2 in
      let same : found.0 ≡ first + j = omega arith in
      subst (λ k. IsWrite run c k d) same found.1)
