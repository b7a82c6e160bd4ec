-- Lanes with their workers and passes, and what becomes of them.
use Rattle.std.proofs.Common.{◌≡◌, ℕ, All, List, [], ◌∷◌, ◌++◌, length, get_or, refl, sym, ap, ◌∙◌, subst, inl, inr, arith, Some, slice_get}
use Rattle.std.proofs.lemmas.Bool.{cases_lt}
use Rattle.std.proofs.lemmas.Option.{slice_get-get_or, get_or_from_slice_get}
use Rattle.event_order.specs.Pending.{Among}
use Rattle.sim_base.specs.Outside.{Rose}
use Rattle.atomic_table.specs.Seated.{TableId}
use Rattle.turn_table.specs.declared.pass.Pass.{Pass}
use Rattle.turn_table.specs.declared.view.Shape.{Shape}
use Rattle.turn_table.specs.Passes.{IsSeated, IsNew}
use Rattle.core_rules.proofs.Lists.{one_of, get_known, got_at}
use Rattle.share_rules.proofs.Lists.{among_at, at_among}
use Rattle.worker_turns.specs.declared.worker.Turned.TheVariants.{Nothing, Stopped}
use Rattle.worker_turns.specs.Passes.{pass_of}
use Rattle.worker_pool.specs.declared.lane.Lane.{Lane}
use Rattle.worker_pool.specs.Lanes.{gate_of, IsFreeIn, EachIs, EachBecame, IsIdle, HasPass, IsCleared, IsKept, IsLent, IsCarried, WasStopped, HasStopped}
use Rattle.worker_pool.specs.Ends.{WasStoppedIn}

-- ---- items of lists

module _ {T : Type 0} where
  pub among_left : (x : T) (xs ys : List T) → Among x xs → Among x (xs ++ ys)
  among_left x [] ys a = absurd a
  among_left x (z ∷ zs) ys (inl e) = inl e
  among_left x (z ∷ zs) ys (inr a) = inr (among_left x zs ys a)

  pub among_last : (x : T) (xs : List T) → Among x (xs ++ x ∷ [])
  among_last x [] = inl refl
  among_last x (z ∷ zs) = inr (among_last x zs)

  -- what holds of all items holds of each
  pub each_of : (law : T → Type 0) (xs : List T) → All law xs → (x : T) → Among x xs → law x
  each_of law xs all x a =
      let found = among_at xs x a in
      subst law (get_or_from_slice_get xs found.0 x x found.1) (all found.0 x (get_known xs found.0 x found.1))

  pub all_of : (law : T → Type 0) (xs : List T) → ((x : T) → Among x xs → law x) → All law xs
  all_of law xs each = λ k d known. each (get_or xs k d) (at_among xs k (get_or xs k d) (slice_get-get_or xs k d known))

-- ---- one lane

module _ {G : Type 0} where
  pub lent_by : (passes : List Pass) (pass : Pass) (before after : Lane G) → IsKept before after → HasPass (λ p. p ≡ pass) after → Among pass passes → IsLent passes before after
  lent_by passes pass before after kept q a = record {
    kept = kept;
    pass = record { worker = q.worker; here = q.here; met = subst (λ p. Among p passes) (sym q.met) a };
  }

  pub free_of : (z : TableId) (shape : Shape) (passes : List Pass) → All (λ p. IsSeated z shape p × IsNew p) passes → (lane : Lane G) → HasPass (λ p. Among p passes) lane → HasPass (IsFreeIn z shape) lane
  free_of z shape passes all lane q =
      let met = each_of (λ p. IsSeated z shape p × IsNew p) passes all (pass_of q.worker) q.met in
      record { worker = q.worker; here = q.here; met = (met.0, met.1.holds) }

  pub same_pass : (law : Pass → Type 0) (lane : Lane G) (pass : Pass) → HasPass law lane → HasPass (λ p. p ≡ pass) lane → law pass
  same_pass law lane pass a b =
      let same : a.worker ≡ b.worker = one_of a.worker b.worker (sym a.here ∙ b.here) in
      subst law (ap pass_of same ∙ b.met) a.met

  module _ (stops : G → ℕ) where
    pub carried_kept : (a b c d : Lane G) → gate_of b ≡ gate_of a → IsCarried stops b c → IsKept c d → IsCarried stops a d
    carried_kept a b c d before q kept =
        let one : stops (gate_of b) ≡ stops (gate_of a) = ap stops before in
        let two : stops (gate_of d) ≡ stops (gate_of c) = ap stops kept.gate in
        record {
          up = (let up = q.up in omega (arith, one, two, up));
          stopped = λ last. subst (λ n. Rose n (stops (gate_of d))) one (subst (λ n. Rose (stops (gate_of b)) n) (sym two) (q.stopped (sym kept.last ∙ last)));
          counted = kept.counted ∙ (q.counted ∙ one);
        }

    pub carried_cleared : (a b c : Lane G) → gate_of b ≡ gate_of a → IsCarried stops b c → IsCarried stops a c
    carried_cleared a b c before q = carried_kept a b c c before q (record { gate = refl; last = refl; counted = refl })

    pub carried_idle : (a b : Lane G) → a ≡ b → IsIdle stops a → IsCarried stops a b
    carried_idle a b same idle =
        subst (λ (l : Lane G). IsCarried stops a l) same (record { up = omega arith; stopped = λ last. absurd (let both : Nothing ≡ Stopped = sym idle.last ∙ last in cc); counted = idle.counted })

    -- the gate of a worker that was stopped has stopped it
    stopped_rose : (a b : Lane G) → IsCarried stops a b → WasStopped stops b → Rose (stops (gate_of a)) (stops (gate_of b))
    stopped_rose a b q (inl last) = q.stopped last
    stopped_rose a b q (inr more) = inl (let counted = q.counted in omega (arith, counted, more))

    -- and the count of the gate of one that was not is the same
    unstopped_stood : (a b : Lane G) → IsCarried stops a b → (WasStopped stops b → ⊥) → stops (gate_of b) ≡ stops (gate_of a)
    unstopped_stood a b q not = elim (cases_lt b.stops_before (stops (gate_of b))) [
      | inl more ↦ absurd (not (inr more))
      | inr most ↦ (let up = q.up in let counted = q.counted in omega (arith, up, counted, most))
    ]

-- ---- all lanes

module _ {G : Type 0} where
  -- a lane after was there before
  pub was_there : (old new : List (Lane G)) → length new ≡ length old → (w : ℕ) (lane : Lane G) → slice_get new w ≡ Some lane → (before : Lane G) × (slice_get old w ≡ Some before)
  was_there old new long w lane at = (let known = get_known new w lane at in got_at old w (omega (arith, known, long)))

  pub still_carried : (stops : G → ℕ) (lanes : List (Lane G)) → EachIs (IsIdle stops) lanes → EachBecame (IsCarried stops) lanes lanes
  still_carried stops lanes idle w before after was is = carried_idle stops before after (one_of before after (sym was ∙ is)) (idle w before was)

  pub cleared_idle : (stops : G → ℕ) (old new : List (Lane G)) → length new ≡ length old → EachBecame (IsCleared stops) old new → EachIs (IsIdle stops) new
  cleared_idle stops old new long cleared w lane at = (let before = was_there old new long w lane at in (cleared w before.0 lane before.1 at).idle)

  pub cleared_carried : (stops : G → ℕ) (a b c : List (Lane G)) → length c ≡ length b → EachBecame (IsCleared stops) a b → EachBecame (IsCarried stops) b c → length b ≡ length a → EachBecame (IsCarried stops) a c
  cleared_carried stops a b c two cleared carried one w before after was is =
      let there = was_there b c two w after is in
      carried_cleared stops before there.0 after (cleared w before there.0 was there.1).gate (carried w there.0 after there.1 is)

  pub all_free : (z : TableId) (shape : Shape) (passes : List Pass) (old new : List (Lane G)) → length new ≡ length old → All (λ p. IsSeated z shape p × IsNew p) passes
      → EachBecame (IsLent passes) old new → EachIs (HasPass (IsFreeIn z shape)) new
  all_free z shape passes old new long all lent w lane at =
      let before = was_there old new long w lane at in
      free_of z shape passes all lane (lent w before.0 lane before.1 at).pass

  pub all_idle : (stops : G → ℕ) (passes : List Pass) (old new : List (Lane G)) → length new ≡ length old → EachIs (IsIdle stops) old → EachBecame (IsLent passes) old new → EachIs (IsIdle stops) new
  all_idle stops passes old new long idle lent w lane at =
      let before = was_there old new long w lane at in
      let kept = (lent w before.0 lane before.1 at).kept in
      let was = idle w before.0 before.1 in
      record { last = kept.last ∙ was.last; counted = kept.counted ∙ (was.counted ∙ ap stops (sym kept.gate)) }

  pub all_back : (z : TableId) (shape : Shape) (lanes : List (Lane G)) (passes : List Pass) → EachIs (HasPass (IsFreeIn z shape)) lanes
      → ((p : Pass) → Among p passes → (w : ℕ) × (lane : Lane G) × (slice_get lanes w ≡ Some lane) × HasPass (λ q. q ≡ p) lane) → All (IsFreeIn z shape) passes
  all_back z shape lanes passes free back =
      all_of (IsFreeIn z shape) passes (λ p a. (let q = back p a in same_pass (IsFreeIn z shape) q.1 p (free q.0 q.1 q.2) q.3))

  pub all_carried : (stops : G → ℕ) (passes : List Pass) (a b c d : List (Lane G)) → length b ≡ length a → length c ≡ length b → length d ≡ length c
      → EachBecame (IsLent passes) a b → EachBecame (IsCarried stops) b c → EachBecame IsKept c d → EachBecame (IsCarried stops) a d
  all_carried stops passes a b c d one two three lent carried kept w before after was is =
      let there = was_there c d three w after is in
      let here = was_there b c two w there.0 there.1 in
      carried_kept stops before here.0 there.0 after (lent w before here.0 was here.1).kept.gate (carried w here.0 there.0 here.1 there.1) (kept w there.0 after there.1 is)

  -- the gate of a lane whose worker was stopped has stopped it
  pub stopped_lane : (stops : G → ℕ) (old new : List (Lane G)) → length new ≡ length old → EachBecame (IsCarried stops) old new → (w : ℕ) → WasStoppedIn stops new w → HasStopped stops w old new
  stopped_lane stops old new long carried w q =
      let before = was_there old new long w q.0 q.1 in
      record { before = before.0; was = before.1; after = q.0; is = q.1; rose = stopped_rose stops before.0 q.0 (carried w before.0 q.0 before.1 q.1) q.2 }

  -- the count of the gate of a lane whose worker was not stopped is the same
  pub unstopped_lane : (stops : G → ℕ) (old new : List (Lane G)) → EachBecame (IsCarried stops) old new → (w : ℕ) (before after : Lane G) → (WasStoppedIn stops new w → ⊥)
      → slice_get old w ≡ Some before → slice_get new w ≡ Some after → stops (gate_of after) ≡ stops (gate_of before)
  unstopped_lane stops old new carried w before after not was is = unstopped_stood stops before after (carried w before after was is) (λ stopped. not (after, is, stopped))
