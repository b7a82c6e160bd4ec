-- A timeline that has its share of a plan and has executed nothing is sound.
use Rattle.std.proofs.Common.{◌≡◌, ℕ, ◌≤◌, Bool, true, false, nat_eq, List, [], ◌∷◌, map, refl, sym, ap, ◌∙◌, subst, inl, inr, arith, eq-eqb, eqb-true, Some, option_map, unwrap_or}
use mathlib.Core.Path.{fun_ext}
use Rattle.std.specs.List.{filter}
use Rattle.event_order.specs.declared.key.Key.{Key}
use Rattle.event_order.specs.Pending.{Among, put_all}
use Rattle.event_order.proofs.Pending.{test_cases, among_filter, filter_among, put_all_rises, put_all_among, among_put_all_self, rising_filter, rising_same}
use Rattle.ssf_model.specs.declared.event.Event.{Event}
use Rattle.ssf_model.specs.declared.plan.Plan.{Plan}
use Rattle.ssf_model.specs.Reaction.{Reaction, Validity, LatestTime, Each}
use Rattle.ssf_model.specs.Run.{States, Fits}
use Rattle.ssf_model.specs.Scene.{Net, Scene, scene_of}
use Rattle.run_health.specs.Healthy.{MostEvents}
use Rattle.sync_rules.specs.Bounds.{IsInto, IsOutOf}
use Rattle.sync_rules.specs.Shared.{IsShared}
use Rattle.sync_rules.specs.Sound.{IsSoundLine, IsCounted}
use Rattle.sync_rules.specs.Steps.{first_line}
use Rattle.sync_rules.proofs.Wholes.{first_line_is_sound, first_line_is_counted}
use Rattle.timeline_parts.specs.declared.ends.InEnd.{InEnd}
use Rattle.timeline_parts.specs.declared.ends.OutEnd.{OutEnd}
use Rattle.timeline_parts.specs.Tables.{numbers_of, AreRising, AreNumbered, item_at}
use Rattle.timeline_parts.specs.Sending.{written_of}
use Rattle.timeline_parts.specs.declared.part.Cross.{Cross}
use Rattle.timeline_parts.specs.declared.part.Part.{Part}
use Rattle.timeline.specs.View.{TimelineOf, key_of}
use Rattle.timeline.specs.Holding.{taken_of, held_of, IsFilled}
use Rattle.timeline_parts.specs.Parts.{channel_of, IsPart}
use Rattle.timeline.specs.Opening.{first_in, first_out, IsFirst}
use Rattle.timeline.specs.Lines.{line_of, posted_of, outbox_of, IsPlacedIn}
use Rattle.timeline.specs.Sound.{IsShareOf, IsSoundTimeline}
use Rattle.timeline.proofs.Kept.{filled_first, numbers_first_in, numbers_first_out}
use Rattle.timeline.proofs.TellsBounds.{among_item}

-- ---- the ends at first

made_among : {T : Type 0} (make : Cross → ℕ × T) (x : Cross) (xs : List Cross) → Among x xs → Among (make x) (map make xs)
made_among make x [] a = absurd a
made_among make x (y ∷ ys) (inl same) = inl (ap make same)
made_among make x (y ∷ ys) (inr a) = inr (made_among make x ys a)

of_channel : (c : ℕ) (xs : List Cross) → Among c (map channel_of xs) → (x : Cross) × Among x xs × (channel_of x ≡ c)
of_channel c [] a = absurd a
of_channel c (x ∷ xs) (inl same) = (x, inl refl, sym same)
of_channel c (x ∷ xs) (inr a) = (let found = of_channel c xs a in (found.0, inr found.1, found.2))

-- a part that is alike of all ends
part_of_all : {T A : Type 0} (make : Cross → ℕ × T) (part : T → A) (d : A) (xs : List Cross) → ((x : Cross) → part (make x).1 ≡ d) → (c : ℕ) → unwrap_or (option_map part (item_at c (map make xs))) d ≡ d
part_of_all make part d [] same c = refl
part_of_all make part d (x ∷ xs) same c = elim (test_cases (nat_eq c (make x).0)) [
  | inl t ↦ rw t (same x)
  | inr f ↦ rw f (part_of_all make part d xs same c)
]

module _ {B S P : Type 0} (r : Reaction S P) (plan : Plan B S P) (until : ℕ) (kept : Key → Bool) (line : ℕ → ℕ) (net : Net) (valid : Validity S) (carried : P → Type 0) (fits : Fits valid carried plan)
    (in_time : until ≤ LatestTime) (sh : IsShared (scene_of r plan until kept line net)) (i budget : ℕ) (most : budget ≤ MostEvents) (part : Part B S P) (share : IsShareOf plan line net i part) (ordered : IsPart part)
    (t : TimelineOf B S P) (first : IsFirst part until budget t) where
  abbrev s : Scene (States B S P) (Event P)
  s = scene_of r plan until kept line net

  opened : put_all key_of part.events [] ≡ filter (λ (e : Event P). nat_eq (line e.entity) i) plan.events
  opened =
      rising_same key_of (put_all key_of part.events []) (filter (λ (e : Event P). nat_eq (line e.entity) i) plan.events)
      (put_all_rises key_of part.events [] tt ordered.events (λ x y a b. absurd b))
      (rising_filter key_of (λ (e : Event P). nat_eq (line e.entity) i) plan.events fits.opened.rising)
      (λ e a. elim (put_all_among key_of e part.events [] a) [
        | inl b ↦ (let q = share.events e b in among_filter (λ (d : Event P). nat_eq (line d.entity) i) e plan.events q.0 (eq-eqb (line e.entity) i q.1))
        | inr none ↦ absurd none
      ])
      (λ e a. (let q = filter_among (λ (d : Event P). nat_eq (line d.entity) i) e plan.events a in
      among_put_all_self key_of e part.events [] (share.all_events e q.among (eqb-true (line e.entity) i q.passes))))

  -- the view at first
  pub first_as : line_of 0 t ≡ first_line s i
  first_as =
      let pending : t.pending ≡ filter (λ (e : Event P). nat_eq (line e.entity) i) plan.events = first.pending ∙ opened in
      let taken : taken_of t.in_ends ≡ (λ c. 0) = ap taken_of first.in_ends ∙ fun_ext (part_of_all first_in (λ (e : InEnd). e.taken) 0 part.ins (λ x. refl)) in
      let held : held_of t.in_ends ≡ (λ c. 0) = ap held_of first.in_ends ∙ fun_ext (part_of_all first_in (λ (e : InEnd). e.held) 0 part.ins (λ x. refl)) in
      let posted : posted_of t.out_ends ≡ (λ c. 0) = ap posted_of first.out_ends ∙ fun_ext (part_of_all first_out (λ (o : OutEnd P). o.posted) 0 part.outs (λ x. refl)) in
      let written : written_of t.out_ends ≡ (λ c. 0) = ap written_of first.out_ends ∙ fun_ext (part_of_all first_out (λ (o : OutEnd P). o.written) 0 part.outs (λ x. refl)) in
      let outbox : outbox_of t.out_ends ≡ (λ c. []) = ap outbox_of first.out_ends ∙ fun_ext (part_of_all first_out (λ (o : OutEnd P). o.outbox) [] part.outs (λ x. refl)) in
      rw (first.executed, pending, first.entered, first.arrival, taken, held, posted, written, outbox) refl

  ins_numbers : numbers_of t.in_ends ≡ map channel_of part.ins
  ins_numbers = ap numbers_of first.in_ends ∙ numbers_first_in part.ins

  outs_numbers : numbers_of t.out_ends ≡ map channel_of part.outs
  outs_numbers = ap numbers_of first.out_ends ∙ numbers_first_out P part.outs

  ins_rise : AreNumbered t.in_ends
  ins_rise = subst AreRising (sym ins_numbers) ordered.ins

  outs_rise : AreNumbered t.out_ends
  outs_rise = subst AreRising (sym outs_numbers) ordered.outs

  in_item : (x : Cross) → Among x part.ins → item_at x.mapping.channel t.in_ends ≡ Some (first_in x).1
  in_item x a = among_item (first_in x) t.in_ends ins_rise (subst (λ es. Among (first_in x) es) (sym first.in_ends) (made_among first_in x part.ins a))

  out_item : (x : Cross) → Among x part.outs → item_at x.mapping.channel t.out_ends ≡ Some (first_out {P = P} x).1
  out_item x a = among_item (first_out x) t.out_ends outs_rise (subst (λ es. Among (first_out x) es) (sym first.out_ends) (made_among first_out x part.outs a))

  first_placed : IsPlacedIn net i t
  first_placed = record {
    into = λ c a. (let found = of_channel c part.ins (subst (λ ns. Among c ns) ins_numbers a) in subst (λ k. IsInto net i k) found.2 (share.ins found.0 found.1).0);
    ins = λ c to. (let found = share.all_ins c to in
        ((first_in found.0).1, subst (λ k. item_at k t.in_ends ≡ Some (first_in found.0).1) found.2 (in_item found.0 found.1), subst (λ k. found.0.appointed ≡ net.appointed k) found.2 (share.ins found.0 found.1).1));
    out = λ c a. (let found = of_channel c part.outs (subst (λ ns. Among c ns) outs_numbers a) in subst (λ k. IsOutOf net i k) found.2 (share.outs found.0 found.1).0);
    outs = λ c to. (let found = share.all_outs c to in (
      (first_out {P = P} found.0).1,
      subst (λ k. item_at k t.out_ends ≡ Some (first_out {P = P} found.0).1) found.2 (out_item found.0 found.1),
      subst (λ k. found.0.appointed ≡ net.appointed k) found.2 (share.outs found.0 found.1).1,
      subst (λ k. found.0.mapping.delay ≡ net.delay k) found.2 (share.outs found.0 found.1).2,
    ));
  }

  pub first_sound : IsSoundTimeline plan line s i 0 t
  first_sound = record {
    order = record {
      until = omega (arith, first.last, in_time);
      budget = omega (arith, first.most, most);
      few = omega (arith, first.executed);
      entities = subst (λ es. AreNumbered es) (sym first.entities) ordered.entities;
      counts = subst (λ es. AreNumbered es) (sym first.counts) ordered.counts;
      in_ends = ins_rise;
      out_ends = outs_rise;
      filled = subst (λ es. Each IsFilled es) (sym first.out_ends) (filled_first P part.outs);
    };
    until = first.last;
    sound = subst (λ l. IsSoundLine s i l) (sym first_as) (first_line_is_sound s sh i);
    counted = subst (λ l. IsCounted s t.budget i l) (sym first_as) (first_line_is_counted s sh t.budget i);
    placed = first_placed;
    mappings = record { inside = first.inside ∙ share.inside; outs = ap (map (λ (x : Cross). x.mapping)) first.outs ∙ share.outside };
    entities = λ awake. record {
      each = λ k h. ap (item_at k) first.entities ∙ share.entities k h;
      own = λ k a. share.own k (subst (λ es. Among k (numbers_of es)) first.entities a);
    };
    counts = λ k c h w. ap (item_at c) first.counts ∙ share.counts k c h w;
    given_up = [];
    history = first.history;
    stopped = λ spent. absurd (let wrong : true ≡ false = sym spent ∙ first.spent in cc);
  }
