-- What the code that makes shares may rely on in a plan that fits, and the shares that it makes.
use Rattle.std.proofs.Common.{◌≡◌, ℕ, suc, ◌^◌, ◌<◌, ◌≤◌, List, [], ◌∷◌, ◌++◌, length, take, map, slice_get, Some, refl, sym, ap, ◌∙◌, subst, inl, inr, arith}
use Rattle.std.specs.List.{range_with_len}
use Rattle.std.proofs.lemmas.List.{map-append}
use Rattle.event_order.specs.Pending.{Among}
use Rattle.ssf_model.specs.declared.entity.Entity.{Entity}
use Rattle.ssf_model.specs.declared.event.Event.{Event}
use Rattle.ssf_model.specs.declared.plan.Mapping.{Mapping}
use Rattle.ssf_model.specs.declared.plan.Plan.{Plan}
use Rattle.ssf_model.specs.Reaction.{Validity}
use Rattle.ssf_model.specs.Run.{Fits}
use Rattle.ssf_model.proofs.Lists.{each_among}
use Rattle.run_health.proofs.Writers.{writer_low}
use Rattle.alignment.specs.Alignment.{timeline_count}
use Rattle.alignment.specs.Classes.{Classified, classified, class_of}
use Rattle.alignment.proofs.Numbering.{ends_within}
use Rattle.timeline_parts.specs.declared.part.Cross.{Cross}
use Rattle.plan_shares.specs.declared.drafts.Drafts.{Drafts}
use Rattle.plan_shares.specs.declared.crosses.CrossEnd.{CrossEnd}
use Rattle.plan_shares.specs.declared.shares.Shares.{Shares}
use Rattle.timeline_parts.specs.declared.part.Part.{Part}
use Rattle.plan_shares.specs.Shares.{entities_on, events_on, inside_on, into, out_of, timers_in, timers_on, mapped_on, channels_on, counted_in, crosses_of, end_of, share_of, shares_of}
use Rattle.plan_shares.specs.Lists.{for_each, list_at}
use Rattle.plan_shares.specs.Drafts.{HasMappings, IsDrafted, IsWhole, part_at}
use Rattle.plan_shares.proofs.ForEach.{each_at, length_of, map_range_same, IsLeft}
use Rattle.plan_shares.proofs.Crossing.{cross_is}

-- ---- a plan that fits

module _ {B S P : Type 0} {valid : Validity S} {carried : P → Type 0} (plan : Plan B S P) (fits : Fits valid carried plan) (lines : List ℕ) (aligned : length lines ≡ length plan.entities) where
  pub mapping_ends : (m : Mapping) → Among m plan.mappings → (m.from < length lines) × (m.to < length lines)
  mapping_ends m a =
      let ends = ends_within plan fits.wired m a in
      let from = ends.0 in
      let to = ends.1 in
      (omega arith, omega arith)

  pub cross_ends : (threshold : ℕ) (xs : List Cross) → xs ≡ crosses_of lines threshold plan.mappings → (x : Cross) → Among x xs → (x.mapping.from < length lines) × (x.mapping.to < length lines)
  cross_ends threshold xs is x a = let cross = cross_is lines threshold plan.mappings x (subst (λ ys. Among x ys) is a) in mapping_ends x.mapping cross.among

  pub event_within : (e : Event P) → Among e plan.events → e.entity < length lines
  event_within e a = let pending = each_among _ plan.events e fits.opened.pending a in let within = pending.entity in omega arith

  pub timer_within : (k c : ℕ) (e : Entity B S P) → slice_get plan.entities k ≡ Some e → Among c (timers_in e.processes) → c < length plan.counts
  timer_within k c e at timer = let low = writer_low plan fits.wired k c (inr (e, at, timer)) in let size = fits.opened.size in omega arith

  pub mapping_within : (m : Mapping) → Among m plan.mappings → (m.from < length lines) × (m.channel < length plan.counts)
  mapping_within m a =
      let low = writer_low plan fits.wired m.from m.channel (inl (m, a, record { source = refl; channel_is = refl })) in
      let size = fits.opened.size in
      ((mapping_ends m a).0, omega arith)

  pub few_entities : length plan.entities < 2 ^ 32
  few_entities = let most = fits.wired.most in omega arith

  pub few_mappings : length plan.mappings < 2 ^ 32
  few_mappings = let most = fits.wired.most in omega arith

  pub counts_enough : length plan.entities ≤ length plan.counts
  counts_enough = let size = fits.opened.size in omega arith

-- ---- classes

mapped_length : {T U : Type 0} (f : T → U) (xs : List T) → length (map f xs) ≡ length xs
mapped_length f [] = refl
mapped_length f (x ∷ xs) = ap suc (mapped_length f xs)

pub classes_length : (lines : List ℕ) (threshold : ℕ) (ms : List Mapping) (classes : Classified) → classes ≡ classified lines threshold ms → length classes.classes ≡ length ms
classes_length lines threshold ms classes is = ap (λ (c : Classified). length c.classes) is ∙ mapped_length (class_of lines threshold) ms

pub classes_are : (lines : List ℕ) (threshold : ℕ) (ms : List Mapping) (classes : Classified) → classes ≡ classified lines threshold ms → classes.classes ≡ map (class_of lines threshold) ms
classes_are lines threshold ms classes is = ap (λ (c : Classified). c.classes) is

-- ---- counts

module _ {B S P : Type 0} (plan : Plan B S P) (lines : List ℕ) where
  -- the timer channels with their counts and then those of mappings are all together
  pub counts_joined : (first all : List (List (ℕ × ℕ))) → first ≡ for_each (timeline_count lines) (λ i. map (counted_in plan.counts) (timers_on lines i plan.entities))
      → all ≡ for_each (timeline_count lines) (λ i. list_at first i ++ map (counted_in plan.counts) (mapped_on lines i plan.mappings)) → all ≡ for_each (timeline_count lines) (λ i. map (counted_in plan.counts) (channels_on plan lines i))
  counts_joined first all was is =
      is ∙ map_range_same (λ i. list_at first i ++ map (counted_in plan.counts) (mapped_on lines i plan.mappings)) (λ i. map (counted_in plan.counts) (channels_on plan lines i)) 0 (timeline_count lines)
      (λ i low high.
      ap (λ xs. xs ++ map (counted_in plan.counts) (mapped_on lines i plan.mappings))
      (ap (λ xs. list_at xs i) was ∙ each_at (timeline_count lines) i (λ j. map (counted_in plan.counts) (timers_on lines j plan.entities)) (omega arith))
      ∙ sym (map-append (counted_in plan.counts) (timers_on lines i plan.entities) (mapped_on lines i plan.mappings)))

-- ---- parts

line_list : {T : Type 0} (n i : ℕ) (f : ℕ → List T) (xs : List (List T)) → xs ≡ for_each n f → i < n → list_at xs i ≡ f i
line_list n i f xs is h = ap (λ ys. list_at ys i) is ∙ each_at n i f h

module _ {B S P : Type 0} where
  abbrev pub made_of : List (ℕ × Entity B S P) → List (Event P) → List Mapping → List Cross → List Cross → List (ℕ × ℕ) → Part B S P
  made_of entities events inside ins outs counts = record { entities = entities; events = events; inside = inside; ins = ins; outs = outs; counts = counts }

  part_same : (a1 b1 : List (ℕ × Entity B S P)) (a2 b2 : List (Event P)) (a3 b3 : List Mapping) (a4 b4 a5 b5 : List Cross) (a6 b6 : List (ℕ × ℕ))
      → a1 ≡ b1 → a2 ≡ b2 → a3 ≡ b3 → a4 ≡ b4 → a5 ≡ b5 → a6 ≡ b6 → made_of a1 a2 a3 a4 a5 a6 ≡ made_of b1 b2 b3 b4 b5 b6
  part_same a1 b1 a2 b2 a3 b3 a4 b4 a5 b5 a6 b6 e1 e2 e3 e4 e5 e6 =
      ap (λ x. made_of x a2 a3 a4 a5 a6) e1 ∙ (ap (λ x. made_of b1 x a3 a4 a5 a6) e2 ∙ (ap (λ x. made_of b1 b2 x a4 a5 a6) e3
      ∙ (ap (λ x. made_of b1 b2 b3 x a5 a6) e4 ∙ (ap (λ x. made_of b1 b2 b3 b4 x a6) e5 ∙ ap (λ x. made_of b1 b2 b3 b4 b5 x) e6))))

  -- while lists are taken out, the parts of the timelines to come stay
  pub part_left : (k : ℕ) (first now : Drafts B S P) → IsLeft k first.entities now.entities → IsLeft k first.events now.events → IsLeft k first.inside now.inside → IsLeft k first.ins now.ins → IsLeft k first.outs now.outs → IsLeft k first.counts now.counts
      → part_at now k ≡ part_at first k
  part_left k first now l1 l2 l3 l4 l5 l6 =
      part_same (list_at now.entities k) (list_at first.entities k) (list_at now.events k) (list_at first.events k) (list_at now.inside k) (list_at first.inside k)
      (list_at now.ins k) (list_at first.ins k) (list_at now.outs k) (list_at first.outs k) (list_at now.counts k) (list_at first.counts k)
      (l1.same k (omega arith)) (l2.same k (omega arith)) (l3.same k (omega arith)) (l4.same k (omega arith)) (l5.same k (omega arith)) (l6.same k (omega arith))

  -- there is a list of each kind for each timeline
  pub whole_of : (plan : Plan B S P) (lines : List ℕ) (threshold count : ℕ) (entities : List (List (ℕ × Entity B S P))) (d : Drafts B S P) → count ≡ timeline_count lines → IsDrafted plan lines threshold d
      → entities ≡ for_each (timeline_count lines) (λ i. entities_on lines i plan.entities)
      → IsWhole count (record {
        entities = entities;
        events = d.events;
        inside = d.inside;
        ins = d.ins;
        outs = d.outs;
        counts = d.counts;
        crosses = d.crosses;
        ends = d.ends;
        starts = d.starts;
        parts = d.parts;
      })
  whole_of plan lines threshold count entities d is filled all =
      let n : ℕ = timeline_count lines in
      record {
        entities = length_of n (λ i. entities_on lines i plan.entities) entities all ∙ sym is;
        events = length_of n (λ i. events_on lines i plan.events) d.events filled.rest.events ∙ sym is;
        inside = length_of n (λ i. inside_on lines i plan.mappings) d.inside filled.mappings.inside ∙ sym is;
        ins = length_of n (λ i. into lines i (crosses_of lines threshold plan.mappings)) d.ins filled.mappings.ins ∙ sym is;
        outs = length_of n (λ i. out_of lines i (crosses_of lines threshold plan.mappings)) d.outs filled.mappings.outs ∙ sym is;
        counts = length_of n (λ i. map (counted_in plan.counts) (channels_on plan lines i)) d.counts filled.rest.counts ∙ sym is;
        parts = filled.rest.parts;
        room = let room = filled.rest.room in omega (arith, room, is);
      }

  pub parts_are : (plan : Plan B S P) (lines : List ℕ) (threshold : ℕ) (d : Drafts B S P)
      → d.entities ≡ for_each (timeline_count lines) (λ i. entities_on lines i plan.entities) → d.events ≡ for_each (timeline_count lines) (λ i. events_on lines i plan.events)
      → HasMappings plan lines threshold d → d.counts ≡ for_each (timeline_count lines) (λ i. map (counted_in plan.counts) (channels_on plan lines i))
      → map (part_at d) (range_with_len 0 (timeline_count lines)) ≡ map (share_of plan lines threshold) (range_with_len 0 (timeline_count lines))
  parts_are plan lines threshold d entities events mappings counts =
      let n : ℕ = timeline_count lines in
      map_range_same (part_at d) (share_of plan lines threshold) 0 n (λ i low high.
      let h : i < n = omega arith in
      part_same (list_at d.entities i) (entities_on lines i plan.entities) (list_at d.events i) (events_on lines i plan.events) (list_at d.inside i) (inside_on lines i plan.mappings)
      (list_at d.ins i) (into lines i (crosses_of lines threshold plan.mappings)) (list_at d.outs i) (out_of lines i (crosses_of lines threshold plan.mappings))
      (list_at d.counts i) (map (counted_in plan.counts) (channels_on plan lines i))
      (line_list n i (λ j. entities_on lines j plan.entities) d.entities entities h)
      (line_list n i (λ j. events_on lines j plan.events) d.events events h)
      (line_list n i (λ j. inside_on lines j plan.mappings) d.inside mappings.inside h)
      (line_list n i (λ j. into lines j (crosses_of lines threshold plan.mappings)) d.ins mappings.ins h)
      (line_list n i (λ j. out_of lines j (crosses_of lines threshold plan.mappings)) d.outs mappings.outs h)
      (line_list n i (λ j. map (counted_in plan.counts) (channels_on plan lines j)) d.counts counts h))

-- ---- shares

module _ {B S P : Type 0} (plan : Plan B S P) where
  abbrev pub with_lists : List (Part B S P) → List CrossEnd → List ℕ → Shares B S P
  with_lists parts ends starts = record { behaviour = plan.behaviour; parts = parts; ends = ends; starts = starts; before = plan.before }

  pub shares_are : (lines : List ℕ) (threshold : ℕ) (parts : List (Part B S P)) (ends : List CrossEnd) (starts : List ℕ)
      → parts ≡ map (share_of plan lines threshold) (range_with_len 0 (timeline_count lines)) → ends ≡ map (end_of lines) (crosses_of lines threshold plan.mappings) → starts ≡ take (length plan.entities) plan.counts
      → with_lists parts ends starts ≡ shares_of plan lines threshold
  shares_are lines threshold parts ends starts p e s =
      ap (λ x. with_lists x ends starts) p ∙ (ap (λ x. with_lists (map (share_of plan lines threshold) (range_with_len 0 (timeline_count lines))) x starts) e
      ∙ ap (λ x. with_lists (map (share_of plan lines threshold) (range_with_len 0 (timeline_count lines))) (map (end_of lines) (crosses_of lines threshold plan.mappings)) x) s)
