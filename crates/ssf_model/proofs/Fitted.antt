-- The plan of a builder's draft fits.
use Rattle.std.proofs.Common.{ℕ, zero, suc, ◌≡◌, ◌+◌, ◌<◌, ◌≤◌, ◌^◌, ◌∙◌, sym, ap, subst, refl, inl, inr, Bool, true, false, cond, List, [], ◌∷◌, ◌++◌, map, length, replicate, Some, slice_get, get_or, option_to_list, arith, zero-add, add-zero, length-append}
use Rattle.std.specs.declared.cmp.Ordering.TheVariants.{Less}
use Rattle.std.specs.Cmp.{nat_cmp_is}
use Rattle.std.specs.Ordering.{nat_cmp}
use Rattle.std.specs.List.{range_with_len, flat_map}
use Rattle.std.specs.List.Sorted.{IsStrictlyIncreasing}
use Rattle.std.proofs.lemmas.List.{length-replicate, length-map}
use Rattle.std.proofs.lemmas.List.FromFn.{length-range_with_len}
use Rattle.std.proofs.lemmas.List.Sums.{sum_by-cons}
use Rattle.event_order.specs.Order.{comes_before, IsBefore}
use Rattle.event_order.specs.Pending.{Among, IsRising}
use Rattle.ssf_model.specs.declared.wait.Wait.TheVariants.{Forever}
use Rattle.ssf_model.specs.declared.event.Event.{Event}
use Rattle.ssf_model.specs.declared.process.Process.{Process}
use Rattle.ssf_model.specs.declared.entity.Entity.{Entity}
use Rattle.ssf_model.specs.declared.builder.DraftEntity.{DraftEntity}
use Rattle.ssf_model.specs.declared.builder.OutChannel.{OutChannel}
use Rattle.ssf_model.specs.declared.plan.Mapping.{Mapping}
use Rattle.ssf_model.specs.declared.plan.Plan.{Plan}
use Rattle.ssf_model.specs.Reaction.{Validity, Each, is_timed, wait_of}
use Rattle.ssf_model.specs.Entities.{IsValidEntity}
use Rattle.ssf_model.specs.Run.{Fits, HasAt, AreEnds, MostCount, IsMappingOf, IsProcessOf, IsPending, IsWired, timers_of, counts_of}
use Rattle.ssf_model.specs.Drafts.{Draft, MostEnds, IsValidDraft, all_timers, timers, planned, start, first_process, first_processes, first_entity, first_entities, with_channel, with_channels}
use Rattle.ssf_model.proofs.Owning.{each_at, each_from_places, each_from_among, place_within}
use Rattle.ssf_model.specs.Owners.{AreOwned, owners_of, IsDrawn, HasOwners, IsOwned, IsDraft}

-- ---- the processes and entities at first

timed_one : (timer : ℕ) (t : Bool) → is_timed (first_process timer t) ≡ t
timed_one timer true = refl
timed_one timer false = refl

pub timed_first : (timer : ℕ) (timed : List Bool) → map is_timed (first_processes timer timed) ≡ timed
timed_first timer [] = refl
timed_first timer (t ∷ ts) = let one = timed_one timer t in let rest = timed_first (timer + cond t 1 0) ts in cc

pub waits_first : (timer : ℕ) (timed : List Bool) → map wait_of (first_processes timer timed) ≡ replicate (length timed) Forever
waits_first timer [] = refl
waits_first timer (t ∷ ts) = ap (λ ws. Forever ∷ ws) (waits_first (timer + cond t 1 0) ts)

pub length_first : (timer : ℕ) (timed : List Bool) → length (first_processes timer timed) ≡ length timed
length_first timer [] = refl
length_first timer (t ∷ ts) = ap (λ n. suc n) (length_first (timer + cond t 1 0) ts)

pub length_entities : (B S P : Type 0) (timer : ℕ) (ds : List (DraftEntity S)) → length (first_entities {B = B} {P = P} timer ds) ≡ length ds
length_entities B S P timer [] = refl
length_entities B S P timer (d ∷ ds) = ap (λ n. suc n) (length_entities B S P (timer + timers d.timed) ds)

valid_entities : (B S P : Type 0) (valid : Validity S) (timer : ℕ) (ds : List (DraftEntity S)) → Each (IsValidDraft valid) ds → Each (λ d. length d.timed ≤ 2 ^ 32) ds
    → Each (IsValidEntity {B = B} {P = P} valid) (first_entities timer ds)
valid_entities B S P valid timer [] states few = tt
valid_entities B S P valid timer (d ∷ ds) states few =
    let timed = timed_first timer d.timed in
    let waits = waits_first timer d.timed in
    let long = length_first timer d.timed in
    (record { state = rw (timed, waits) states.0; few = rw long few.0 }, valid_entities B S P valid (timer + timers d.timed) ds states.1 few.1)

processes_fit : (ins : List ℕ) (timer : ℕ) (timed : List Bool) → Each (IsProcessOf ins) (first_processes timer timed)
processes_fit ins timer [] = tt
processes_fit ins timer (t ∷ ts) = (record { waits = tt; untimed = λ e h. cc; ticket = omega arith }, processes_fit ins (timer + cond t 1 0) ts)

all_processes_fit : (B S P : Type 0) (timer : ℕ) (ds : List (DraftEntity S)) → Each (λ (e : Entity B S P). Each (IsProcessOf e.in_channels) e.processes) (first_entities timer ds)
all_processes_fit B S P timer [] = tt
all_processes_fit B S P timer (d ∷ ds) = (processes_fit d.in_channels timer d.timed, all_processes_fit B S P (timer + timers d.timed) ds)

-- ---- timer channels

range_joined : (a n m : ℕ) → range_with_len a n ++ range_with_len (a + n) m ≡ range_with_len a (n + m)
range_joined a zero m = rw (add-zero, zero-add) refl
range_joined a (suc n) m =
    let one : a + suc n ≡ (a + 1) + n = omega arith in
    let all : suc n + m ≡ suc (n + m) = omega arith in
    ap (λ k. range_with_len a (suc n) ++ range_with_len k m) one ∙ (ap (λ ks. a ∷ ks) (range_joined (a + 1) n m) ∙ sym (ap (λ k. range_with_len a k) all))

pub timers_cons : (t : Bool) (ts : List Bool) → timers (t ∷ ts) ≡ cond t 1 0 + timers ts
timers_cons t ts = sum_by-cons (λ (b : Bool). cond b 1 0) t ts

process_timers : (timer : ℕ) (timed : List Bool) → flat_map (λ (p : Process). option_to_list p.timer) (first_processes timer timed) ≡ range_with_len timer (timers timed)
process_timers timer [] = refl
process_timers timer (true ∷ ts) =
    let all : timers (true ∷ ts) ≡ suc (timers ts) = omega (arith, timers_cons true ts) in
    ap (λ ks. timer ∷ ks) (process_timers (timer + 1) ts) ∙ sym (ap (λ n. range_with_len timer n) all)
process_timers timer (false ∷ ts) =
    let all : timers (false ∷ ts) ≡ timers ts = omega (arith, timers_cons false ts) in
    process_timers (timer + 0) ts ∙ (ap (λ k. range_with_len k (timers ts)) (add-zero timer) ∙ sym (ap (λ n. range_with_len timer n) all))

entity_timers : (B S P : Type 0) (timer : ℕ) (ds : List (DraftEntity S)) → timers_of (first_entities {B = B} {P = P} timer ds) ≡ range_with_len timer (all_timers ds)
entity_timers B S P timer [] = refl
entity_timers B S P timer (d ∷ ds) =
    let rest : List ℕ = timers_of (first_entities {B = B} {P = P} (timer + timers d.timed) ds) in
    ap (λ ks. ks ++ rest) (process_timers timer d.timed)
    ∙ (ap (λ ks. range_with_len timer (timers d.timed) ++ ks) (entity_timers B S P (timer + timers d.timed) ds)
    ∙ (range_joined timer (timers d.timed) (all_timers ds) ∙ ap (λ n. range_with_len timer n) (sym (sum_by-cons (λ e. timers e.timed) d ds))))

-- ---- mappings

pub length_channels : (first : ℕ) (ms : List Mapping) → length (with_channels first ms) ≡ length ms
length_channels first [] = refl
length_channels first (m ∷ ms) = ap (λ n. suc n) (length_channels (first + 1) ms)

channels_are : (first : ℕ) (ms : List Mapping) → map (λ (m : Mapping). m.channel) (with_channels first ms) ≡ range_with_len first (length ms)
channels_are first [] = refl
channels_are first (m ∷ ms) = ap (λ cs. first ∷ cs) (channels_are (first + 1) ms)

-- the entity at a place is made of the draft's entity there
record IsFirst {B S P : Type 0} (ds : List (DraftEntity S)) (i : ℕ) (e : Entity B S P) : Type 0 where
  draft : DraftEntity S
  there : slice_get ds i ≡ Some draft
  ins : e.in_channels ≡ draft.in_channels
  outs : e.out_channels ≡ draft.out_channels

first_at : (B S P : Type 0) (timer : ℕ) (ds : List (DraftEntity S)) (i : ℕ) (e : Entity B S P) → slice_get (first_entities timer ds) i ≡ Some e → IsFirst ds i e
first_at B S P timer [] i e h = absurd (cc)
first_at B S P timer (d ∷ ds) zero e h = let is : Some (first_entity {B = B} {P = P} timer d) ≡ Some e = h in record { draft = d; there = refl; ins = cc; outs = cc }
first_at B S P timer (d ∷ ds) (suc i) e h = let rest = first_at B S P (timer + timers d.timed) ds i e h in record { draft = rest.draft; there = rest.there; ins = rest.ins; outs = rest.outs }

-- the channels of the entities are those of the draft's, which rise and have owners
ends_fit : (B S P : Type 0) (timer : ℕ) (lists : DraftEntity S → List ℕ) (own : Entity B S P → List ℕ) (owners : List ℕ) (ds : List (DraftEntity S)) →
    ((i : ℕ) (e : Entity B S P) (is : IsFirst ds i e) → own e ≡ lists is.draft) → AreOwned lists owners ds → length owners ≤ MostEnds → Each (λ (e : Entity B S P). AreEnds (own e)) (first_entities timer ds)
ends_fit B S P timer lists own owners ds same has few =
    each_from_places (λ (e : Entity B S P). AreEnds (own e)) (first_entities timer ds) (λ i e at.
    let first = first_at B S P timer ds i e at in
    let is : own e ≡ lists first.draft = same i e first in
    record {
      rising = subst IsStrictlyIncreasing (sym is) (each_at (λ (d : DraftEntity S). IsStrictlyIncreasing (lists d)) ds i first.draft has.rising first.there);
      below = each_from_among (λ c. c < MostEnds) (own e) (λ c among.
          let owner : slice_get owners c ≡ Some i = has.sole c i first.draft first.there (subst (λ (cs : List ℕ). Among c cs) is among) in
          let within = place_within owners c i owner in omega arith);
    })

first_has : (B S P : Type 0) (timer : ℕ) (ds : List (DraftEntity S)) (i : ℕ) (lists : DraftEntity S → List ℕ) (own : Entity B S P → List ℕ) (c : ℕ) →
    ((t : ℕ) (d : DraftEntity S) → own (first_entity t d) ≡ lists d) → HasAt ds i (λ d. Among c (lists d)) → HasAt (first_entities timer ds) i (λ e. Among c (own e))
first_has B S P timer [] i lists own c same has = absurd (let h = has.1 in cc)
first_has B S P timer (d ∷ ds) zero lists own c same has =
    let h = has.1 in
    let is : d ≡ has.0 = cc in
    (first_entity timer d, refl, subst (λ (cs : List ℕ). Among c cs) (sym (same timer d)) (subst (λ (x : DraftEntity S). Among c (lists x)) (sym is) has.2))
first_has B S P timer (d ∷ ds) (suc i) lists own c same has = first_has B S P (timer + timers d.timed) ds i lists own c same has

mapping_fits : (B S P : Type 0) (timer channel : ℕ) (d : Draft B S) (m : Mapping) → HasOwners d → IsDrawn d.in_owners (owners_of d.outs) m
    → IsMappingOf (first_entities {B = B} {P = P} timer d.entities) (with_channel channel m)
mapping_fits B S P timer channel d m has is = record {
  from = first_has B S P timer d.entities m.from (λ e. e.out_channels) (λ e. e.out_channels) m.out_channel (λ t e. refl) (has.outs.listed m.out_channel m.from is.from);
  to = first_has B S P timer d.entities m.to (λ e. e.in_channels) (λ e. e.in_channels) m.in_channel (λ t e. refl) (has.ins.listed m.in_channel m.to is.to);
  delay = is.delay;
  priority = is.priority;
}

mappings_fit : (B S P : Type 0) (timer first : ℕ) (d : Draft B S) (ms : List Mapping) → HasOwners d → Each (IsDrawn d.in_owners (owners_of d.outs)) ms
    → Each (IsMappingOf (first_entities {B = B} {P = P} timer d.entities)) (with_channels first ms)
mappings_fit B S P timer first d [] has each = tt
mappings_fit B S P timer first d (m ∷ ms) has each = (mapping_fits B S P timer first d m has each.0, mappings_fit B S P timer (first + 1) d ms has each.1)

-- ---- the opening

start_before : (P : Type 0) (i j : ℕ) → i < j → IsBefore (start {P = P} i).key (start {P = P} j).key
unfolding comes_before
start_before P i j less = let e : Less ≡ nat_cmp i j = nat_cmp_is i j Less less in rw (← e) refl

-- the events of a range of starts
pub among_starts : (P : Type 0) (from n : ℕ) (d : Event P) → Among d (map start (range_with_len from n)) → (i : ℕ) × (from ≤ i) × (i < from + n) × (d ≡ start i)
among_starts P from zero d among = absurd among
among_starts P from (suc n) d (inl here) = (from, omega arith, omega arith, here)
among_starts P from (suc n) d (inr later) =
    let found = among_starts P (from + 1) n d later in (found.0, omega arith, omega arith, found.3)

pub starts_rise : (P : Type 0) (from n : ℕ) → IsRising (λ (e : Event P). e.key) (map (start {P = P}) (range_with_len from n))
starts_rise P from zero = tt
starts_rise P from (suc n) = (
  (λ y among. let found = among_starts P (from + 1) n y among in
      let less : from < found.0 = omega arith in
      let Q : Event P → Type 0 = λ z. IsBefore (start {P = P} from).key z.key in subst Q (sym found.3) (start_before P from found.0 less)),
  starts_rise P (from + 1) n,
)

each_replicate : (n c : ℕ) (ks : List ℕ) → c ≤ MostCount → Each (λ k. k ≤ MostCount) ks → Each (λ k. k ≤ MostCount) (replicate n c ++ ks)
each_replicate zero c ks h rest = rest
each_replicate (suc n) c ks h rest = (h, each_replicate n c ks h rest)

none_more : (n : ℕ) → Each (λ k. k ≤ MostCount) (replicate n 0)
none_more zero = tt
none_more (suc n) = (omega arith, none_more n)

count_start : (starts c : ℕ) (ks : List ℕ) → c < starts → get_or (replicate starts 1 ++ ks) c 0 ≡ 1
count_start zero c ks within = absurd (omega arith)
count_start (suc n) zero ks within = refl
count_start (suc n) (suc c) ks within = count_start n c ks (omega arith)

starts_pending : {B S P : Type 0} (carried : P → Type 0) (plan : Plan B S P) (from n : ℕ) → from + n ≤ length plan.entities → ((c : ℕ) → c < length plan.entities → counts_of plan.counts c ≡ 1)
    → Each (IsPending carried plan) (map start (range_with_len from n))
starts_pending carried plan from zero within one = tt
starts_pending carried plan from (suc n) within one =
    let here : from < length plan.entities = omega arith in
    let told : counts_of plan.counts from ≡ 1 = one from here in
    (record { entity = here; on_channel = (refl, refl); round = refl; number = omega arith; time = omega arith }, starts_pending carried plan (from + 1) n (omega arith) one)

-- a draft of entities in valid states, as a builder has it, makes a plan that fits
pub planned_fits : (B S P : Type 0) (valid : Validity S) (carried : P → Type 0) (timed : ℕ) (d : Draft B S) → IsDraft timed d → Each (IsValidDraft valid) d.entities → Fits valid carried (planned {P = P} d)
unfolding planned IsOwned
planned_fits B S P valid carried timed d is states =
    let has : HasOwners d = is.owned in
    let starts : ℕ = length d.entities in
    let others : ℕ = all_timers d.entities + length d.mappings in
    let es : List (Entity B S P) = first_entities starts d.entities in
    let ones : List ℕ = replicate starts 1 in
    let zeros : List ℕ = replicate others 0 in
    let size : length es ≡ starts = length_entities B S P starts d.entities in
    let told : timers_of es ≡ range_with_len starts (all_timers d.entities) = entity_timers B S P starts d.entities in
    let number : length (timers_of es) ≡ all_timers d.entities = ap length told ∙ length-range_with_len starts (all_timers d.entities) in
    let long : length (with_channels (starts + all_timers d.entities) d.mappings) ≡ length d.mappings = length_channels (starts + all_timers d.entities) d.mappings in
    let total : length (ones ++ zeros) ≡ starts + others = omega (arith, length-append ones zeros, length-replicate {A = ℕ} starts 1, length-replicate {A = ℕ} others 0) in
    let within = is.range.channels in
    record {
      wired = record {
        ins = λ i j c x y at there in_x in_y.
            let one = first_at B S P starts d.entities i x at in
            let two = first_at B S P starts d.entities j y there in
            let a : slice_get d.in_owners c ≡ Some i = has.ins.sole c i one.draft one.there (subst (λ (cs : List ℕ). Among c cs) one.ins in_x) in
            let b : slice_get d.in_owners c ≡ Some j = has.ins.sole c j two.draft two.there (subst (λ (cs : List ℕ). Among c cs) two.ins in_y) in
            cc;
        outs = λ i j c x y at there in_x in_y.
            let one = first_at B S P starts d.entities i x at in
            let two = first_at B S P starts d.entities j y there in
            let a : slice_get (owners_of d.outs) c ≡ Some i = has.outs.sole c i one.draft one.there (subst (λ (cs : List ℕ). Among c cs) one.outs in_x) in
            let b : slice_get (owners_of d.outs) c ≡ Some j = has.outs.sole c j two.draft two.there (subst (λ (cs : List ℕ). Among c cs) two.outs in_y) in
            cc;
        in_ends = ends_fit B S P starts (λ d. d.in_channels) (λ e. e.in_channels) d.in_owners d.entities (λ i e is. is.ins) has.ins is.range.ins;
        out_ends = ends_fit B S P starts (λ d. d.out_channels) (λ e. e.out_channels) (owners_of d.outs) d.entities (λ i e is. is.outs) has.outs (rw (length-map d.outs (λ (o : OutChannel). o.entity)) is.range.outs);
        timers = told ∙ (ap (λ k. range_with_len k (all_timers d.entities)) (sym size) ∙ ap (λ n. range_with_len (length es) n) (sym number));
        channels = channels_are (starts + all_timers d.entities) d.mappings
            ∙ (ap (λ k. range_with_len k (length d.mappings)) (ap (λ k. k + all_timers d.entities) (sym size) ∙ ap (λ n. length es + n) (sym number))
            ∙ ap (λ n. range_with_len (length es + length (timers_of es)) n) (sym long));
        mappings = mappings_fit B S P starts (starts + all_timers d.entities) d d.mappings has has.mappings;
        most = omega arith;
      };
      opened = record {
        entities = valid_entities B S P valid starts d.entities states has.few;
        processes = all_processes_fit B S P starts d.entities;
        size = omega arith;
        counts = each_replicate starts 1 zeros (omega arith) (none_more others);
        before = omega arith;
        rising = starts_rise P 0 starts;
        pending = starts_pending carried _ 0 starts (omega arith) (λ c inside. count_start starts c zeros (subst (λ n. c < n) size inside));
      };
    }

-- the parts of the plan, one by one
pub parts_fit : {B S P : Type 0} (valid : Validity S) (carried : P → Type 0) (starts timed others : ℕ) (d : Draft B S) (es : List (Entity B S P)) (events : List (Event P)) (ms : List Mapping) (counts : List ℕ) →
    IsDraft timed d → Each (IsValidDraft valid) d.entities → starts ≡ length d.entities → others ≡ timed + length d.mappings → es ≡ first_entities starts d.entities → events ≡ map start (range_with_len 0 starts)
    → ms ≡ with_channels (starts + timed) d.mappings → counts ≡ replicate starts 1 ++ replicate others 0
    → Fits valid carried (record { behaviour = d.behaviour; entities = es; events = events; mappings = ms; counts = counts; before = 0 })
unfolding planned
parts_fit {B} {S} {P} valid carried starts timed others d es events ms counts is states starts_is others_is es_are events_are ms_are counts_are =
    let timed_is = is.range.timed_is in
    let made : planned {P = P} d ≡ record { behaviour = d.behaviour; entities = es; events = events; mappings = ms; counts = counts; before = 0 } = cc in
    subst (λ (p : Plan B S P). Fits valid carried p) made (planned_fits B S P valid carried timed d is states)

-- ---- what follows of how a plan is wired

-- the out-channel of a mapping belongs to no entity but the one from which it leads
pub mapping_sole : {B S P : Type 0} (plan : Plan B S P) → IsWired plan → (m : Mapping) → IsMappingOf plan.entities m → (i : ℕ) (e : Entity B S P) → slice_get plan.entities i ≡ Some e
    → Among m.out_channel e.out_channels → i ≡ m.from
mapping_sole plan wired m is i e here among = wired.outs i m.from m.out_channel e is.from.0 here is.from.1 among is.from.2
