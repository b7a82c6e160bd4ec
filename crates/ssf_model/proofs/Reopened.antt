-- What the processes and entities of a plan with another opening are, and that such a plan is wired as before.
use Rattle.std.proofs.Common.{ℕ, zero, suc, ◌≡◌, ◌+◌, ◌<◌, ◌≤◌, ◌^◌, ◌↔◌, ◌∙◌, sym, ap, subst, refl, Bool, IsTrue, List, [], ◌∷◌, ◌++◌, map, length, take, drop, get_or, set, Some, slice_get, arith, append_assoc, append-nil, drop-set-lt, option_to_list}
use Rattle.std.specs.List.{AllZip, flat_map}
use Rattle.std.specs.List.Sorted.{IsStrictlyIncreasing}
use Rattle.std.proofs.lemmas.Option.{slice_get_read, slice_get-get_or}
use Rattle.std.proofs.lemmas.Slice.Zip.{AllZip-long}
use Rattle.std.proofs.lemmas.List.{take_more_set}
use Rattle.std.proofs.Math.Seq.{drop-length, take-length}
use Rattle.event_order.specs.Pending.{Among, IsRising}
use Rattle.ssf_model.specs.declared.wait.Wait.{Wait}
use Rattle.ssf_model.specs.declared.process.Process.{Process}
use Rattle.ssf_model.specs.declared.entity.Entity.{Entity}
use Rattle.ssf_model.specs.declared.event.Event.{Event}
use Rattle.ssf_model.specs.declared.opening.Opened.{Opened}
use Rattle.ssf_model.specs.declared.opening.Opening.{Opening}
use Rattle.ssf_model.specs.declared.plan.Mapping.{Mapping}
use Rattle.ssf_model.specs.declared.plan.Plan.{Plan}
use Rattle.ssf_model.specs.Wake.{HasTimer}
use Rattle.ssf_model.specs.Reaction.{Validity, Each, is_timed, wait_of}
use Rattle.ssf_model.specs.Entities.{IsValidEntity}
use Rattle.ssf_model.specs.Run.{Fits, HasAt, AreEnds, IsMappingOf, IsProcessOf, IsEndFor, IsPending, IsWired, timers_of, MostBefore, MostCount, MostTicket}
use Rattle.ssf_model.specs.Openings.{IsAsLong, IsOpeningOf, MayWait, MayOpen, reopened, reopened_entity, reopened_entities, reopened_processes}
use Rattle.ssf_model.proofs.Checks.{ahead}
use Rattle.ssf_model.proofs.Owning.{place_within}
use Rattle.ssf_model.proofs.Finding.{at_place}

-- ---- the processes of an entity

pub length_processes : (ps : List Process) (ws : List Wait) (ts : List ℕ) → length ws ≡ length ps → length ts ≡ length ps → length (reopened_processes ps ws ts) ≡ length ps
length_processes [] ws ts e f = refl
length_processes (p ∷ ps) [] ts e f = absurd (omega arith)
length_processes (p ∷ ps) (w ∷ ws) [] e f = absurd (omega arith)
length_processes (p ∷ ps) (w ∷ ws) (t ∷ ts) e f = ap (λ n. suc n) (length_processes ps ws ts (omega arith) (omega arith))

pub timed_again : (ps : List Process) (ws : List Wait) (ts : List ℕ) → length ws ≡ length ps → length ts ≡ length ps → map is_timed (reopened_processes ps ws ts) ≡ map is_timed ps
timed_again [] ws ts e f = refl
timed_again (p ∷ ps) [] ts e f = absurd (omega arith)
timed_again (p ∷ ps) (w ∷ ws) [] e f = absurd (omega arith)
timed_again (p ∷ ps) (w ∷ ws) (t ∷ ts) e f = ap (λ bs. is_timed p ∷ bs) (timed_again ps ws ts (omega arith) (omega arith))

pub waits_again : (ps : List Process) (ws : List Wait) (ts : List ℕ) → length ws ≡ length ps → length ts ≡ length ps → map wait_of (reopened_processes ps ws ts) ≡ ws
waits_again [] [] ts e f = refl
waits_again [] (w ∷ ws) ts e f = absurd (omega arith)
waits_again (p ∷ ps) [] ts e f = absurd (omega arith)
waits_again (p ∷ ps) (w ∷ ws) [] e f = absurd (omega arith)
waits_again (p ∷ ps) (w ∷ ws) (t ∷ ts) e f = ap (λ vs. w ∷ vs) (waits_again ps ws ts (omega arith) (omega arith))

process_timers_again : (ps : List Process) (ws : List Wait) (ts : List ℕ) → length ws ≡ length ps → length ts ≡ length ps →
    flat_map (λ (p : Process). option_to_list p.timer) (reopened_processes ps ws ts) ≡ flat_map (λ (p : Process). option_to_list p.timer) ps
process_timers_again [] ws ts e f = refl
process_timers_again (p ∷ ps) [] ts e f = absurd (omega arith)
process_timers_again (p ∷ ps) (w ∷ ws) [] e f = absurd (omega arith)
process_timers_again (p ∷ ps) (w ∷ ws) (t ∷ ts) e f = ap (λ ks. option_to_list p.timer ++ ks) (process_timers_again ps ws ts (omega arith) (omega arith))

-- each process is one of its entity where it may wait so and its ticket is in range
pub processes_again : (ins : List ℕ) (ps : List Process) (ws : List Wait) (ts : List ℕ) → length ts ≡ length ps → AllZip (MayWait ins) ps ws → Each (λ n. n ≤ MostTicket) ts
    → Each (IsProcessOf ins) (reopened_processes ps ws ts)
processes_again ins [] ws ts e may few = tt
processes_again ins (p ∷ ps) [] ts e may few = tt
processes_again ins (p ∷ ps) (w ∷ ws) [] e may few = tt
processes_again ins (p ∷ ps) (w ∷ ws) (t ∷ ts) e may few =
    (record { waits = may.0.named; untimed = may.0.untimed; ticket = few.0 }, processes_again ins ps ws ts (omega arith) may.1 few.1)

pub waits_were : (ins : List ℕ) (ps : List Process) (ws : List Wait) (ts : List ℕ) → length ws ≡ length ps → length ts ≡ length ps → Each (IsProcessOf ins) (reopened_processes ps ws ts)
    → AllZip (MayWait ins) ps ws
waits_were ins [] [] ts e f each = tt
waits_were ins [] (w ∷ ws) ts e f each = absurd (omega arith)
waits_were ins (p ∷ ps) [] ts e f each = absurd (omega arith)
waits_were ins (p ∷ ps) (w ∷ ws) [] e f each = absurd (omega arith)
waits_were ins (p ∷ ps) (w ∷ ws) (t ∷ ts) e f each =
    (record { named = each.0.waits; untimed = each.0.untimed }, waits_were ins ps ws ts (omega arith) (omega arith) each.1)

pub tickets_were : (ins : List ℕ) (ps : List Process) (ws : List Wait) (ts : List ℕ) → length ws ≡ length ps → length ts ≡ length ps → Each (IsProcessOf ins) (reopened_processes ps ws ts)
    → Each (λ n. n ≤ MostTicket) ts
tickets_were ins ps ws [] e f each = tt
tickets_were ins [] ws (t ∷ ts) e f each = absurd (omega arith)
tickets_were ins (p ∷ ps) [] (t ∷ ts) e f each = absurd (omega arith)
tickets_were ins (p ∷ ps) (w ∷ ws) (t ∷ ts) e f each = (each.0.ticket, tickets_were ins ps ws ts (omega arith) (omega arith) each.1)

-- the process at a place
pub process_again : (ps : List Process) (ws : List Wait) (ts : List ℕ) (i : ℕ) (p : Process) (w : Wait) (t : ℕ) → slice_get ps i ≡ Some p → slice_get ws i ≡ Some w → slice_get ts i ≡ Some t
    → slice_get (reopened_processes ps ws ts) i ≡ Some (record { wait = w; ticket = t; timer = p.timer })
process_again [] ws ts i p w t a b c = absurd (cc)
process_again (q ∷ ps) [] ts i p w t a b c = absurd (cc)
process_again (q ∷ ps) (v ∷ ws) [] i p w t a b c = absurd (cc)
process_again (q ∷ ps) (v ∷ ws) (u ∷ ts) zero p w t a b c = let e : q ≡ p = cc in let f : v ≡ w = cc in let g : u ≡ t = cc in cc
process_again (q ∷ ps) (v ∷ ws) (u ∷ ts) (suc i) p w t a b c = process_again ps ws ts i p w t a b c

-- ---- the entities of a plan

pub length_again : {B S P : Type 0} (es : List (Entity B S P)) (os : List (Opened B S P)) → AllZip IsAsLong es os → length (reopened_entities es os) ≡ length es
length_again [] os zip = refl
length_again (e ∷ es) [] zip = absurd zip
length_again (e ∷ es) (o ∷ os) zip = ap (λ n. suc n) (length_again es os zip.1)

pub entity_again : {B S P : Type 0} (es : List (Entity B S P)) (os : List (Opened B S P)) (i : ℕ) (e : Entity B S P) (o : Opened B S P) → slice_get es i ≡ Some e → slice_get os i ≡ Some o
    → slice_get (reopened_entities es os) i ≡ Some (reopened_entity e o)
entity_again [] os i e o a b = absurd (cc)
entity_again (d ∷ es) [] i e o a b = absurd (cc)
entity_again {B} {S} {P} (d ∷ es) (q ∷ os) zero e o a b =
    let f : d ≡ e = cc in
    let g : q ≡ o = cc in
    ap (λ (x : Entity B S P). Some (reopened_entity x q)) f ∙ ap (λ (y : Opened B S P). Some (reopened_entity e y)) g
entity_again (d ∷ es) (q ∷ os) (suc i) e o a b = entity_again es os i e o a b

pub long_at : {B S P : Type 0} (es : List (Entity B S P)) (os : List (Opened B S P)) (i : ℕ) (e : Entity B S P) (o : Opened B S P) → AllZip IsAsLong es os → slice_get es i ≡ Some e → slice_get os i ≡ Some o
    → IsAsLong e o
long_at [] os i e o zip a b = absurd (cc)
long_at (d ∷ es) [] i e o zip a b = absurd (cc)
long_at {B} {S} {P} (d ∷ es) (q ∷ os) zero e o zip a b =
    let f : d ≡ e = cc in
    let g : q ≡ o = cc in
    subst (λ (x : Entity B S P). IsAsLong x o) f (subst (λ (y : Opened B S P). IsAsLong d y) g zip.0)
long_at (d ∷ es) (q ∷ os) (suc i) e o zip a b = long_at es os i e o zip.1 a b

-- the entity of a reopened plan at a place is made of the plan's there
pub record IsAgain {B S P : Type 0} (es : List (Entity B S P)) (i : ℕ) (x : Entity B S P) : Type 0 where
  pub was : Entity B S P
  pub there : slice_get es i ≡ Some was
  pub ins : x.in_channels ≡ was.in_channels
  pub outs : x.out_channels ≡ was.out_channels

pub again_at : {B S P : Type 0} (es : List (Entity B S P)) (os : List (Opened B S P)) (i : ℕ) (x : Entity B S P) → slice_get (reopened_entities es os) i ≡ Some x → IsAgain es i x
again_at [] os i x h = absurd (cc)
again_at (e ∷ es) [] i x h = absurd (cc)
again_at (e ∷ es) (o ∷ os) zero x h = let is : Some (reopened_entity e o) ≡ Some x = h in record { was = e; there = refl; ins = cc; outs = cc }
again_at (e ∷ es) (o ∷ os) (suc i) x h = let rest = again_at es os i x h in record { was = rest.was; there = rest.there; ins = rest.ins; outs = rest.outs }

has_again : {B S P : Type 0} (own : Entity B S P → List ℕ) (c : ℕ) → ((e : Entity B S P) (o : Opened B S P) → own (reopened_entity e o) ≡ own e) →
    (es : List (Entity B S P)) (os : List (Opened B S P)) (i : ℕ) → AllZip IsAsLong es os → HasAt es i (λ e. Among c (own e)) → HasAt (reopened_entities es os) i (λ e. Among c (own e))
has_again own c same [] os i zip has = absurd (let h = has.1 in cc)
has_again own c same (e ∷ es) [] i zip has = absurd zip
has_again {B} {S} {P} own c same (e ∷ es) (o ∷ os) zero zip has =
    let h = has.1 in
    let is : e ≡ has.0 = cc in
    (reopened_entity e o, refl, subst (λ (cs : List ℕ). Among c cs) (sym (same e o)) (subst (λ (x : Entity B S P). Among c (own x)) (sym is) has.2))
has_again own c same (e ∷ es) (o ∷ os) (suc i) zip has = has_again own c same es os i zip.1 has

timers_again : {B S P : Type 0} (es : List (Entity B S P)) (os : List (Opened B S P)) → AllZip IsAsLong es os → timers_of (reopened_entities es os) ≡ timers_of es
timers_again [] os zip = refl
timers_again (e ∷ es) [] zip = absurd zip
timers_again {B} {S} {P} (e ∷ es) (o ∷ os) zip =
    let rest : List ℕ = timers_of (reopened_entities es os) in
    let own : List ℕ = flat_map (λ (p : Process). option_to_list p.timer) e.processes in
    ap (λ (ks : List ℕ). ks ++ rest) (process_timers_again e.processes o.waits o.tickets zip.0.waits zip.0.tickets) ∙ ap (λ (ks : List ℕ). own ++ ks) (timers_again es os zip.1)

ends_again : {B S P : Type 0} (own : Entity B S P → List ℕ) → ((e : Entity B S P) (o : Opened B S P) → own (reopened_entity e o) ≡ own e) →
    (es : List (Entity B S P)) (os : List (Opened B S P)) → Each (λ (e : Entity B S P). AreEnds (own e)) es → Each (λ (e : Entity B S P). AreEnds (own e)) (reopened_entities es os)
ends_again own same [] os each = tt
ends_again own same (e ∷ es) [] each = tt
ends_again own same (e ∷ es) (o ∷ os) each = (subst AreEnds (sym (same e o)) each.0, ends_again own same es os each.1)

mappings_again : {B S P : Type 0} (es : List (Entity B S P)) (os : List (Opened B S P)) (ms : List Mapping) → AllZip IsAsLong es os → Each (IsMappingOf es) ms → Each (IsMappingOf (reopened_entities es os)) ms
mappings_again es os [] zip each = tt
mappings_again es os (m ∷ ms) zip each = (
  record {
    from = has_again (λ e. e.out_channels) m.out_channel (λ e o. refl) es os m.from zip each.0.from;
    to = has_again (λ e. e.in_channels) m.in_channel (λ e o. refl) es os m.to zip each.0.to;
    delay = each.0.delay;
    priority = each.0.priority;
  },
  mappings_again es os ms zip each.1,
)

pub wired_again : {B S P : Type 0} (plan : Plan B S P) (o : Opening B S P) → AllZip IsAsLong plan.entities o.entities → IsWired plan → IsWired (reopened plan o)
wired_again {B} {S} {P} plan o zip wired =
    let size = length_again plan.entities o.entities zip in
    let timers = timers_again plan.entities o.entities zip in
    let number : length (timers_of (reopened_entities plan.entities o.entities)) ≡ length (timers_of plan.entities) = ap length timers in
    let most = wired.most in
    record {
      ins = λ i j c x y at there in_x in_y.
          let one = again_at plan.entities o.entities i x at in
          let two = again_at plan.entities o.entities j y there in
          wired.ins i j c one.was two.was one.there two.there (subst (λ (cs : List ℕ). Among c cs) one.ins in_x) (subst (λ (cs : List ℕ). Among c cs) two.ins in_y);
      outs = λ i j c x y at there in_x in_y.
          let one = again_at plan.entities o.entities i x at in
          let two = again_at plan.entities o.entities j y there in
          wired.outs i j c one.was two.was one.there two.there (subst (λ (cs : List ℕ). Among c cs) one.outs in_x) (subst (λ (cs : List ℕ). Among c cs) two.outs in_y);
      in_ends = ends_again (λ e. e.in_channels) (λ e o. refl) plan.entities o.entities wired.in_ends;
      out_ends = ends_again (λ e. e.out_channels) (λ e o. refl) plan.entities o.entities wired.out_ends;
      timers = rw (timers, size) wired.timers;
      channels = rw (timers, size) wired.channels;
      mappings = mappings_again plan.entities o.entities plan.mappings zip wired.mappings;
      most = omega arith;
    }

-- ---- entities that may open so

pub all_may_open : {B S P : Type 0} (valid : Validity S) (es : List (Entity B S P)) (os : List (Opened B S P)) → AllZip IsAsLong es os → Each (IsValidEntity valid) (reopened_entities es os)
    → Each (λ (e : Entity B S P). Each (IsProcessOf e.in_channels) e.processes) (reopened_entities es os) → AllZip (MayOpen valid) es os
all_may_open valid [] [] zip entities processes = tt
all_may_open valid [] (o ∷ os) zip entities processes = absurd zip
all_may_open valid (e ∷ es) [] zip entities processes = absurd zip
all_may_open valid (e ∷ es) (o ∷ os) zip entities processes = (record { long = zip.0; entity = entities.0; processes = processes.0 }, all_may_open valid es os zip.1 entities.1 processes.1)

pub all_long : {B S P : Type 0} (valid : Validity S) (es : List (Entity B S P)) (os : List (Opened B S P)) → AllZip (MayOpen valid) es os → AllZip IsAsLong es os
all_long valid [] [] zip = tt
all_long valid [] (o ∷ os) zip = absurd zip
all_long valid (e ∷ es) [] zip = absurd zip
all_long valid (e ∷ es) (o ∷ os) zip = (zip.0.long, all_long valid es os zip.1)

pub all_valid : {B S P : Type 0} (valid : Validity S) (es : List (Entity B S P)) (os : List (Opened B S P)) → AllZip (MayOpen valid) es os → Each (IsValidEntity valid) (reopened_entities es os)
all_valid valid [] os zip = tt
all_valid valid (e ∷ es) [] zip = tt
all_valid valid (e ∷ es) (o ∷ os) zip = (zip.0.entity, all_valid valid es os zip.1)

pub all_waiting : {B S P : Type 0} (valid : Validity S) (es : List (Entity B S P)) (os : List (Opened B S P)) → AllZip (MayOpen valid) es os
    → Each (λ (e : Entity B S P). Each (IsProcessOf e.in_channels) e.processes) (reopened_entities es os)
all_waiting valid [] os zip = tt
all_waiting valid (e ∷ es) [] zip = tt
all_waiting valid (e ∷ es) (o ∷ os) zip = (zip.0.processes, all_waiting valid es os zip.1)

pub may_open_so : {B S P : Type 0} (valid : Validity S) (e : Entity B S P) (o : Opened B S P) → length e.processes ≤ 2 ^ 32 → IsAsLong e o →
    valid o.state e.in_channels e.out_channels (map is_timed e.processes) o.waits → AllZip (MayWait e.in_channels) e.processes o.waits → Each (λ n. n ≤ MostTicket) o.tickets → MayOpen valid e o
may_open_so valid e o few long is may tickets =
    let timed = timed_again e.processes o.waits o.tickets long.waits long.tickets in
    let waits = waits_again e.processes o.waits o.tickets long.waits long.tickets in
    let size = length_processes e.processes o.waits o.tickets long.waits long.tickets in
    record {
      long = long;
      entity = record { state = rw (timed, waits) is; few = rw size few };
      processes = processes_again e.in_channels e.processes o.waits o.tickets long.tickets may tickets;
    }

pub valid_so : {B S P : Type 0} (valid : Validity S) (e : Entity B S P) (o : Opened B S P) → MayOpen valid e o → valid o.state e.in_channels e.out_channels (map is_timed e.processes) o.waits
valid_so valid e o may =
    let long = may.long in
    let timed = timed_again e.processes o.waits o.tickets long.waits long.tickets in
    let waits = waits_again e.processes o.waits o.tickets long.waits long.tickets in
    rw (timed, waits) at may.entity.state

-- ---- loops that give the processes their waits and tickets, and the entities theirs

pub processes_next : (whole : List Process) (ps ps' : List Process) (w : Wait) (ws : List Wait) (ts : List ℕ) (i : ℕ) (p : Process) (t : ℕ) → i < length ps → i < length ts
    → p ≡ get_or ps i p → t ≡ get_or ts i t → ps' ≡ set ps i (record { wait = w; ticket = t; timer = p.timer })
    → take i ps ++ reopened_processes (drop i ps) (w ∷ ws) (drop i ts) ≡ whole → take (i + 1) ps' ++ reopened_processes (drop (i + 1) ps') ws (drop (i + 1) ts) ≡ whole
processes_next whole ps ps' w ws ts i p t h k e f is half =
    let new : Process = record { wait = w; ticket = t; timer = p.timer } in
    let d = ahead ps i p h e in
    let g = ahead ts i t k f in
    let later : drop (i + 1) ps' ≡ drop (i + 1) ps = rw is (drop-set-lt (i + 1) ps i new (omega arith)) in
    let front : take (i + 1) ps' ≡ take i ps ++ new ∷ [] = rw is (take_more_set ps i new h) in
    let old : take i ps ++ new ∷ reopened_processes (drop (i + 1) ps) ws (drop (i + 1) ts) ≡ whole = rw (d, g) at half in
    rw (front, later, append_assoc) old

pub processes_end : (whole : List Process) (ps : List Process) (ws : List Wait) (ts : List ℕ) (i : ℕ) → i ≡ length ps → take i ps ++ reopened_processes (drop i ps) ws ts ≡ whole → ps ≡ whole
processes_end whole ps ws ts i e half =
    let d : drop i ps ≡ [] = rw e (drop-length ps) in
    let t : take i ps ≡ ps = rw e (take-length ps) in
    sym (append-nil ps) ∙ (rw (t, d) at half)

-- what is left of two lists of one length
pub long_next : {B S P : Type 0} (es : List (Entity B S P)) (i : ℕ) (e : Entity B S P) (o : Opened B S P) (os all : List (Opened B S P)) → i < length es → e ≡ get_or es i e → all ≡ o ∷ os
    → AllZip IsAsLong (drop i es) all → (IsAsLong e o) × AllZip IsAsLong (drop (i + 1) es) os
long_next {B} {S} {P} es i e o os all h f is zip =
    let both : AllZip IsAsLong (e ∷ drop (i + 1) es) (o ∷ os) =
    subst (λ (ds : List (Entity B S P)). AllZip IsAsLong ds (o ∷ os)) (ahead es i e h f) (subst (λ (qs : List (Opened B S P)). AllZip IsAsLong (drop i es) qs) is zip) in
    (both.0, both.1)

pub entities_next : {B S P : Type 0} (whole : List (Entity B S P)) (es es' : List (Entity B S P)) (o : Opened B S P) (os : List (Opened B S P)) (i : ℕ) (e : Entity B S P) → i < length es → e ≡ get_or es i e
    → es' ≡ set es i (reopened_entity e o) → take i es ++ reopened_entities (drop i es) (o ∷ os) ≡ whole → take (i + 1) es' ++ reopened_entities (drop (i + 1) es') os ≡ whole
entities_next whole es es' o os i e h f is half =
    let d = ahead es i e h f in
    let later : drop (i + 1) es' ≡ drop (i + 1) es = rw is (drop-set-lt (i + 1) es i (reopened_entity e o) (omega arith)) in
    let front : take (i + 1) es' ≡ take i es ++ reopened_entity e o ∷ [] = rw is (take_more_set es i (reopened_entity e o) h) in
    let old : take i es ++ reopened_entity e o ∷ reopened_entities (drop (i + 1) es) os ≡ whole = rw d at half in
    rw (front, later, append_assoc) old

pub entities_end : {B S P : Type 0} (whole : List (Entity B S P)) (es : List (Entity B S P)) (os : List (Opened B S P)) (i : ℕ) → i ≡ length es → take i es ++ reopened_entities (drop i es) os ≡ whole → es ≡ whole
entities_end whole es os i e half =
    let d : drop i es ≡ [] = rw e (drop-length es) in
    let t : take i es ≡ es = rw e (take-length es) in
    sym (append-nil es) ∙ (rw (t, d) at half)

-- ---- the opening as a whole

pub is_opening : {B S P : Type 0} (valid : Validity S) (carried : P → Type 0) (plan : Plan B S P) (o : Opening B S P) → Fits valid carried plan → length o.counts ≡ length plan.counts
    → Each (λ n. n ≤ MostCount) o.counts → o.events ≤ MostBefore → AllZip (MayOpen valid) plan.entities o.entities → IsRising (λ (e : Event P). e.key) o.pending
    → Each (IsPending carried (reopened plan o)) o.pending → IsOpeningOf valid carried plan o
is_opening valid carried plan o fits size counts events may rising pending =
    let long = all_long valid plan.entities o.entities may in
    let number = length_again plan.entities o.entities long in
    let timers = ap length (timers_again plan.entities o.entities long) in
    let all = fits.opened.size in
    record {
      shape = record { entities = long; counts = size };
      opened = record {
        entities = all_valid valid plan.entities o.entities may;
        processes = all_waiting valid plan.entities o.entities may;
        size = omega arith;
        counts = counts;
        before = events;
        rising = rising;
        pending = pending;
      };
    }

pub entities_may : {B S P : Type 0} (valid : Validity S) (carried : P → Type 0) (plan : Plan B S P) (o : Opening B S P) → IsOpeningOf valid carried plan o → AllZip (MayOpen valid) plan.entities o.entities
entities_may valid carried plan o is = all_may_open valid plan.entities o.entities is.shape.entities is.opened.entities is.opened.processes

pub fits_again : {B S P : Type 0} (valid : Validity S) (carried : P → Type 0) (plan : Plan B S P) (o : Opening B S P) → Fits valid carried plan → IsOpeningOf valid carried plan o → Fits valid carried (reopened plan o)
fits_again valid carried plan o fits is = record { wired = wired_again plan o is.shape.entities fits.wired; opened = is.opened }

pub few_processes : {B S P : Type 0} (valid : Validity S) (es : List (Entity B S P)) → Each (IsValidEntity valid) es → Each (λ (e : Entity B S P). length e.processes ≤ 2 ^ 32) es
few_processes valid [] each = tt
few_processes valid (e ∷ es) each = (each.0.few, few_processes valid es each.1)

pub ins_rise : {B S P : Type 0} (es : List (Entity B S P)) → Each (λ (e : Entity B S P). AreEnds e.in_channels) es → Each (λ (e : Entity B S P). IsStrictlyIncreasing e.in_channels) es
ins_rise [] each = tt
ins_rise (e ∷ es) each = (each.0.rising, ins_rise es each.1)

-- ---- the ends of waits that may be pending

module _ (ps : List Process) (ws : List Wait) (ts : List ℕ) (i : ℕ) (p : Process) (w : Wait) (channel ticket : ℕ)
    (e : length ws ≡ length ps) (f : length ts ≡ length ps) (h : i < length ps) (p_is : p ≡ get_or ps i p) (w_is : w ≡ get_or ws i w) where
  process_is : slice_get (reopened_processes ps ws ts) i ≡ Some (record { wait = w; ticket = get_or ts i 0; timer = p.timer })
  process_is = process_again ps ws ts i p w (get_or ts i 0) (slice_get_read ps (length ps) i p refl h p_is) (slice_get_read ws (length ws) i w refl (omega arith) w_is) (slice_get-get_or ts i 0 (omega arith))

  pub end_iff : (b : Bool) → p.timer ≡ Some channel → (IsTrue b ↔ ((ticket ≤ get_or ts i 0) × (ticket ≡ get_or ts i 0 → HasTimer w))) → IsTrue b ↔ HasAt (reopened_processes ps ws ts) i (IsEndFor channel ticket)
  end_iff b on given = (
    (λ t. let g = given.0 t in (_, process_is, record { on = on; given = g.0; ends = g.1 })),
    (λ has. let end = at_place (reopened_processes ps ws ts) i _ (IsEndFor channel ticket) process_is has in given.1 (end.given, end.ends)),
  )

  pub no_end : (p.timer ≡ Some channel → ⊥) → HasAt (reopened_processes ps ws ts) i (IsEndFor channel ticket) → ⊥
  no_end off has = let end = at_place (reopened_processes ps ws ts) i _ (IsEndFor channel ticket) process_is has in off end.on

pub past_end : (ps : List Process) (ws : List Wait) (ts : List ℕ) (i channel ticket : ℕ) → length ws ≡ length ps → length ts ≡ length ps → length ps ≤ i → HasAt (reopened_processes ps ws ts) i (IsEndFor channel ticket) → ⊥
past_end ps ws ts i channel ticket e f h has =
    let within = place_within (reopened_processes ps ws ts) i has.0 has.1 in
    let size = length_processes ps ws ts e f in
    omega arith

pub end_at_iff : {B S P : Type 0} (es : List (Entity B S P)) (os : List (Opened B S P)) (i : ℕ) (e : Entity B S P) (o : Opened B S P) (priority process channel ticket : ℕ) (b : Bool) → AllZip IsAsLong es os → i < length es
    → e ≡ get_or es i e → o ≡ get_or os i o → priority ≡ 0 → (IsTrue b ↔ HasAt (reopened_entity e o).processes process (IsEndFor channel ticket))
    → IsTrue b ↔ (HasAt (reopened_entities es os) i (λ (x : Entity B S P). HasAt x.processes process (IsEndFor channel ticket)) × (priority ≡ 0))
end_at_iff {B} {S} {P} es os i e o priority process channel ticket b zip h e_is o_is none one =
    let size = AllZip-long IsAsLong es os zip in
    let here = entity_again es os i e o (slice_get_read es (length es) i e refl h e_is) (slice_get_read os (length os) i o refl (omega arith) o_is) in (
      (λ t. ((reopened_entity e o, here, one.0 t), none)),
      (λ has. one.1 (at_place (reopened_entities es os) i (reopened_entity e o) (λ (x : Entity B S P). HasAt x.processes process (IsEndFor channel ticket)) here has.0)),
    )

pub long_here : {B S P : Type 0} (es : List (Entity B S P)) (os : List (Opened B S P)) (i : ℕ) (e : Entity B S P) (o : Opened B S P) → AllZip IsAsLong es os → i < length es → e ≡ get_or es i e → o ≡ get_or os i o → IsAsLong e o
long_here es os i e o zip h e_is o_is =
    let size = AllZip-long IsAsLong es os zip in
    long_at es os i e o zip (slice_get_read es (length es) i e refl h e_is) (slice_get_read os (length os) i o refl (omega arith) o_is)

-- the same where the lists are read as slices
pub end_iff_read : (ps xs : List Process) (ws vs : List Wait) (ts us : List ℕ) (i : ℕ) (p : Process) (w : Wait) (channel ticket : ℕ) (b : Bool) → xs ≡ ps → vs ≡ ws → us ≡ ts → length ws ≡ length ps
    → length ts ≡ length ps → i < length xs → p ≡ get_or xs i p → w ≡ get_or vs i w → p.timer ≡ Some channel → (IsTrue b ↔ ((ticket ≤ get_or us i 0) × (ticket ≡ get_or us i 0 → HasTimer w)))
    → IsTrue b ↔ HasAt (reopened_processes ps ws ts) i (IsEndFor channel ticket)
end_iff_read ps xs ws vs ts us i p w channel ticket b xs_is vs_is us_is e f h p_is w_is on given =
    end_iff ps ws ts i p w channel ticket e f (subst (λ (l : List Process). i < length l) xs_is h) (p_is ∙ ap (λ (l : List Process). get_or l i p) xs_is) (w_is ∙ ap (λ (l : List Wait). get_or l i w) vs_is) b on
    (subst (λ (l : List ℕ). IsTrue b ↔ ((ticket ≤ get_or l i 0) × (ticket ≡ get_or l i 0 → HasTimer w))) us_is given)

pub no_end_read : (ps xs : List Process) (ws vs : List Wait) (ts : List ℕ) (i : ℕ) (p : Process) (w : Wait) (channel ticket : ℕ) → xs ≡ ps → vs ≡ ws → length ws ≡ length ps
    → length ts ≡ length ps → i < length xs → p ≡ get_or xs i p → w ≡ get_or vs i w → (p.timer ≡ Some channel → ⊥) → HasAt (reopened_processes ps ws ts) i (IsEndFor channel ticket) → ⊥
no_end_read ps xs ws vs ts i p w channel ticket xs_is vs_is e f h p_is w_is off has =
    no_end ps ws ts i p w channel ticket e f (subst (λ (l : List Process). i < length l) xs_is h) (p_is ∙ ap (λ (l : List Process). get_or l i p) xs_is) (w_is ∙ ap (λ (l : List Wait). get_or l i w) vs_is) off has

pub may_open_read : {B S P : Type 0} (valid : Validity S) (e : Entity B S P) (o : Opened B S P) (ps : List Process) (ws : List Wait) (ts ins outs : List ℕ) → ps ≡ e.processes → ws ≡ o.waits → ts ≡ o.tickets
    → ins ≡ e.in_channels → outs ≡ e.out_channels → length e.processes ≤ 2 ^ 32 → length ws ≡ length ps → length ts ≡ length ps → valid o.state ins outs (map is_timed ps) ws → AllZip (MayWait ins) ps ws
    → Each (λ n. n ≤ MostTicket) ts → MayOpen valid e o
may_open_read valid e o ps ws ts ins outs ps_is ws_is ts_is ins_is outs_is few long_waits long_tickets is may tickets =
    may_open_so valid e o few (record { waits = rw (ws_is, ps_is) at long_waits; tickets = rw (ts_is, ps_is) at long_tickets }) (rw (ins_is, outs_is, ps_is, ws_is) at is) (rw (ins_is, ps_is, ws_is) at may)
    (subst (λ (ns : List ℕ). Each (λ n. n ≤ MostTicket) ns) ts_is tickets)

-- what an entity that may open so has, read as slices
pub record MayRead {B S P : Type 0} (valid : Validity S) (o : Opened B S P) (ps : List Process) (ws : List Wait) (ts ins outs : List ℕ) : Type 0 where
  pub waits : length ws ≡ length ps
  pub tickets : length ts ≡ length ps
  pub is : valid o.state ins outs (map is_timed ps) ws
  pub may : AllZip (MayWait ins) ps ws
  pub few : Each (λ n. n ≤ MostTicket) ts

pub may_read : {B S P : Type 0} (valid : Validity S) (e : Entity B S P) (o : Opened B S P) (ps : List Process) (ws : List Wait) (ts ins outs : List ℕ) → ps ≡ e.processes → ws ≡ o.waits → ts ≡ o.tickets
    → ins ≡ e.in_channels → outs ≡ e.out_channels → MayOpen valid e o → MayRead valid o ps ws ts ins outs
may_read valid e o ps ws ts ins outs ps_is ws_is ts_is ins_is outs_is may =
    let long = may.long in
    let read : MayRead valid o e.processes o.waits o.tickets e.in_channels e.out_channels = record {
      waits = long.waits;
      tickets = long.tickets;
      is = valid_so valid e o may;
      may = waits_were e.in_channels e.processes o.waits o.tickets long.waits long.tickets may.processes;
      few = tickets_were e.in_channels e.processes o.waits o.tickets long.waits long.tickets may.processes;
    } in
    rw (ps_is, ws_is, ts_is, ins_is, outs_is) read
