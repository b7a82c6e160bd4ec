-- What is known where the first pending event is executed.
use Rattle.std.proofs.Common.{◌≡◌, ℕ, ◌+◌, ◌<◌, ◌≤◌, nat_eq, List, [], ◌∷◌, ◌++◌, length, get_or, set, refl, sym, ap, ◌∙◌, subst, inl, inr, arith, eqb-true, Option, Some, None, IfSome, IsSome, IsNone, get_or-set_same}
use mathlib.Core.Path.{fun_ext}
use Rattle.std.specs.List.{flat_map}
use Rattle.std.proofs.lemmas.List.{get_or_default}
use Rattle.event_order.specs.declared.key.Key.{Key}
use Rattle.event_order.specs.Pending.{Among, put_all}
use Rattle.event_order.proofs.Pending.{test_cases}
use Rattle.ssf_model.specs.declared.event.Event.{Event}
use Rattle.ssf_model.specs.declared.event.Entry.{Entry}
use Rattle.ssf_model.specs.declared.event.Line.{Line}
use Rattle.ssf_model.specs.declared.entity.Entity.{Entity}
use Rattle.ssf_model.specs.declared.process.Process.{Process}
use Rattle.ssf_model.specs.declared.plan.Mapping.{Mapping}
use Rattle.ssf_model.specs.declared.out.Written.{Written}
use Rattle.ssf_model.specs.Reaction.{Reaction, Validity}
use Rattle.ssf_model.specs.Channels.{delivered_to, entity_after, numbered}
use Rattle.timeline_parts.specs.declared.ends.OutEnd.{OutEnd}
use Rattle.timeline_parts.specs.Tables.{numbers_of, AreNumbered, item_at, changed}
use Rattle.timeline_parts.specs.Sending.{sent_on, count_of, all_counted, all_put, MaySend, IsSent}
use Rattle.timeline_parts.specs.Settling.{staying, least_arriving, AreNew}
use Rattle.timeline_parts.proofs.Tables.{item_here, number_at, changed_here}
use Rattle.timeline_parts.proofs.Settles.{staying_put, arriving_put}
use Rattle.timeline.specs.View.{TimelineOf, key_of, routes_by}
use Rattle.timeline.specs.Executing.{MayAct, MayRun, IsRun, written_in}

module _ {T : Type 0} where
  pub item_among : (n : ℕ) (xs : List (ℕ × T)) (x : T) → item_at n xs ≡ Some x → Among n (numbers_of xs)
  item_among n [] x h = absurd (cc)
  item_among n (y ∷ ys) x h = elim (test_cases (nat_eq n y.0)) [
    | inl t ↦ inl (eqb-true n y.0 t)
    | inr f ↦ let g : item_at n ys ≡ Some x = rw f at h in inr (item_among n ys x g)
  ]

  -- what stands at the place of a number
  pub place_item : (xs : List (ℕ × T)) (n i : ℕ) (d : ℕ × T) (x : T) → AreNumbered xs → i < length xs → get_or (numbers_of xs) i 0 ≡ n → item_at n xs ≡ Some x → get_or xs i d ≡ (n, x)
  place_item xs n i d x r h p e =
      let y : ℕ × T = get_or xs i d in
      let here : y ≡ get_or xs i y = get_or_default xs i d y h in
      let both : Some y.1 ≡ Some x = sym (item_here xs n i y r h p here) ∙ e in
      let value : y.1 ≡ x = cc in
      let number : y.0 ≡ n = sym (number_at xs i y h here) ∙ p in
      ap (λ (k : ℕ). (k, y.1)) number ∙ ap (λ (z : T). (n, z)) value

  pub first_is : (ps : List T) (h : T) → ((e : T) (rest : List T) → ps ≡ e ∷ rest → e ≡ h) → (ps ≡ [] → ⊥) → (rest : List T) × (ps ≡ h ∷ rest)
  first_is [] h first some = absurd (some refl)
  first_is (e ∷ es) h first some = (es, ap (λ x. x ∷ es) (first e es refl))

module _ {B S P : Type 0} (valid : Validity S) (r : Reaction S P) (t : TimelineOf B S P) (h : Event P) where
  -- the event is the first, and can be executed
  pub record IsReady : Type 0 where
    pub rest : List (Event P)
    pub first : t.pending ≡ h ∷ rest
    pub may : MayRun valid r t h rest

  pub ready : ((rest : List (Event P)) → t.pending ≡ h ∷ rest → MayRun valid r t h rest) → ((e : Event P) (rest : List (Event P)) → t.pending ≡ e ∷ rest → e ≡ h) → (t.pending ≡ [] → ⊥) → IsReady
  ready may first some = let is = first_is t.pending h first some in record { rest = is.0; first = is.1; may = may is.0 is.1 }

pub sent_same : {P : Type 0} (f g : ℕ → List Mapping) (entity : ℕ) (ps qs : List Process) (ws vs : List (Written P)) → ((out : ℕ) → f out ≡ g out) → ps ≡ qs → ws ≡ vs →
    flat_map (sent_on f entity ps) ws ≡ flat_map (sent_on g entity qs) vs
sent_same f g entity ps qs ws vs routes processes writes =
    ap (λ (k : ℕ → List Mapping). flat_map (sent_on k entity ps) ws) (fun_ext routes)
    ∙ (ap (λ xs. flat_map (sent_on g entity xs) ws) processes ∙ ap (λ ys. flat_map (sent_on g entity qs) ys) writes)

module _ {B S P : Type 0} (valid : Validity S) (r : Reaction S P) (t : TimelineOf B S P) (h : Event P) (rd : IsReady valid r t h) where
  pub known : Among h.entity (numbers_of t.entities)
  known = item_among h.entity t.entities rd.may.entity rd.may.at

  module _ (place : ℕ) (rise : AreNumbered t.entities) (within : place < length t.entities) (found : get_or (numbers_of t.entities) place 0 ≡ h.entity) where
    pub item : (h.entity, rd.may.entity) ≡ get_or t.entities place (h.entity, rd.may.entity)
    item = sym (place_item t.entities h.entity place (h.entity, rd.may.entity) rd.may.entity rise within found rd.may.at)

    pub acts : (d : ℕ × Entity B S P) → MayAct valid h (get_or t.entities place d).1
    acts d = subst (λ (y : ℕ × Entity B S P). MayAct valid h y.1) (sym (place_item t.entities h.entity place d rd.may.entity rise within found rd.may.at)) rd.may.acts

    pub acted_entities : (new : List (ℕ × Entity B S P)) → ((d : ℕ × Entity B S P) → d ≡ get_or t.entities place d → new ≡ set t.entities place (d.0, entity_after (delivered_to r h d.1) d.1)) →
        new ≡ set t.entities place (h.entity, entity_after (delivered_to r h rd.may.entity) rd.may.entity)
    acted_entities new f = f (h.entity, rd.may.entity) item

    pub acted_writes : (ws : List (Written P)) → ((d : ℕ × Entity B S P) → d ≡ get_or t.entities place d → ws ≡ (delivered_to r h d.1).writes) → ws ≡ (delivered_to r h rd.may.entity).writes
    acted_writes ws f = f (h.entity, rd.may.entity) item

    pub acted_lines : (ls : List Line) → ((d : ℕ × Entity B S P) → d ≡ get_or t.entities place d → ls ≡ (delivered_to r h d.1).lines) → ls ≡ (delivered_to r h rd.may.entity).lines
    acted_lines ls f = f (h.entity, rd.may.entity) item

    pub entities_after : (new : List (ℕ × Entity B S P)) → new ≡ set t.entities place (h.entity, entity_after (delivered_to r h rd.may.entity) rd.may.entity) →
        new ≡ changed h.entity (λ (e : Entity B S P). entity_after (delivered_to r h rd.may.entity) rd.may.entity) t.entities
    entities_after new e = e ∙ changed_here t.entities h.entity place (λ (e : Entity B S P). entity_after (delivered_to r h rd.may.entity) rd.may.entity) (h.entity, rd.may.entity) rise within found item

    pub processes_at : (new : List (ℕ × Entity B S P)) (y : ℕ × Entity B S P) → new ≡ set t.entities place (h.entity, entity_after (delivered_to r h rd.may.entity) rd.may.entity) → y ≡ get_or new place y →
        y.1.processes ≡ (delivered_to r h rd.may.entity).processes
    processes_at new y e at =
        let z : ℕ × Entity B S P = (h.entity, entity_after (delivered_to r h rd.may.entity) rd.may.entity) in
        let is : y ≡ z = at ∙ (ap (λ (zs : List (ℕ × Entity B S P)). get_or zs place y) e ∙ get_or-set_same t.entities place z y within) in
        ap (λ (w : ℕ × Entity B S P). w.1.processes) is

  pub may_send : (f : ℕ → List Mapping) (ps : List Process) (ws : List (Written P)) → ((out : ℕ) → f out ≡ routes_by t.inside t.outs out) → ps ≡ (delivered_to r h rd.may.entity).processes → ws ≡ (delivered_to r h rd.may.entity).writes →
      MaySend h.key (flat_map (sent_on f h.entity ps) ws) t.counts t.out_ends
  may_send f ps ws routes processes writes =
      subst (λ ss. MaySend h.key ss t.counts t.out_ends) (sym (sent_same f (routes_by t.inside t.outs) h.entity ps (delivered_to r h rd.may.entity).processes ws (delivered_to r h rd.may.entity).writes routes processes writes)) rd.may.may

  -- what was written comes to its places
  pub record IsWritten (counts : List (ℕ × ℕ)) (ends : List (ℕ × OutEnd P)) (written : List (Event P)) : Type 0 where
    pub events : written ≡ written_in r t h rd.may.entity
    pub counts_are : counts ≡ all_counted (written_in r t h rd.may.entity) t.counts
    pub ends_are : ends ≡ all_put (written_in r t h rd.may.entity) t.out_ends

  pub written : (f : ℕ → List Mapping) (ps : List Process) (ws : List (Written P)) (counts : List (ℕ × ℕ)) (ends : List (ℕ × OutEnd P)) (es : List (Event P)) →
      ((out : ℕ) → f out ≡ routes_by t.inside t.outs out) → ps ≡ (delivered_to r h rd.may.entity).processes → ws ≡ (delivered_to r h rd.may.entity).writes →
      IsSent h.key (flat_map (sent_on f h.entity ps) ws) t.counts t.out_ends [] counts ends es → IsWritten counts ends es
  written f ps ws counts ends es routes processes writes q =
      let same = sent_same f (routes_by t.inside t.outs) h.entity ps (delivered_to r h rd.may.entity).processes ws (delivered_to r h rd.may.entity).writes routes processes writes in
      let all : numbered h.key (count_of t.counts) (flat_map (sent_on f h.entity ps) ws) ≡ written_in r t h rd.may.entity = ap (λ ss. numbered h.key (count_of t.counts) ss) same in
      record {
        events = q.written ∙ all;
        counts_are = q.counts ∙ ap (λ ds. all_counted ds t.counts) all;
        ends_are = q.ends ∙ ap (λ ds. all_put ds t.out_ends) all;
      }

  pub new_keys : (counts : List (ℕ × ℕ)) (ends : List (ℕ × OutEnd P)) (es ps : List (Event P)) → IsWritten counts ends es → ps ≡ rd.rest → AreNew (staying ends es) ps
  new_keys counts ends es ps w is =
      let all : staying ends es ≡ staying t.out_ends (written_in r t h rd.may.entity) =
      ap (λ ds. staying ends ds) w.events ∙ (ap (λ os. staying os (written_in r t h rd.may.entity)) w.ends_are
      ∙ staying_put (written_in r t h rd.may.entity) (written_in r t h rd.may.entity) t.out_ends) in
      subst (λ ds. AreNew ds ps) (sym all) (subst (λ qs. AreNew (staying t.out_ends (written_in r t h rd.may.entity)) qs) (sym is) rd.may.new)

  pub ran : (entities : List (ℕ × Entity B S P)) (counts : List (ℕ × ℕ)) (ends : List (ℕ × OutEnd P)) (es ps pending : List (Event P)) (spare arrival : ℕ) (history : List Entry) →
      entities ≡ changed h.entity (λ (e : Entity B S P). entity_after (delivered_to r h rd.may.entity) rd.may.entity) t.entities →
      IsWritten counts ends es → ps ≡ rd.rest → pending ≡ put_all key_of (staying ends es) ps → arrival ≡ least_arriving ends t.entered es t.arrival →
      history ≡ t.history ++ record { key = h.key; entity = h.entity; lines = (delivered_to r h rd.may.entity).lines } ∷ [] →
      (run : IsRun r t (record t { entities = entities; counts = counts; out_ends = ends; pending = pending; spare = spare; arrival = arrival; executed = t.executed + 1; history = history })) × (run.event ≡ h)
  ran entities counts ends es ps pending spare arrival history e0 w is put least told =
      let all : List (Event P) = written_in r t h rd.may.entity in
      let stays : staying ends es ≡ staying t.out_ends all =
      ap (λ ds. staying ends ds) w.events ∙ (ap (λ os. staying os all) w.ends_are ∙ staying_put all all t.out_ends) in
      let pending_is : pending ≡ put_all key_of (staying t.out_ends all) rd.rest = put ∙ (ap (λ ds. put_all key_of ds ps) stays ∙ ap (λ qs. put_all key_of (staying t.out_ends all) qs) is) in
      let arrival_is : arrival ≡ least_arriving t.out_ends t.entered all t.arrival =
      least ∙ (ap (λ ds. least_arriving ends t.entered ds t.arrival) w.events ∙ (ap (λ os. least_arriving os t.entered all t.arrival) w.ends_are ∙ arriving_put all all t.out_ends t.entered t.arrival)) in (
        record {
          event = h;
          rest = rd.rest;
          first = rd.first;
          entity = rd.may.entity;
          at = rd.may.at;
          is = rw (e0, w.counts_are, w.ends_are, pending_is, arrival_is, told) refl;
        },
        refl,
      )

-- ---- the first event is taken

pub rest_after : {T : Type 0} (o : Option T) (old new : List T) (h : T) (rest : List T) → (IsNone o → old ≡ []) → IfSome o (λ item. old ≡ item ∷ new) → old ≡ h ∷ rest → new ≡ rest
rest_after None old new h rest none some is = let e : h ∷ rest ≡ [] = sym is ∙ none refl in absurd (cc)
rest_after (Some x) old new h rest none some is = let e : x ∷ new ≡ h ∷ rest = sym some ∙ is in cc

pub room_after : {T : Type 0} (o : Option T) (old : List T) (h : T) (rest : List T) (a b n : ℕ) → (IsNone o → old ≡ []) → old ≡ h ∷ rest → (IsSome o → b ≡ a + 1) → n ≤ a → n ≤ b
room_after None old h rest a b n none is some room = let e : h ∷ rest ≡ [] = sym is ∙ none refl in absurd (cc)
room_after (Some x) old h rest a b n none is some room = let e = some refl in omega arith

pub told_as : (old mid new : List Entry) (key : Key) (entity : ℕ) (ls ms : List Line) → new ≡ mid ++ record { key = key; entity = entity; lines = ls } ∷ [] → mid ≡ old → ls ≡ ms →
    new ≡ old ++ record { key = key; entity = entity; lines = ms } ∷ []
told_as old mid new key entity ls ms a b e = a ∙ rw (b, e) refl

-- the same of equal timelines
pub run_of : {B S P : Type 0} (r : Reaction S P) (h : Event P) {t u a b : TimelineOf B S P} → t ≡ u → a ≡ b → ((run : IsRun r t a) × (run.event ≡ h)) → (run : IsRun r u b) × (run.event ≡ h)
run_of {B} {S} {P} r h {t} {u} {a} {b} before after q =
    subst (λ (v : TimelineOf B S P). (run : IsRun r v b) × (run.event ≡ h)) before (subst (λ (v : TimelineOf B S P). (run : IsRun r t v) × (run.event ≡ h)) after q)
