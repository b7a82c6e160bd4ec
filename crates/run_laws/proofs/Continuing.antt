-- What stays along a run, what its entries name, and how it goes on.
use Rattle.std.proofs.Common.{◌≡◌, ℕ, zero, suc, ◌+◌, Bool, List, [], ◌∷◌, ◌++◌, map, refl, sym, ap, ◌∙◌, inl, inr, Option, Some, None, option_map, slice_get, zero-add, suc-add, append-nil, append_assoc}
use Rattle.event_order.specs.declared.key.Key.{Key}
use Rattle.event_order.specs.Machine.{World, option_list, due, after}
use Rattle.event_order.proofs.Steps.{step_cases}
use Rattle.event_order.proofs.Continuing.{goes_on}
use Rattle.ssf_model.specs.declared.wait.Wake.{Wake}
use Rattle.ssf_model.specs.declared.wait.Kind.{Kind}
use Rattle.ssf_model.specs.declared.event.Event.{Event}
use Rattle.ssf_model.specs.declared.event.Entry.{Entry}
use Rattle.ssf_model.specs.declared.process.Process.{Process}
use Rattle.ssf_model.specs.declared.entity.Entity.{Entity}
use Rattle.ssf_model.specs.declared.plan.Mapping.{Mapping}
use Rattle.ssf_model.specs.declared.plan.Plan.{Plan}
use Rattle.ssf_model.specs.Reaction.{Reaction}
use Rattle.ssf_model.specs.Deliver.{wake_of, reacted, delivered}
use Rattle.ssf_model.specs.Channels.{delivered_to, entity_after}
use Rattle.ssf_model.specs.Run.{States, acts_at, machine_of, opening, world_after, entry_at, entries_from}
use Rattle.ssf_model.proofs.Lists.{at_mapped, map_set}

-- ---- what no action changes

module _ {S P T : Type 0} (r : Reaction S P) (look : S → T) (keeps : (s : S) (i now : ℕ) (wake : Wake P) → look (r s i now wake).state ≡ look s) where
  reacted_look : (now i : ℕ) (s : S) (p : Process) (o : Option (Wake P)) → look (reacted r now i s p o).state ≡ look s
  reacted_look now i s p None = refl
  reacted_look now i s p (Some wake) = keeps s i now wake

  delivered_look : (now : ℕ) (kind : Kind P) (i : ℕ) (s : S) (ps : List Process) → look (delivered r now kind i s ps).state ≡ look s
  delivered_look now kind i s [] = refl
  delivered_look now kind i s (p ∷ ps) = delivered_look now kind (i + 1) (reacted r now i s p (wake_of kind i p)).state ps ∙ reacted_look now i s p (wake_of kind i p)

  abbrev seen : {B : Type 0} → Entity B S P → T
  seen e = look e.state

  acted_look : {B : Type 0} (ms : List Mapping) (x : States B S P) (e : Event P) (o : Option (Entity B S P)) → slice_get x.entities e.entity ≡ o → map seen (acts_at r ms x e o).entities ≡ map seen x.entities
  acted_look ms x e None h = refl
  acted_look ms x e (Some en) h = map_set seen x.entities e.entity en (entity_after (delivered_to r e en) en) h (delivered_look e.key.time e.kind 0 en.state en.processes)

  look_along : {B : Type 0} (ms : List Mapping) (until : ℕ) (kept : Key → Bool) (w : World (States B S P) (Event P)) (n : ℕ) → map seen (after (machine_of r ms) until kept w n).state.entities ≡ map seen w.state.entities
  unfolding machine_of
  look_along ms until kept w zero = refl
  look_along {B} ms until kept w (suc n) =
      let v = after (machine_of r ms) until kept w n in
      elim (step_cases (machine_of r ms) until kept v.state v.pending) [
        | inl t ↦ ap (λ (u : World (States B S P) (Event P)). map seen u.state.entities) t.next_is ∙ acted_look ms v.state t.head (slice_get v.state.entities t.head.entity) refl ∙ look_along ms until kept w n
        | inr q ↦ ap (λ (u : World (States B S P) (Event P)). map seen u.state.entities) q.next_is ∙ look_along ms until kept w n
      ]

  pub looks_alike : {B : Type 0} (plan : Plan B S P) (until : ℕ) (kept : Key → Bool) (n k : ℕ) (e : Entity B S P) → slice_get (world_after r plan until kept n).state.entities k ≡ Some e →
      (first : Entity B S P) × (slice_get plan.entities k ≡ Some first) × (look e.state ≡ look first.state)
  looks_alike {B} plan until kept n k e at =
      let found = at_mapped seen (world_after r plan until kept n).state.entities plan.entities k e (look_along plan.mappings until kept (opening plan) n) at in
      (found.0, found.1, sym found.2)

-- ---- a run that goes on

pub entries_go_on : {B S P : Type 0} (r : Reaction S P) (ms : List Mapping) (until : ℕ) (kept : Key → Bool) (w : World (States B S P) (Event P)) (n k : ℕ) →
    entries_from r ms until kept w (k + n) ≡ entries_from r ms until kept w n ++ entries_from r ms until kept (after (machine_of r ms) until kept w n) k
entries_go_on r ms until kept w n zero = rw (zero-add, append-nil) refl
entries_go_on {B} {S} {P} r ms until kept w n (suc k) =
    let v = after (machine_of r ms) until kept w n in
    let told : World (States B S P) (Event P) → List Entry = λ u. option_list (option_map (entry_at r u.state.entities) (due (machine_of {B = B} r ms).key until u.pending)) in
    rw suc-add (ap (λ (xs : List Entry). xs ++ told (after (machine_of r ms) until kept w (k + n))) (entries_go_on r ms until kept w n k)
    ∙ (append_assoc (entries_from r ms until kept w n) (entries_from r ms until kept v k) (told (after (machine_of r ms) until kept w (k + n)))
    ∙ ap (λ (u : World (States B S P) (Event P)). entries_from r ms until kept w n ++ (entries_from r ms until kept v k ++ told u)) (goes_on (machine_of r ms) until kept w n k)))
