-- The entries of runs.
use Rattle.std.proofs.Common.{◌≡◌, ℕ, zero, suc, ◌<◌, Bool, List, ◌++◌, refl, ap, ◌∙◌, option_map, arith}
use Rattle.event_order.specs.declared.key.Key.{Key}
use Rattle.event_order.specs.Machine.{World, after, event, due, option_list}
use Rattle.ssf_model.specs.declared.event.Event.{Event}
use Rattle.ssf_model.specs.declared.event.Entry.{Entry}
use Rattle.ssf_model.specs.declared.plan.Mapping.{Mapping}
use Rattle.ssf_model.specs.Reaction.{Reaction}
use Rattle.ssf_model.specs.Run.{States, machine_of, entry_at, entries_from}

-- where two cuts lead through the same worlds, the entries are the same
pub same_entries : {B S P : Type 0} (r : Reaction S P) (ms : List Mapping) (until : ℕ) (kept other : Key → Bool) (w : World (States B S P) (Event P)) (n : ℕ) →
    ((k : ℕ) → k < n → after (machine_of r ms) until kept w k ≡ after (machine_of r ms) until other w k) →
    entries_from r ms until kept w n ≡ entries_from r ms until other w n
same_entries r ms until kept other w zero h = refl
same_entries {B} {S} {P} r ms until kept other w (suc n) h =
    ap (λ (v : World (States B S P) (Event P)). entries_from r ms until kept w n
    ++ option_list (option_map (entry_at r v.state.entities) (due (machine_of {B = B} r ms).key until v.pending))) (h n (omega arith))
    ∙ ap (λ (xs : List Entry). xs ++ option_list (option_map (entry_at r (after (machine_of r ms) until other w n).state.entities) (event (machine_of r ms) until other w n)))
    (same_entries r ms until kept other w n (λ k l. h k (omega arith)))
