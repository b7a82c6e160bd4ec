-- A run by the one list after some events, and one step of it.
use Rattle.std.proofs.Common.{◌≡◌, ℕ, ◌+◌, ◌<◌, ◌≤◌, true, false, List, [], ◌++◌, length, refl, sym, ap, ◌∙◌, subst, arith, Option, Some, None, is_some, IsSome, option_map, add-one, append-nil, length-append}
use Rattle.event_order.specs.Machine.{World, option_list, due, all_kept}
use Rattle.ssf_model.specs.declared.event.Event.{Event}
use Rattle.ssf_model.specs.declared.event.Entry.{Entry}
use Rattle.ssf_model.specs.declared.plan.Mapping.{Mapping}
use Rattle.ssf_model.specs.declared.plan.Plan.{Plan}
use Rattle.ssf_model.specs.Reaction.{Reaction, Validity, LatestTime}
use Rattle.ssf_model.specs.Run.{States, Fits, machine_of, run_event, run_entries, entry_at}
use Rattle.run_health.specs.Healthy.{MostEvents}
use Rattle.global_list.specs.Pending.{key_of}
use Rattle.global_list.specs.Standing.{Standing, standing_after, advanced, next_event, next_entry, CanGoOn}

pub none_of : {T : Type 0} (o : Option T) → is_some o ≡ false → o ≡ None
none_of None h = refl
none_of (Some x) h = absurd (cc)

one_of : {T U : Type 0} (f : T → U) (o : Option T) → is_some o ≡ true → length (option_list (option_map f o)) ≡ 1
one_of f None h = absurd (cc)
one_of f (Some x) h = refl

due_is : {B S P : Type 0} (r : Reaction S P) (ms : List Mapping) (until : ℕ) (v : World (States B S P) (Event P)) → due (machine_of {B = B} r ms).key until v.pending ≡ due key_of until v.pending
unfolding machine_of
due_is r ms until v = refl

module _ {B S P : Type 0} (r : Reaction S P) (plan : Plan B S P) (until : ℕ) where
  -- the list stands after i events, and these are their entries
  pub record Running (i : ℕ) (s : Standing B S P) (told : List Entry) : Type 0 where
    pub is : s ≡ standing_after r plan until i
    pub entries : told ≡ run_entries r plan until all_kept i
    pub count : length told ≡ i

  pub event_is : (i : ℕ) (s : Standing B S P) → s ≡ standing_after r plan until i → run_event r plan until all_kept i ≡ next_event until s
  event_is i s is = due_is r plan.mappings until (standing_after r plan until i).world ∙ ap (λ (x : Standing B S P). next_event until x) (sym is)

  entry_is : (i : ℕ) (s : Standing B S P) → s ≡ standing_after r plan until i →
      option_map (entry_at r (standing_after r plan until i).world.state.entities) (run_event r plan until all_kept i) ≡ next_entry r until s
  entry_is i s is =
      ap (λ (o : Option (Event P)). option_map (entry_at r (standing_after r plan until i).world.state.entities) o) (due_is r plan.mappings until (standing_after r plan until i).world)
      ∙ ap (λ (x : Standing B S P). next_entry r until x) (sym is)

  pub standing_next : (i : ℕ) (s s' : Standing B S P) → s ≡ standing_after r plan until i → s' ≡ advanced r until s → s' ≡ standing_after r plan until (i + 1)
  standing_next i s s' is e = rw add-one (e ∙ ap (λ (x : Standing B S P). advanced r until x) is)

  pub entries_next : (i : ℕ) (s : Standing B S P) → s ≡ standing_after r plan until i → run_entries r plan until all_kept (i + 1) ≡ run_entries r plan until all_kept i ++ option_list (next_entry r until s)
  entries_next i s is = rw add-one (ap (λ (o : Option Entry). run_entries r plan until all_kept i ++ option_list o) (entry_is i s is))

  pub running_opened : (s : Standing B S P) (told : List Entry) → s ≡ standing_after r plan until 0 → told ≡ [] → Running 0 s told
  running_opened s told is none = record { is = is; entries = none; count = rw none refl }

  -- one event more was executed by a list with the reaction q, which is that of the plan
  pub running_next : (q : Reaction S P) → q ≡ r → (i : ℕ) (s s' : Standing B S P) (told told' : List Entry) → Running i s told → s' ≡ advanced q until s → told' ≡ told ++ option_list (next_entry q until s) →
      is_some (next_event until s) ≡ true → Running (i + 1) s' told'
  running_next q own i s s' told told' w e added some =
      let added : told' ≡ told ++ option_list (next_entry r until s) = subst (λ (p : Reaction S P). told' ≡ told ++ option_list (next_entry p until s)) own added in record {
        is = standing_next i s s' w.is (subst (λ (p : Reaction S P). s' ≡ advanced p until s) own e);
        entries = added ∙ (ap (λ (ts : List Entry). ts ++ option_list (next_entry r until s)) w.entries ∙ sym (entries_next i s w.is));
        count = omega (arith, ap length added, length-append told (option_list (next_entry r until s)), w.count, one_of (entry_at r s.world.state.entities) (next_event until s) some);
      }

  -- or there was none
  pub running_same : (q : Reaction S P) (i : ℕ) (s : Standing B S P) (told told' : List Entry) → Running i s told → told' ≡ told ++ option_list (next_entry q until s) →
      is_some (next_event until s) ≡ false → Running i s told'
  running_same q i s told told' w added none =
      let same : told' ≡ told = added ∙ (ap (λ (o : Option (Event P)). told ++ option_list (option_map (entry_at q s.world.state.entities) o)) (none_of (next_event until s) none) ∙ append-nil told) in
      rw same w

  pub running_ended : (i : ℕ) (s : Standing B S P) (told : List Entry) → Running i s told → is_some (next_event until s) ≡ false → run_event r plan until all_kept (length told) ≡ None
  running_ended i s told w none = ap (λ (n : ℕ). run_event r plan until all_kept n) w.count ∙ (event_is i s w.is ∙ none_of (next_event until s) none)

  pub running_prefix : (i : ℕ) (s : Standing B S P) (told : List Entry) → Running i s told → told ≡ run_entries r plan until all_kept (length told)
  running_prefix i s told w = w.entries ∙ ap (λ (n : ℕ). run_entries r plan until all_kept n) (sym w.count)

  pub running_more : (i : ℕ) (s : Standing B S P) (told : List Entry) → Running i s told → is_some (next_event until s) ≡ true → IsSome (run_event r plan until all_kept i)
  running_more i s told w some = ap (λ (o : Option (Event P)). is_some o) (event_is i s w.is) ∙ some

-- the list of a plan that fits can go on
pub can_go_on : {B S P : Type 0} (reaction : B → Reaction S P) (valid : B → Validity S) (carried : B → P → Type 0) (plan : Plan B S P) (until i : ℕ) → Fits (valid plan.behaviour) (carried plan.behaviour) plan
    → until ≤ LatestTime → i < MostEvents → (s : Standing B S P) → s ≡ standing_after (reaction plan.behaviour) plan until i → CanGoOn (valid s.behaviour) (carried s.behaviour) (reaction s.behaviour) until s
can_go_on {B} {S} {P} reaction valid carried plan until i fits in_time few s is =
    let own : s.behaviour ≡ plan.behaviour = ap (λ (x : Standing B S P). x.behaviour) is in
    let here : CanGoOn (valid plan.behaviour) (carried plan.behaviour) (reaction plan.behaviour) until s = record { plan = plan; fits = fits; in_time = in_time; n = i; few = few; is = is } in
    subst (λ (b : B). CanGoOn (valid b) (carried b) (reaction b) until s) (sym own) here

pub own_reaction : {B S P : Type 0} (reaction : B → Reaction S P) (plan : Plan B S P) (until i : ℕ) (s : Standing B S P) → s ≡ standing_after (reaction plan.behaviour) plan until i
    → reaction s.behaviour ≡ reaction plan.behaviour
own_reaction {B} {S} {P} reaction plan until i s is = ap (λ (x : Standing B S P). reaction x.behaviour) is
