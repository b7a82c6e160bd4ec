-- Laws of the runs of plans, read as scenes.
use Rattle.std.specs.Prelude.{ℕ, ◌≡◌, ◌≤◌, Bool}
use Rattle.event_order.specs.declared.key.Key.{Key}
use Rattle.ssf_model.specs.declared.wait.Wake.{Wake}
use Rattle.ssf_model.specs.declared.event.Event.{Event}
use Rattle.ssf_model.specs.declared.plan.Plan.{Plan}
use Rattle.ssf_model.specs.Reaction.{Reaction, Validity, LatestTime}
use Rattle.ssf_model.specs.Run.{States, Fits, run_events, run_entries}
use Rattle.ssf_model.specs.Scene.{Net, Scene, scene_of}

-- the law holds of each plan and its run: up to any time, under any cut, whatever the timelines and channels between them
abbrev pub OfEachRun : {B S P : Type 0} → Reaction S P → (Plan B S P → Scene (States B S P) (Event P) → Type 0) → Type 0
OfEachRun {B} {S} {P} r law = (plan : Plan B S P) (until : ℕ) (kept : Key → Bool) (line : ℕ → ℕ) (net : Net) → law plan (scene_of r plan until kept line net)

-- the law holds of each plan that fits, and its run up to any time in range. It sees the timeline of each entity too
abbrev pub OfEachFittingRun : {B S P : Type 0} → Validity S → (P → Type 0) → Reaction S P → (Plan B S P → (ℕ → ℕ) → Scene (States B S P) (Event P) → Type 0) → Type 0
OfEachFittingRun {B} {S} {P} valid carried r law = (plan : Plan B S P) (until : ℕ) (kept : Key → Bool) (line : ℕ → ℕ) (net : Net) →
    Fits valid carried plan → until ≤ LatestTime → law plan line (scene_of r plan until kept line net)

-- under both cuts the first n events of a plan's run are the same, and so are their entries
pub record IsCutAlike {B S P : Type 0} (r : Reaction S P) (plan : Plan B S P) (until : ℕ) (kept other : Key → Bool) (n : ℕ) : Type 0 where
  pub events : run_events r plan until kept n ≡ run_events r plan until other n
  pub entries : run_entries r plan until kept n ≡ run_entries r plan until other n

-- no action changes what `look` sees of a state
abbrev pub IsKept : {S P T : Type 0} → Reaction S P → (S → T) → Type 0
IsKept {S} {P} r look = (s : S) (process now : ℕ) (wake : Wake P) → look (r s process now wake).state ≡ look s
