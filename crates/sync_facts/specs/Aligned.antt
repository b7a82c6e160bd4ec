-- How the mappings of a plan whose entities stand on timelines make the channels between these timelines.
use Rattle.std.specs.Prelude.{ℕ, ◌≡◌, ◌<◌, ◌≤◌, ◌⊎◌, true, false, length, Some}
use Rattle.event_order.specs.Pending.{Among}
use Rattle.ssf_model.specs.declared.plan.Mapping.{Mapping}
use Rattle.ssf_model.specs.declared.plan.Plan.{Plan}
use Rattle.ssf_model.specs.Reaction.{Each}
use Rattle.ssf_model.specs.Scene.{Net}
use Rattle.run_health.specs.Joined.{IsAligned}

-- the mapping's channel crosses from the timeline of one end to that of the other with the mapping's delay, and where it
-- is not an appointed one, the lookahead is at most this delay
pub record IsCrossIn (line : ℕ → ℕ) (net : Net) (m : Mapping) : Type 0 where
  pub cross : net.cross m.channel ≡ true
  pub sender : net.sender m.channel ≡ line m.from
  pub receiver : net.receiver m.channel ≡ line m.to
  pub delay : net.delay m.channel ≡ m.delay
  pub windowed : net.appointed m.channel ≡ false → (lookahead : ℕ) × (net.lookahead ≡ Some lookahead) × (lookahead ≤ m.delay)

-- the two ends of a mapping are on one timeline
abbrev pub IsInside : (ℕ → ℕ) → Mapping → Type 0
IsInside line m = line m.from ≡ line m.to

-- a mapping whose ends are on one timeline does not cross, and any other does
abbrev pub IsMappingIn : (ℕ → ℕ) → Net → Mapping → Type 0
IsMappingIn line net m = (IsInside line m × (net.cross m.channel ≡ false)) ⊎ ((IsInside line m → ⊥) × IsCrossIn line net m)

-- the channels between the timelines of a plan are its mappings that cross. The two ends of each mapping without delay are
-- on one timeline, so each that crosses takes time, and the lookahead, where there is one, is the delay of such a mapping
pub record IsAlignedNet {B S P : Type 0} (plan : Plan B S P) (line : ℕ → ℕ) (net : Net) : Type 0 where
  pub aligned : IsAligned plan line
  pub timelines : (e : ℕ) → e < length plan.entities → line e < net.timelines
  pub mappings : Each (IsMappingIn line net) plan.mappings
  pub channels : Each (λ (m : Mapping). m.channel < net.channels) plan.mappings
  pub only : (c : ℕ) → net.cross c ≡ true → (m : Mapping) × Among m plan.mappings × (m.channel ≡ c)
  pub lookahead : (d : ℕ) → net.lookahead ≡ Some d → (m : Mapping) × Among m plan.mappings × (IsInside line m → ⊥) × (m.delay ≡ d)
