-- The plan of a model, and its first fault. No public clause cites this file.
use Rattle.std.specs.Prelude.{◌≡◌, Bool, true, false, List, length, Result, Ok, Err, IsOkAnd}
use Rattle.dml_tree.specs.declared.tree.Attribute.{Attribute}
use Rattle.dml_tree.specs.Attributes.{Attributes}
use Rattle.dml_tree.specs.TreeView.{attributes}
use Rattle.net_graph.specs.declared.fault.ShapeFault.{ShapeFault}
use Rattle.net_graph.specs.Keys.{has_net}
use Rattle.net_build.specs.declared.built.Built.{Built}
use Rattle.net_build.specs.RingModel.{ring_plan_of}
use Rattle.net_plan.specs.NetPlan.{IsPlanOf}
use Rattle.host_rules.specs.Limits.{IsHost}
use Rattle.ip_layer.specs.Packets.{IsPacket}
use Rattle.ring_model.specs.Reacting.{IsRing, AnyPayload}
use Rattle.ssf_model.specs.Reaction.{Validity}
use Rattle.ssf_model.specs.Run.{Fits}
use Rattle.ssfnet_top.specs.declared.model.Planned.{Planned}
use Rattle.ssfnet_top.specs.declared.model.Planned.TheVariants as planned
use Rattle.ssfnet_top.specs.declared.refusal.Refusal.{Refusal}
use Rattle.ssfnet_top.specs.declared.refusal.Refusal.TheVariants as refusal
use Rattle.ssfnet_top.specs.Outcome.{planned_network}

-- it is the plan of a resolved tree, whose model is a Net or not
abbrev pub IsPlannedIn : Bool → List Attribute → Planned → Type 0
IsPlannedIn true root (planned.Hosts built) = IsOkAnd (planned_network root) (λ network. IsPlanOf network built)
IsPlannedIn true root (planned.Ring built) = ⊥
IsPlannedIn false root (planned.Hosts built) = ⊥
IsPlannedIn false root (planned.Ring built) = ring_plan_of root ≡ Ok built

abbrev pub IsPlanned : Result Attributes Refusal → Planned → Type 0
IsPlanned (Ok tree) p = IsPlannedIn (has_net (attributes tree)) (attributes tree) p
IsPlanned (Err r) p = ⊥

-- it is the first fault of a resolved tree
abbrev pub IsFaultIn : Bool → List Attribute → ShapeFault → Type 0
IsFaultIn true root fault = planned_network root ≡ Err fault
IsFaultIn false root fault = ring_plan_of root ≡ Err fault

-- it is the refusal of a tree that has no plan
abbrev pub IsFault : Result Attributes Refusal → Refusal → Type 0
IsFault (Ok tree) r = (fault : ShapeFault) × IsFaultIn (has_net (attributes tree)) (attributes tree) fault × (r ≡ refusal.Shape fault)
IsFault (Err e) r = r ≡ e

-- the plan may be run: it is in range, and each entity has a name and a Net
abbrev pub IsComplete : {B S P : Type 0} → Validity S → (P → Type 0) → Built B S P → Type 0
IsComplete valid carried built =
    Fits valid carried built.plan × (length built.names.names ≡ length built.plan.entities) × (length built.nets ≡ length built.plan.entities)

abbrev pub IsReady : Planned → Type 0
IsReady (planned.Hosts built) = IsComplete IsHost IsPacket built
IsReady (planned.Ring built) = IsComplete IsRing AnyPayload built
