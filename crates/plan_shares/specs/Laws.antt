-- How the share of a timeline stands in the channels between timelines.
use Rattle.std.specs.Prelude.{ℕ, ◌≡◌, List}
use Rattle.event_order.specs.Pending.{Among}
use Rattle.ssf_model.specs.Scene.{Net}
use Rattle.sync_rules.specs.Bounds.{IsInto, IsOutOf}
use Rattle.timeline_parts.specs.declared.part.Cross.{Cross}
use Rattle.timeline_parts.specs.declared.part.Part.{Part}
use Rattle.timeline_parts.specs.Parts.{channel_of}

-- some of these mappings is on channel c, which is appointed in the net where the mapping is
pub record IsOn (net : Net) (c : ℕ) (crosses : List Cross) : Type 0 where
  pub cross : Cross
  pub among : Among cross crosses
  pub channel : channel_of cross ≡ c
  pub appointed : cross.appointed ≡ net.appointed c
  pub delay : cross.mapping.delay ≡ net.delay c

-- the mappings of a part that come to timeline i are those of the net's channels to it, and so are those that go from it
pub record IsPartIn {B S P : Type 0} (net : Net) (i : ℕ) (part : Part B S P) : Type 0 where
  pub into : (x : Cross) → Among x part.ins → IsInto net i (channel_of x)
  pub ins : (c : ℕ) → IsInto net i c → IsOn net c part.ins
  pub out : (x : Cross) → Among x part.outs → IsOutOf net i (channel_of x)
  pub outs : (c : ℕ) → IsOutOf net i c → IsOn net c part.outs
