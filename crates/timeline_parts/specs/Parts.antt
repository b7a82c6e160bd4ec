-- Parts of plans, each of which is one timeline's.
use Rattle.std.specs.Prelude.{ℕ, map}
use Rattle.event_order.specs.Pending.{IsApart}
use Rattle.timeline_parts.specs.declared.part.Cross.{Cross}
use Rattle.timeline_parts.specs.declared.part.Part.{Part}
use Rattle.timeline_parts.specs.Tables.{AreRising, AreNumbered}
use Rattle.timeline_parts.specs.Settling.{key_of}

abbrev pub channel_of : Cross → ℕ
channel_of cross = cross.mapping.channel

-- the lists of a part are in order: the numbers of its entities and of its channels rise, and no two events have one key
pub record IsPart {B S P : Type 0} (part : Part B S P) : Type 0 where
  pub entities : AreNumbered part.entities
  pub counts : AreNumbered part.counts
  pub ins : AreRising (map channel_of part.ins)
  pub outs : AreRising (map channel_of part.outs)
  pub events : IsApart key_of part.events
