-- A part of a run in a table, as the rules see it.
use Rattle.share_turns.specs.declared.share.Share.{Share}
use Rattle.share_turns.specs.declared.share.Share.TheVariants.{Timeline, Mail, Barrier}
use Rattle.share_rules.specs.Places.{ShareOf}
use Rattle.share_rules.specs.Places.ShareOf.{timeline, mail, barrier}

module _ {B S P : Type 0} where
  abbrev pub share_of : Share B S P → ShareOf B S P
  share_of (Timeline t) = timeline t
  share_of (Mail m) = mail m
  share_of (Barrier b) = barrier b

  -- which part it is
  abbrev pub IsTimeline : Share B S P → Type 0
  IsTimeline (Timeline t) = Unit {0}
  IsTimeline (Mail m) = ⊥
  IsTimeline (Barrier b) = ⊥

  abbrev pub IsMail : Share B S P → Type 0
  IsMail (Timeline t) = ⊥
  IsMail (Mail m) = Unit {0}
  IsMail (Barrier b) = ⊥

  abbrev pub IsBarrier : Share B S P → Type 0
  IsBarrier (Timeline t) = ⊥
  IsBarrier (Mail m) = ⊥
  IsBarrier (Barrier b) = Unit {0}
