use Rattle.std.proofs.Common.{◌∙◌, ap, map}
use Rattle.timeline_parts.specs.Parts.{channel_of}
use Rattle.sync_core.proofs.Lists.{increasing}
use Rattle.sync_core.proofs.core_parts.mail_of.Goals as goal

pub new-requires : goal.new-requires
new-requires g c = increasing (map channel_of c.args.timeline.now.ins) c.as_slice.result.now (c.as_slice.ensures.value ∙ (c.in_ok-channels.ensures ∙ ap (map channel_of) c.ins.ensures)) c.requires.rising
