use Rattle.std.proofs.Common.{◌≡◌, map, take}
use Rattle.sync_core.specs.Cores.{first_mail_of}
use Rattle.sync_core.proofs.core_parts.mails_of.Given as goal

abbrev pub invariant-loop-timeline : goal.invariant-loop-timeline
invariant-loop-timeline g l = l.mails.items ≡ map first_mail_of (take l.timeline-index l.fn.timelines)
