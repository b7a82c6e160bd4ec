use Rattle.std.proofs.Common.{◌≡◌, replicate}
use Rattle.appointments.specs.Mails.{no_mail}
use Rattle.appointments.proofs.mail.Mail.new.Given as goal

abbrev pub invariant-loop-channel : goal.invariant-loop-channel
invariant-loop-channel g l = l.rows.items ≡ replicate l._channel-index (no_mail {P = g.row.P.Denot})
