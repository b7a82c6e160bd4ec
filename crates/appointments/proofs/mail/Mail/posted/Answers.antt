use Rattle.std.proofs.Common.{sym, ap, ◌∙◌}
use Rattle.appointments.specs.Mails.{posted_of}
use Rattle.appointments.proofs.Rows.{mail_here}
use Rattle.appointments.proofs.mail.Mail.posted.Goals as goal

pub returns : goal.returns
returns g c = c.posted.ensures ∙ ap (posted_of {P = g.row.P.Denot}) (sym (mail_here c.args.self.now c.self.inside.channels.items c.deref.result.now c.self.inside.rows.items c.args.channel c.place_of.result c.index.result.now c.self.view_is c.self.invariant c.deref.ensures.value c.place_of.ensures c.index.ensures))
