use Rattle.appointments.proofs.Rows.{mail_here, mail_put, mail_stays}
use Rattle.appointments.proofs.mail.Mail.take.Goals as goal

pub returns-clause-parcel : goal.returns-clause-parcel
returns-clause-parcel g c =
    let old = mail_here c.args.self.now c.self.inside.channels.items c.deref.result.now c.self.inside.rows.items c.args.channel c.place_of-place.result c.index_mut.result.now c.self.view_is c.self.invariant c.deref.ensures.value c.place_of-place.ensures c.index_mut.ensures.value in
    rw old c.take.ensures.parcel

pub returns-clause-mail : goal.returns-clause-mail
returns-clause-mail g c =
    let old = mail_here c.args.self.now c.self.inside.channels.items c.deref.result.now c.self.inside.rows.items c.args.channel c.place_of-place.result c.index_mut.result.now c.self.view_is c.self.invariant c.deref.ensures.value c.place_of-place.ensures c.index_mut.ensures.value in
    let new = mail_put c.self.inside.channels.items c.deref.result.now c.self.inside.rows.items c.args.channel c.place_of-place.result c.take.new.self c.self.invariant c.deref.ensures.value c.place_of-place.ensures in
    rw (new, old) c.take.ensures.mail

pub returns-clause-others : goal.returns-clause-others
returns-clause-others g c = mail_stays c.args.self.now c.self.inside.channels.items c.deref.result.now c.self.inside.rows.items c.args.channel c.place_of-place.result c.take.new.self c.self.view_is c.deref.ensures.value c.place_of-place.ensures
