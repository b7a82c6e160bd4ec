use Rattle.appointments.proofs.Rows.{mail_here, mail_put, mail_stays}
use Rattle.appointments.proofs.mail.Mail.reserve.Goals as goal

pub returns-clause-mail : goal.returns-clause-mail
returns-clause-mail g c =
    let old = mail_here c.args.self.now c.self.inside.channels.items c.deref.result.now c.self.inside.rows.items c.args.channel c.place_of-place.result c.index_mut.result.now c.self.view_is c.self.invariant c.deref.ensures.value c.place_of-place.ensures c.index_mut.ensures.value in
    let new = mail_put c.self.inside.channels.items c.deref.result.now c.self.inside.rows.items c.args.channel c.place_of-place.result c.reserve.new.self c.self.invariant c.deref.ensures.value c.place_of-place.ensures in
    rw (new, old) c.reserve.ensures.mail

pub returns-clause-spare : goal.returns-clause-spare
returns-clause-spare g c =
    let new = mail_put c.self.inside.channels.items c.deref.result.now c.self.inside.rows.items c.args.channel c.place_of-place.result c.reserve.new.self c.self.invariant c.deref.ensures.value c.place_of-place.ensures in
    rw new c.reserve.ensures.spare

pub returns-clause-no_less : goal.returns-clause-no_less
returns-clause-no_less g c =
    let old = mail_here c.args.self.now c.self.inside.channels.items c.deref.result.now c.self.inside.rows.items c.args.channel c.place_of-place.result c.index_mut.result.now c.self.view_is c.self.invariant c.deref.ensures.value c.place_of-place.ensures c.index_mut.ensures.value in
    let new = mail_put c.self.inside.channels.items c.deref.result.now c.self.inside.rows.items c.args.channel c.place_of-place.result c.reserve.new.self c.self.invariant c.deref.ensures.value c.place_of-place.ensures in
    rw (new, old) c.reserve.ensures.no_less

pub returns-clause-enough : goal.returns-clause-enough
returns-clause-enough g c =
    let old = mail_here c.args.self.now c.self.inside.channels.items c.deref.result.now c.self.inside.rows.items c.args.channel c.place_of-place.result c.index_mut.result.now c.self.view_is c.self.invariant c.deref.ensures.value c.place_of-place.ensures c.index_mut.ensures.value in
    rw old c.reserve.ensures.enough

pub returns-clause-others : goal.returns-clause-others
returns-clause-others g c = mail_stays c.args.self.now c.self.inside.channels.items c.deref.result.now c.self.inside.rows.items c.args.channel c.place_of-place.result c.reserve.new.self c.self.view_is c.deref.ensures.value c.place_of-place.ensures
