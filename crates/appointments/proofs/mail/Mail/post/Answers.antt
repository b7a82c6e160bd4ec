use Rattle.appointments.proofs.Rows.{mail_here, mail_put, mail_stays}
use Rattle.appointments.proofs.mail.Mail.post.Goals as goal

pub returns-clause-ok : goal.returns-clause-ok
returns-clause-ok g c =
    let old = mail_here c.args.self.now c.self.inside.channels.items c.deref.result.now c.self.inside.rows.items c.args.channel c.place_of-place.result c.index_mut.result.now c.self.view_is c.self.invariant c.deref.ensures.value c.place_of-place.ensures c.index_mut.ensures.value in
    let new = mail_put c.self.inside.channels.items c.deref.result.now c.self.inside.rows.items c.args.channel c.place_of-place.result c.post.new.self c.self.invariant c.deref.ensures.value c.place_of-place.ensures in
    rw (new, old) c.post.ensures.ok

pub returns-clause-cause : goal.returns-clause-cause
returns-clause-cause g c =
    let old = mail_here c.args.self.now c.self.inside.channels.items c.deref.result.now c.self.inside.rows.items c.args.channel c.place_of-place.result c.index_mut.result.now c.self.view_is c.self.invariant c.deref.ensures.value c.place_of-place.ensures c.index_mut.ensures.value in
    rw old c.post.ensures.cause

pub returns-clause-room : goal.returns-clause-room
returns-clause-room g c =
    let old = mail_here c.args.self.now c.self.inside.channels.items c.deref.result.now c.self.inside.rows.items c.args.channel c.place_of-place.result c.index_mut.result.now c.self.view_is c.self.invariant c.deref.ensures.value c.place_of-place.ensures c.index_mut.ensures.value in
    rw old c.post.ensures.room

pub returns-clause-never_falls : goal.returns-clause-never_falls
returns-clause-never_falls g c =
    let old = mail_here c.args.self.now c.self.inside.channels.items c.deref.result.now c.self.inside.rows.items c.args.channel c.place_of-place.result c.index_mut.result.now c.self.view_is c.self.invariant c.deref.ensures.value c.place_of-place.ensures c.index_mut.ensures.value in
    let new = mail_put c.self.inside.channels.items c.deref.result.now c.self.inside.rows.items c.args.channel c.place_of-place.result c.post.new.self c.self.invariant c.deref.ensures.value c.place_of-place.ensures in
    rw (new, old) c.post.ensures.never_falls

pub returns-clause-others : goal.returns-clause-others
returns-clause-others g c = mail_stays c.args.self.now c.self.inside.channels.items c.deref.result.now c.self.inside.rows.items c.args.channel c.place_of-place.result c.post.new.self c.self.view_is c.deref.ensures.value c.place_of-place.ensures
