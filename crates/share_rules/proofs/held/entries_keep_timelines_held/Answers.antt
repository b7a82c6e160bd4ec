use Rattle.share_rules.specs.HomeLaws.{covers_more}
use Rattle.share_rules.proofs.Moving.{entered_held}
use Rattle.share_rules.proofs.held.entries_keep_timelines_held.Goals as goal

pub returns-clause-held : goal.returns-clause-held
returns-clause-held g c = λ b key. entered_held (g.B.Behaviour.valid b) (g.B.Behaviour.carried b) (g.B.Behaviour.reaction b) (g.met.B.Behaviour.sound b) (g.met.B.Behaviour.modest b) key

pub returns-clause-noted : goal.returns-clause-noted
returns-clause-noted g c = λ key n i window t q. record { posted = q.posted; taken = q.taken }

pub returns-clause-more : goal.returns-clause-more
returns-clause-more g c = λ b key bar i done more up passed plan until kept line net fits in_time at v on sound w x window. covers_more _ i w done more up (passed plan until kept line net fits in_time at v on sound w x window)
