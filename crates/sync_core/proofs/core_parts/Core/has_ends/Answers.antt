use Rattle.sync_core.proofs.Making.{end_joined}
use Rattle.sync_core.proofs.core_parts.Core.has_ends.Goals as goal

pub returns-clause-sender : goal.returns-clause-sender
returns-clause-sender g c =
    let core = c.args.self.now in
    (end_joined (g.B.Behaviour.valid core.behaviour) (g.B.Behaviour.reaction core.behaviour) core c.args.sender c.args.channel c.args.receiver c.requires.may c.requires.found).sender

pub returns-clause-receiver : goal.returns-clause-receiver
returns-clause-receiver g c =
    let core = c.args.self.now in
    (end_joined (g.B.Behaviour.valid core.behaviour) (g.B.Behaviour.reaction core.behaviour) core c.args.sender c.args.channel c.args.receiver c.requires.may c.requires.found).receiver
