use Rattle.net_resolve.proofs.found.Found.interface_at.Goals as goal

pub returns-clause-there : goal.returns-clause-there
returns-clause-there c = c.named.ensures.there
