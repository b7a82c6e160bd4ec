use Rattle.ssfnet_top.proofs.Endings.{said_memory}
use Rattle.ssfnet_top.proofs.top.tell_cause.Goals as goal

pub returns : goal.returns
returns g c = said_memory c.args.refusal.now c.say-in-Err.result _ _ _ _ c.requires c.say-in-Err.ensures
