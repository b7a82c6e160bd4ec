use Rattle.std.proofs.Common.{◌≡◌, sym, subst}
use Rattle.ssfnet_top.specs.Answering.{IsMade}
use Rattle.ssfnet_top.specs.declared.refusal.Refusal.TheVariants as refusal
use Rattle.ssfnet_top.proofs.Endings.{said_memory, said_write}
use Rattle.ssfnet_top.proofs.top.tell.Goals as goal

pub returns-in-Memory : goal.returns-in-Memory
returns-in-Memory g c =
    let is : c.args.refusal.now ≡ refusal.Memory = c.in-Memory.is in
    said_memory c.args.refusal.now c.say.result _ _ _ _ (subst IsMade (sym is) tt) c.say.ensures

pub returns-in-Write : goal.returns-in-Write
returns-in-Write g c = said_write c.args.refusal.now c.say-in-Write.result _ _ _ _ c.in-Write.is c.say-in-Write.ensures
