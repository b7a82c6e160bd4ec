use Rattle.ssfnet_top.proofs.DoneWell.{done_well}
use Rattle.ssfnet_top.proofs.laws.what_is_due_well_is_done.Goals as goal

pub returns : goal.returns
returns c = λ files asked due status before after is well ends read out err going.
    done_well asked due status before after (record { read = read; out = out; err = err }) files going is well ends
