use Rattle.ssfnet_top.proofs.Weights.{few_tokens}
use Rattle.ssfnet_top.proofs.model.plan_model.Goals as goal

pub plan_resolved-requires : goal.plan_resolved-requires
plan_resolved-requires c = few_tokens _ c.in-Ok.ensures.small
