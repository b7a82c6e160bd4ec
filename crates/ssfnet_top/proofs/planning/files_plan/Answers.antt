use Rattle.ssfnet_top.proofs.Weights.{few_tokens}
use Rattle.ssfnet_top.proofs.planning.files_plan.Goals as goal

pub model_plan-requires : goal.model_plan-requires
model_plan-requires c = few_tokens _ c.in_ok-resolved.ensures.small
