use Rattle.net_build.proofs.OneText.{plans_one}
use Rattle.net_build.proofs.laws.plan_texts_are_one.Goals as goal

pub returns : goal.returns
returns c = plans_one
