use Rattle.std.proofs.Common.{◌∙◌}
use Rattle.sync_core.specs.Cores.{core_of}
use Rattle.sync_core.proofs.Lists.{safe_is}
use Rattle.sync_core.proofs.core_parts.Core.safe_bound.Goals as goal

pub returns : goal.returns
returns g c = c.least_low_of.ensures ∙ safe_is (core_of c.self.inside.parts) c.args.self.now c.as_slice.result.now c.self.view_is c.as_slice.ensures.value
