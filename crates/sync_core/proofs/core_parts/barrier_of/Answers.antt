use Rattle.std.proofs.Common.{◌∙◌, map}
use Rattle.core_rules.specs.Cores.{channel_in}
use Rattle.sync_core.proofs.Lists.{increasing}
use Rattle.sync_core.proofs.core_parts.barrier_of.Goals as goal

pub new-requires-clause-rising : goal.new-requires-clause-rising
new-requires-clause-rising c = increasing (map channel_in c.args.ends.now) c.as_slice.result.now (c.as_slice.ensures.value ∙ c.in_ok-channels.ensures) c.requires.rising
