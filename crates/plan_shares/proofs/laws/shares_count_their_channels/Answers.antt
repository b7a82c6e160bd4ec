use Rattle.plan_shares.specs.Shares.{channels_on}
use Rattle.plan_shares.proofs.Channels.{counted_writer, writer_counted, counted_as}
use Rattle.plan_shares.proofs.laws.shares_count_their_channels.Goals as goal

pub returns-clause-channels : goal.returns-clause-channels
returns-clause-channels g c = λ plan lines threshold i channel. (counted_writer plan lines i channel, writer_counted plan lines i channel)

pub returns-clause-counts : goal.returns-clause-counts
returns-clause-counts g c = λ plan lines threshold i channel among. counted_as plan.counts (channels_on plan lines i) channel among
