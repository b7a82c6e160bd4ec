use Rattle.std.proofs.Common.{◌+◌, ◌<◌, arith}
use Rattle.pending_queue.specs.declared.tests.Token.{Token}
use Rattle.pending_queue.proofs.TestLemmas.{rest_keeps}
use Rattle.pending_queue.proofs.tests.take_from_both.Goals as goal

pub returns : goal.returns
returns c = rest_keeps (λ (t : Token). t.key.channel < c.args.channel + 1) c.take_least-taken.result c.args.queue.now c.take_least-taken.new.self
    c.take_least-taken.ensures.empty c.take_least-taken.ensures.least (λ other a. let h : other.key.channel < c.args.channel = c.requires other a in omega arith)
