use Rattle.std.proofs.Common.{◌≡◌, ◌+◌, ◌<◌, ap, arith}
use Rattle.event_order.specs.declared.key.Key.{Key}
use Rattle.pending_queue.specs.declared.tests.Token.{Token}
use Rattle.pending_queue.proofs.TestLemmas.{put_keeps}
use Rattle.pending_queue.proofs.tests.put_in.Goals as goal

pub returns : goal.returns
returns c = put_keeps (λ (t : Token). t.key) (λ (t : Token). t.key.channel < c.args.channel + 1) c.insert.result c.args.queue.now c.insert.new.self _
    c.insert.ensures.items c.insert.ensures.err (omega arith) (λ other b. let h : other.key.channel < c.args.channel = c.requires other b in omega arith)

pub insert-requires : goal.insert-requires
insert-requires c = λ other a e. let h : other.key.channel < c.args.channel = c.requires other a in let same : other.key.channel ≡ c.args.channel = ap (λ (k : Key). k.channel) e in omega arith
