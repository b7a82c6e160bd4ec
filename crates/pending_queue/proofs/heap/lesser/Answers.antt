use Rattle.std.proofs.Common.{rules}
use Rattle.pending_queue.proofs.HeapLemmas.{read_before, key_read, in_order_itself}
use Rattle.pending_queue.proofs.heap.lesser.Goals as goal

pub returns-then-comes_first-clause-first : goal.returns-then-comes_first-clause-first
returns-then-comes_first-clause-first g c = read_before g.T.Keyed.key_of c.args.items.now c.args.b c.args.a c.key.result c.key-2.result c.comes_first.result
    (key_read g.T.Keyed.key_of c.args.items.now c.args.b c.index-items-b.result c.key.result c.requires.b c.index-items-b.is c.key.ensures)
    (key_read g.T.Keyed.key_of c.args.items.now c.args.a c.index-items-a.result c.key-2.result c.requires.a c.index-items-a.is c.key-2.ensures) c.comes_first.ensures (search rules)

pub returns-then-comes_first-clause-second : goal.returns-then-comes_first-clause-second
returns-then-comes_first-clause-second g c = in_order_itself g.T.Keyed.key_of c.args.items.now c.args.b

pub returns-else-comes_first-clause-first : goal.returns-else-comes_first-clause-first
returns-else-comes_first-clause-first g c = in_order_itself g.T.Keyed.key_of c.args.items.now c.args.a
