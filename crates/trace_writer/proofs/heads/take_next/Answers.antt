use Rattle.std.proofs.Common.{refl, arith, length}
use Rattle.std.specs.BinaryHeap.{heap_items}
use Rattle.trace_writer.proofs.Writing.{head_sound, head_within, next_step, none_step}
use Rattle.trace_writer.proofs.heads.take_next.Goals as goal

pub returns-in_err-head-clause-next : goal.returns-in_err-head-clause-next
returns-in_err-head-clause-next g c =
    let lists = g.H.Histories.lists c.args.histories.now in
    let none = c.in_err-head.ensures.none in
    rw c.from_residual.ensures (none_step lists c.args.below (length lists) (heap_items c.args.heap.now) c.requires.order refl (omega arith))

pub history-entries-requires : goal.history-entries-requires
history-entries-requires g c =
    let lists = g.H.Histories.lists c.args.histories.now in
    head_sound lists c.args.below (length lists) (heap_items c.args.heap.now) (heap_items c.pop.new.self) c.in_ok-head.field-0 c.requires.heads c.in_ok-head.ensures.permutation

pub bounds-entries-head : goal.bounds-entries-head
bounds-entries-head g c =
    let lists = g.H.Histories.lists c.args.histories.now in
    head_within lists c.args.below (length lists) (heap_items c.args.heap.now) (heap_items c.pop.new.self) c.in_ok-head.field-0 c.history-entries.result.now c.requires.heads c.in_ok-head.ensures.permutation c.history-entries.ensures

pub offset_bounds-entries-head : goal.offset_bounds-entries-head
offset_bounds-entries-head g c =
    let lists = g.H.Histories.lists c.args.histories.now in
    let within = head_within lists c.args.below (length lists) (heap_items c.args.heap.now) (heap_items c.pop.new.self) c.in_ok-head.field-0 c.history-entries.result.now c.requires.heads c.in_ok-head.ensures.permutation c.history-entries.ensures in
    omega arith

pub overflow_add-head : goal.overflow_add-head
overflow_add-head g c =
    let lists = g.H.Histories.lists c.args.histories.now in
    let within = head_within lists c.args.below (length lists) (heap_items c.args.heap.now) (heap_items c.pop.new.self) c.in_ok-head.field-0 c.history-entries.result.now c.requires.heads c.in_ok-head.ensures.permutation c.history-entries.ensures in
    omega arith

pub add_head-requires-clause-history : goal.add_head-requires-clause-history
add_head-requires-clause-history g c =
    let lists = g.H.Histories.lists c.args.histories.now in
    head_sound lists c.args.below (length lists) (heap_items c.args.heap.now) (heap_items c.pop.new.self) c.in_ok-head.field-0 c.requires.heads c.in_ok-head.ensures.permutation

pub returns-clause-next : goal.returns-clause-next
returns-clause-next g c =
    let lists = g.H.Histories.lists c.args.histories.now in
    next_step lists c.args.below (length lists) (heap_items c.args.heap.now) (heap_items c.pop.new.self) (heap_items c.add_head.new.heap) c.in_ok-head.field-0 c.history-entries.result.now c.index-entries-head.result
    c.requires.order refl c.in_ok-head.ensures.permutation (c.in_ok-head.ensures.heap_order c.requires.heap).1 c.history-entries.ensures c.index-entries-head.is c.add_head.ensures.items
