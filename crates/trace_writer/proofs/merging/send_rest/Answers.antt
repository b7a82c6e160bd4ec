use Rattle.std.proofs.Common.{arith}
use Rattle.std.specs.BinaryHeap.{heap_items}
use Rattle.trace_writer.proofs.Writing.{on_err, merged_short, written_none, next_named, next_count, next_written, next_failed}
use Rattle.trace_writer.proofs.merging.send_rest.Goals as goal

pub loop-entry-init : goal.loop-entry-init
loop-entry-init g c = record {
  written = written_none c.args.names.now (g.H.Histories.lists c.args.histories.now) c.args.below (heap_items c.args.heads.now) c.args.gathered.now.items (g.K.Sink.held c.args.sink.now) c.requires.empty c.requires.heads;
  heap = c.requires.heap;
  room = c.requires.room;
  faults = omega arith;
  capacity = omega arith;
  places = omega arith;
}

pub send_record-requires-clause-named : goal.send_record-requires-clause-named
send_record-requires-clause-named g c =
    next_named c.args.names.now (g.H.Histories.lists c.args.histories.now) c.args.below (heap_items c.loop-entry.heads) (heap_items c.take_next.new.heap) c.loop-entry.gathered.items (g.K.Sink.held c.args.sink.now) (g.K.Sink.held c.loop-entry.sink) c.loop-entry.count c.in-Some.entry.now
    c.requires.histories c.loop-entry.invariant.written c.in-Some.ensures.next

pub returns-in_err-send_record-clause-part : goal.returns-in_err-send_record-clause-part
returns-in_err-send_record-clause-part g c =
    on_err c.from_residual.result _ (next_failed c.args.names.now (g.H.Histories.lists c.args.histories.now) c.args.below (heap_items c.loop-entry.heads) (heap_items c.take_next.new.heap) c.loop-entry.gathered.items (g.K.Sink.held c.args.sink.now) (g.K.Sink.held c.loop-entry.sink) (g.K.Sink.held c.send_record.new.sink)
    c.loop-entry.count c.in-Some.entry.now c.loop-entry.invariant.written c.in-Some.ensures.next c.in_err-send_record.ensures.part)

pub overflow_add-count : goal.overflow_add-count
overflow_add-count g c =
    let less = next_count c.args.names.now (g.H.Histories.lists c.args.histories.now) c.args.below (heap_items c.loop-entry.heads) (heap_items c.take_next.new.heap) c.loop-entry.gathered.items (g.K.Sink.held c.args.sink.now) (g.K.Sink.held c.loop-entry.sink) c.loop-entry.count c.in-Some.entry.now
    c.loop-entry.invariant.written c.in-Some.ensures.next in
    let short = merged_short (g.H.Histories.lists c.args.histories.now) c.args.below in
    let few = c.requires.histories.few in
    omega arith

pub loop-entry-preserved : goal.loop-entry-preserved
loop-entry-preserved g c =
    let old = c.loop-entry.invariant in
    let room = c.loop-entry.invariant.room in
    let places = c.loop-entry.invariant.places in
    let faults = c.loop-entry.invariant.faults in
    let capacity = c.loop-entry.invariant.capacity in
    let len = c.take_next.ensures.len in
    let kept = c.take_next.ensures.capacity in
    let line = c.send_record.ensures.capacity in
    let never = c.send_record.ensures.never_falls in
    record {
      written = next_written c.args.names.now (g.H.Histories.lists c.args.histories.now) c.args.below (heap_items c.loop-entry.heads) (heap_items c.take_next.new.heap) c.loop-entry.gathered.items c.send_record.new.gathered.items (g.K.Sink.held c.args.sink.now) (g.K.Sink.held c.loop-entry.sink) (g.K.Sink.held c.send_record.new.sink)
          c.loop-entry.count c.in-Some.entry.now c.loop-entry.invariant.written c.in-Some.ensures.next c.in_ok-send_record.ensures.sent;
      heap = c.take_next.ensures.heap;
      room = omega arith;
      faults = omega arith;
      capacity = omega arith;
      places = omega arith;
    }
