use Rattle.std.proofs.Common.{sym, subst}
use Rattle.sim_base.specs.Outside.{AppendsPrefix}
use Rattle.trace_writer.specs.Trace.{entries_text}
use Rattle.trace_writer.specs.Merging.{merged}
use Rattle.core_traces.specs.Kept.{histories_of}
use Rattle.worker_run.specs.Going.{piece_bound}
use Rattle.worker_run.proofs.running.write_next.Goals as goal

pub returns-then-last-clause-part : goal.returns-then-last-clause-part
returns-then-last-clause-part g c failed =
    subst (λ l. AppendsPrefix (entries_text c.args.names.now (merged (histories_of c.args.core.now) (piece_bound l c.args.until c.args.core.now))) (g.K.Sink.held c.args.out.now) (g.K.Sink.held c.write_below.new.sink))
    (sym c.if-last.true) (c.write_below.ensures.part failed)

pub returns-else-last-clause-part : goal.returns-else-last-clause-part
returns-else-last-clause-part g c failed =
    subst (λ l. AppendsPrefix (entries_text c.args.names.now (merged (histories_of c.args.core.now) (piece_bound l c.args.until c.args.core.now))) (g.K.Sink.held c.args.out.now) (g.K.Sink.held c.write_piece.new.sink))
    (sym c.if-last.false) (c.write_piece.ensures.part failed)
