use Rattle.std.proofs.Common.{map, string_bytes}
use Rattle.ssfnet_top.specs.Outcome.{resolved_of, counts_of}
use Rattle.ssfnet_top.proofs.Endings.{sent_text}
use Rattle.ssfnet_top.proofs.checking.print_counts.Goals as goal

pub returns-clause-due : goal.returns-clause-due
returns-clause-due g c =
    sent_text (counts_of (resolved_of (map string_bytes c.args.names.now) c.args.tree.now)) c.counts_line.result c.write_answer.result
    (g.K.Sink.faults c.args.out.now) (g.K.Sink.faults c.write_answer.new.out) (g.K.Sink.held c.args.out.now) (g.K.Sink.held c.write_answer.new.out)
    c.counts_line.ensures.line c.counts_line.ensures.cause c.write_answer.ensures.all c.write_answer.ensures.part c.write_answer.ensures.cause c.write_answer.ensures.refused
