use Rattle.std.proofs.Common.{map, string_bytes}
use Rattle.ssfnet_top.specs.Outcome.{resolved_of, IsPlan}
use Rattle.ssfnet_top.proofs.Endings.{sent_answer}
use Rattle.ssfnet_top.proofs.planning.print_plan.Goals as goal

pub returns-clause-due : goal.returns-clause-due
returns-clause-due g c =
    sent_answer (IsPlan (resolved_of (map string_bytes c.args.names.now) c.args.tree.now)) c.files_plan.result c.write_answer.result
    (g.K.Sink.faults c.args.out.now) (g.K.Sink.faults c.write_answer.new.out) (g.K.Sink.held c.args.out.now) (g.K.Sink.held c.write_answer.new.out)
    c.files_plan.ensures.text c.files_plan.ensures.cause c.write_answer.ensures.all c.write_answer.ensures.part c.write_answer.ensures.cause c.write_answer.ensures.refused
