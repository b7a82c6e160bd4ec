use Rattle.std.proofs.Common.{map, string_bytes}
use Rattle.ssfnet_top.specs.Answering.{told_text}
use Rattle.ssfnet_top.specs.Ending.{Outside}
use Rattle.command_words.specs.Words.{asked_of_words}
use Rattle.ssfnet_top.specs.Outcome.{offline_of}
use Rattle.ssfnet_top.proofs.Endings.{told_refused, told_line, told_failed, told_well, report_line, report_quiet, report_told}
use Rattle.ssfnet_top.proofs.top.offline.Goals as goal

pub returns-in-Ok-clause-outcome : goal.returns-in-Ok-clause-outcome
returns-in-Ok-clause-outcome g c =
    let before : Outside = record {
      read_faults = g.L.Library.faults c.args.library.now;
      out_faults = g.K.Sink.faults c.args.out.now;
      err_faults = g.J.Sink.faults c.args.err.now;
      out = g.K.Sink.held c.args.out.now;
      err = g.J.Sink.held c.args.err.now;
    } in
    let after : Outside = record {
      read_faults = g.L.Library.faults c.answer.new.library;
      out_faults = g.K.Sink.faults c.answer.new.out;
      err_faults = g.J.Sink.faults c.tell_report.new.err;
      out = g.K.Sink.held c.answer.new.out;
      err = g.J.Sink.held c.tell_report.new.err;
    } in
    let report = (told_text c.answer.new.told) in
    told_well (g.L.Library.files c.args.library.now) (offline_of (asked_of_words (map string_bytes c.args.words.now))) before after report tt c.tell_report.result c.in-Ok.ensures.outcome c.in-Ok.ensures.told
    c.tell_report.ensures

pub returns-clause-outcome : goal.returns-clause-outcome
returns-clause-outcome g c =
    let before : Outside = record {
      read_faults = g.L.Library.faults c.args.library.now;
      out_faults = g.K.Sink.faults c.args.out.now;
      err_faults = g.J.Sink.faults c.args.err.now;
      out = g.K.Sink.held c.args.out.now;
      err = g.J.Sink.held c.args.err.now;
    } in
    let after : Outside = record {
      read_faults = g.L.Library.faults c.answer.new.library;
      out_faults = g.K.Sink.faults c.answer.new.out;
      err_faults = g.J.Sink.faults c.tell.new.err;
      out = g.K.Sink.held c.answer.new.out;
      err = g.J.Sink.held c.tell.new.err;
    } in
    told_refused (g.L.Library.files c.args.library.now) (offline_of (asked_of_words (map string_bytes c.args.words.now))) before after (told_text c.answer.new.told) c.in-Err.refusal c.tell.result c.in-Err.ensures.outcome c.in-Err.ensures.concerns c.in-Err.ensures.unbegun c.in-Err.ensures.nothing c.tell.ensures

pub returns-clause-line : goal.returns-clause-line
returns-clause-line g c =
    told_line c.in-Err.refusal c.tell.result (g.J.Sink.faults c.args.err.now) (g.J.Sink.faults c.tell.new.err) (g.J.Sink.held c.args.err.now) (g.J.Sink.held c.tell.new.err)
    (offline_of (asked_of_words (map string_bytes c.args.words.now))) c.tell.ensures c.in-Err.ensures.concerns

pub returns-in-Ok-clause-line : goal.returns-in-Ok-clause-line
returns-in-Ok-clause-line g c =
    let report = (told_text c.answer.new.told) in
    report_line (offline_of (asked_of_words (map string_bytes c.args.words.now))) report c.tell_report.result _ _ _ _ c.in-Ok.ensures.told
    c.tell_report.ensures

pub returns-in-Ok-clause-quiet : goal.returns-in-Ok-clause-quiet
returns-in-Ok-clause-quiet g c =
    let report = (told_text c.answer.new.told) in
    report_quiet (offline_of (asked_of_words (map string_bytes c.args.words.now))) report c.tell_report.result _ _ _ _ c.in-Ok.ensures.told
    c.tell_report.ensures

pub returns-in-Ok-clause-reported : goal.returns-in-Ok-clause-reported
returns-in-Ok-clause-reported g c =
    let report = (told_text c.answer.new.told) in
    report_told (offline_of (asked_of_words (map string_bytes c.args.words.now))) report c.tell_report.result _ _ _ _ c.in-Ok.ensures.told
    c.tell_report.ensures

pub returns-clause-write : goal.returns-clause-write
returns-clause-write g c =
    told_failed c.in-Err.refusal c.tell.result (g.J.Sink.faults c.args.err.now) (g.J.Sink.faults c.tell.new.err) (g.J.Sink.held c.args.err.now) (g.J.Sink.held c.tell.new.err)
    (g.K.Sink.faults c.args.out.now) (g.K.Sink.faults c.answer.new.out) c.tell.ensures c.in-Err.ensures.write
