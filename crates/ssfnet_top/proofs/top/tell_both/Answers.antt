use Rattle.std.proofs.Common.{◌++◌}
use Rattle.sim_base.specs.Outside.{AppendsPrefix}
use Rattle.ssfnet_top.specs.Outcome.{windows_line}
use Rattle.ssfnet_top.proofs.Pieced.{part_then, if_failed}
use Rattle.ssfnet_top.proofs.top.tell_both.Goals as goal

pub returns-clause-part : goal.returns-clause-part
returns-clause-part g c =
    let old = g.J.Sink.held c.args.err.now in
    let mid = g.J.Sink.held c.write_all.new.sink in
    let new = g.J.Sink.held c.write_windows.new.err in
    let line = windows_line c.args.crossed c.args.last in
    if_failed c.write_windows.result (AppendsPrefix line mid new) (AppendsPrefix (c.args.report.now ++ line) old new)
    (λ part. part_then c.args.report.now line old mid new c.in_ok-write_all.ensures.all part) c.write_windows.ensures.part
