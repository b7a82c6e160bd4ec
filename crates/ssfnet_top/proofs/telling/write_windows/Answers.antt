use Rattle.sim_base.specs.Outside.{AppendsPrefix}
use Rattle.ssfnet_top.specs.Outcome.{windows_line}
use Rattle.ssfnet_top.proofs.Pieced.{last_piece, cut_in_crossed, cut_in_last, if_failed, failed_with}
use Rattle.ssfnet_top.proofs.telling.write_windows.Goals as goal

pub returns-in_err-write_count-clause-part : goal.returns-in_err-write_count-clause-part
returns-in_err-write_count-clause-part g c =
    failed_with c.from_residual.result _ (cut_in_crossed c.args.crossed c.args.last (g.J.Sink.held c.args.err.now) (g.J.Sink.held c.write_count.new.err) c.in_err-write_count.ensures.part)

pub returns-clause-part : goal.returns-clause-part
returns-clause-part g c =
    let old = g.J.Sink.held c.args.err.now in
    let mid = g.J.Sink.held c.write_count.new.err in
    let new = g.J.Sink.held c.write_last.new.err in
    if_failed c.write_last.result (AppendsPrefix (last_piece c.args.crossed c.args.last) mid new) (AppendsPrefix (windows_line c.args.crossed c.args.last) old new)
    (λ part. cut_in_last c.args.crossed c.args.last old mid new c.in_ok-write_count.ensures.all part) c.write_last.ensures.part
