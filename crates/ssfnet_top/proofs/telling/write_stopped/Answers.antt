use Rattle.std.proofs.Common.{ℕ, subst, OnOk, OnErr}
use Rattle.sim_base.specs.Outside.{Appends, AppendsPrefix}
use Rattle.ssfnet_top.specs.declared.refusal.Refusal.TheVariants as refusal
use Rattle.ssfnet_top.specs.Outcome.{refusal_line}
use Rattle.ssfnet_top.proofs.Pieced.{below_piece, all_of_stop, cut_in_worker, cut_in_below, if_done, if_failed, failed_with}
use Rattle.ssfnet_top.proofs.telling.write_stopped.Goals as goal

pub returns-in_err-write_count-clause-part : goal.returns-in_err-write_count-clause-part
returns-in_err-write_count-clause-part g c =
    let old = g.J.Sink.held c.args.err.now in
    let new = g.J.Sink.held c.write_count.new.err in
    let told = λ (n : ℕ). OnErr c.from_residual.result (AppendsPrefix (refusal_line (refusal.Stopped n c.args.below)) old new) in
    subst told c.from.ensures (failed_with c.from_residual.result _ (cut_in_worker c.from.result c.args.below old old new c.in_err-write_count.ensures.part))

pub returns-clause-all : goal.returns-clause-all
returns-clause-all g c =
    let old = g.J.Sink.held c.args.err.now in
    let mid = g.J.Sink.held c.write_count.new.err in
    let new = g.J.Sink.held c.write_last.new.err in
    let told = λ (n : ℕ). OnOk c.write_last.result (Appends (refusal_line (refusal.Stopped n c.args.below)) old new) in
    subst told c.from.ensures (if_done c.write_last.result (Appends (below_piece c.from.result c.args.below) mid new) (Appends (refusal_line (refusal.Stopped c.from.result c.args.below)) old new)
    (λ all. all_of_stop c.from.result c.args.below old mid new c.in_ok-write_count.ensures.all all) c.write_last.ensures.all)

pub returns-clause-part : goal.returns-clause-part
returns-clause-part g c =
    let old = g.J.Sink.held c.args.err.now in
    let mid = g.J.Sink.held c.write_count.new.err in
    let new = g.J.Sink.held c.write_last.new.err in
    let told = λ (n : ℕ). OnErr c.write_last.result (AppendsPrefix (refusal_line (refusal.Stopped n c.args.below)) old new) in
    subst told c.from.ensures (if_failed c.write_last.result (AppendsPrefix (below_piece c.from.result c.args.below) mid new) (AppendsPrefix (refusal_line (refusal.Stopped c.from.result c.args.below)) old new)
    (λ part. cut_in_below c.from.result c.args.below old mid new c.in_ok-write_count.ensures.all part) c.write_last.ensures.part)
