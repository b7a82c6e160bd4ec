use Rattle.std.proofs.Common.{ℕ, subst, OnOk, OnErr}
use Rattle.sim_base.specs.Outside.{Appends, AppendsPrefix}
use Rattle.ssfnet_top.specs.declared.refusal.Refusal.TheVariants as refusal
use Rattle.ssfnet_top.specs.Outcome.{refusal_line}
use Rattle.ssfnet_top.proofs.Pieced.{third_piece, all_pieces, cut_in_first, cut_in_second, cut_in_third, if_done, if_failed, failed_with}
use Rattle.ssfnet_top.proofs.telling.write_timeline.Goals as goal

pub returns-in_err-write_count-clause-part : goal.returns-in_err-write_count-clause-part
returns-in_err-write_count-clause-part g c =
    let old = g.J.Sink.held c.args.err.now in
    let new = g.J.Sink.held c.write_count.new.err in
    let told = λ (n : ℕ). OnErr c.from_residual.result (AppendsPrefix (refusal_line (refusal.TimelineBudget n c.args.budget c.args.below)) old new) in
    subst told c.from.ensures (failed_with c.from_residual.result _ (cut_in_first c.from.result c.args.budget c.args.below old old old new c.in_err-write_count.ensures.part))

pub returns-in_err-write_count-2-clause-part : goal.returns-in_err-write_count-2-clause-part
returns-in_err-write_count-2-clause-part g c =
    let old = g.J.Sink.held c.args.err.now in
    let mid = g.J.Sink.held c.write_count.new.err in
    let new = g.J.Sink.held c.write_count-2.new.err in
    let told = λ (n : ℕ). OnErr c.from_residual-in_err-write_count-2.result (AppendsPrefix (refusal_line (refusal.TimelineBudget n c.args.budget c.args.below)) old new) in
    subst told c.from.ensures (failed_with c.from_residual-in_err-write_count-2.result _
    (cut_in_second c.from.result c.args.budget c.args.below old mid mid new c.in_ok-write_count.ensures.all c.in_err-write_count-2.ensures.part))

pub returns-clause-all : goal.returns-clause-all
returns-clause-all g c =
    let old = g.J.Sink.held c.args.err.now in
    let mid = g.J.Sink.held c.write_count.new.err in
    let next = g.J.Sink.held c.write_count-2.new.err in
    let new = g.J.Sink.held c.write_last.new.err in
    let told = λ (n : ℕ). OnOk c.write_last.result (Appends (refusal_line (refusal.TimelineBudget n c.args.budget c.args.below)) old new) in
    subst told c.from.ensures (if_done c.write_last.result (Appends (third_piece c.from.result c.args.budget c.args.below) next new) (Appends (refusal_line (refusal.TimelineBudget c.from.result c.args.budget c.args.below)) old new)
    (λ all. all_pieces c.from.result c.args.budget c.args.below old mid next new c.in_ok-write_count.ensures.all c.in_ok-write_count-2.ensures.all all) c.write_last.ensures.all)

pub returns-clause-part : goal.returns-clause-part
returns-clause-part g c =
    let old = g.J.Sink.held c.args.err.now in
    let mid = g.J.Sink.held c.write_count.new.err in
    let next = g.J.Sink.held c.write_count-2.new.err in
    let new = g.J.Sink.held c.write_last.new.err in
    let told = λ (n : ℕ). OnErr c.write_last.result (AppendsPrefix (refusal_line (refusal.TimelineBudget n c.args.budget c.args.below)) old new) in
    subst told c.from.ensures (if_failed c.write_last.result (AppendsPrefix (third_piece c.from.result c.args.budget c.args.below) next new) (AppendsPrefix (refusal_line (refusal.TimelineBudget c.from.result c.args.budget c.args.below)) old new)
    (λ part. cut_in_third c.from.result c.args.budget c.args.below old mid next new c.in_ok-write_count.ensures.all c.in_ok-write_count-2.ensures.all part) c.write_last.ensures.part)
