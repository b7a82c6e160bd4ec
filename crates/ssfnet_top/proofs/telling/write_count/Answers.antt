use Rattle.std.proofs.Common.{◌++◌, ◌∙◌, List, ℕ, decimal, subst}
use Rattle.sim_base.specs.Outside.{AppendsPrefix}
use Rattle.ssfnet_top.proofs.Pieced.{part_then, if_failed}
use Rattle.ssfnet_top.proofs.telling.write_count.Goals as goal

pub returns-clause-part : goal.returns-clause-part
returns-clause-part g c =
    let old = g.J.Sink.held c.args.err.now in
    let mid = g.J.Sink.held c.write_all.new.sink in
    let new = g.J.Sink.held c.write_all-2.new.sink in
    if_failed c.write_all-2.result (AppendsPrefix c.as_bytes.result.now mid new) (AppendsPrefix (c.args.front.now ++ decimal c.args.count) old new)
    (λ part. part_then c.args.front.now (decimal c.args.count) old mid new c.in_ok-write_all.ensures.all
    (subst (λ (t : List ℕ). AppendsPrefix t mid new) (c.as_bytes.ensures.value ∙ c.format.ensures.text) part)) c.write_all-2.ensures.part
