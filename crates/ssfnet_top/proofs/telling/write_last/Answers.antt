use Rattle.std.proofs.Common.{◌++◌, ◌∷◌, [], List, ℕ, decimal, subst, append_assoc}
use Rattle.sim_base.specs.Outside.{AppendsPrefix}
use Rattle.ssfnet_top.proofs.Pieced.{part_then, if_failed}
use Rattle.ssfnet_top.proofs.telling.write_last.Goals as goal

pub returns-clause-part : goal.returns-clause-part
returns-clause-part g c =
    let old = g.J.Sink.held c.args.err.now in
    let mid = g.J.Sink.held c.write_count.new.err in
    let new = g.J.Sink.held c.write_all.new.sink in
    let front = c.args.front.now in
    let digits = decimal c.args.count in
    if_failed c.write_all.result (AppendsPrefix (10 ∷ []) mid new) (AppendsPrefix (front ++ (digits ++ 10 ∷ [])) old new)
    (λ part. subst (λ (t : List ℕ). AppendsPrefix t old new) (append_assoc front digits (10 ∷ []))
    (part_then (front ++ digits) (10 ∷ []) old mid new c.in_ok-write_count.ensures.all part)) c.write_all.ensures.part
