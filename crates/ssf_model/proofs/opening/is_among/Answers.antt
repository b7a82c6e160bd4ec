use Rattle.std.proofs.Common.{IsTrue, Bool, sym, subst, ◌↔◌}
use Rattle.event_order.specs.Pending.{Among}
use Rattle.ssf_model.proofs.Finding.{found_iff}
use Rattle.ssf_model.proofs.opening.is_among.Goals as goal

pub returns : goal.returns
returns c =
    subst (λ (b : Bool). IsTrue b ↔ Among c.args.channel c.args.rising.now) (sym c.is_ok.ensures.value)
    (found_iff c.args.rising.now c.args.channel c.binary_search.result c.requires c.binary_search.ensures.position)
