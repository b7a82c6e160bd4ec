use Rattle.std.proofs.Common.{Bool, false, not, ◌&&◌, refl, ap, sym, ◌∙◌, codes}
use Rattle.net_graph.specs.ListKeys.{is_text}
use Rattle.net_graph.specs.Steps.{walked, host_value_visits}
use Rattle.net_graph.proofs.Walks.{done, host_none}
use Rattle.net_graph.proofs.seen.Seen.host_part.Goals as goal

pub returns-in-Plain-clause-walked : goal.returns-in-Plain-clause-walked
returns-in-Plain-clause-walked c =
    let f = c.args.frequency in let w = c.args.self.now in let x = c.args.attribute.now in let vs = host_value_visits f c.args.host.now c.args.met x.key x.value in
    done f (walked f w vs) w vs refl (ap (host_value_visits f c.args.host.now c.args.met x.key) c.in-Plain.is)

pub returns-then-met-clause-walked : goal.returns-then-met-clause-walked
returns-then-met-clause-walked c =
    let f = c.args.frequency in let w = c.args.self.now in let h = c.args.host.now in let met = c.args.met in let x = c.args.attribute.now in let vs = host_value_visits f h met x.key x.value in
    done f (walked f w vs) w vs refl (ap (host_value_visits f h met x.key) c.in-List.is
    ∙ host_none f h met x.key c.in-List.list (sym c.has_key.ensures ∙ c.if-has_key.false) (ap (λ (b : Bool). is_text (codes "graph") x.key && not b) c.if-met.true ∙ ap (λ (b : Bool). b && false) (sym c.has_key-2.ensures ∙ c.if-has_key-2.true)))

pub returns-clause-walked : goal.returns-clause-walked
returns-clause-walked c =
    let f = c.args.frequency in let w = c.args.self.now in let h = c.args.host.now in let met = c.args.met in let x = c.args.attribute.now in let vs = host_value_visits f h met x.key x.value in
    done f (walked f w vs) w vs refl (ap (host_value_visits f h met x.key) c.in-List.is
    ∙ host_none f h met x.key c.in-List.list (sym c.has_key.ensures ∙ c.if-has_key.false) (ap (λ (b : Bool). b && not met) (sym c.has_key-2.ensures ∙ c.if-has_key-2.false)))
