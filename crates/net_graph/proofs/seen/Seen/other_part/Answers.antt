use Rattle.std.proofs.Common.{refl, sym, ◌∙◌}
use Rattle.net_graph.specs.Steps.{walked}
use Rattle.net_graph.specs.Visits.{other_visits}
use Rattle.net_graph.proofs.Walks.{done, other_none}
use Rattle.net_graph.proofs.seen.Seen.other_part.Goals as goal

pub returns-else-has_key-3-clause-walked : goal.returns-else-has_key-3-clause-walked
returns-else-has_key-3-clause-walked c =
    let f = c.args.frequency in let w = c.args.self.now in let vs = other_visits f c.args.path.now c.args.attribute.now.key c.args.list.now in
    done f (walked f w vs) w vs refl (other_none f c.args.path.now c.args.attribute.now.key c.args.list.now
    (sym c.has_key.ensures ∙ c.if-has_key.false) (sym c.has_key-else-has_key.ensures ∙ c.if-has_key-2.false) (sym c.has_key-else-has_key-2.ensures ∙ c.if-has_key-3.false))
