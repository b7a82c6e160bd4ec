use Rattle.std.proofs.Common.{ap, sym, ◌∙◌}
use Rattle.std.specs.List.{position}
use Rattle.net_graph.specs.Names.{same}
use Rattle.net_graph.proofs.NameTables.{position-map}
use Rattle.net_graph.proofs.names.Paths.number_of.Goals as goal

pub returns : goal.returns
returns c = c.get_index_of.ensures.index ∙ (sym (position-map (λ k. k.items) (same c.args.path.now) c.self.inside.names.keys) ∙ ap (position (same c.args.path.now)) c.self.view_is)
