use Rattle.std.proofs.Common.{ap, sym, ◌∙◌}
use Rattle.std.specs.List.{list_any}
use Rattle.net_graph.specs.Names.{same}
use Rattle.net_graph.proofs.NameTables.{list_any-map}
use Rattle.net_graph.proofs.names.Paths.has.Goals as goal

pub returns : goal.returns
returns c = c.contains.ensures ∙ (sym (list_any-map (λ k. k.items) (same c.args.path.now) c.self.inside.names.keys) ∙ ap (list_any (same c.args.path.now)) c.self.view_is)
