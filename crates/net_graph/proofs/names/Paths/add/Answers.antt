use Rattle.std.proofs.Common.{ℕ, List, ap, sym, ◌∙◌}
use Rattle.std.specs.List.{list_any}
use Rattle.net_graph.specs.Names.{same}
use Rattle.net_graph.proofs.NameTables.{list_any-map, seen_added}
use Rattle.net_graph.proofs.names.Paths.add.Goals as goal

pub returns-clause-added : goal.returns-clause-added
returns-clause-added c =
    let keys = c.self.inside.names.keys in let name = c.in_ok-name.name in let now = c.args.self.now in
    let is = c.in_ok-name.ensures.items in
    seen_added (λ k. k.items) (list_any (λ k. same name.items k.items) keys) c.insert.new.self.keys keys now name c.args.path.now c.in_ok-insert.ensures.keys c.self.view_is
    (sym (list_any-map (λ k. k.items) (same name.items) keys) ∙ (ap (list_any (same name.items)) c.self.view_is ∙ (ap (λ (p : List ℕ). list_any (same p) now) is ∙ c.requires))) is
