-- What the search is asked with is in range, and the table by the lesser of two labels is the table of
-- least routes.
use Rattle.std.proofs.Common.{◌≡◌, ℕ, ◌+◌, ◌<◌, ◌≤◌, ◌⊎◌, List, length, get_or, slice_index, Option, Some, None, inl, inr, sym, ap, subst, ◌∙◌, arith, Vec, Global}
use Rattle.std.specs.Prelude.{Contains}
use Rattle.std.proofs.lemmas.Option.{slice_get-get_or}
use Rattle.std.proofs.lemmas.List.Elements.{All-contains, Contains-get_or}
use Rattle.spf_routes.specs.declared.graph.Arm.{Arm}
use Rattle.spf_routes.specs.declared.graph.Graph.{Graph}
use Rattle.spf_routes.specs.declared.graph.Route.{Route}
use Rattle.spf_routes.specs.declared.search.Label.{Label}
use Rattle.spf_routes.specs.declared.search.Edge.{Edge}
use Rattle.spf_routes.specs.declared.search.Start.{Start}
use Rattle.spf_routes.specs.Best.{route_at}
use Rattle.spf_routes.specs.Walks.{Reaches, IsAtMost, IsLeast, label_of, IsTable, IsGraph}
use Rattle.spf_routes.specs.Paths.{best_at, IsEdge, AreStarts, AreEdges}
use Rattle.spf_routes.specs.Arms.{IsLesser, AreDirect, AreEntries, AreArms, AreRoutes}
use Rattle.spf_routes.proofs.Queues.{at_most_trans}
use Rattle.spf_routes.proofs.Reaching.{IsFound}
use Rattle.spf_routes.proofs.Walking.{reaches_by, reaches_alone, cases_reached}

module _ (graph : Graph) (from nodes : ℕ) (g : IsGraph graph) (all_nodes : nodes ≡ length graph.blocks + graph.hosts) where
  host_of : (a : Arm) → Contains graph.arms a → a.host < graph.hosts
  host_of a known = All-contains (λ (arm : Arm). arm.host < graph.hosts) graph.arms a g.hosts known

  cost_at_most : (a : Arm) → Contains graph.arms a → a.cost ≤ 65535
  cost_at_most a known = All-contains (λ (arm : Arm). arm.cost ≤ 65535) graph.arms a g.costs known

  link_of : (a : Arm) → Contains graph.arms a → a.link < length graph.blocks
  link_of a known = All-contains (λ (arm : Arm). arm.link < length graph.blocks) graph.arms a g.links known

  pub starts_fit : (starts : List Start) → AreEntries graph.arms from (length graph.blocks) starts → AreStarts starts nodes
  starts_fit starts ins = λ k d lt.
      let w = ins.walked (get_or starts k d).label (get_or starts k d).node (Contains-get_or starts k d lt) in
      (omega (arith, w.3, host_of w.1 w.2.second), omega (arith, ap (λ (l : Label). l.cost) w.4, cost_at_most w.0 w.2.first))

  pub edges_fit : (edges : List (Vec Edge Global)) → AreArms graph.arms (length graph.blocks) nodes edges → AreEdges edges
  edges_fit edges net = λ k d lt j e lt_row.
      let row : Vec Edge Global = get_or edges k d in
      let edge : Edge = get_or row.items j e in
      let is : IsEdge edges k edge = (row, slice_get-get_or edges k d lt, Contains-get_or row.items j e lt_row) in
      let a = net.from_arms k edge is in
      let fits : Edge → Type 0 = λ (x : Edge). (x.to < length edges) × (x.weight ≤ 65535) in
      elim a.3 [
        | inl out ↦ subst fits (sym out.1) (omega (arith, link_of a.0 a.1, net.as_many), cost_at_most a.0 a.1)
        | inr back ↦ subst fits (sym back.1) (omega (arith, host_of a.0 a.1, net.as_many), omega arith)
      ]

module _ (graph : Graph) (from : ℕ) (direct best : List (Option Label)) (g : IsGraph graph) (alones : AreDirect graph.arms from (length graph.blocks) direct) (found : IsFound graph.arms from (length graph.blocks) best) where
  -- whatever reaches a link has a label there that is no more
  known_at : (link : ℕ) (label : Label) → Reaches graph.arms from link label → (link < length graph.blocks) × (((b : Label) × (best_at direct link ≡ Some b) × IsAtMost b label) ⊎ ((b : Label) × (best_at best link ≡ Some b) × IsAtMost b label))
  known_at link label h = elim (cases_reached graph.arms from g.relays link label h) [
    | inl one ↦
        let low : one.arm.link < length graph.blocks = All-contains (λ (arm : Arm). arm.link < length graph.blocks) graph.arms one.arm g.links one.known in
        let least = alones.least one.arm one.known one.begins in
        (subst (λ l. l < length graph.blocks) one.on_link low, inl (least.0, ap (best_at direct) (sym one.on_link) ∙ least.1, subst (IsAtMost least.0) (sym one.is) least.2))
    | inr by ↦
        let low : by.arm.link < length graph.blocks = All-contains (λ (arm : Arm). arm.link < length graph.blocks) graph.arms by.arm g.links by.known in
        let least = found.least by.arm by.label by.known by.relays by.there in
        (subst (λ l. l < length graph.blocks) by.on_link low, inr (least.0, ap (best_at best) (sym by.on_link) ∙ least.1, subst (IsAtMost least.0) (sym by.is) least.2))
  ]

  least_at : (link : ℕ) (r : Label) → link < length graph.blocks → IsLesser (best_at direct link) (best_at best link) (Some r) → IsLeast graph.arms from link r
  least_at link r lt lesser = record {
    walked = elim lesser.one [
      | inl is ↦
          let w = alones.walked link r (sym is) in
          reaches_alone graph.arms from link r (record { arm = w.0; known = w.1; begins = w.2; on_link = w.3; is = w.4 })
      | inr is ↦ reaches_by graph.arms from link r (found.walked link r lt (sym is))
    ];
    least = λ other h. elim (known_at link other h).1 [
      | inl one ↦ let below = rw one.1 at lesser.first in at_most_trans r one.0 other below one.2
      | inr by ↦ let below = rw by.1 at lesser.second in at_most_trans r by.0 other below by.2
    ];
  }

  none_at : (link : ℕ) (label : Label) → Reaches graph.arms from link label → IsLesser (best_at direct link) (best_at best link) None → ⊥
  none_at link label h lesser = elim (known_at link label h).1 [
    | inl one ↦ let below = rw one.1 at lesser.first in below
    | inr by ↦ let below = rw by.1 at lesser.second in below
  ]

  pub is_table : (routes : List Route) (links : List ℕ) → AreRoutes graph.blocks direct best (length graph.blocks) routes links → IsTable graph from routes
  is_table routes links h = record {
    links = links;
    in_order = h.in_order;
    as_many = h.as_many;
    least = λ k lt. least_at (slice_index links k) (label_of (route_at routes k)) (h.there k (omega (arith, h.as_many))) (h.lesser k lt);
    block = h.block;
    all_links = λ link label reached. elim (h.all link (known_at link label reached).0) [
      | inl none ↦ absurd (none_at link label reached none)
      | inr there ↦ there
    ];
  }
