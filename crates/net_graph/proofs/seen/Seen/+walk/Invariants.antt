use Rattle.std.proofs.Common.{◌≡◌, ◌+◌, ◌-◌, ◌*◌, ◌≤◌, drop}
use Rattle.std.specs.List.{flat_map, range_with_len}
use Rattle.dml_tree.specs.Attributes.{weight}
use Rattle.net_graph.specs.Steps.{walked, IsFew, kids}
use Rattle.net_graph.specs.Visits.{net_parts, net_copy}
use Rattle.net_graph.proofs.Walks.{parts_of, value_weight}
use Rattle.net_graph.proofs.seen.Seen.+walk.Given as goal

abbrev pub decreases-parts : goal.decreases-parts
decreases-parts l = 4 * weight l.tree.now

abbrev pub decreases-part : goal.decreases-part
decreases-part l = 4 * value_weight l.attribute.now.value + 3

abbrev pub decreases-nested : goal.decreases-nested
decreases-nested l = 4 * weight l.list.now + 2

abbrev pub decreases-net_copy : goal.decreases-net_copy
decreases-net_copy l = 4 * weight l.list.now + 1

abbrev pub invariant-parts-loop-attribute : goal.invariant-parts-loop-attribute
invariant-parts-loop-attribute l = record {
  walk : walked l.frequency l.initial.self (net_parts l.frequency l.path 0 l.tree) ≡
      walked l.frequency l.self (parts_of l.frequency l.path l.order (drop l.attribute-index l.attribute-items));
  few : IsFew l.self;
  order : l.order ≤ kids l.self;
}

abbrev pub invariant-nested-loop-id : goal.invariant-nested-loop-id
invariant-nested-loop-id l = record {
  walk : walked l.frequency l.initial.self (flat_map (net_copy l.parent (λ ids. net_parts l.frequency ids 0 l.list) l.order l.ids.from) (range_with_len l.ids.from (l.id-end - l.ids.from))) ≡
      walked l.frequency l.self (flat_map (net_copy l.parent (λ ids. net_parts l.frequency ids 0 l.list) l.order l.ids.from) (range_with_len l.id (l.id-end - l.id)));
  few : IsFew l.self;
  order : l.order + (l.id - l.ids.from) ≤ kids l.self;
  end : l.id-end ≡ l.ids.to + 1;
  from : l.ids.from ≤ l.id;
}
