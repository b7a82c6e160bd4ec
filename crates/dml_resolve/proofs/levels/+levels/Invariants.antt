use Rattle.std.proofs.Common.{◌≡◌, ◌≤◌, ◌+◌, ◌*◌, List, ℕ, Bor, drop, map, All}
use Rattle.std.specs.Prelude.{IfSome}
use Rattle.dml_tree.specs.Attributes.{weight}
use Rattle.dml_tree.specs.TreeView.{tree_of}
use Rattle.dml_resolve.specs.Resolving.{named_from, level}
use Rattle.dml_resolve.specs.Members.{entries_of, adds, IsKeysOf, IsWithin, IsSmall}
use Rattle.dml_resolve.proofs.LevelSteps.{levels}
use Rattle.dml_resolve.proofs.levels.+levels.Given as goal

abbrev pub decreases-follow : goal.decreases-follow
decreases-follow l = 4 * l.left

abbrev pub decreases-add : goal.decreases-add
decreases-add l = 4 * l.left + 1

abbrev pub decreases-level : goal.decreases-level
decreases-level l = 4 * l.left + 2

abbrev pub decreases-named : goal.decreases-named
decreases-named l = 4 * l.left + 3

abbrev pub invariant-level-loop-attribute : goal.invariant-level-loop-attribute
invariant-level-loop-attribute l = record {
  level : adds (entries_of l.root l.members.items) (levels l.root l.left l.is_root l.written (tree_of (drop l.attribute-index l.attribute-items)) l.counter.counted) ≡ levels l.root l.left l.is_root l.written (tree_of l.attribute-items) l.initial.counter.counted;
  rises : l.initial.counter.counted ≤ l.counter.counted;
  within : All (IsWithin l.root l.left l.written l.is_root) l.members.items;
  keys : IfSome l.keys (IsKeysOf l.written);
}

abbrev pub invariant-named-loop-component : goal.invariant-named-loop-component
invariant-named-loop-component l = record {
  named : named_from l.place (level l.root l.left) (map (λ (component : Bor (List ℕ)). component.now) (drop l.component-index l.others)) (entries_of l.root l.found.items) l.counter.counted ≡ named_from l.place (level l.root l.left) (map (λ (component : Bor (List ℕ)). component.now) l.others) (entries_of l.root l.initial.found.items) l.initial.counter.counted;
  rises : l.initial.counter.counted ≤ l.counter.counted;
  small : All (IsSmall (weight l.root)) l.found.items;
}
