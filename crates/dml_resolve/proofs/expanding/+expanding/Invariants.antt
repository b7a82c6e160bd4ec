use Rattle.std.proofs.Common.{◌≡◌, ◌≤◌, ◌+◌, ◌-◌, ◌*◌, drop, length}
use Rattle.dml_tree.specs.Attributes.{weight}
use Rattle.dml_tree.specs.TreeView.{tree_of}
use Rattle.dml_resolve.specs.Resolving.{expand_entries}
use Rattle.dml_resolve.specs.Members.{entries_of, inner_weight, weight_at}
use Rattle.dml_resolve.proofs.Expansions.{onto}
use Rattle.dml_resolve.proofs.expanding.+expanding.Given as goal

abbrev pub decreases-expand : goal.decreases-expand
decreases-expand l = 2 * (l.left * (weight l.root.now + 1) + weight l.written.now)

abbrev pub decreases-value_of : goal.decreases-value_of
decreases-value_of l = 2 * (l.member.now.left * (weight l.root.now + 1) + inner_weight l.member.now) + 1

abbrev pub invariant-expand-loop-member : goal.invariant-expand-loop-member
invariant-expand-loop-member l = record {
  tree : onto (tree_of l.attributes.items) (expand_entries (entries_of l.root (drop l.member-index l.member-items)) l.counter.counted) ≡ expand_entries (entries_of l.root l.member-items) l.initial.counter.counted;
  counted : l.fn.counter.counted + weight_at l.is_root (tree_of l.attributes.items) + (length l.member-items - l.member-index) ≤ l.counter.counted;
}
