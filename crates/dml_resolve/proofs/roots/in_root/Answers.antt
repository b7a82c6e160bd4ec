use Rattle.std.proofs.Common.{◌≡◌, Bor, [], map, filter, ap, sym, ◌∙◌}
use Rattle.std.specs.Option.{option_copied}
use Rattle.dml_tree.specs.declared.tree.Attribute.{Attribute}
use Rattle.dml_tree.specs.Attributes.{Attributes}
use Rattle.dml_tree.specs.TreeView.{attributes}
use Rattle.dml_resolve.specs.Roots.{is_plain}
use Rattle.dml_resolve.proofs.Expansions.{if_ok}
use Rattle.dml_resolve.proofs.RootSteps.{items_of, root_entries, root_small}
use Rattle.dml_resolve.proofs.roots.in_root.Goals as goal

some_here : (c : goal.After-members_of) → map (λ (attribute : Bor Attribute). attribute.now) c.as_slice.result.now ≡ filter (is_plain c.args.key.now) (attributes c.args.root.now)
some_here c =
    ap (map (λ (attribute : Bor Attribute). attribute.now)) c.as_slice.ensures.value
    ∙ (ap items_of (sym (ap option_copied c.in-Some.is) ∙ c.get.ensures.value)
    ∙ (c.root.invariant c.args.key.now
    ∙ ap (λ (t : Attributes). filter (is_plain c.args.key.now) (attributes t)) c.root.view_is))

pub returns-in-Some-clause-found : goal.returns-in-Some-clause-found
returns-in-Some-clause-found c = if_ok c.members_of.result (λ members e. root_entries c.args.root.now c.args.left c.args.key.now c.as_slice.result.now members.items (some_here c) e) c.members_of.ensures

pub returns-in-Some-clause-small : goal.returns-in-Some-clause-small
returns-in-Some-clause-small c = if_ok c.members_of.result (λ members e. root_small c.args.root.now c.args.left c.args.key.now c.as_slice.result.now members.items (some_here c) e) c.members_of.ensures

pub returns-in-None-clause-found : goal.returns-in-None-clause-found
returns-in-None-clause-found c =
    let none : [] ≡ filter (is_plain c.args.key.now) (attributes c.args.root.now) =
    ap items_of (sym (ap option_copied c.in-None.is) ∙ c.get.ensures.value)
    ∙ (c.root.invariant c.args.key.now
    ∙ ap (λ (t : Attributes). filter (is_plain c.args.key.now) (attributes t)) c.root.view_is) in
    root_entries c.args.root.now c.args.left c.args.key.now [] c.new.result.items none c.new.ensures.items
