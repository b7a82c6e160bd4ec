use Rattle.std.proofs.Common.{◌≡◌, ◌∙◌, ◌+◌, ◌<◌, ◌++◌, ◌∷◌, [], List, length, ap, subst, sym, arith, refl, slice_get, Some, append-nil}
use Rattle.std.specs.Vec.Iter.{into_iter_items}
use Rattle.std.proofs.lemmas.Option.{slice_get_within}
use Rattle.net_graph.specs.Networks.{IsNetwork}
use Rattle.host_rules.specs.declared.rows.HostRows.{HostRows}
use Rattle.net_plan.specs.NetPlan.{IsSoFar}
use Rattle.net_plan.proofs.Adding.{none_yet, row_of, rows_count, get_middle, taken_front, taken_count}
use Rattle.net_plan.proofs.building.add_hosts.Goals as goal

pub loop-row-init : goal.loop-row-init
loop-row-init c = (refl, none_yet c.args.network.now c.args.rows.items c.args.builder.now c.requires.rows c.requires.none)

pub add_host-requires-clause-host : goal.add_host-requires-clause-host
add_host-requires-clause-host c =
    let front = taken_front c.into_iter-row-iterator.result c.loop-row.yielded c.loop-row.row-iterator c.loop-row.yielded_by in
    let all : c.args.rows.items ≡ c.loop-row.yielded ++ c.in-Some.row ∷ into_iter_items c.next.new.self = sym c.into_iter-row-iterator.ensures.into_iter_gives.0 ∙ front ∙ ap (λ (rs : List HostRows). c.loop-row.yielded ++ rs) c.in-Some.ensures.steps.0 in
    let here : slice_get c.args.rows.items c.loop-row.host ≡ Some c.in-Some.row =
    ap (λ (rs : List HostRows). slice_get rs c.loop-row.host) all ∙ ap (λ n. slice_get (c.loop-row.yielded ++ c.in-Some.row ∷ into_iter_items c.next.new.self) n) c.loop-row.invariant.0 ∙ get_middle c.loop-row.yielded (into_iter_items c.next.new.self) c.in-Some.row in
    let within = slice_get_within c.args.rows.items c.loop-row.host c.in-Some.row here in
    let count = rows_count c.args.network.now c.args.rows.items c.requires.rows in
    omega (arith, within, count)

pub add_host-requires-clause-rows : goal.add_host-requires-clause-rows
add_host-requires-clause-rows c =
    let front = taken_front c.into_iter-row-iterator.result c.loop-row.yielded c.loop-row.row-iterator c.loop-row.yielded_by in
    let all : c.args.rows.items ≡ c.loop-row.yielded ++ c.in-Some.row ∷ into_iter_items c.next.new.self = sym c.into_iter-row-iterator.ensures.into_iter_gives.0 ∙ front ∙ ap (λ (rs : List HostRows). c.loop-row.yielded ++ rs) c.in-Some.ensures.steps.0 in
    let here : slice_get c.args.rows.items c.loop-row.host ≡ Some c.in-Some.row =
    ap (λ (rs : List HostRows). slice_get rs c.loop-row.host) all ∙ ap (λ n. slice_get (c.loop-row.yielded ++ c.in-Some.row ∷ into_iter_items c.next.new.self) n) c.loop-row.invariant.0 ∙ get_middle c.loop-row.yielded (into_iter_items c.next.new.self) c.in-Some.row in
    row_of c.args.network.now c.args.rows.items c.loop-row.host c.in-Some.row c.requires.rows here

pub overflow_add-host : goal.overflow_add-host
overflow_add-host c =
    let front = taken_front c.into_iter-row-iterator.result c.loop-row.yielded c.loop-row.row-iterator c.loop-row.yielded_by in
    let all : c.args.rows.items ≡ c.loop-row.yielded ++ c.in-Some.row ∷ into_iter_items c.next.new.self = sym c.into_iter-row-iterator.ensures.into_iter_gives.0 ∙ front ∙ ap (λ (rs : List HostRows). c.loop-row.yielded ++ rs) c.in-Some.ensures.steps.0 in
    let here : slice_get c.args.rows.items c.loop-row.host ≡ Some c.in-Some.row =
    ap (λ (rs : List HostRows). slice_get rs c.loop-row.host) all ∙ ap (λ n. slice_get (c.loop-row.yielded ++ c.in-Some.row ∷ into_iter_items c.next.new.self) n) c.loop-row.invariant.0 ∙ get_middle c.loop-row.yielded (into_iter_items c.next.new.self) c.in-Some.row in
    let within = slice_get_within c.args.rows.items c.loop-row.host c.in-Some.row here in
    let count = rows_count c.args.network.now c.args.rows.items c.requires.rows in
    let few = c.requires.network.small.hosts in
    omega (arith, within, count, few)

pub returns : goal.returns
returns c =
    let taken = taken_count c.into_iter-row-iterator.result c.loop-row.yielded c.loop-row.row-iterator c.loop-row.yielded_by in
    let rows = rows_count c.args.network.now c.args.rows.items c.requires.rows in
    let count : c.loop-row.host ≡ length c.args.network.now.hosts = omega (arith, taken, rows, c.loop-row.invariant.0, c.in-None.ensures.steps.0, c.into_iter-row-iterator.ensures.into_iter_gives.1, c.args.rows.ok) in
    subst (λ n. IsSoFar c.args.network.now n 0 c.loop-row.builder) count c.loop-row.invariant.1
