use Rattle.std.proofs.Common.{◌≡◌, ℕ, ◌+◌, List, length, Option, None, refl, sym, subst, Result, Ok, Err, arith, rules}
use Rattle.std.proofs.lemmas.Bool.{eqb-true}
use Rattle.spf_routes.specs.declared.search.Label.{Label}
use Rattle.std.specs.Prelude.{IfOk}
use Rattle.spf_routes.specs.Walks.{IsTable}
use Rattle.spf_routes.specs.Paths.{best_at}
use Rattle.spf_routes.specs.Arms.{AreRoutes}
use Rattle.spf_routes.proofs.Reaching.{is_found, none_found}
use Rattle.spf_routes.proofs.Searching.{none_at}
use Rattle.spf_routes.proofs.Tables.{starts_fit, edges_fit, is_table}
use Rattle.spf_routes.proofs.routes.shortest.Goals as goal

if_ok_map : {T E : Type 0} (r : Result T E) (P Q : T → Type 0) → ((t : T) → P t → Q t) → IfOk r P → IfOk r Q
if_ok_map (Ok t) P Q f h = f t h
if_ok_map (Err e) P Q f h = h

pub starts-requires-clause-relays : goal.starts-requires-clause-relays
starts-requires-clause-relays c = rw c.as_slice-arms.ensures c.requires.graph.relays

pub settle-requires-clause-starts : goal.settle-requires-clause-starts
settle-requires-clause-starts c =
    let direct = rw (c.as_slice-arms.ensures, c.as_slice-blocks.ensures) at c.in_ok-direct.ensures in
    let starts = rw (c.as_slice-arms.ensures, c.as_slice.ensures.value, direct.as_many) at c.in_ok-starts.ensures in
    let edges = rw (c.as_slice-arms.ensures, c.as_slice-blocks.ensures) at c.in_ok-edges.ensures in
    rw (c.as_slice-2.ensures.value, c.as_slice-3.ensures.value) (starts_fit c.args.graph.now c.args.from (length c.in_ok-edges.edges.items) c.requires.graph edges.as_many c.in_ok-starts.starts.items starts)

pub settle-requires-clause-edges : goal.settle-requires-clause-edges
settle-requires-clause-edges c =
    let edges = rw (c.as_slice-arms.ensures, c.as_slice-blocks.ensures) at c.in_ok-edges.ensures in
    rw c.as_slice-3.ensures.value (edges_fit c.args.graph.now c.args.from (length c.args.graph.now.blocks + c.args.graph.now.hosts) c.requires.graph refl c.in_ok-edges.edges.items edges)

-- without starts no link has a label of several arms
pub returns-then-is_empty : goal.returns-then-is_empty
returns-then-is_empty c =
    let direct = rw (c.as_slice-arms.ensures, c.as_slice-blocks.ensures) at c.in_ok-direct.ensures in
    let starts = rw (c.as_slice-arms.ensures, c.as_slice.ensures.value, direct.as_many) at c.in_ok-starts.ensures in
    let rows = rw (c.as_slice-blocks.ensures, c.as_slice-then-is_empty.ensures.value, c.as_slice-then-is_empty-2.ensures.value) at c.table.ensures in
    let empty : length c.in_ok-starts.starts.items ≡ 0 = omega (arith, eqb-true c.in_ok-starts.starts.len 0 (sym c.if-is_empty.ensures), c.in_ok-starts.starts.ok.0) in
    let items = c.in_ok-none.ensures.items_if_clones_equal (search rules) in
    let none : (n : ℕ) → best_at c.in_ok-none.none.items n ≡ None = λ n. subst (λ (xs : List (Option Label)). best_at xs n ≡ None) (sym items) (none_at n (length c.as_slice-blocks.result.now)) in
    let found = none_found c.args.graph.now.arms c.args.from (length c.args.graph.now.blocks) c.in_ok-starts.starts.items starts empty c.in_ok-none.none.items none in
    if_ok_map c.table.result
    (λ routes. (links : List ℕ) × AreRoutes c.args.graph.now.blocks c.in_ok-direct.direct.items c.in_ok-none.none.items (length c.args.graph.now.blocks) routes.items links)
    (λ routes. IsTable c.args.graph.now c.args.from routes.items)
    (λ routes h. is_table c.args.graph.now c.args.from c.in_ok-direct.direct.items c.in_ok-none.none.items c.requires.graph direct found routes.items h.0 h.1)
    rows

pub returns : goal.returns
returns c =
    let direct = rw (c.as_slice-arms.ensures, c.as_slice-blocks.ensures) at c.in_ok-direct.ensures in
    let starts = rw (c.as_slice-arms.ensures, c.as_slice.ensures.value, direct.as_many) at c.in_ok-starts.ensures in
    let edges = rw (c.as_slice-arms.ensures, c.as_slice-blocks.ensures) at c.in_ok-edges.ensures in
    let best = rw (c.as_slice-2.ensures.value, c.as_slice-3.ensures.value) at c.in_ok-best.ensures in
    let rows = rw (c.as_slice-blocks.ensures, c.as_slice-4.ensures.value, c.as_slice-5.ensures.value) at c.table-2.ensures in
    let nodes : ℕ = length c.args.graph.now.blocks + c.args.graph.now.hosts in
    let found = is_found c.args.graph.now.arms c.args.from (length c.args.graph.now.blocks) nodes c.in_ok-starts.starts.items c.in_ok-edges.edges.items starts edges c.requires.graph.links c.in_ok-best.best.items best in
    if_ok_map c.table-2.result
    (λ routes. (links : List ℕ) × AreRoutes c.args.graph.now.blocks c.in_ok-direct.direct.items c.in_ok-best.best.items (length c.args.graph.now.blocks) routes.items links)
    (λ routes. IsTable c.args.graph.now c.args.from routes.items)
    (λ routes h. is_table c.args.graph.now c.args.from c.in_ok-direct.direct.items c.in_ok-best.best.items c.requires.graph direct found routes.items h.0 h.1)
    rows
