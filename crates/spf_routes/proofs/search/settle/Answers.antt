use Rattle.std.proofs.Common.{◌≡◌, ℕ, zero, suc, ◌<◌, ◌≤◌, List, [], ◌∷◌, length, get_or, slice_get, replicate, All, Option, Some, None, inl, inr, refl, sym, ap, subst, arith, rules, Vec, Global, cond}
use Rattle.std.specs.Prelude.{count_by, is_some}
use Rattle.std.specs.BinaryHeap.{heap_items}
use Rattle.std.specs.declared.cmp.Reverse.{Reverse}
use Rattle.std.proofs.lemmas.List.{length-replicate}
use Rattle.std.proofs.lemmas.List.Sums.{sum_by-cons}
use Rattle.std.proofs.lemmas.List.Elements.{Contains-get_or}
use Rattle.spf_routes.specs.declared.search.Label.{Label}
use Rattle.spf_routes.specs.declared.search.Edge.{Edge}
use Rattle.spf_routes.specs.Paths.{Queue, IsQueued, AreEdges}
use Rattle.spf_routes.proofs.Searching.{none_at, cases_known, first_search, step, finished, all_known}
use Rattle.spf_routes.proofs.search.settle.Goals as goal

none_counted : (k : ℕ) → count_by (λ (o : Option Label). is_some o) (replicate k None) ≡ 0
none_counted zero = refl
none_counted (suc k) = omega (arith, sum_by-cons (λ (o : Option Label). cond (is_some o) 1 0) None (replicate k None), none_counted k)

nodes_there : (queue : Queue) (nodes : ℕ) → ((l : Label) (n : ℕ) → IsQueued queue l n → n < nodes) → All (λ (entry : Reverse (Label × ℕ)). entry.0.1 < nodes) queue
nodes_there queue nodes h k d lt = h (get_or queue k d).0.0 (get_or queue k d).0.1 (Contains-get_or queue k d lt)

row_at : (edges : List (Vec Edge Global)) (n : ℕ) (row : Vec Edge Global) → n < length edges → row ≡ get_or edges n row → slice_get edges n ≡ Some row
row_at [] n row lt e = absurd (omega arith)
row_at (x ∷ edges) zero row lt e = ap Some (sym e)
row_at (x ∷ edges) (suc n) row lt e = row_at edges n row (omega arith) e

weights_at : (edges : List (Vec Edge Global)) → AreEdges edges → (n : ℕ) (row : Vec Edge Global) → n < length edges → row ≡ get_or edges n row → All (λ (edge : Edge). (edge.to < length edges) × (edge.weight ≤ 65535)) row.items
weights_at edges h n row lt e = subst (λ (r : Vec Edge Global). All (λ (edge : Edge). (edge.to < length edges) × (edge.weight ≤ 65535)) r.items) (sym e) (h n row lt)

pub loop-settled-init : goal.loop-settled-init
loop-settled-init c =
    let nodes : ℕ = length c.args.edges.now in
    let items = c.in_ok-best.ensures.items_if_clones_equal (search rules) in
    record {
      heap = c.in_ok-queue.ensures.heap;
      search = rw items (first_search c.args.starts.now c.args.edges.now (replicate nodes None) (heap_items c.in_ok-queue.queue) c.requires.starts c.in_ok-queue.ensures.starts (λ n. none_at n nodes) (length-replicate nodes (let none : Option Label = None in none)) (none_counted nodes));
    }

pub next_unsettled-requires-clause-nodes : goal.next_unsettled-requires-clause-nodes
next_unsettled-requires-clause-nodes c =
    let s = c.loop-settled.invariant.search in
    nodes_there (heap_items c.loop-settled.queue) (length c.as_slice.result.now) (λ l n q. omega (arith, s.nodes l n q, s.as_many, ap length c.as_slice.ensures.value))

pub returns-in_default : goal.returns-in_default
returns-in_default c =
    let s = c.loop-settled.invariant.search in
    let all = rw c.as_slice.ensures.value at c.in_default.ensures.none in
    finished c.args.starts.now c.args.edges.now c.loop-settled.best.items (heap_items c.loop-settled.queue) c.loop-settled._settled s
    (λ l n q. elim (cases_known c.loop-settled.best.items n) [ inl none ↦ absurd (all l n q none) | inr known ↦ known ])

pub add_edges-requires-clause-fits : goal.add_edges-requires-clause-fits
add_edges-requires-clause-fits c =
    let s = c.loop-settled.invariant.search in
    omega (arith, s.costs c.in-Some.label c.in-Some.node c.in-Some.ensures.found.queued, c.requires.few)

pub loop-settled-preserved : goal.loop-settled-preserved
loop-settled-preserved c =
    let s = c.loop-settled.invariant.search in
    let found = rw c.as_slice.ensures.value at c.in-Some.ensures.found in
    let added = rw c.as_slice-in-loop-settled.ensures.value at c.in_ok-add_edges.ensures.added in
    let there : c.in-Some.node < length c.args.edges.now = omega (arith, s.nodes c.in-Some.label c.in-Some.node found.queued) in
    record {
      heap = c.in_ok-add_edges.ensures.heap;
      search = step c.args.starts.now c.args.edges.now c.loop-settled.best.items (heap_items c.loop-settled.queue) (heap_items c.next_unsettled.new.queue) (heap_items c.add_edges.new.queue) c.loop-settled._settled c.in-Some.label c.in-Some.node c.index-edges-node.result s found added
          (row_at c.args.edges.now c.in-Some.node c.index-edges-node.result there c.index-edges-node.is)
          (weights_at c.args.edges.now c.requires.edges c.in-Some.node c.index-edges-node.result there c.index-edges-node.is);
    }

pub returns : goal.returns
returns c =
    let s = c.loop-settled.invariant.search in
    finished c.args.starts.now c.args.edges.now c.loop-settled.best.items (heap_items c.loop-settled.queue) c.loop-settled._settled s
    (λ l n q. all_known c.loop-settled.best.items (omega (arith, s.count, s.as_many)) n (omega (arith, s.nodes l n q, s.as_many)))
