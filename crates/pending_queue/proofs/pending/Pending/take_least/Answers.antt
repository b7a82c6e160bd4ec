use Rattle.std.proofs.Common.{◌<◌, List, ◌∷◌, length, sym, ap, ◌∙◌, subst, arith}
use Rattle.std.specs.List.Sorted.{IsPermutation}
use Rattle.std.proofs.lemmas.List.Sorted.{length_permutation}
use Rattle.pending_queue.specs.Queue.{Queue, sorted, IsQueue}
use Rattle.pending_queue.proofs.QueueLemmas.{back, rises, counted, went, none_taken}
use Rattle.pending_queue.proofs.pending.Pending.take_least.Goals as goal

pub invariant_of-self : goal.invariant_of-self
invariant_of-self g c =
    let T = g.row.T.Denot in
    let before = c.self.inside.items.items in
    let mid = c.swap_remove-least.new.self.items in
    let after = c.settle.new.items in
    let some : 0 < length before = let n = c.self.inside.items.ok.0 in omega (arith, n, c.swap_remove-least.ensures.len) in
    let same : IsPermutation mid after = subst (λ (l : List T). IsPermutation l after) c.deref_mut.ensures.value c.settle.ensures.same in
    let both = went g.T.Keyed.key_of c.swap_remove-least.result before mid after c.self.invariant some c.swap_remove-least.ensures.value c.swap_remove-least.ensures.items same c.settle.ensures.heap in
    subst (λ l. IsQueue g.T.Keyed.key_of l) (sym (back mid after c.swap_remove-least.new.self.len c.swap_remove-least.new.self.ok.0 (length_permutation mid after same))) both.0

pub returns-clause-least : goal.returns-clause-least
returns-clause-least g c =
    let T = g.row.T.Denot in
    let before = c.self.inside.items.items in
    let mid = c.swap_remove-least.new.self.items in
    let after = c.settle.new.items in
    let some : 0 < length before = let n = c.self.inside.items.ok.0 in omega (arith, n, c.swap_remove-least.ensures.len) in
    let same : IsPermutation mid after = subst (λ (l : List T). IsPermutation l after) c.deref_mut.ensures.value c.settle.ensures.same in
    let both = went g.T.Keyed.key_of c.swap_remove-least.result before mid after c.self.invariant some c.swap_remove-least.ensures.value c.swap_remove-least.ensures.items same c.settle.ensures.heap in
    ap (λ (q : Queue T). q.items) (sym c.self.view_is) ∙ both.1
    ∙ ap (λ l. c.swap_remove-least.result ∷ sorted g.T.Keyed.key_of l) (sym (back mid after c.swap_remove-least.new.self.len c.swap_remove-least.new.self.ok.0 (length_permutation mid after same)))

pub returns-clause-none : goal.returns-clause-none
returns-clause-none g c = none_taken c.args.self.now.items (let n = c.self.inside.items.ok.0 in let all = counted g.T.Keyed.key_of c.self.inside.items.items _ c.args.self.now c.self.view_is in omega (arith, n, all, c.swap_remove-least.ensures.len))

pub returns-clause-rising : goal.returns-clause-rising
returns-clause-rising g c = rises g.T.Keyed.key_of c.self.inside.items.items _ c.args.self.now c.self.invariant c.self.view_is
