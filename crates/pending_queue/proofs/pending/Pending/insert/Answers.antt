use Rattle.std.proofs.Common.{List, [], ◌∷◌, ◌++◌, sym, ap, ◌∙◌, subst}
use Rattle.std.specs.List.Sorted.{IsPermutation}
use Rattle.std.proofs.lemmas.List.Sorted.{length_permutation}
use Rattle.event_order.specs.Pending.{put, Among}
use Rattle.pending_queue.specs.Queue.{Queue, sorted, IsQueue}
use Rattle.pending_queue.proofs.QueueLemmas.{back, came}
use Rattle.pending_queue.proofs.pending.Pending.insert.Goals as goal

pub invariant_of-self-2 : goal.invariant_of-self-2
invariant_of-self-2 g c =
    let T = g.row.T.Denot in
    let mid = c.push_reserved.new.self.items in
    let after = c.rise.new.items in
    let same : IsPermutation mid after = subst (λ (l : List T). IsPermutation l after) c.deref_mut.ensures.value c.rise.ensures.same in
    let both = came g.T.Keyed.key_of c.args.item c.self.inside.items.items mid after c.self.invariant
    (λ y a. c.requires y (subst (λ (q : Queue T). Among y q.items) c.self.view_is a))
    (c.push_reserved.ensures.items ∙ ap (λ (l : List T). l ++ c.args.item ∷ []) c.reserve.ensures.items) same c.rise.ensures.heap in
    subst (λ l. IsQueue g.T.Keyed.key_of l) (sym (back mid after c.push_reserved.new.self.len c.push_reserved.new.self.ok.0 (length_permutation mid after same))) both.0

pub returns-clause-items : goal.returns-clause-items
returns-clause-items g c =
    let T = g.row.T.Denot in
    let mid = c.push_reserved.new.self.items in
    let after = c.rise.new.items in
    let same : IsPermutation mid after = subst (λ (l : List T). IsPermutation l after) c.deref_mut.ensures.value c.rise.ensures.same in
    let both = came g.T.Keyed.key_of c.args.item c.self.inside.items.items mid after c.self.invariant
    (λ y a. c.requires y (subst (λ (q : Queue T). Among y q.items) c.self.view_is a))
    (c.push_reserved.ensures.items ∙ ap (λ (l : List T). l ++ c.args.item ∷ []) c.reserve.ensures.items) same c.rise.ensures.heap in
    ap (sorted g.T.Keyed.key_of) (back mid after c.push_reserved.new.self.len c.push_reserved.new.self.ok.0 (length_permutation mid after same))
    ∙ both.1 ∙ ap (λ (q : Queue T). put g.T.Keyed.key_of c.args.item q.items) c.self.view_is
