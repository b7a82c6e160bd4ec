use Rattle.std.proofs.Common.{◌≡◌, ℕ, ◌<◌, true, false, ◌∷◌, length, Option, Some, None, inl, inr, refl, sym, ap, ◌∙◌, arith}
use Rattle.std.specs.BinaryHeap.{heap_items}
use Rattle.std.specs.Option.{is_some}
use Rattle.std.specs.declared.cmp.Reverse.{Reverse}
use Rattle.std.proofs.lemmas.List.Elements.{All-contains, All-tail}
use Rattle.std.proofs.lemmas.List.Sorted.{All-permutation}
use Rattle.spf_routes.specs.declared.search.Label.{Label}
use Rattle.spf_routes.specs.Paths.{Queue, best_at}
use Rattle.spf_routes.proofs.Queues.{left_was, top_was, old_is, least_top}
use Rattle.spf_routes.proofs.search.next_unsettled.Goals as goal

none_from_test : (o : Option Label) → is_some o ≡ false → o ≡ None
none_from_test None h = refl
none_from_test (Some x) h = cc

both_settled : (o : Option Label) → is_some o ≡ true → o ≡ None → ⊥
both_settled None h e = cc
both_settled (Some x) h e = cc

pub returns-then-is_none-clause-found : goal.returns-then-is_none-clause-found
returns-then-is_none-clause-found c =
    let same = c.in-Some.ensures.permutation in
    let bound = c.in-Some.ensures.below_top c.loop-label.invariant.heap in
    let old : Queue = heap_items c.loop-label.queue in
    let left : Queue = heap_items c.pop.new.self in
    let top : Reverse (Label × ℕ) = c.in-Some.field-0 in
    let kept = c.loop-label.invariant in
    record {
      there = All-contains (λ (entry : Reverse (Label × ℕ)). entry.0.1 < length c.args.best.now) old top kept.nodes (top_was old left top same);
      queued = kept.none_new top.0.0 top.0.1 (top_was old left top same);
      unsettled = none_from_test (best_at c.args.best.now top.0.1) c.if-is_none.ensures;
      none_new = λ l n q. kept.none_new l n (left_was old left top same l n q);
      none_lost = λ l n q un. elim (old_is old left top same l n (kept.none_lost l n q un)) [ inl e ↦ inr e | inr still ↦ inl still ];
      least = least_top old left top same bound;
    }

pub loop-label-preserved : goal.loop-label-preserved
loop-label-preserved c =
    let same = c.in-Some.ensures.permutation in
    let old : Queue = heap_items c.loop-label.queue in
    let left : Queue = heap_items c.pop.new.self in
    let top : Reverse (Label × ℕ) = c.in-Some.field-0 in
    let kept = c.loop-label.invariant in
    record {
      nodes = All-tail (λ (entry : Reverse (Label × ℕ)). entry.0.1 < length c.args.best.now) top left (All-permutation (λ (entry : Reverse (Label × ℕ)). entry.0.1 < length c.args.best.now) old (top ∷ left) same kept.nodes);
      heap = (c.in-Some.ensures.heap_order kept.heap).0;
      none_new = λ l n q. kept.none_new l n (left_was old left top same l n q);
      none_lost = λ l n q un. elim (old_is old left top same l n (kept.none_lost l n q un)) [
        | inl e ↦ absurd (both_settled (best_at c.args.best.now top.0.1) c.if-is_none.ensures (ap (best_at c.args.best.now) (sym e.1) ∙ un))
        | inr still ↦ still
      ];
    }

pub returns-clause-none : goal.returns-clause-none
returns-clause-none c = λ l n q un.
    let found = c.loop-label.invariant.none_lost l n q un in
    absurd (omega (arith, found.1, c.in_default.ensures.none, c.loop-label.queue.data.ok.0))
