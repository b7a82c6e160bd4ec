use Rattle.std.proofs.Common.{◌≡◌, ℕ, ◌<◌, ◌+◌, List, Vec, Global, Bor, drop, ap, sym, ◌∙◌, arith, map}
use Rattle.std.specs.Prelude.{slice_range}
use Rattle.std.proofs.lemmas.List.{map-append}
use Rattle.dml_resolve.specs.Resolving.{components_from}
use Rattle.dml_resolve.proofs.PathParts.{after, other_byte, dot}
use Rattle.dml_resolve.proofs.paths.components.Goals as goal
use Rattle.dml_resolve.proofs.paths.components.Goals.{then-text-at-eq46+else-from-at+in_ok-push, else-text-at-eq46}

pub loop-at-preserved : goal.loop-at-preserved
loop-at-preserved c =
    let text : List ℕ = c.args.text.now in
    let at = c.loop-at.at in
    let from = c.loop-at.from in
    let rest : List ℕ = drop (at + 1) text in
    let found = c.if-text-at-eq46.found in
    elim c.if-text-at-eq46.branch [
      | then-text-at-eq46+else-from-at+in_ok-push w ↦ record {
        ordered = omega arith;
        within = omega arith;
        same =
            let lt : from < at = omega (arith, c.loop-at.invariant.ordered, w.if-from-at.false) in
            let items : found.items ≡ w.push.new.self.items = ap (λ (v : Vec (Bor (List ℕ)) Global). v.items) w.found-is in
            ap (λ n. after (map (λ (component : Bor (List ℕ)). component.now) found.items) (components_from (slice_range text n (at + 1)) rest)) w.from-is
            ∙ (ap (λ l. after (map (λ (component : Bor (List ℕ)). component.now) l) (components_from (slice_range text (at + 1) (at + 1)) rest)) (items ∙ w.in_ok-push.ensures.items)
            ∙ (ap (λ l. after l (components_from (slice_range text (at + 1) (at + 1)) rest)) (map-append (λ (component : Bor (List ℕ)). component.now) c.loop-at.found.items _)
            ∙ (sym (dot text from at (map (λ (component : Bor (List ℕ)). component.now) c.loop-at.found.items) lt c.loop-at-test.true w.if-text-at-eq46.true)
            ∙ c.loop-at.invariant.same)));
      }
      | else-text-at-eq46 w ↦ record {
        ordered = omega arith;
        within = omega arith;
        same =
            let items : found.items ≡ c.loop-at.found.items = ap (λ (v : Vec (Bor (List ℕ)) Global). v.items) w.found-is in
            ap (λ n. after (map (λ (component : Bor (List ℕ)). component.now) found.items) (components_from (slice_range text n (at + 1)) rest)) w.from-is
            ∙ (ap (λ l. after (map (λ (component : Bor (List ℕ)). component.now) l) (components_from (slice_range text from (at + 1)) rest)) items
            ∙ (ap (after (map (λ (component : Bor (List ℕ)). component.now) c.loop-at.found.items)) (sym (other_byte text from at c.loop-at.invariant.ordered c.loop-at-test.true w.if-text-at-eq46.false))
            ∙ c.loop-at.invariant.same));
      }
    ]
