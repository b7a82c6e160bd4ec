use Rattle.std.proofs.Common.{subst, List, ℕ, sym, ap, ◌∙◌, ◌++◌, ◌∷◌, []}
use Rattle.alignment.specs.Forests.{IsForest}
use Rattle.alignment.proofs.Growing.{alone_forest, alone_push}
use Rattle.alignment.proofs.groups.Groups.new.Goals as goal

pub loop-entity-preserved : goal.loop-entity-preserved
loop-entity-preserved c = c.in_ok-push.ensures.items ∙ (ap (λ (x : List ℕ). x ++ c.loop-entity.entity ∷ []) c.loop-entity.invariant ∙ alone_push c.loop-entity.entity)

pub invariant_of-result : goal.invariant_of-result
invariant_of-result c = let P : List ℕ → Type 0 = λ x. IsForest x in subst P (sym c.loop-entity.invariant) (alone_forest c.loop-entity.entity)
