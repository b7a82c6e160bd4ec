-- What a function answers where a call that it makes has a fault.
use Rattle.std.proofs.Common.{◌≡◌, ◌⊎◌, inl, inr, Result, Ok, Err, IfErr, sym, subst}
use Rattle.std.specs.Result.{IsErrAnd}
use Rattle.net_graph.specs.declared.fault.ShapeFault.{ShapeFault}
use Rattle.net_graph.specs.declared.fault.ShapeFault.TheVariants.{Memory}
use Rattle.net_graph.specs.declared.seen.Seen.{Seen}
use Rattle.net_graph.specs.Reads.{Read}

pub later : {A B C : Type 0} → (B → C) → A ⊎ B → A ⊎ C
later f (inl a) = inl a
later f (inr b) = inr (f b)

pub exit : {T : Type 0} (whole : Read Seen) (r : Result T ShapeFault) (fault : ShapeFault) → IsErrAnd r (λ e. e ≡ fault) → (fault ≡ Memory) ⊎ (whole ≡ Err fault) →
    IfErr r (λ e. (e ≡ Memory) ⊎ (whole ≡ Err e))
exit whole (Ok x) fault is h = tt
exit whole (Err e) fault is h = subst (λ (y : ShapeFault). (y ≡ Memory) ⊎ (whole ≡ Err y)) (sym is) h
