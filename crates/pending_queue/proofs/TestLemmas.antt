-- What holds of each item of a queue, after calls of the tests.
use Rattle.std.proofs.Common.{◌≡◌, ◌∷◌, Option, Some, None, Result, Ok, Err, IsNone, IfSome, OnOk, OnErr, sym, subst, inl, inr, refl}
use Rattle.event_order.specs.declared.key.Key.{Key}
use Rattle.event_order.specs.Pending.{put, Among}
use Rattle.event_order.proofs.Pending.{put_among}
use Rattle.pending_queue.specs.Queue.{Queue}

-- after an item came, or was refused
pub put_keeps : {T A B : Type 0} (key : T → Key) (P : T → Type 0) (result : Result A B) (old new : Queue T) (item : T) → OnOk result (new.items ≡ put key item old.items) → OnErr result (new ≡ old) → P item →
    ((other : T) → Among other old.items → P other) → (other : T) → Among other new.items → P other
put_keeps key P (Ok v) old new item ok err here all other a = elim (put_among key other item old.items (subst (λ xs. Among other xs) ok a)) [
  | inl e ↦ subst P (sym e) here
  | inr b ↦ all other b
]
put_keeps {T} key P (Err v) old new item ok err here all other a = all other (subst (λ (q : Queue T). Among other q.items) err a)

-- after the least one went, or there was none
pub rest_keeps : {T : Type 0} (P : T → Type 0) (taken : Option T) (old new : Queue T) → (IsNone taken → new ≡ old) → IfSome taken (λ x. old.items ≡ x ∷ new.items) →
    ((other : T) → Among other old.items → P other) → (other : T) → Among other new.items → P other
rest_keeps {T} P None old new empty least all other a = all other (subst (λ (q : Queue T). Among other q.items) (empty refl) a)
rest_keeps P (Some x) old new empty least all other a = all other (subst (λ xs. Among other xs) (sym least) (inr a))
