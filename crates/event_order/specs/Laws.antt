-- What a machine has to meet so that its run has the laws.
use Rattle.std.specs.Prelude.{◌≡◌, suc, ◌<◌, ◌⊎◌, Bool, true, false}
use Rattle.event_order.specs.declared.key.Key.{Key}
use Rattle.event_order.specs.Order.{IsBefore}
use Rattle.event_order.specs.Pending.{Among, IsApart, IsRising}
use Rattle.event_order.specs.Machine.{Machine, World}

-- a machine that writes later keys, all new: `known x k` says that in the state x the key k was given out
pub record IsLawful {X E : Type 0} (m : Machine X E) (known : X → Key → Type 0) : Type 0 where
  pub rises : (x : X) (e b : E) → Among b (m.writes x e) → IsBefore (m.key e) (m.key b)
  pub apart : (x : X) (e : E) → IsApart m.key (m.writes x e)
  pub fresh : (x : X) (e b : E) → Among b (m.writes x e) → known x (m.key b) → ⊥
  pub learns : (x : X) (e b : E) → Among b (m.writes x e) → known (m.acts x e) (m.key b)
  pub keeps : (x : X) (e : E) (k : Key) → known x k → known (m.acts x e) k

-- an opening in key order whose keys were all given out
pub record IsOpening {X E : Type 0} (m : Machine X E) (known : X → Key → Type 0) (w : World X E) : Type 0 where
  pub risen : IsRising m.key w.pending
  pub told : (d : E) → Among d w.pending → known w.state (m.key d)

-- a machine whose writes are in round 0 of a later time, or in the next round of the same time and joined to their writer.
-- `fine x e` says that e may be executed in the state x
pub record HasRounds {X E : Type 0} (m : Machine X E) (fine : X → E → Type 0) (joined : E → E → Type 0) : Type 0 where
  pub parented : (x : X) (e b : E) → fine x e → Among b (m.writes x e) →
      (((m.key b).round ≡ 0) × ((m.key e).time < (m.key b).time))
      ⊎ (((m.key b).round ≡ suc (m.key e).round) × ((m.key b).time ≡ (m.key e).time) × joined e b)

-- a machine in which the events that pass `mine` read and change one part of the state alone, and the others leave that part.
-- `same x y` says that the part is the same in the states x and y
pub record IsLocal {X E : Type 0} (m : Machine X E) (mine : E → Bool) (fine : X → E → Type 0) (same : X → X → Type 0) : Type 0 where
  pub itself : (x : X) → same x x
  pub back : (x y : X) → same x y → same y x
  pub trans : (x y z : X) → same x y → same y z → same x z
  pub moves : (x y : X) (e : E) → fine x e → mine e ≡ true → same x y → same (m.acts x e) (m.acts y e)
  pub writes : (x y : X) (e : E) → fine x e → mine e ≡ true → same x y → m.writes x e ≡ m.writes y e
  pub stays : (x : X) (e : E) → fine x e → mine e ≡ false → same x (m.acts x e)
