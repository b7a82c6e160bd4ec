-- The laws of a run that is shared out, for its scene.
use Rattle.std.proofs.Common.{◌≡◌, ℕ, suc, ◌<◌, ◌≤◌, ◌⊎◌, true, Option, Some, None, refl, sym, ◌∙◌, subst, inl, inr, arith}
use Rattle.event_order.specs.declared.key.Key.{Key}
use Rattle.event_order.specs.Order.{IsBefore}
use Rattle.event_order.specs.Pending.{Among}
use Rattle.event_order.specs.Run.{Arises, WrittenBefore}
use Rattle.event_order.proofs.Order.{before_time}
use Rattle.event_order.proofs.Steps.{lt_or_ge, lt_or_same, before_end, event_in_time, event_arises, state_after, pending_arises, event_pending}
use Rattle.event_order.proofs.Keys as keys
use Rattle.ssf_model.specs.Scene.{Scene, world_at, event_at, time_of}
use Rattle.ssf_model.specs.Truth.{IsKeptWrite}
use Rattle.sync_rules.specs.Shared.{IsShared}

pub some_or_none : {T : Type 0} (o : Option T) → ((x : T) × (o ≡ Some x)) ⊎ (o ≡ None)
some_or_none None = inr refl
some_or_none (Some x) = inl (x, refl)

module _ {X E : Type 0} (s : Scene X E) (sh : IsShared s) where
  abbrev pub given : X → Key → Type 0
  given x k = sh.known x k ≡ true

  -- ---- events

  pub rises : (n k : ℕ) (e d : E) → n < k → event_at s n ≡ Some e → event_at s k ≡ Some d → IsBefore (s.machine.key e) (s.machine.key d)
  rises n k e d l h g = keys.keys_rise s.machine s.until s.kept s.opening given sh.lawful sh.opening n k e d l h g

  pub one_number : (n k : ℕ) (e : E) → event_at s n ≡ Some e → event_at s k ≡ Some e → n ≡ k
  one_number n k e h g = keys.done_once s.machine s.until s.kept s.opening given sh.lawful sh.opening n k e h g

  pub one_event : (n : ℕ) (e d : E) → event_at s n ≡ Some e → event_at s n ≡ Some d → e ≡ d
  one_event n e d h g = let same : Some e ≡ Some d = sym h ∙ g in cc

  -- times do not fall along the run
  pub times : (n k : ℕ) (e d : E) → n ≤ k → event_at s n ≡ Some e → event_at s k ≡ Some d → time_of s e ≤ time_of s d
  times n k e d l h g = elim (lt_or_same n k l) [
    | inl less ↦ before_time (s.machine.key e) (s.machine.key d) (rises n k e d less h g)
    | inr same ↦ let one : e ≡ d = one_event k e d (subst (λ j. event_at s j ≡ Some e) same h) g in subst (λ x. time_of s e ≤ time_of s x) one (omega arith)
  ]

  pub in_time : (n : ℕ) (e : E) → event_at s n ≡ Some e → time_of s e ≤ s.until
  in_time n e h = event_in_time s.machine s.until s.kept s.opening n e h

  pub before_over : (n : ℕ) (e : E) → event_at s n ≡ Some e → n < sh.end
  before_over n e h = before_end s.machine s.until s.kept s.opening sh.end n e sh.ended h

  -- an event with a smaller time comes earlier
  pub earlier : (n k : ℕ) (e d : E) → event_at s n ≡ Some e → event_at s k ≡ Some d → time_of s e < time_of s d → n < k
  earlier n k e d h g l = elim (lt_or_ge n k) [ inl less ↦ less | inr more ↦ let order = times k n d e more g h in absurd (omega arith) ]

  -- ---- what arises

  pub arises_by : (n : ℕ) (e : E) → event_at s n ≡ Some e → Among e s.opening.pending ⊎ WrittenBefore s.machine s.until s.kept s.opening n e
  arises_by n e h = event_arises s.machine s.until s.kept s.opening n e h

  pub event_arisen : (n : ℕ) (e : E) → event_at s n ≡ Some e → Arises s.machine s.until s.kept s.opening e
  event_arisen n e h = pending_arises s.machine s.until s.kept s.opening n e (event_pending s.machine s.until s.kept s.opening n e h)

  -- all that arises and is in time is executed
  pub arisen : (e : E) → Arises s.machine s.until s.kept s.opening e → time_of s e ≤ s.until → (n : ℕ) × (event_at s n ≡ Some e)
  arisen e a l = let d = keys.arisen_executed s.machine s.until s.kept s.opening given sh.lawful sh.opening sh.end e sh.ended a l in (d.at, d.is)

  pub one_key : (e d : E) → Arises s.machine s.until s.kept s.opening e → Arises s.machine s.until s.kept s.opening d → s.machine.key e ≡ s.machine.key d → e ≡ d
  one_key e d a b same = keys.one_key s.machine s.until s.kept s.opening given sh.lawful sh.opening e d a b same

  pub written_at_once : (n k : ℕ) (d : E) → IsKeptWrite s n d → IsKeptWrite s k d → n ≡ k
  written_at_once n k d a b = keys.written_once s.machine s.until s.kept s.opening given sh.lawful sh.opening n k d d a b refl

  pub not_opened : (k : ℕ) (d : E) → Among d s.opening.pending → IsKeptWrite s k d → ⊥
  not_opened k d a w = keys.opened_not_written s.machine s.until s.kept s.opening given sh.lawful sh.opening k d d a w refl

  pub given_from : (n k : ℕ) (d : Key) → n ≤ k → given (world_at s n).state d → given (world_at s k).state d
  given_from n k d l a = keys.known_from s.machine s.until s.kept s.opening given sh.lawful sh.opening n k d l a

  pub next_state : (n : ℕ) (e : E) → event_at s n ≡ Some e → (world_at s (suc n)).state ≡ s.machine.acts (world_at s n).state e
  next_state n e h = state_after s.machine s.until s.kept s.opening n e h
