-- The tries of a whole turn.
use Rattle.std.proofs.Common.{◌≡◌, ℕ, ◌<◌, ap, arith}
use Rattle.turn_table.specs.declared.view.View.{View}
use Rattle.turn_table.specs.Views.{lost, taking}
use Rattle.core_rules.specs.Cores.{CoreView}
use Rattle.share_rules.specs.Places.{count_of}
use Rattle.share_turns.specs.Holdings.{HasLostNone}
use Rattle.worker_hands.specs.Hands.{HandView, IsAsked}
use Rattle.worker_turns.specs.Working.{HasLost, HasLostMore, IsWorked}
use Rattle.worker_turns.proofs.Lists.{asked_more}
use Rattle.worker_turns.proofs.Values.{more_of_none, more_then}
use Rattle.worker_turns.proofs.Working.{worked_along}

module _ {B S P : Type 0} (key : CoreView B S P) (i : ℕ) (v0 va v1 v2 v3 : View) (taken : va ≡ taking v0 i) (brought : HasLostNone va v1) (gone : HasLostMore key v1 v2) (given : HasLostNone v2 v3) where
  before : HasLostMore key v0 v1
  before = more_then key v0 va v1 (more_of_none key v0 va (λ p. ap (λ z. lost z p) taken)) (more_of_none key va v1 brought)

  after : HasLostMore key v2 v3
  after = more_of_none key v2 v3 given

  -- no try of the timeline's own place was lost
  pub not_lost : i < count_of key → HasLost v0 v3 i → ⊥
  not_lost known is = (let a = before.own i known in let b = gone.own i known in let c = after.own i known in absurd (omega arith))

  pub worked_in_turn : (most : ℕ) (h0 h1 : HandView) → IsAsked h0 h1 (IsWorked key most i v1 v2) → IsAsked h0 h1 (IsWorked key most i v0 v3)
  worked_in_turn most h0 h1 = asked_more h0 h1 (IsWorked key most i v1 v2) (IsWorked key most i v0 v3) (λ made q. worked_along key most i v0 v1 v2 v3 made before after q)
