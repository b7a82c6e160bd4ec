-- What a number of executed events covers, and the numbers of windows.
use Rattle.std.proofs.Common.{◌≡◌, ℕ, suc, ◌<◌, ◌≤◌, [], ◌∷◌, ◌++◌, length, refl, ap, subst, inl, inr, arith, length-append}
use Rattle.event_order.proofs.Local.{share_own}
use Rattle.event_order.proofs.Steps.{lt_or_ge}
use Rattle.ssf_model.specs.Scene.{Scene}
use Rattle.ssf_model.specs.Truth.{is_on_line, line_events, IsWindow}
use Rattle.sync_rules.specs.Parts.{Line}
use Rattle.sync_rules.specs.Shared.{IsShared}
use Rattle.sync_rules.specs.Sound.{HasDone, IsCounted}
use Rattle.sync_rules.proofs.Windows.{window_rises, window_order, window_one, window_not_before}
use Rattle.sync_rules.proofs.Wholes.{line_grows}
use Rattle.share_rules.specs.Runs.{Covers, IsWindowUpTo}

module _ {X E : Type 0} (s : Scene X E) where
  pub covers_by_done : (budget i x : ℕ) (l : Line E) → IsCounted s budget i l → HasDone s i x l → Covers s i x l.executed
  covers_by_done budget i x l counted done j n e own early =
      let before : j < l.moment = done j e own.is own.own early in
      let next : line_events s i (suc j) ≡ line_events s i j ++ e ∷ [] = share_own s.machine s.until s.kept s.opening (is_on_line s i) j e own.is own.own in
      let one = ap length next in
      let two = length-append (line_events s i j) (e ∷ []) in
      let three = line_grows s i (suc j) l.moment (omega (arith, before)) in
      let four = own.count in
      let five = counted.executed in
      omega (arith, one, two, three, four, five)

  pub done_by_covers : (budget i x : ℕ) (l : Line E) → IsCounted s budget i l → Covers s i x l.executed → HasDone s i x l
  done_by_covers budget i x l counted covers j e is own early = elim (lt_or_ge j l.moment) [
    | inl before ↦ before
    | inr after ↦ absurd (let below = covers j (length (line_events s i j)) e (record { is = is; own = own; count = refl }) early in
        let more = line_grows s i l.moment j after in
        let count = counted.executed in
        omega (arith, below, more, count))
  ]

  module _ (sh : IsShared s) where
    -- a window that is not after another one has no later number
    pub number_below : (j u y k v x : ℕ) → IsWindow s j u y → IsWindow s k v x → y ≤ x → j ≤ k
    number_below j u y k v x one two low = elim (lt_or_ge k j) [
      | inr up ↦ up
      | inl down ↦ absurd (let order = window_order s sh j k u y v x down one two in
          let rise = window_rises s sh j u y (omega (arith, down)) one in
          omega (arith, order, rise, low))
    ]

    -- and one with no later number is not after it
    pub window_below : (k v x y : ℕ) → IsWindow s k v x → IsWindowUpTo s k y → y ≤ x
    window_below k v x y two q = elim (lt_or_ge q.number k) [
      | inl less ↦ (let order = window_order s sh k q.number v x q.before y less two q.window in
          let up = window_not_before s sh k v x two in
          omega (arith, order, up))
      | inr more ↦ (let early = q.early in
          let same : q.number ≡ k = omega (arith, more, early) in
          let here : IsWindow s k q.before y = subst (λ n. IsWindow s n q.before y) same q.window in
          let both = (window_one s sh k q.before y v x here two).1 in
          omega (arith, both))
    ]
