-- What a pass knows of count words after it has loaded them.
use Rattle.std.specs.Prelude.{ℕ, ◌≡◌, ◌<◌, ◌≤◌}
use Rattle.turn_table.specs.declared.view.Shape.{Shape}
use Rattle.turn_table.specs.declared.view.View.{View}
use Rattle.turn_table.specs.Shapes.{Speaks}
use Rattle.turn_table.specs.Views.{held, lost, note, mark}
use Rattle.core_rules.specs.Cores.{CoreView}
use Rattle.share_rules.specs.Places.{count_of, done_word, round_word}

-- words were loaded, and nothing else was done: the places and the lost tries are the same, what was noted still is, with
-- its number, and no mark is lower
pub record HasLoaded (v w : View) : Type 0 where
  pub places : (p : ℕ) → held w p ≡ held v p
  pub tries : (p : ℕ) → lost w p ≡ lost v p
  pub notes : (c : ℕ) → 0 < note v c → note w c ≡ note v c
  pub marks : (c : ℕ) → mark v c ≤ mark w c

-- each word that speaks of the place p is noted
abbrev pub AreNoted : Shape → View → ℕ → Type 0
AreNoted s v p = (c : ℕ) → Speaks s c p → 0 < note v c

-- the round is noted, and marked with the same number; what each timeline has done is marked, with the number that was noted
-- before where it was
pub record AreDoneMarked {B S P : Type 0} (key : CoreView B S P) (v w : View) : Type 0 where
  pub noted : 0 < note w (round_word key)
  pub round : mark w (round_word key) ≡ note w (round_word key)
  pub marked : (i : ℕ) → i < count_of key → 0 < mark w (done_word key i)
  pub done : (i : ℕ) → i < count_of key → 0 < note v (done_word key i) → mark w (done_word key i) ≡ note v (done_word key i)
