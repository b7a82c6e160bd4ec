-- A table of turns at the parts of a run.
use Rattle.std.specs.Prelude.{ℕ, ◌≡◌, ◌<◌, ◌+◌, ◌^◌, List, length, Vec}
use Rattle.std.specs.Global.{Global}
use Rattle.plan_shares.specs.declared.crosses.CrossEnd.{CrossEnd}
use Rattle.core_rules.specs.Cores.{CoreView}
use Rattle.share_rules.specs.Places.{count_of, barrier_place, round_word}
use Rattle.share_turns.specs.declared.layout.Layout.{Layout}
use Rattle.share_turns.specs.Rows.{AreNear}

-- a timeline of these parts, with their ends, the rows of these and their numbers, all of which a number of 32 bits can tell
pub record IsTableOf {B S P : Type 0} (key : CoreView B S P) (ends : List CrossEnd) (rows : List (Vec ℕ Global)) (layout : Layout) (number : ℕ) : Type 0 where
  pub own : ends ≡ key.ends
  pub near : AreNear key.ends (count_of key) rows
  pub count : layout.ends ≡ length key.ends
  pub timelines : layout.timelines ≡ count_of key
  pub known : number < count_of key
  pub small : round_word key + 1 < 2 ^ 32
  pub places : barrier_place key + 1 < 2 ^ 32
