-- How marks are kept. No public clause cites this file.
use Rattle.std.specs.Prelude.{ℕ, ◌≡◌, ◌+◌, ◌/◌, ◌<◌, ◌^◌, Bool, List, length}
use Rattle.marked_numbers.specs.Least.{IsMarked}

-- each block of 64 numbers of which one is marked is marked
pub record IsBlocked (marks blocks : List Bool) : Type 0 where
  pub few : length marks < 2 ^ 32
  pub enough : length blocks ≡ length marks / 64 + 1
  pub known : (n : ℕ) → IsMarked marks n → IsMarked blocks (n / 64)
