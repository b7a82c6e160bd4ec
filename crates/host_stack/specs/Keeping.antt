-- What the state of a host keeps, and what follows a session's turn.
use Rattle.std.specs.Prelude.{ℕ, ◌≡◌, ◌≤◌, List, length, if◌then◌else◌}
use Rattle.ssf_model.specs.Reaction.{Each, LongestDelay}
use Rattle.tcp_rules.specs.declared.records.Act.{Act}
use Rattle.host_rules.specs.declared.rows.HostRows.{HostRows}
use Rattle.host_rules.specs.Hosts.{Stack}
use Rattle.host_rules.specs.Effects.{Effect, quiet, and_then}
use Rattle.host_rules.specs.Sending.{all_done}
use Rattle.host_rules.specs.Hearing.{next_of}
use Rattle.host_rules.specs.Limits.{IsStack}
use Rattle.host_sessions.specs.declared.sessions.Turned.{Turned}

-- what follows a session's turn: all that it did, and its client's next transfer where one is over
abbrev pub after_turn : HostRows → (now : ℕ) → Turned → List Act → Stack → Effect
after_turn rows now turned acts stack =
    and_then (all_done rows now turned.sockets acts stack) (λ after. if turned.over then next_of rows now turned.client after else quiet after)

-- the client sessions of a host start in time, and what events change is in range
pub record IsState (rows : HostRows) (starts : List ℕ) (stack : Stack) : Type 0 where
  pub starts_early : Each (λ start. start ≤ LongestDelay) starts
  pub starts_are : length starts ≡ length rows.clients
  pub stack_is : IsStack rows stack
