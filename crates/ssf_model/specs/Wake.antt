-- The wake rule's words: which process an event wakes, and when a wait ends by itself.
use Rattle.std.specs.Prelude.{ℕ, ◌≡◌, Bool, false, nat_eq, max, Option, Some, None, IsSome}
use Rattle.std.specs.List.{list_any}
use Rattle.ssf_model.specs.declared.wait.Wait.{Wait}
use Rattle.ssf_model.specs.declared.wait.Wait.TheVariants.{On, For, OnFor, Forever}

-- a message on this in-channel wakes a process that waits so
abbrev pub waits_on : Wait → ℕ → Bool
waits_on (On channels) channel = list_any (λ c. nat_eq c channel) channels
waits_on (OnFor channels _) channel = list_any (λ c. nat_eq c channel) channels
waits_on (For _) _ = false
waits_on Forever _ = false

-- after how many ticks the timer of a process that waits so runs out: a wait for no time takes one tick
abbrev pub timer_delay : Wait → Option ℕ
timer_delay (For ticks) = Some (max ticks 1)
timer_delay (OnFor _ ticks) = Some (max ticks 1)
timer_delay (On _) = None
timer_delay Forever = None

-- the wait ends by itself
abbrev pub HasTimer : Wait → Type 0
HasTimer wait = IsSome (timer_delay wait)

-- the rule of tickets: the end of a wait carries the present ticket of its process, which waits so, only where that wait
-- ends by itself
abbrev pub IsTimelyTicket : Wait → ℕ → ℕ → Type 0
IsTimelyTicket wait present ticket = ticket ≡ present → HasTimer wait
