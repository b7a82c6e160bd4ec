-- How much is left to do, as one number of the parts alone. Each step lowers it, so runs of steps end.
use Rattle.std.specs.Prelude.{ℕ, ◌+◌, ◌-◌, ◌*◌, ◌^◌, cond, List, [], ◌∷◌, length, slice_get}
use Rattle.ssf_model.specs.declared.event.Event.{Event}
use Rattle.sync_rules.specs.Parts.{Line, MailOf}
use Rattle.sync_rules.specs.Measure.{Left, sum_below, window_left, packed}
use Rattle.sync_steps.specs.Sounds.{barrier_as}
use Rattle.plan_shares.specs.declared.crosses.CrossEnd.{CrossEnd}
use Rattle.core_rules.specs.Cores.{CoreView, line_or, mail_or}

-- the values of some items together
abbrev pub sum_of : {T : Type 0} → (T → ℕ) → List T → ℕ
sum_of f [] = 0
sum_of f (x ∷ xs) = f x + sum_of f xs

module _ {B S P : Type 0} where
  -- timeline i, and the mail on the channel of these ends
  abbrev pub line_in : CoreView B S P → ℕ → Line (Event P)
  line_in core i = line_or 0 (slice_get core.timelines i)

  abbrev pub mail_in : CoreView B S P → CrossEnd → MailOf (Event P)
  mail_in core end = mail_or end.channel (slice_get core.mails end.receiver)

  -- of a channel: how far its appointments are from a tick after the end, and what is to be posted and taken
  abbrev pub promises_in : CoreView B S P → CrossEnd → ℕ
  promises_in core end = ((core.until + 1) - (mail_in core end).appointment) + ((core.until + 1) - (line_in core end.receiver).held end.channel)

  abbrev pub parcels_in : CoreView B S P → CrossEnd → ℕ
  parcels_in core end = 2 * length ((line_in core end.sender).outbox end.channel) + length (mail_in core end).events

  -- the five numbers of the rules
  abbrev pub left_in : CoreView B S P → Left
  left_in core = record {
    time = ((core.until + 1) - core.barrier.window) + cond core.barrier.ended 0 1;
    windows = sum_below (λ i. window_left (barrier_as core.barrier) i (line_in core i)) (length core.timelines);
    events = sum_below (λ i. core.budget - (line_in core i).executed) (length core.timelines);
    promises = sum_of (promises_in core) core.ends;
    parcels = sum_of (parcels_in core) core.ends;
  }

  -- as one
  abbrev pub steps_left : CoreView B S P → ℕ
  steps_left core = packed
      (length core.timelines * 2 + 1)
      (length core.timelines * core.budget + 1)
      (length core.ends * ((core.until + 1) * 2) + 1)
      (length core.ends * (3 * 2 ^ 64) + 1)
      (left_in core)
