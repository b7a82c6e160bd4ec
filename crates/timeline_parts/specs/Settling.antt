-- Where the writes of an executed event come to: some stay on the timeline, the others arrive on other ones.
use Rattle.std.specs.Prelude.{ℕ, ◌≡◌, Bool, cond, nat_le, ◌&&◌, min, not, List, [], ◌∷◌, is_some}
use Rattle.std.specs.List.{filter}
use Rattle.event_order.specs.declared.key.Key.{Key}
use Rattle.event_order.specs.Pending.{Among, IsApart}
use Rattle.ssf_model.specs.declared.event.Event.{Event}
use Rattle.timeline_parts.specs.declared.ends.OutEnd.{OutEnd}
use Rattle.timeline_parts.specs.Tables.{item_at}

abbrev pub key_of : {P : Type 0} → Event P → Key
key_of e = e.key

-- the channel of this event goes to another timeline
abbrev pub goes : {P : Type 0} → List (ℕ × OutEnd P) → Event P → Bool
goes ends e = is_some (item_at e.key.channel ends)

-- those that stay on the timeline
abbrev pub staying : {P : Type 0} → List (ℕ × OutEnd P) → List (Event P) → List (Event P)
staying ends es = filter (λ e. not (goes ends e)) es

-- the least of `found` and the times, at or above `from`, of those that go to other timelines
abbrev pub least_arriving : {P : Type 0} → List (ℕ × OutEnd P) → ℕ → List (Event P) → ℕ → ℕ
least_arriving ends from [] found = found
least_arriving ends from (e ∷ es) found =
    least_arriving ends from es (cond (goes ends e && nat_le from e.key.time) (min e.key.time found) found)

-- these items can be put to the pending ones: no two of all have one key
pub record AreNew {P : Type 0} (es pending : List (Event P)) : Type 0 where
  pub apart : IsApart key_of es
  pub others : (x y : Event P) → Among x es → Among y pending → key_of x ≡ key_of y → ⊥
