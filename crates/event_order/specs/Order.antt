-- The order of events. Keys are compared by time, round, priority, channel and number, in this order.
use Rattle.std.specs.Prelude.{◌≡◌, ℕ, ◌+◌, Bool, true, cond, nat_eq}
use Rattle.std.specs.declared.cmp.Ordering.{Ordering}
use Rattle.std.specs.Ordering.{nat_cmp, is_lt, ordering_then}
use Rattle.event_order.specs.declared.key.Key.{Key}

abbrev pub key_cmp : Key → Key → Ordering
key_cmp a b = ordering_then (nat_cmp a.time b.time) (ordering_then (nat_cmp a.round b.round)
    (ordering_then (nat_cmp a.priority b.priority) (ordering_then (nat_cmp a.channel b.channel) (nat_cmp a.number b.number))))

-- the test that the first key is the smaller one
unfoldable pub comes_before : Key → Key → Bool
comes_before a b = is_lt (key_cmp a b)

abbrev pub IsBefore : Key → Key → Type 0
IsBefore a b = comes_before a b ≡ true

-- a write that takes no time belongs to the next round of its moment, every other to the first round of a later one
abbrev pub child_round : ℕ → ℕ → ℕ
child_round delay round = cond (nat_eq delay 0) (round + 1) 0

-- the key of a write with this total delay on a channel of this priority, by an event with the key `parent`
abbrev pub child_of : Key → ℕ → ℕ → ℕ → ℕ → Key
child_of parent delay priority channel number =
    record { time = parent.time + delay; round = child_round delay parent.round; priority = priority; channel = channel; number = number }
