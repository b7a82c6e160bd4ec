-- How what an event sends gets its numbers, is counted, and comes to the outboxes of the channels that cross.
use Rattle.std.specs.Prelude.{ℕ, ◌≡◌, ◌+◌, ◌*◌, ◌^◌, ◌<◌, ◌≤◌, Bool, cond, nat_eq, nat_le, ◌&&◌, min, not, List, [], ◌∷◌, ◌++◌, map, count_by, Option, Some, None, is_some, option_map, unwrap_or, slice_get}
use Rattle.std.specs.List.{filter}
use Rattle.event_order.specs.declared.key.Key.{Key}
use Rattle.event_order.specs.Pending.{Among}
use Rattle.ssf_model.specs.declared.wait.Kind.{Kind}
use Rattle.ssf_model.specs.declared.out.Written.{Written}
use Rattle.ssf_model.specs.declared.out.Written.TheVariants.{Channel, Timer}
use Rattle.ssf_model.specs.declared.event.Event.{Event}
use Rattle.ssf_model.specs.declared.process.Process.{Process}
use Rattle.ssf_model.specs.declared.plan.Mapping.{Mapping}
use Rattle.ssf_model.specs.Reaction.{LatestTime, LongestDelay, Each}
use Rattle.ssf_model.specs.Channels.{Sent, message, wait_end, timer_of, numbered, counted, is_on}
use Rattle.timeline_parts.specs.declared.ends.OutEnd.{OutEnd}
use Rattle.timeline_parts.specs.Tables.{numbers_of, AreNumbered, item_at, changed}

-- ---- what is sent

-- the mappings of one out-channel, in their order
abbrev pub mappings_on : ℕ → List Mapping → List Mapping
mappings_on out mappings = filter (λ m. nat_eq m.out_channel out) mappings

-- what a write of an entity with these processes sends, where `routes` gives the mappings of each out-channel
abbrev pub sent_on : {P : Type 0} → (ℕ → List Mapping) → ℕ → List Process → Written P → List (Sent P)
sent_on routes entity processes (Channel out delay payload) = map (message delay payload) (routes out)
sent_on routes entity processes (Timer process delay ticket) = wait_end entity process delay ticket (timer_of (slice_get processes process))

abbrev pub sent_as : {P : Type 0} → ℕ → ℕ → ℕ → ℕ → Kind P → Sent P
sent_as delay priority channel entity kind = record { channel = channel; priority = priority; delay = delay; entity = entity; kind = kind }

-- ---- counts

-- how many writes a channel counts: a channel that is not in the table has none
abbrev pub count_of : List (ℕ × ℕ) → ℕ → ℕ
count_of counts c = unwrap_or (item_at c counts) 0

-- one write more on this channel, and one for each of these events on its own
abbrev pub count_on : ℕ → List (ℕ × ℕ) → List (ℕ × ℕ)
count_on c counts = changed c (λ n. n + 1) counts

abbrev pub all_counted : {P : Type 0} → List (Event P) → List (ℕ × ℕ) → List (ℕ × ℕ)
all_counted [] counts = counts
all_counted (e ∷ es) counts = all_counted es (count_on e.key.channel counts)

-- ---- outboxes

-- the end of a channel with one more event in its outbox
abbrev pub with_event : {P : Type 0} → Event P → OutEnd P → OutEnd P
with_event e o = record { appointed = o.appointed; delay = o.delay; posted = o.posted; written = o.written + 1; outbox = o.outbox ++ e ∷ [] }

abbrev pub put_one : {P : Type 0} → Event P → List (ℕ × OutEnd P) → List (ℕ × OutEnd P)
put_one e ends = changed e.key.channel (with_event e) ends

abbrev pub all_put : {P : Type 0} → List (Event P) → List (ℕ × OutEnd P) → List (ℕ × OutEnd P)
all_put [] ends = ends
all_put (e ∷ es) ends = all_put es (put_one e ends)

-- how many events were written on a channel: none on one that has no such end
abbrev pub written_of : {P : Type 0} → List (ℕ × OutEnd P) → ℕ → ℕ
written_of ends c = unwrap_or (option_map (λ o. o.written) (item_at c ends)) 0

-- ---- sending

-- what is sent goes on a channel whose writes are counted, after a delay in range
pub record IsSendable {P : Type 0} (counts : List (ℕ × ℕ)) (s : Sent P) : Type 0 where
  pub channel : Among s.channel (numbers_of counts)
  pub delay : s.delay ≤ 2 * LongestDelay

-- these can be sent by an event with the key `parent`: all numbers stay in range
pub record MaySend {P : Type 0} (parent : Key) (ss : List (Sent P)) (counts : List (ℕ × ℕ)) (ends : List (ℕ × OutEnd P)) : Type 0 where
  pub time : parent.time ≤ LatestTime
  pub round : parent.round + 1 < 2 ^ 64
  pub counts_rise : AreNumbered counts
  pub ends_rise : AreNumbered ends
  pub sendable : Each (IsSendable counts) ss
  pub room : (s : Sent P) → Among s ss → count_of counts s.channel + count_by (is_on s.channel) ss < 2 ^ 64
  pub room_out : (s : Sent P) → Among s ss → written_of ends s.channel + count_by (is_on s.channel) ss < 2 ^ 64

-- these were sent by an event with the key `parent`: the counts, the ends and the written events before and after
pub record IsSent {P : Type 0} (parent : Key) (ss : List (Sent P)) (c0 : List (ℕ × ℕ)) (o0 : List (ℕ × OutEnd P)) (w0 : List (Event P))
    (c1 : List (ℕ × ℕ)) (o1 : List (ℕ × OutEnd P)) (w1 : List (Event P)) : Type 0 where
  pub written : w1 ≡ w0 ++ numbered parent (count_of c0) ss
  pub counts : c1 ≡ all_counted (numbered parent (count_of c0) ss) c0
  pub ends : o1 ≡ all_put (numbered parent (count_of c0) ss) o0
  pub counted_is : count_of c1 ≡ counted (count_of c0) ss

-- some events were written
pub record IsSentInPart {P : Type 0} (c0 : List (ℕ × ℕ)) (o0 : List (ℕ × OutEnd P)) (w0 : List (Event P))
    (c1 : List (ℕ × ℕ)) (o1 : List (ℕ × OutEnd P)) (w1 : List (Event P)) : Type 0 where
  pub some : List (Event P)
  pub written : w1 ≡ w0 ++ some
  pub counts : c1 ≡ all_counted some c0
  pub ends : o1 ≡ all_put some o0
