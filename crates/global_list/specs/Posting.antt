-- How what an event sends becomes pending and is counted.
use Rattle.std.specs.Prelude.{◌≡◌, ℕ, ◌+◌, ◌*◌, ◌^◌, ◌<◌, ◌≤◌, List, length, count_by}
use Rattle.event_order.specs.declared.key.Key.{Key}
use Rattle.event_order.specs.Pending.{Among, put_all}
use Rattle.ssf_model.specs.declared.event.Event.{Event}
use Rattle.ssf_model.specs.Reaction.{LatestTime, LongestDelay, Each}
use Rattle.ssf_model.specs.Channels.{Sent, counted, numbered}
use Rattle.ssf_model.specs.Run.{counts_of}
use Rattle.ssf_model.specs.Channels.{is_on}
use Rattle.global_list.specs.Pending.{key_of}

-- what is sent goes on a channel that there is, after a delay in range
pub record IsSendable {P : Type 0} (channels : ℕ) (s : Sent P) : Type 0 where
  pub channel : s.channel < channels
  pub delay : s.delay ≤ 2 * LongestDelay

-- these can be sent by an event with the key `parent`: all numbers stay in range, those too that count the channels
-- on which something is sent, and the keys are new
pub record MayPost {P : Type 0} (parent : Key) (ss : List (Sent P)) (counts : List ℕ) (pending : List (Event P)) : Type 0 where
  pub time : parent.time ≤ LatestTime
  pub round : parent.round + 1 < 2 ^ 64
  pub sendable : Each (IsSendable (length counts)) ss
  pub room : (s : Sent P) → Among s ss → counts_of counts s.channel + count_by (is_on s.channel) ss < 2 ^ 64
  pub told : (d : Event P) → Among d pending → d.key.number < counts_of counts d.key.channel

-- these were sent by an event with the key `parent`: the counts and pending events before and after
pub record IsPosted {P : Type 0} (parent : Key) (ss : List (Sent P)) (c0 : List ℕ) (p0 : List (Event P)) (c1 : List ℕ) (p1 : List (Event P)) : Type 0 where
  pub counts : counts_of c1 ≡ counted (counts_of c0) ss
  pub size : length c1 ≡ length c0
  pub pending : p1 ≡ put_all key_of (numbered parent (counts_of c0) ss) p0
