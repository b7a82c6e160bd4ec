-- Mails and the barrier as the rules of the six steps see them.
use Rattle.std.specs.Prelude.{ℕ, ◌≡◌, Bool, true, false, cond, nat_eq, List, [], ◌∷◌, Option, Some, None, slice_get, length, ◌<◌}
use Rattle.event_order.specs.Pending.{Among}
use Rattle.ssf_model.specs.declared.event.Event.{Event}
use Rattle.ssf_model.specs.Scene.{Scene}
use Rattle.sync_rules.specs.Parts.{Line, MailOf, BarrierOf}
use Rattle.sync_rules.specs.Bounds.{IsInto}
use Rattle.sync_rules.specs.Sound.{IsSoundMail}
use Rattle.sync_rules.specs.Steps.{taken_line}
use Rattle.timeline.specs.View.{TimelineOf}
use Rattle.sync_steps.specs.Between.{HasItsEnds}
use Rattle.timeline_parts.specs.declared.ends.InEnd.{InEnd}
use Rattle.timeline_parts.specs.Tables.{item_at}
use Rattle.appointments.specs.Mails.{ChannelMail, Mails, mail_at, posted_of}
use Rattle.barrier_window.specs.BarrierFields.{BarrierFields}

-- the mail on a channel
abbrev pub mail_as : {P : Type 0} → ChannelMail P → MailOf (Event P)
mail_as m = record { events = m.events; posted = posted_of m; taken = m.taken; appointment = m.appointment }

-- the mail of timeline i is sound on each channel that comes to it
abbrev pub AreSoundMails : {X P : Type 0} → Scene X (Event P) → ℕ → Mails P → Type 0
AreSoundMails s i mail = (c : ℕ) → IsInto s.net i c → IsSoundMail s c (mail_as (mail_at mail c))

-- the number of a channel, where each of these channels has its number in the list
abbrev pub number_of : List ℕ → List ℕ → ℕ → ℕ
number_of [] ns c = 0
number_of (k ∷ ks) [] c = 0
number_of (k ∷ ks) (n ∷ ns) c = cond (nat_eq k c) n (number_of ks ns c)

-- what a timeline has reported
abbrev pub has_least : Option (Option ℕ) → Bool
has_least None = false
has_least (Some None) = false
has_least (Some (Some least)) = true

abbrev pub least_in : Option (Option ℕ) → ℕ
least_in None = 0
least_in (Some None) = 0
least_in (Some (Some least)) = least

-- the barrier
abbrev pub barrier_as : BarrierFields → BarrierOf
barrier_as b = record {
  round = b.round;
  window = b.window;
  counts = number_of b.channels b.counts;
  reported = λ i. has_least (slice_get b.reports i);
  least = λ i. least_in (slice_get b.reports i);
  sent = number_of b.channels b.sent;
  ended = b.ended;
}

-- the ends of a timeline's channels have the places of these among the barrier's
abbrev pub HaveTheirPlaces : List (ℕ × InEnd) → List ℕ → Type 0
HaveTheirPlaces ends channels = (c : ℕ) (e : InEnd) → item_at c ends ≡ Some e → slice_get channels e.place ≡ Some c

-- the barrier knows all channels between timelines, with a number of what was sent on each, and timeline i, which has an
-- end for each of its mappings
pub record IsBarrierFor {X B S P : Type 0} (s : Scene X (Event P)) (i : ℕ) (t : TimelineOf B S P) (b : BarrierFields) : Type 0 where
  pub ends : HasItsEnds t
  pub each : length b.sent ≡ length b.channels
  pub crosses : (c : ℕ) → s.net.cross c ≡ true → Among c b.channels
  pub known : i < length b.reports

-- the steps that take the mail on some channels, one after the other
abbrev pub taken_lines : {X P : Type 0} → Scene X (Event P) → Mails P → List ℕ → Line (Event P) → Line (Event P)
taken_lines s mail [] l = l
taken_lines s mail (c ∷ cs) l = taken_lines s mail cs (taken_line s c l (mail_as (mail_at mail c)))
