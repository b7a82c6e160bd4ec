-- What a contract sees of a timeline's mail, and what holds of every one.
use Rattle.std.specs.Prelude.{ℕ, ◌≡◌, ◌+◌, nat_eq, if◌then◌else◌, List, [], ◌∷◌, length, replicate}
use Rattle.std.specs.List.Sorted.{IsStrictlyIncreasing}
use Rattle.ssf_model.specs.declared.event.Event.{Event}

-- the mail on one channel: how many of its events were taken, those that were posted and not taken, in the order of their
-- numbers, the greatest promise that came with them, and how many more events need no memory
pub record ChannelMail (P : Type 0) : Type 0 where
  pub taken : ℕ
  pub events : List (Event P)
  pub appointment : ℕ
  pub spare : ℕ

-- the mail of a timeline: its channels in rising order, and in that order the mail on each of them
pub record Mails (P : Type 0) : Type 0 where
  pub channels : List ℕ
  pub rows : List (ChannelMail P)

module _ {P : Type 0} where
  -- how many events were posted
  abbrev pub posted_of : ChannelMail P → ℕ
  posted_of m = m.taken + length m.events

  -- where nothing was posted yet
  abbrev pub no_mail : ChannelMail P
  no_mail = record { taken = 0; events = []; appointment = 0; spare = 0 }

  abbrev pub first_mails : List ℕ → Mails P
  first_mails channels = record { channels = channels; rows = replicate (length channels) no_mail }

  -- the mail on a channel, among those of these channels
  abbrev pub row_at : List ℕ → List (ChannelMail P) → ℕ → ChannelMail P
  row_at [] rows channel = no_mail
  row_at (c ∷ cs) [] channel = no_mail
  row_at (c ∷ cs) (row ∷ rows) channel = if nat_eq c channel then row else row_at cs rows channel

  abbrev pub mail_at : Mails P → ℕ → ChannelMail P
  mail_at m channel = row_at m.channels m.rows channel

  -- what holds of every mail
  pub record IsMails (m : Mails P) : Type 0 where
    pub rising : IsStrictlyIncreasing m.channels
    pub each : length m.rows ≡ length m.channels
