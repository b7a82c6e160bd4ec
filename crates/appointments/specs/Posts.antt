-- What posting and taking make of the mail on a channel, and when it is sound.
use Rattle.std.specs.Prelude.{ℕ, ◌≡◌, max, [], ◌++◌, Result, Ok, Err}
use Rattle.ssf_model.specs.declared.event.Event.{Event}
use Rattle.ssf_model.specs.declared.event.Parcel.{Parcel}
use Rattle.ssf_model.specs.Scene.{Scene}
use Rattle.ssf_model.specs.Truth.{IsTrueParcel}
use Rattle.appointments.specs.Mails.{ChannelMail, posted_of}
use Rattle.appointments.specs.declared.mail.PostFault.{PostFault}
use Rattle.appointments.specs.declared.mail.PostFault.TheVariants.{Gap, Memory}

module _ {P : Type 0} where
  -- the parcel's events follow, and the greater promise is kept. So many more events need no memory then
  abbrev pub posted_mail : Parcel P → ℕ → ChannelMail P → ChannelMail P
  posted_mail parcel spare m = record { taken = m.taken; events = m.events ++ parcel.events; appointment = max m.appointment parcel.promise; spare = spare }

  -- the answer to a parcel where so many events were posted: it is taken, or there was no memory, where it begins at that
  -- number, and else it is refused for the gap. A refusal hands it back
  abbrev pub IsPostAnswer : ℕ → Parcel P → Result (Unit {0}) (PostFault P) → Type 0
  IsPostAnswer posted parcel (Ok done) = parcel.first ≡ posted
  IsPostAnswer posted parcel (Err (Gap number back)) = (number ≡ posted) × (parcel.first ≡ posted → ⊥) × (back ≡ parcel)
  IsPostAnswer posted parcel (Err (Memory back)) = (parcel.first ≡ posted) × (back ≡ parcel)

  -- memory is wanting only where this holds
  abbrev pub WantsMemoryOnly : Type 0 → Result (Unit {0}) (PostFault P) → Type 0
  WantsMemoryOnly cause (Ok done) = Unit {0}
  WantsMemoryOnly cause (Err (Gap number back)) = Unit {0}
  WantsMemoryOnly cause (Err (Memory back)) = cause

  -- all events of the mail, with the promise
  abbrev pub taken_parcel : ChannelMail P → Parcel P
  taken_parcel m = record { first = m.taken; events = m.events; promise = m.appointment }

  -- the mail afterwards
  abbrev pub taken_mail : ChannelMail P → ChannelMail P
  taken_mail m = record { taken = posted_of m; events = []; appointment = m.appointment; spare = 0 }

  -- the mail on channel c is sound for a run: its events are the writes on c from the number that were taken on and before
  -- the number that were posted, and on an appointed channel the appointment is a promise after them
  abbrev pub IsSoundMail : {X : Type 0} → Scene X (Event P) → ℕ → ChannelMail P → Type 0
  IsSoundMail s c m = IsTrueParcel s c m.taken m.events (posted_of m) m.appointment
