-- What the two ends of a channel of a run count.
use Rattle.std.proofs.Common.{◌≡◌, ℕ, ◌<◌, true, length, refl, sym, ap, ◌∙◌, subst, Option, Some, slice_get}
use Rattle.std.specs.List.{Contains}
use Rattle.event_order.specs.Pending.{Among}
use Rattle.ssf_model.specs.declared.event.Event.{Event}
use Rattle.ssf_model.specs.declared.plan.Plan.{Plan}
use Rattle.ssf_model.specs.Reaction.{Reaction, Validity}
use Rattle.ssf_model.specs.Run.{States}
use Rattle.ssf_model.specs.Scene.{Scene, scene_of}
use Rattle.sync_rules.specs.Bounds.{IsInto}
use Rattle.sync_rules.specs.Shared.{IsShared}
use Rattle.timeline_parts.specs.Tables.{numbers_of}
use Rattle.plan_shares.specs.declared.crosses.CrossEnd.{CrossEnd}
use Rattle.timeline.specs.View.{TimelineOf}
use Rattle.timeline.specs.Holding.{taken_of}
use Rattle.timeline.proofs.TellsBounds.{number_among, item_among}
use Rattle.appointments.specs.Mails.{Mails, mail_at}
use Rattle.appointments.specs.Mails.{posted_of as posted_to}
use Rattle.sync_steps.specs.Between.{IsMailOf}
use Rattle.sync_steps.proofs.Taking.{contained}
use Rattle.core_rules.specs.Cores.{CoreView, line_or, IsPartOf, IsSoundFor, IsCoreOfRun}
use Rattle.core_rules.proofs.Parts.{timeline_there}
use Rattle.share_rules.specs.Places.{posted_on, taken_from}
use Rattle.share_rules.proofs.Lists.{at_among}
use Rattle.share_rules.proofs.Opens.{posted_is, mail_posted}

module _ {B S P : Type 0} (plan : Plan B S P) (line : ℕ → ℕ) (s : Scene (States B S P) (Event P)) (sh : IsShared s) (core : CoreView B S P) (at : ℕ → ℕ) (v : ℕ) (sound : IsSoundFor plan line s core at v)
    (k : ℕ) (end : CrossEnd) (found : slice_get core.ends k ≡ Some end) where
  told : (s.net.cross end.channel ≡ true) × (s.net.sender end.channel ≡ end.sender) × (s.net.receiver end.channel ≡ end.receiver)
  told = sound.ends.each end (at_among core.ends k end found)

  into : IsInto s.net end.receiver end.channel
  into = record { cross = told.0; receiver = told.2 }

  known : end.receiver < s.net.timelines
  known = subst (λ n. n < s.net.timelines) told.2 (sh.joining.receiver end.channel told.0)

  among_ends : (t : TimelineOf B S P) → slice_get core.timelines end.receiver ≡ Some t → Among end.channel (numbers_of t.in_ends)
  among_ends t own =
      let part : IsPartOf plan line s core end.receiver (at end.receiver) t = sound.each end.receiver t own in
      let item = part.sound.placed.ins end.channel into in
      number_among (end.channel, item.0) t.in_ends (item_among end.channel item.0 t.in_ends item.1)

  mail_has : (m : Mails P) → slice_get core.mails end.receiver ≡ Some m → Contains m.channels end.channel
  mail_has m its =
      let found = timeline_there plan line s core at v sound end.receiver known in
      let part : IsPartOf plan line s core end.receiver (at end.receiver) found.0 = sound.each end.receiver found.0 found.1 in
      let of : IsMailOf m found.0 = part.mail m its in
      contained m.channels end.channel (subst (λ ns. Among end.channel ns) (of.ends ∙ sym of.channels) (among_ends found.0 found.1))

module _ {B S P : Type 0} (valid : Validity S) (carried : P → Type 0) (r : Reaction S P) (core : CoreView B S P) (run : IsCoreOfRun valid carried r core)
    (k : ℕ) (end : CrossEnd) (found : slice_get core.ends k ≡ Some end) where
  abbrev s : Scene (States B S P) (Event P)
  s = scene_of r run.plan core.until run.kept run.line run.net

  pub receiver_known : end.receiver < length core.timelines
  receiver_known = subst (λ n. end.receiver < n) (sym run.sound.timelines) (known run.plan run.line s run.run.shared core run.at run.before run.sound k end found)

  pub mail_known : end.receiver < length core.mails
  mail_known = subst (λ n. end.receiver < n) (sym run.sound.mails) (known run.plan run.line s run.run.shared core run.at run.before run.sound k end found)

  pub taken_known : (t : TimelineOf B S P) → slice_get core.timelines end.receiver ≡ Some t → Among end.channel (numbers_of t.in_ends)
  taken_known t own = among_ends run.plan run.line s run.run.shared core run.at run.before run.sound k end found t own

  pub mail_contains : (m : Mails P) → slice_get core.mails end.receiver ≡ Some m → Contains m.channels end.channel
  mail_contains m its = mail_has run.plan run.line s run.run.shared core run.at run.before run.sound k end found m its

  pub posted_count : (m : Mails P) → slice_get core.mails end.receiver ≡ Some m → posted_to (mail_at m end.channel) ≡ posted_on core end
  posted_count m its = sym (mail_posted run.plan run.line s run.run.shared core run.at run.before run.sound end.receiver m its k end found refl) ∙ posted_is core k end found

  pub taken_count : (t : TimelineOf B S P) → slice_get core.timelines end.receiver ≡ Some t → taken_of t.in_ends end.channel ≡ taken_from core end
  taken_count t own = sym (ap (λ (o : Option (TimelineOf B S P)). (line_or 0 o).taken end.channel) own)
