-- The parts of a run are fit for each step.
use Rattle.std.proofs.Common.{ℕ, ◌≡◌, ◌<◌, ◌∙◌, sym, subst, ap, inl, inr, refl, true, nat_eq, eqb-true, List, [], ◌∷◌, length, map, Some, slice_get}
use Rattle.std.specs.List.{All, Contains}
use Rattle.std.proofs.lemmas.List.Elements.{All-nil, All-cons}
use Rattle.event_order.specs.Pending.{Among}
use Rattle.event_order.proofs.Pending.{test_cases}
use Rattle.ssf_model.specs.declared.event.Event.{Event}
use Rattle.ssf_model.specs.Reaction.{Reaction, Validity, KeepsValid}
use Rattle.ssf_model.specs.Deliver.{IsModest}
use Rattle.ssf_model.specs.Run.{States}
use Rattle.ssf_model.specs.Scene.{Scene, scene_of}
use Rattle.sync_rules.specs.Bounds.{IsInto, IsOutOf}
use Rattle.timeline_parts.specs.declared.part.Cross.{Cross}
use Rattle.timeline_parts.specs.Parts.{channel_of}
use Rattle.timeline_parts.specs.Tables.{numbers_of, item_at}
use Rattle.timeline.specs.View.{TimelineOf, key_of}
use Rattle.timeline.specs.Sound.{IsRunOnLines}
use Rattle.timeline.proofs.Executed.{keys, may_run}
use Rattle.appointments.specs.Mails.{Mails}
use Rattle.plan_shares.specs.declared.crosses.CrossEnd.{CrossEnd}
use Rattle.sync_steps.proofs.Taking.{contained}
use Rattle.sync_steps.proofs.SoundPairs.{mail_new, out_known}
use Rattle.core_rules.specs.Cores.{CoreView, IsPartOf, IsCoreOfRun}
use Rattle.core_rules.proofs.Parts.{own_mails, joined, timeline_there}
use Rattle.sync_core.specs.Steps.{MayStepOn, MayStep, IsJoined}

cross_known : (xs : List Cross) (cs : List ℕ) → ((x : Cross) → Among x xs → Among (channel_of x) cs) → All (Contains cs) (map channel_of xs)
cross_known [] cs known = All-nil (Contains cs)
cross_known (x ∷ xs) cs known = All-cons (Contains cs) (channel_of x) (map channel_of xs) (contained cs (channel_of x) (known x (inl refl))) (cross_known xs cs (λ y a. known y (inr a)))

channel_among : (xs : List Cross) (x : Cross) → Among x xs → Among (channel_of x) (map channel_of xs)
channel_among [] x a = absurd a
channel_among (y ∷ ys) x (inl e) = inl (ap channel_of e)
channel_among (y ∷ ys) x (inr a) = inr (channel_among ys x a)

-- what stands under a number is among the numbers
item_number : {T : Type 0} (n : ℕ) (xs : List (ℕ × T)) (x : T) → item_at n xs ≡ Some x → Among n (numbers_of xs)
item_number n [] x h = absurd (cc)
item_number n (y ∷ ys) x h = elim (test_cases (nat_eq n y.0)) [
  | inl t ↦ inl (eqb-true n y.0 t)
  | inr f ↦ inr (item_number n ys x (rw f at h))
]

module _ {B S P : Type 0} (r : Reaction S P) (valid : Validity S) (carried : P → Type 0) (law : KeepsValid valid carried r) (modest : IsModest valid carried r)
    (core : CoreView B S P) (q : IsCoreOfRun valid carried r core) where
  abbrev s : Scene (States B S P) (Event P)
  s = scene_of r q.plan core.until q.kept q.line q.net

  key_is : s.machine.key ≡ key_of
  key_is = keys r valid carried law modest q.plan core.until q.in_time q.fits q.kept q.line q.net

  part_at : (i : ℕ) (t : TimelineOf B S P) → slice_get core.timelines i ≡ Some t → IsPartOf q.plan q.line s core i (q.at i) t
  part_at i t own = q.sound.each i t own

  may_on : (i : ℕ) (t : TimelineOf B S P) → slice_get core.timelines i ≡ Some t → MayStepOn valid r core i t
  may_on i t own =
      let part : IsPartOf q.plan q.line s core i (q.at i) t = part_at i t own in
      let here : IsRunOnLines q.plan q.line t.budget s = subst (λ n. IsRunOnLines q.plan q.line n s) (sym part.budget) q.run in
      record {
        run = λ event rest first free. may_run r valid carried law modest q.plan core.until q.in_time q.fits q.kept q.line q.net i (q.at i) t here part.sound event rest first free;
        known = cross_known t.outs core.barrier.channels (λ x a.
            let out : IsOutOf s.net i (channel_of x) = part.sound.placed.out (channel_of x) (subst (λ ns. Among (channel_of x) ns) (sym part.ends.outs) (channel_among t.outs x a)) in
            q.sound.barrier.crosses (channel_of x) out.cross);
        own = part.mail;
        new = λ mail its. mail_new q.plan q.line s key_is q.run.shared i (q.at i) mail t part.sound (part.mail mail its) (own_mails q.plan q.line s core q.at q.before q.sound i mail its);
      }

  joined_at : (e : CrossEnd) → Among e core.ends → IsJoined core e
  joined_at e a =
      let net = q.sound.ends.each e a in
      let cross : s.net.cross e.channel ≡ true = net.0 in
      let from : s.net.sender e.channel ≡ e.sender = net.1 in
      let to : s.net.receiver e.channel ≡ e.receiver = net.2 in
      let out : IsOutOf s.net e.sender e.channel = record { cross = cross; sender = from } in
      record {
        sender = subst (λ n. n < length core.timelines) from (subst (λ n. s.net.sender e.channel < n) (sym q.sound.timelines) (q.run.shared.joining.sender e.channel cross));
        receiver = subst (λ n. n < length core.mails) to (subst (λ n. s.net.receiver e.channel < n) (sym q.sound.mails) (q.run.shared.joining.receiver e.channel cross));
        out = λ t own. out_known q.plan q.line s key_is q.run.shared e.sender (q.at e.sender) t (part_at e.sender t own).sound e.channel out;
        into = λ mail its. mail_knows e cross to mail its;
        posted = λ t mail own its. joined q.plan q.line s core q.at q.before q.sound e.sender e.channel e.receiver t mail own out to its;
      }
    where
      mail_knows : (end : CrossEnd) → s.net.cross end.channel ≡ true → s.net.receiver end.channel ≡ end.receiver → (mail : Mails P) → slice_get core.mails end.receiver ≡ Some mail → Contains mail.channels end.channel
      mail_knows end cross to mail its =
          let known : end.receiver < s.net.timelines = subst (λ n. n < s.net.timelines) to (q.run.shared.joining.receiver end.channel cross) in
          let there = timeline_there q.plan q.line s core q.at q.before q.sound end.receiver known in
          let t : TimelineOf B S P = there.0 in
          let part : IsPartOf q.plan q.line s core end.receiver (q.at end.receiver) t = part_at end.receiver t there.1 in
          let own = part.mail mail its in
          let into : IsInto s.net end.receiver end.channel = record { cross = cross; receiver = to } in
          let found = part.sound.placed.ins end.channel into in
          contained mail.channels end.channel (subst (λ ns. Among end.channel ns) (own.ends ∙ sym own.channels) (item_number end.channel t.in_ends found.0 found.1))

  pub may_step : MayStep valid r core
  may_step = record {
    mails = q.sound.mails ∙ sym q.sound.timelines;
    reports = q.sound.barrier.timelines ∙ sym q.sound.timelines;
    each = may_on;
    joined = joined_at;
  }
