-- How one timeline or one mail of all parts becomes another, and what the rules see of it.
use Rattle.std.proofs.Common.{◌≡◌, ℕ, ◌<◌, cond, nat_eq, List, [], ◌∷◌, map, set, sym, ap, ◌∙◌, subst, inl, inr, eqb-true, Some, slice_get}
use mathlib.Core.Path.{fun_ext}
use Rattle.event_order.specs.Pending.{Among}
use Rattle.event_order.proofs.Pending.{test_cases}
use Rattle.ssf_model.specs.declared.event.Event.{Event}
use Rattle.ssf_model.specs.declared.plan.Plan.{Plan}
use Rattle.ssf_model.specs.Run.{States}
use Rattle.ssf_model.specs.Scene.{Scene}
use Rattle.sync_rules.specs.Parts.{Line, MailOf, put_at}
use Rattle.sync_rules.specs.Bounds.{IsOutOf}
use Rattle.sync_rules.specs.Sound.{IsSoundMail}
use Rattle.timeline_parts.specs.Tables.{numbers_of}
use Rattle.timeline_parts.specs.Parts.{channel_of}
use Rattle.timeline.specs.View.{TimelineOf}
use Rattle.timeline.specs.Holding.{taken_of}
use Rattle.timeline.specs.Lines.{line_of, posted_of}
use Rattle.timeline.specs.Sound.{IsSoundTimeline}
use Rattle.appointments.specs.Mails.{Mails, mail_at}
use Rattle.appointments.specs.Mails.{posted_of as posted_to}
use Rattle.sync_steps.specs.Between.{IsMailOf}
use Rattle.sync_steps.specs.Sounds.{mail_as, AreSoundMails, HaveTheirPlaces}
use Rattle.plan_shares.specs.declared.crosses.CrossEnd.{CrossEnd}
use Rattle.core_rules.specs.Cores.{CoreView, line_or, mail_or, core_as, IsPartOf, IsSoundFor}
use Rattle.core_rules.specs.Stepping.{end_at}
use Rattle.core_rules.proofs.Lists.{not_equal, one_of, none_some, get_known, got_at, set_at}

-- ---- as the rules see them

module _ {B S P : Type 0} (ts : List (TimelineOf B S P)) (i : ℕ) (t next : TimelineOf B S P) (own : slice_get ts i ≡ Some t) (at later : ℕ → ℕ) (m : ℕ)
    (here : later i ≡ m) (there : (k : ℕ) → (k ≡ i → ⊥) → later k ≡ at k) where
  line_put : (k : ℕ) → line_or (later k) (slice_get (set ts i next) k) ≡ put_at i (line_of m next) (λ j. line_or (at j) (slice_get ts j)) k
  line_put k = ap (line_or (later k)) (set_at ts i k next (get_known ts i t own)) ∙ (elim (test_cases (nat_eq k i)) [
    | inl e ↦ rw e (ap (λ n. line_of n next) (ap later (eqb-true k i e) ∙ here))
    | inr f ↦ rw f (ap (λ n. line_or n (slice_get ts k)) (there k (not_equal k i f)))
  ])

  pub lines_put : (λ k. line_or (later k) (slice_get (set ts i next) k)) ≡ put_at i (line_of m next) (λ j. line_or (at j) (slice_get ts j))
  lines_put = fun_ext line_put

-- ---- the ends of a channel

pub end_found : (c : ℕ) (ends : List CrossEnd) (end : CrossEnd) → end_at c ends ≡ Some end → Among end ends × (end.channel ≡ c)
end_found c [] end found = absurd (none_some end found)
end_found c (e ∷ es) end found = elim (test_cases (nat_eq e.channel c)) [
  | inl t ↦ (let both : Some e ≡ Some end = rw t at found in let same : e ≡ end = one_of e end both in
      (inl (sym same), subst (λ (x : CrossEnd). x.channel ≡ c) same (eqb-true e.channel c t)))
  | inr f ↦ (let rest : end_at c es ≡ Some end = rw f at found in let q = end_found c es end rest in (inr q.0, q.1))
]

-- ---- one part at a time

module _ {B S P : Type 0} where
  -- mail is that of a timeline with the same ends of channels that come to it
  pub mail_moves : (mail : Mails P) (t next : TimelineOf B S P) → next.ins ≡ t.ins → next.in_ends ≡ t.in_ends → IsMailOf mail t → IsMailOf mail next
  mail_moves mail t next ins ends own = record {
    channels = own.channels ∙ ap (map channel_of) (sym ins);
    ends = ap numbers_of ends ∙ own.ends ∙ ap (map channel_of) (sym ins);
    taken = λ c a. own.taken c a ∙ ap (λ es. taken_of es c) (sym ends);
  }

module _ {B S P : Type 0} (plan : Plan B S P) (line : ℕ → ℕ) (s : Scene (States B S P) (Event P)) where
  pub part_stays : (core after : CoreView B S P) (k m : ℕ) (t : TimelineOf B S P) → IsPartOf plan line s core k m t → after.budget ≡ core.budget → after.barrier.channels ≡ core.barrier.channels
      → ((mail : Mails P) → slice_get after.mails k ≡ Some mail → IsMailOf mail t) → IsPartOf plan line s after k m t
  part_stays core after k m t part budget channels mails = record {
    sound = part.sound;
    budget = part.budget ∙ sym budget;
    ends = part.ends;
    places = subst (λ cs. HaveTheirPlaces t.in_ends cs) (sym channels) part.places;
    mail = mails;
  }

  -- a timeline with the same mappings and budget, and with ends of the same channels
  pub part_moves : (core after : CoreView B S P) (k m n : ℕ) (t next : TimelineOf B S P) → IsPartOf plan line s core k m t → IsSoundTimeline plan line s k n next
      → next.budget ≡ t.budget → next.ins ≡ t.ins → next.in_ends ≡ t.in_ends → next.outs ≡ t.outs → numbers_of next.out_ends ≡ numbers_of t.out_ends
      → after.budget ≡ core.budget → after.barrier.channels ≡ core.barrier.channels → ((mail : Mails P) → slice_get after.mails k ≡ Some mail → IsMailOf mail next)
      → IsPartOf plan line s after k n next
  part_moves core after k m n t next part sound most ins in_ends outs out_ends budget channels mails = record {
    sound = sound;
    budget = most ∙ part.budget ∙ sym budget;
    ends = record {
      ins = ap numbers_of in_ends ∙ part.ends.ins ∙ ap (map channel_of) (sym ins);
      outs = out_ends ∙ part.ends.outs ∙ ap (map channel_of) (sym outs);
    };
    places = subst (λ cs. HaveTheirPlaces next.in_ends cs) (sym channels) (subst (λ es. HaveTheirPlaces es core.barrier.channels) (sym in_ends) part.places);
    mail = mails;
  }

  -- where timeline i became another one
  pub each_put : (core after : CoreView B S P) (later : ℕ → ℕ) (i : ℕ) (t next : TimelineOf B S P) → slice_get core.timelines i ≡ Some t → after.timelines ≡ set core.timelines i next
      → IsPartOf plan line s after i (later i) next
      → ((k : ℕ) (u : TimelineOf B S P) → (k ≡ i → ⊥) → slice_get core.timelines k ≡ Some u → IsPartOf plan line s after k (later k) u)
      → (k : ℕ) (u : TimelineOf B S P) → slice_get after.timelines k ≡ Some u → IsPartOf plan line s after k (later k) u
  each_put core after later i t next own is part others k u got =
      let here : cond (nat_eq k i) (Some next) (slice_get core.timelines k) ≡ Some u =
      sym (set_at core.timelines i k next (get_known core.timelines i t own)) ∙ (ap (λ (ts : List (TimelineOf B S P)). slice_get ts k) (sym is) ∙ got) in
      elim (test_cases (nat_eq k i)) [
        | inl e ↦ (let both : Some next ≡ Some u = rw e at here in
            let same : next ≡ u = one_of next u both in
            subst (λ n. IsPartOf plan line s after n (later n) u) (sym (eqb-true k i e)) (subst (λ (z : TimelineOf B S P). IsPartOf plan line s after i (later i) z) same part))
        | inr f ↦ (let there : slice_get core.timelines k ≡ Some u = rw f at here in others k u (not_equal k i f) there)
      ]

  -- ---- what the parts say of one timeline

  module _ (core : CoreView B S P) (at : ℕ → ℕ) (v : ℕ) (sound : IsSoundFor plan line s core at v) where
    pub timeline_known : (i : ℕ) (t : TimelineOf B S P) → slice_get core.timelines i ≡ Some t → i < s.net.timelines
    timeline_known i t own = subst (λ n. i < n) sound.timelines (get_known core.timelines i t own)

    pub timeline_there : (i : ℕ) → i < s.net.timelines → (t : TimelineOf B S P) × (slice_get core.timelines i ≡ Some t)
    timeline_there i known = got_at core.timelines i (subst (λ n. i < n) (sym sound.timelines) known)

    pub mail_there : (i : ℕ) → i < s.net.timelines → (mail : Mails P) × (slice_get core.mails i ≡ Some mail)
    mail_there i known = got_at core.mails i (subst (λ n. i < n) (sym sound.mails) known)

    pub line_here : (i : ℕ) (t : TimelineOf B S P) → slice_get core.timelines i ≡ Some t → (core_as s.net at core).lines i ≡ line_of (at i) t
    line_here i t own = ap (line_or (at i)) own

    pub mail_here : (c i : ℕ) (mail : Mails P) → s.net.receiver c ≡ i → slice_get core.mails i ≡ Some mail → (core_as s.net at core).mails c ≡ mail_as (mail_at mail c)
    mail_here c i mail to own = ap (mail_or c) (ap (slice_get core.mails) to ∙ own)

    -- its mail is sound, and joins with what others posted
    pub own_mails : (i : ℕ) (mail : Mails P) → slice_get core.mails i ≡ Some mail → AreSoundMails s i mail
    own_mails i mail own c into = subst (λ (z : MailOf (Event P)). IsSoundMail s c z) (mail_here c i mail into.receiver own) (sound.all.mails c into.cross)

    pub joined : (i c r : ℕ) (t : TimelineOf B S P) (mail : Mails P) → slice_get core.timelines i ≡ Some t → IsOutOf s.net i c → s.net.receiver c ≡ r → slice_get core.mails r ≡ Some mail
        → posted_to (mail_at mail c) ≡ posted_of t.out_ends c
    joined i c r t mail own out to its =
        ap (λ (z : MailOf (Event P)). z.posted) (sym (mail_here c r mail to its))
        ∙ (sound.all.posted c out.cross
        ∙ (ap (λ n. ((core_as s.net at core).lines n).posted c) out.sender
        ∙ ap (λ (l : Line (Event P)). l.posted c) (line_here i t own)))
