-- A timeline posts to the mail of another one.
use Rattle.std.proofs.Common.{◌≡◌, ℕ, ◌⊎◌, true, cond, nat_eq, List, set, refl, sym, ap, ◌∙◌, subst, inl, inr, eq-eqb, eqb-true, Some, slice_get}
use mathlib.Core.Path.{fun_ext}
use Rattle.event_order.specs.Pending.{Among}
use Rattle.event_order.proofs.Pending.{test_cases}
use Rattle.ssf_model.specs.declared.event.Event.{Event}
use Rattle.ssf_model.specs.declared.plan.Plan.{Plan}
use Rattle.ssf_model.specs.Run.{States}
use Rattle.ssf_model.specs.Scene.{Scene}
use Rattle.sync_rules.specs.Parts.{Line, MailOf, CoreOf, put_at}
use Rattle.sync_rules.specs.Bounds.{IsOutOf}
use Rattle.sync_rules.specs.Shared.{IsShared}
use Rattle.sync_rules.specs.Sound.{IsSoundCore}
use Rattle.sync_rules.specs.Steps.{CanPost, posted_line, posted_core, with_line, with_mail}
use Rattle.sync_rules.specs.Steps.{posted_mail as posted_by_rule}
use Rattle.sync_rules.specs.Steps.IsStep.{posts}
use Rattle.timeline_parts.specs.Tables.{numbers_of}
use Rattle.timeline_parts.proofs.Tables.{numbers_changed}
use Rattle.timeline.specs.View.{TimelineOf, key_of}
use Rattle.timeline.specs.Moving.{posted_end}
use Rattle.timeline.specs.Lines.{line_of, posted_of}
use Rattle.timeline.specs.Sound.{IsSoundTimeline}
use Rattle.appointments.specs.Mails.{ChannelMail, Mails, mail_at}
use Rattle.appointments.specs.Mails.{posted_of as posted_to}
use Rattle.sync_steps.specs.Between.{IsMailOf}
use Rattle.sync_steps.specs.Sounds.{mail_as}
use Rattle.sync_steps.proofs.SoundPairs.{post_enabled, post_as, post_keeps, row_as}
use Rattle.core_rules.specs.Cores.{CoreView, mail_or, core_as, IsPartOf, IsSoundFor}
use Rattle.core_rules.specs.Stepping.{with_timeline, with_mail_of, IsPostedIn}
use Rattle.core_rules.specs.Leading.{LeadsTo}
use Rattle.core_rules.proofs.Lists.{not_equal, one_of, get_known, set_length, set_at}
use Rattle.core_rules.proofs.Parts.{lines_put, end_found, mail_moves, part_stays, part_moves, each_put, line_here, mail_here, joined}
use Rattle.core_rules.proofs.Executes.{step_leads}

-- ---- mails

module _ {P : Type 0} (ms : List (Mails P)) (r : ℕ) (mail filled : Mails P) (its : slice_get ms r ≡ Some mail) where
  -- the mail of one timeline became another one
  pub mail_put : (k : ℕ) (got : Mails P) → slice_get (set ms r filled) k ≡ Some got → ((k ≡ r) × (filled ≡ got)) ⊎ ((k ≡ r → ⊥) × (slice_get ms k ≡ Some got))
  mail_put k got found =
      let here : cond (nat_eq k r) (Some filled) (slice_get ms k) ≡ Some got = sym (set_at ms r k filled (get_known ms r mail its)) ∙ found in
      elim (test_cases (nat_eq k r)) [
        | inl e ↦ (let both : Some filled ≡ Some got = rw e at here in inl (eqb-true k r e, one_of filled got both))
        | inr f ↦ (let there : slice_get ms k ≡ Some got = rw f at here in inr (not_equal k r f, there))
      ]

module _ {P : Type 0} (receiver : ℕ → ℕ) (ms : List (Mails P)) (c r : ℕ) (mail filled : Mails P) (to : receiver c ≡ r) (its : slice_get ms r ≡ Some mail)
    (others : (k : ℕ) → (k ≡ c → ⊥) → mail_at filled k ≡ mail_at mail k) where
  other_row : (k : ℕ) → (k ≡ c → ⊥) → mail_or k (cond (nat_eq (receiver k) r) (Some filled) (slice_get ms (receiver k))) ≡ mail_or k (slice_get ms (receiver k))
  other_row k differ = elim (test_cases (nat_eq (receiver k) r)) [
    | inl e ↦ rw e (ap mail_as (others k differ) ∙ sym (ap (mail_or k) (ap (slice_get ms) (eqb-true (receiver k) r e) ∙ its)))
    | inr f ↦ rw f refl
  ]

  this_row : mail_or c (cond (nat_eq (receiver c) r) (Some filled) (slice_get ms (receiver c))) ≡ mail_as (mail_at filled c)
  this_row = (let e : nat_eq (receiver c) r ≡ true = eq-eqb (receiver c) r to in rw e refl)

  row_put : (k : ℕ) → mail_or k (slice_get (set ms r filled) (receiver k)) ≡ put_at c (mail_as (mail_at filled c)) (λ j. mail_or j (slice_get ms (receiver j))) k
  row_put k = ap (mail_or k) (set_at ms r (receiver k) filled (get_known ms r mail its)) ∙ (elim (test_cases (nat_eq k c)) [
    | inl e ↦ rw e (subst (λ n. mail_or n (cond (nat_eq (receiver n) r) (Some filled) (slice_get ms (receiver n))) ≡ mail_as (mail_at filled c)) (sym (eqb-true k c e)) this_row)
    | inr f ↦ rw f (other_row k (not_equal k c f))
  ])

  pub rows_put : (λ k. mail_or k (slice_get (set ms r filled) (receiver k))) ≡ put_at c (mail_as (mail_at filled c)) (λ j. mail_or j (slice_get ms (receiver j)))
  rows_put = fun_ext row_put

-- ---- post

module _ {B S P : Type 0} (plan : Plan B S P) (line : ℕ → ℕ) (s : Scene (States B S P) (Event P)) (keys : s.machine.key ≡ key_of) (sh : IsShared s)
    (core : CoreView B S P) (at : ℕ → ℕ) (v : ℕ) (sound : IsSoundFor plan line s core at v) where
  abbrev before : CoreOf (Event P)
  before = core_as s.net at core

  module _ (i c : ℕ) (after : CoreView B S P) (q : IsPostedIn i c core after) where
    abbrev t : TimelineOf B S P
    t = q.timeline

    abbrev made : CoreView B S P
    made = with_mail_of q.end.receiver q.filled (with_timeline i q.next core)

    the_end : (s.net.cross c ≡ true) × (s.net.sender c ≡ i) × (s.net.receiver c ≡ q.end.receiver)
    the_end =
        let found = end_found c core.ends q.end q.listed in
        let told = sound.ends.each q.end found.0 in
        (subst (λ n. s.net.cross n ≡ true) found.1 told.0, subst (λ n. s.net.sender n ≡ q.end.sender) found.1 told.1 ∙ q.sender, subst (λ n. s.net.receiver n ≡ q.end.receiver) found.1 told.2)

    pub out : IsOutOf s.net i c
    out = record { cross = the_end.0; sender = the_end.1 }

    part : IsPartOf plan line s core i (at i) t
    part = sound.each i t q.own

    here : before.lines i ≡ line_of (at i) t
    here = line_here plan line s core at v sound i t q.own

    row : before.mails c ≡ mail_as (mail_at q.mail c)
    row = mail_here plan line s core at v sound c q.end.receiver q.mail the_end.2 q.its_mail

    joins : posted_to (mail_at q.mail c) ≡ posted_of t.out_ends c
    joins = joined plan line s core at v sound i c q.end.receiver t q.mail q.own out the_end.2 q.its_mail

    may_here : CanPost s i c (before.lines i) (before.mails c)
    may_here =
        subst (λ (l : Line (Event P)). CanPost s i c l (before.mails c)) (sym here)
        (subst (λ (m : MailOf (Event P)). CanPost s i c (line_of (at i) t) m) (sym row) (post_enabled plan line s keys sh i (at i) t part.sound c out (mail_at q.mail c) q.may))

    may : CanPost s (s.net.sender c) c (before.lines (s.net.sender c)) (before.mails c)
    may = subst (λ n. CanPost s n c (before.lines n) (before.mails c)) (sym the_end.1) may_here

    line_next : line_of (at i) q.next ≡ posted_line c (before.lines i)
    line_next = post_as plan line s keys sh i (at i) t part.sound c out q.next q.mail q.filled q.posted ∙ ap (posted_line c) (sym here)

    row_next : mail_as (mail_at q.filled c) ≡ posted_by_rule s i c (before.lines i) (before.mails c)
    row_next =
        row_as plan line s keys sh i (at i) t part.sound c out q.next q.mail q.filled q.posted joins
        ∙ (ap (λ (l : Line (Event P)). posted_by_rule s i c l (mail_as (mail_at q.mail c))) (sym here) ∙ ap (posted_by_rule s i c (before.lines i)) (sym row))

    eq_here : core_as s.net at made ≡ with_mail c (posted_by_rule s i c (before.lines i) (before.mails c)) (with_line i (posted_line c (before.lines i)) before)
    eq_here =
        ap (λ (f : ℕ → Line (Event P)). record { lines = f; mails = λ k. mail_or k (slice_get (set core.mails q.end.receiver q.filled) (s.net.receiver k)); barrier = before.barrier })
        (lines_put core.timelines i t q.next q.own at at (at i) refl (λ k differ. refl) ∙ ap (λ (l : Line (Event P)). put_at i l before.lines) line_next)
        ∙ ap (λ (g : ℕ → MailOf (Event P)). record { lines = put_at i (posted_line c (before.lines i)) before.lines; mails = g; barrier = before.barrier })
        (rows_put s.net.receiver core.mails c q.end.receiver q.mail q.filled the_end.2 q.its_mail q.posted.others ∙ ap (λ (m : MailOf (Event P)). put_at c m before.mails) row_next)

    eq : core_as s.net at made ≡ posted_core s c before
    eq = subst (λ n. core_as s.net at made ≡ with_mail c (posted_by_rule s n c (before.lines n) (before.mails c)) (with_line n (posted_line c (before.lines n)) before)) (sym the_end.1) eq_here

    -- ---- the timelines and their mails

    row_taken : (k : ℕ) → (mail_at q.filled k).taken ≡ (mail_at q.mail k).taken
    row_taken k = elim (test_cases (nat_eq k c)) [
      | inl e ↦ (let same : k ≡ c = eqb-true k c e in
          subst (λ n. (mail_at q.filled n).taken ≡ (mail_at q.mail n).taken) (sym same) (ap (λ (m : ChannelMail P). m.taken) q.posted.row))
      | inr f ↦ ap (λ (m : ChannelMail P). m.taken) (q.posted.others k (not_equal k c f))
    ]

    filled_of : (u : TimelineOf B S P) → IsMailOf q.mail u → IsMailOf q.filled u
    filled_of u own = record {
      channels = q.posted.channels ∙ own.channels;
      ends = own.ends;
      taken = λ k a. row_taken k ∙ own.taken k (subst (λ cs. Among k cs) q.posted.channels a);
    }

    mails_then : (k : ℕ) (u : TimelineOf B S P) → ((mail : Mails P) → slice_get core.mails k ≡ Some mail → IsMailOf mail u) → (got : Mails P) → slice_get made.mails k ≡ Some got → IsMailOf got u
    mails_then k u own got found = elim (mail_put core.mails q.end.receiver q.mail q.filled q.its_mail k got found) [
      | inl same ↦ subst (λ (z : Mails P). IsMailOf z u) same.1 (filled_of u (own q.mail (ap (slice_get core.mails) same.0 ∙ q.its_mail)))
      | inr other ↦ own got other.1
    ]

    next_part : IsPartOf plan line s made i (at i) q.next
    next_part =
        let stays : IsSoundTimeline plan line s i (at i) q.next = post_keeps plan line s keys sh i (at i) t part.sound c out q.next q.mail q.filled q.posted in
        let is = q.posted.timeline in
        let ins : q.next.ins ≡ t.ins = ap (λ (z : TimelineOf B S P). z.ins) is in
        let in_ends : q.next.in_ends ≡ t.in_ends = ap (λ (z : TimelineOf B S P). z.in_ends) is in
        part_moves plan line s core made i (at i) (at i) t q.next part stays
        (ap (λ (z : TimelineOf B S P). z.budget) is) ins in_ends (ap (λ (z : TimelineOf B S P). z.outs) is)
        (ap (λ (z : TimelineOf B S P). numbers_of z.out_ends) is ∙ numbers_changed c posted_end t.out_ends) refl refl
        (mails_then i q.next (λ mail got. mail_moves mail t q.next ins in_ends (part.mail mail got)))

    other_part : (k : ℕ) (u : TimelineOf B S P) → (k ≡ i → ⊥) → slice_get core.timelines k ≡ Some u → IsPartOf plan line s made k (at k) u
    other_part k u differ got = (let old = sound.each k u got in part_stays plan line s core made k (at k) u old refl refl (mails_then k u old.mail))

    whole : (w : ℕ) → IsSoundCore s w (core_as s.net at made) → IsSoundFor plan line s made at w
    whole w all = record {
      kept = record { behaviour = sound.kept.behaviour; before = sound.kept.before; starts = sound.kept.starts };
      until = sound.until;
      timelines = set_length core.timelines i q.next ∙ sound.timelines;
      mails = set_length core.mails q.end.receiver q.filled ∙ sound.mails;
      each = each_put plan line s core made at i t q.next q.own refl next_part other_part;
      barrier = sound.barrier;
      ends = sound.ends;
      all = all;
    }

    pub post_leads : LeadsTo plan line s core at 1 after
    post_leads = subst (λ (z : CoreView B S P). LeadsTo plan line s core at 1 z) (sym q.is)
        (step_leads plan line s keys sh core at v sound made at refl (posts c out.cross may eq) whole)
