-- Parts that are at home are sound together.
use Rattle.std.proofs.Common.{◌≡◌, ℕ, suc, ◌+◌, ◌<◌, ◌≤◌, Bool, true, List, [], ◌∷◌, length, map, refl, sym, ap, ◌∙◌, subst, inl, inr, arith, Option, Some, None, slice_get}
use Rattle.event_order.proofs.Steps.{lt_or_ge}
use Rattle.event_order.specs.declared.key.Key.{Key}
use Rattle.ssf_model.specs.declared.event.Event.{Event}
use Rattle.ssf_model.specs.declared.plan.Plan.{Plan}
use Rattle.ssf_model.specs.Reaction.{Reaction, Validity, LatestTime}
use Rattle.ssf_model.specs.Run.{States, Fits}
use Rattle.ssf_model.specs.Scene.{Scene, Net, scene_of}
use Rattle.sync_rules.specs.Shared.{IsShared}
use Rattle.ssf_model.specs.Truth.{IsWindow}
use Rattle.sync_rules.specs.Parts.{Line, MailOf}
use Rattle.sync_rules.specs.Sound.{HasDone, IsSoundLine, IsSoundMail, IsSoundBarrier, IsSoundCore}
use Rattle.plan_shares.specs.declared.crosses.CrossEnd.{CrossEnd}
use Rattle.timeline.specs.Holding.{taken_of, low_in}
use Rattle.timeline.specs.Lines.{posted_of, line_of}
use Rattle.timeline.specs.Sound.{IsSoundTimeline, IsRunOnLines}
use Rattle.appointments.specs.Mails.{mail_at}
use Rattle.appointments.specs.Mails.{posted_of as posted_to}
use Rattle.barrier_window.specs.BarrierFields.{BarrierFields}
use Rattle.event_order.specs.Pending.{Among}
use Rattle.sync_rules.specs.Bounds.{IsInto}
use Rattle.timeline_parts.specs.Parts.{channel_of}
use Rattle.sync_steps.specs.Between.{HasItsEnds, IsMailOf}
use Rattle.sync_steps.specs.Sounds.{mail_as, barrier_as, HaveTheirPlaces}
use Rattle.sync_steps.proofs.Allowed.{crosses_have_ends}
use Rattle.share_rules.specs.Gathered.{IsOfSame}
use Rattle.appointments.specs.Mails.{Mails}
use Rattle.timeline.specs.View.{TimelineOf}
use Rattle.core_rules.specs.Cores.{CoreView, line_or, mail_or, core_as, AreEndsOf, IsPartOf, IsSoundFor, IsCoreOfRun}
use Rattle.core_rules.specs.Reading.{least_low_in, safe_bound_in}
use Rattle.core_rules.proofs.Lists.{got_at, get_known, one_of, none_some}
use Rattle.share_rules.specs.Places.{count_of, mail_place, barrier_place, done_word, round_word, shares_of}
use Rattle.share_rules.specs.Places.ShareOf.{timeline, mail, barrier}
use Rattle.share_rules.specs.Runs.{Covers}
use Rattle.share_rules.specs.Home.{IsSince, IsTimelineAt, IsMailAt, IsBarrierAt, IsTimelineBy, IsMailBy, IsBarrierBy, AreAtHome}
use Rattle.share_rules.proofs.Lists.{among_at, timeline_stands, mail_stands, barrier_stands}
use Rattle.share_rules.proofs.Runs.{done_by_covers, window_below}

module _ {B S P : Type 0} where
  lows_rise : (end : ℕ) (xs ys : List (TimelineOf B S P)) → length xs ≡ length ys
      → ((i : ℕ) (x : TimelineOf B S P) → slice_get xs i ≡ Some x → (y : TimelineOf B S P) × (slice_get ys i ≡ Some y) × (low_in x ≤ low_in y))
      → least_low_in end xs ≤ least_low_in end ys
  lows_rise end [] [] many each = omega arith
  lows_rise end [] (y ∷ ys) many each = absurd (omega arith)
  lows_rise end (x ∷ xs) [] many each = absurd (omega arith)
  lows_rise end (x ∷ xs) (y ∷ ys) many each =
      let first = each 0 x refl in
      let same : low_in y ≡ low_in first.0 = ap low_in (one_of y first.0 first.1) in
      let low = first.2 in
      let rest = lows_rise end xs ys (omega (arith, many)) (λ i z found. each (suc i) z found) in
      omega (arith, same, low, rest)

module _ {B S P : Type 0} (valid : Validity S) (carried : P → Type 0) (r : Reaction S P) (key core : CoreView B S P) (f : ℕ → ℕ) (home : AreAtHome valid carried r key f (shares_of core)) where
  -- ---- as many as there were

  not_more : (count_of key < length core.timelines) → ⊥
  not_more more = (let t = got_at core.timelines (count_of key) more in
      let at = home.sound (count_of key) (timeline t.0) (timeline_stands core (count_of key) t.0 t.1) in
      let known = at.0 in
      omega (arith, known))

  last_place : length core.timelines + length core.mails ≡ barrier_place key
  last_place = (home.sound (length core.timelines + length core.mails) (barrier core.barrier) (barrier_stands core (length core.timelines + length core.mails) refl)).0

  not_fewer : (length core.timelines < count_of key) → ⊥
  not_fewer fewer =
      (let last = last_place in
      let some = got_at core.mails 0 (omega (arith, last, fewer)) in
      let at = home.sound (length core.timelines) (mail some.0) (mail_stands core (length core.timelines) 0 some.0 (omega arith) some.1) in
      let place = at.2 in
      omega (arith, place, fewer))

  pub same_many : length core.timelines ≡ count_of key
  same_many = elim (lt_or_ge (length core.timelines) (count_of key)) [
    | inl fewer ↦ absurd (not_fewer fewer)
    | inr enough ↦ elim (lt_or_ge (count_of key) (length core.timelines)) [ inl more ↦ absurd (not_more more) | inr less ↦ omega (arith, enough, less) ]
  ]

  pub same_mails : length core.mails ≡ count_of key
  same_mails = (let last = last_place in let many = same_many in omega (arith, last, many))

  -- ---- each part

  pub timeline_home : (i : ℕ) (t : TimelineOf B S P) → slice_get core.timelines i ≡ Some t → IsTimelineAt valid carried r key i t × IsTimelineBy valid carried r key f i t
  timeline_home i t own =
      let stands = timeline_stands core i t own in
      let at = home.sound i (timeline t) stands in
      (at.1, home.owed i (timeline t) stands at.0)

  pub mail_home : (i : ℕ) (m : Mails P) → slice_get core.mails i ≡ Some m → IsMailAt valid carried r key i m × IsMailBy key f i m
  mail_home i m own =
      let many = same_many in
      let place : mail_place key i ≡ length core.timelines + i = omega (arith, many) in
      let stands = mail_stands core (mail_place key i) i m place own in
      let at = home.sound (mail_place key i) (mail m) stands in
      let here = at.2 in
      let same : at.0 ≡ i = omega (arith, here) in
      (subst (λ n. IsMailAt valid carried r key n m) same at.3, home.owed (mail_place key i) (mail m) stands i (subst (λ n. n < count_of key) same at.1) refl)

  pub barrier_home : IsBarrierAt valid carried r key core.barrier × IsBarrierBy valid carried r key f core.barrier
  barrier_home =
      let stands = barrier_stands core (length core.timelines + length core.mails) refl in
      let at = home.sound (length core.timelines + length core.mails) (barrier core.barrier) stands in
      (at.1, home.owed (length core.timelines + length core.mails) (barrier core.barrier) stands at.0)

  -- ---- one run

  module _ (same : IsOfSame key core) (plan : Plan B S P) (until : ℕ) (kept : Key → Bool) (line : ℕ → ℕ) (net : Net) (fits : Fits valid carried plan) (in_time : until ≤ LatestTime)
      (at : ℕ → ℕ) (v : ℕ) (on : IsRunOnLines plan line key.budget (scene_of r plan until kept line net)) (sound : IsSoundFor plan line (scene_of r plan until kept line net) key at v) where
    abbrev s : Scene (States B S P) (Event P)
    s = scene_of r plan until kept line net

    sh : IsShared s
    sh = on.shared

    abbrev b : BarrierFields
    b = core.barrier

    its : (i : ℕ) (t : TimelineOf B S P) → slice_get core.timelines i ≡ Some t → (moment : ℕ) × IsSoundTimeline plan line s i moment t
    its i t own = (timeline_home i t own).0.sound plan until kept line net fits in_time at v on sound

    abbrev moment_of : (i : ℕ) (o : Option (TimelineOf B S P)) → slice_get core.timelines i ≡ o → ℕ
    moment_of i None e = 0
    moment_of i (Some t) e = (its i t e).0

    moment_is : (i : ℕ) (o : Option (TimelineOf B S P)) (e : slice_get core.timelines i ≡ o) (t : TimelineOf B S P) → o ≡ Some t → IsSoundTimeline plan line s i (moment_of i o e) t
    moment_is i None e t h = absurd (none_some t h)
    moment_is i (Some u) e t h = subst (λ (z : TimelineOf B S P). IsSoundTimeline plan line s i (its i u e).0 z) (one_of u t h) (its i u e).1

    abbrev later : ℕ → ℕ
    later i = moment_of i (slice_get core.timelines i) refl

    stands : (i : ℕ) (t : TimelineOf B S P) → slice_get core.timelines i ≡ Some t → IsSoundTimeline plan line s i (later i) t
    stands i t own = moment_is i (slice_get core.timelines i) refl t own

    barrier_sound : (w : ℕ) × IsSoundBarrier s w (barrier_as b)
    barrier_sound = barrier_home.0.sound plan until kept line net fits in_time at v on sound

    there : (i : ℕ) → i < s.net.timelines → (t : TimelineOf B S P) × (slice_get core.timelines i ≡ Some t)
    there i known = got_at core.timelines i (subst (λ n. i < n) (sym (same_many ∙ sound.timelines)) known)

    mail_found : (i : ℕ) → i < s.net.timelines → (m : Mails P) × (slice_get core.mails i ≡ Some m)
    mail_found i known = got_at core.mails i (subst (λ n. i < n) (sym (same_mails ∙ sound.timelines)) known)

    -- ---- a channel's words

    module _ (c : ℕ) (cross : s.net.cross c ≡ true) where
      end_of : (k : ℕ) × (end : CrossEnd) × (slice_get key.ends k ≡ Some end) × (end.channel ≡ c) × (end.sender ≡ s.net.sender c) × (end.receiver ≡ s.net.receiver c)
      end_of =
          let found = sound.ends.all c cross in
          let k = among_at key.ends found.0 found.1 in
          let told = sound.ends.each found.0 found.1 in
          (k.0, found.0, k.1, found.2, sym told.1 ∙ ap s.net.sender found.2, sym told.2 ∙ ap s.net.receiver found.2)

      posted_same : (t : TimelineOf B S P) (m : Mails P) → slice_get core.timelines (s.net.sender c) ≡ Some t → slice_get core.mails (s.net.receiver c) ≡ Some m → posted_to (mail_at m c) ≡ posted_of t.out_ends c
      posted_same t m own its_mail =
          let e = end_of in
          ap (λ n. posted_to (mail_at m n)) (sym e.3)
          ∙ (sym ((mail_home (s.net.receiver c) m its_mail).1.posted e.0 e.1 e.2 e.5)
          ∙ ((timeline_home (s.net.sender c) t own).1.counts.posted e.0 e.1 e.2 e.4 ∙ ap (posted_of t.out_ends) e.3))

      taken_same : (t : TimelineOf B S P) (m : Mails P) → slice_get core.timelines (s.net.receiver c) ≡ Some t → slice_get core.mails (s.net.receiver c) ≡ Some m → (mail_at m c).taken ≡ taken_of t.in_ends c
      taken_same t m own its_mail =
          let e = end_of in
          ap (λ n. (mail_at m n).taken) (sym e.3)
          ∙ (sym ((mail_home (s.net.receiver c) m its_mail).1.taken e.0 e.1 e.2 e.5)
          ∙ ((timeline_home (s.net.receiver c) t own).1.counts.taken e.0 e.1 e.2 e.5 ∙ ap (taken_of t.in_ends) e.3))

    -- ---- each timeline, and all of them

    old_at : (i : ℕ) → i < s.net.timelines → (t : TimelineOf B S P) × (slice_get key.timelines i ≡ Some t)
    old_at i known = got_at key.timelines i (subst (λ n. i < n) (sym sound.timelines) known)

    old_mail : (i : ℕ) → i < s.net.timelines → (m : Mails P) × (slice_get key.mails i ≡ Some m)
    old_mail i known = got_at key.mails i (subst (λ n. i < n) (sym sound.mails) known)

    known_of : (i : ℕ) (t : TimelineOf B S P) → slice_get core.timelines i ≡ Some t → i < s.net.timelines
    known_of i t own = subst (λ n. i < n) (same_many ∙ sound.timelines) (get_known core.timelines i t own)

    own_mail : (i : ℕ) (t : TimelineOf B S P) → slice_get core.timelines i ≡ Some t → (m : Mails P) → slice_get core.mails i ≡ Some m → IsMailOf m t
    own_mail i t own m its_mail =
        let known = known_of i t own in
        let u = old_at i known in
        let n = old_mail i known in
        let of : IsMailOf n.0 u.0 = (sound.each i u.0 u.1).mail n.0 n.1 in
        let ends : HasItsEnds t = crosses_have_ends t (timeline_home i t own).0.crosses in
        let channels : m.channels ≡ map channel_of t.ins = (mail_home i m its_mail).0.channels n.0 n.1 ∙ of.channels ∙ ap (map channel_of) (sym ((timeline_home i t own).0.since u.0 u.1).ins) in
        record {
          channels = channels;
          ends = ends.ins;
          taken = λ c a. (let into : IsInto s.net i c = (stands i t own).placed.into c (subst (λ ns. Among c ns) (channels ∙ sym ends.ins) a) in
              taken_same c into.cross t m (ap (slice_get core.timelines) into.receiver ∙ own) (ap (slice_get core.mails) into.receiver ∙ its_mail));
        }

    part_of : (i : ℕ) (t : TimelineOf B S P) → slice_get core.timelines i ≡ Some t → IsPartOf plan line s core i (later i) t
    part_of i t own = record {
      sound = stands i t own;
      budget = (timeline_home i t own).0.budget ∙ sym same.budget;
      ends = crosses_have_ends t (timeline_home i t own).0.crosses;
      places = subst (λ cs. HaveTheirPlaces t.in_ends cs) (sym barrier_home.0.channels) (timeline_home i t own).0.places;
      mail = own_mail i t own;
    }

    -- ---- all parts

    abbrev before : ℕ
    before = barrier_sound.0

    window_here : IsWindow s (f (round_word key)) before b.window
    window_here = subst (λ n. IsWindow s n before b.window) (sym barrier_home.1.round) barrier_sound.1.window

    line_is : (i : ℕ) (t : TimelineOf B S P) → slice_get core.timelines i ≡ Some t → (core_as s.net later core).lines i ≡ line_of (later i) t
    line_is i t own = ap (line_or (later i)) own

    mail_is : (c : ℕ) (m : Mails P) → slice_get core.mails (s.net.receiver c) ≡ Some m → (core_as s.net later core).mails c ≡ mail_as (mail_at m c)
    mail_is c m own = ap (mail_or c) own

    in_key : (i : ℕ) → i < s.net.timelines → i < count_of key
    in_key i known = subst (λ n. i < n) (sym sound.timelines) known

    done_at : (i : ℕ) → i < s.net.timelines → (x : ℕ) → Covers s i x (f (done_word key i)) → HasDone s i x ((core_as s.net later core).lines i)
    done_at i known x covers =
        let t = there i known in
        let its_own : Covers s i x t.0.executed = subst (λ n. Covers s i x n) (timeline_home i t.0 t.1).1.counts.done covers in
        subst (λ (l : Line (Event P)). HasDone s i x l) (sym (line_is i t.0 t.1)) (done_by_covers s t.0.budget i x (line_of (later i) t.0) (stands i t.0 t.1).counted its_own)

    line_at : (i : ℕ) → i < s.net.timelines → IsSoundLine s i ((core_as s.net later core).lines i)
    line_at i known = (let t = there i known in subst (λ (l : Line (Event P)). IsSoundLine s i l) (sym (line_is i t.0 t.1)) (stands i t.0 t.1).sound)

    entered_at : (i : ℕ) → i < s.net.timelines → ((core_as s.net later core).lines i).entered ≤ b.window
    entered_at i known =
        let t = there i known in
        let low : t.0.entered ≤ b.window = window_below s sh (f (round_word key)) before b.window t.0.entered window_here ((timeline_home i t.0 t.1).1.entered plan until kept line net fits in_time at v on sound) in
        subst (λ (l : Line (Event P)). l.entered ≤ b.window) (sym (line_is i t.0 t.1)) low

    module _ (c : ℕ) (cross : s.net.cross c ≡ true) where
      receives : s.net.receiver c < s.net.timelines
      receives = sh.joining.receiver c cross

      sends : s.net.sender c < s.net.timelines
      sends = sh.joining.sender c cross

      mail_sound : IsSoundMail s c ((core_as s.net later core).mails c)
      mail_sound =
          let m = mail_found (s.net.receiver c) receives in
          subst (λ (z : MailOf (Event P)). IsSoundMail s c z) (sym (mail_is c m.0 m.1))
          ((mail_home (s.net.receiver c) m.0 m.1).0.sound plan until kept line net fits in_time at v on sound c (record { cross = cross; receiver = refl }))

      posted_as : ((core_as s.net later core).mails c).posted ≡ ((core_as s.net later core).lines (s.net.sender c)).posted c
      posted_as =
          let m = mail_found (s.net.receiver c) receives in
          let t = there (s.net.sender c) sends in
          ap (λ (z : MailOf (Event P)). z.posted) (mail_is c m.0 m.1)
          ∙ (posted_same c cross t.0 m.0 t.1 m.1 ∙ ap (λ (l : Line (Event P)). l.posted c) (sym (line_is (s.net.sender c) t.0 t.1)))

      taken_as : ((core_as s.net later core).mails c).taken ≡ ((core_as s.net later core).lines (s.net.receiver c)).taken c
      taken_as =
          let m = mail_found (s.net.receiver c) receives in
          let t = there (s.net.receiver c) receives in
          ap (λ (z : MailOf (Event P)). z.taken) (mail_is c m.0 m.1)
          ∙ (taken_same c cross t.0 m.0 t.1 m.1 ∙ ap (λ (l : Line (Event P)). l.taken c) (sym (line_is (s.net.receiver c) t.0 t.1)))

    all_sound : IsSoundCore s before (core_as s.net later core)
    all_sound = record {
      lines = line_at;
      mails = mail_sound;
      barrier = barrier_sound.1;
      posted = posted_as;
      taken = taken_as;
      entered = entered_at;
      done = λ i known. done_at i known before (home.kept plan until kept line net fits in_time at v on sound before b.window window_here i (in_key i known));
      reported = λ i known told. done_at i known b.window (barrier_home.1.reported plan until kept line net fits in_time at v on sound i (in_key i known) told);
    }

    sound_for : IsSoundFor plan line s core later before
    sound_for = record {
      kept = record { behaviour = same.behaviour ∙ sound.kept.behaviour; before = same.before ∙ sound.kept.before; starts = same.starts ∙ sound.kept.starts };
      until = same.until ∙ sound.until;
      timelines = same_many ∙ sound.timelines;
      mails = same_mails ∙ sound.timelines;
      each = part_of;
      barrier = barrier_home.0.of_run plan until kept line net fits in_time at v on sound;
      ends = subst (λ ends. AreEndsOf s.net ends) (sym same.ends) sound.ends;
      all = all_sound;
    }

    pub together : (at : ℕ → ℕ) × (v : ℕ) × IsSoundFor plan line s core at v
    together = (later, before, sound_for)

  -- ---- the parts of a run

  pub run_still : IsOfSame key core → IsCoreOfRun valid carried r key → IsCoreOfRun valid carried r core
  run_still same q =
      let next = together same q.plan key.until q.kept q.line q.net q.fits q.in_time q.at q.before q.run q.sound in
      let end : key.until ≡ core.until = sym same.until in
      record {
        plan = q.plan;
        line = q.line;
        net = q.net;
        kept = q.kept;
        fits = q.fits;
        in_time = subst (λ u. u ≤ LatestTime) end q.in_time;
        run = subst (λ n. IsRunOnLines q.plan q.line n (scene_of r q.plan core.until q.kept q.line q.net)) (sym same.budget)
            (subst (λ u. IsRunOnLines q.plan q.line key.budget (scene_of r q.plan u q.kept q.line q.net)) end q.run);
        at = next.0;
        before = next.1;
        sound = subst (λ u. IsSoundFor q.plan q.line (scene_of r q.plan u q.kept q.line q.net) core next.0 next.1) end next.2;
      }

  -- ---- what the parts became

  pub since_key : (i : ℕ) (old : TimelineOf B S P) → slice_get key.timelines i ≡ Some old → (t : TimelineOf B S P) × (slice_get core.timelines i ≡ Some t) × IsSince old t
  since_key i old is =
      let t = got_at core.timelines i (subst (λ n. i < n) (sym same_many) (get_known key.timelines i old is)) in
      (t.0, t.1, (timeline_home i t.0 t.1).0.since old is)

  pub safe_rises : IsOfSame key core → safe_bound_in key ≤ safe_bound_in core
  safe_rises same = subst (λ u. safe_bound_in key ≤ least_low_in (u + 1) core.timelines) (sym same.until)
      (lows_rise (key.until + 1) key.timelines core.timelines (sym same_many) (λ i old is. let t = since_key i old is in (t.0, t.1, t.2.low)))
