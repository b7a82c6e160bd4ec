-- A timeline takes all of its mail.
use Rattle.std.proofs.Common.{◌≡◌, ℕ, ◌<◌, ◌≤◌, true, false, cond, nat_eq, List, [], ◌∷◌, map, set, refl, sym, ap, ◌∙◌, subst, inl, inr, arith, eq-eqb, eqb-true, Option, Some, None, option_map, slice_get}
use mathlib.Core.Path.{fun_ext}
use Rattle.event_order.specs.Pending.{Among}
use Rattle.event_order.proofs.Pending.{test_cases}
use Rattle.ssf_model.specs.declared.event.Event.{Event}
use Rattle.ssf_model.specs.declared.plan.Plan.{Plan}
use Rattle.ssf_model.specs.Run.{States}
use Rattle.ssf_model.specs.Scene.{Scene}
use Rattle.sync_rules.specs.Parts.{Line, MailOf, CoreOf, put_at}
use Rattle.sync_rules.specs.Bounds.{IsInto}
use Rattle.sync_rules.specs.Shared.{IsShared}
use Rattle.sync_rules.specs.Sound.{IsSoundCore}
use Rattle.sync_rules.specs.Steps.{CanTake, taken_line, taken_core}
use Rattle.sync_rules.specs.Steps.{taken_mail as taken_by_rule}
use Rattle.sync_rules.proofs.Bounds.{put_here, put_else}
use Rattle.timeline_parts.specs.declared.ends.InEnd.{InEnd}
use Rattle.timeline_parts.specs.Tables.{numbers_of, AreRising, item_at, changed}
use Rattle.timeline_parts.specs.Parts.{channel_of}
use Rattle.timeline_parts.proofs.Tables.{item_changed}
use Rattle.timeline.specs.View.{TimelineOf, key_of}
use Rattle.timeline.specs.Moving.{taken_end}
use Rattle.timeline.specs.Lines.{line_of}
use Rattle.timeline.proofs.TellsBounds.{number_among, item_among}
use Rattle.appointments.specs.Mails.{ChannelMail, Mails, mail_at, row_at, no_mail}
use Rattle.appointments.specs.Mails.{posted_of as posted_to}
use Rattle.appointments.specs.Posts.{taken_parcel}
use Rattle.sync_steps.specs.Between.{IsMailOf, taken_on, taken_all}
use Rattle.sync_steps.specs.Sounds.{mail_as, AreSoundMails, HaveTheirPlaces, taken_lines}
use Rattle.sync_steps.proofs.SoundPairs.{take_enabled, take_keeps, lines_as, rows_as, own_keeps}
use Rattle.core_rules.specs.Cores.{CoreView, mail_or, core_as, IsPartOf, IsSoundFor}
use Rattle.core_rules.specs.Stepping.{with_timeline, with_mail_of, IsTakenIn}
use Rattle.core_rules.specs.Leading.{AreSteps, LeadsTo}
use Rattle.core_rules.proofs.Lists.{differ_test, one_of, none_some, get_known, set_length, set_at, listed}
use Rattle.core_rules.proofs.Closures.{put_same, taken_cores, HasSome, takes_are_steps, steps_keep}
use Rattle.core_rules.proofs.Parts.{lines_put, part_stays, each_put, line_here, mail_here, own_mails}
use Rattle.core_rules.proofs.Posts.{mail_put}

-- ---- a timeline that has taken mail

module _ {B S P : Type 0} where
  taken_budget : (mail : Mails P) (cs : List ℕ) (t : TimelineOf B S P) → (taken_all mail cs t).budget ≡ t.budget
  taken_budget mail [] t = refl
  taken_budget mail (c ∷ cs) t = taken_budget mail cs (taken_on c (taken_parcel (mail_at mail c)) t)

  taken_outs : (mail : Mails P) (cs : List ℕ) (t : TimelineOf B S P) → (taken_all mail cs t).outs ≡ t.outs
  taken_outs mail [] t = refl
  taken_outs mail (c ∷ cs) t = taken_outs mail cs (taken_on c (taken_parcel (mail_at mail c)) t)

  taken_out_ends : (mail : Mails P) (cs : List ℕ) (t : TimelineOf B S P) → (taken_all mail cs t).out_ends ≡ t.out_ends
  taken_out_ends mail [] t = refl
  taken_out_ends mail (c ∷ cs) t = taken_out_ends mail cs (taken_on c (taken_parcel (mail_at mail c)) t)

changed_end : (f : InEnd → InEnd) (o : Option InEnd) (e : InEnd) → option_map f o ≡ Some e → (d : InEnd) × (o ≡ Some d) × (f d ≡ e)
changed_end f None e h = absurd (none_some e h)
changed_end f (Some d) e h = (d, refl, one_of (f d) e h)

-- the ends keep their places
place_changed : (channels : List ℕ) (c n a : ℕ) (ends : List (ℕ × InEnd)) → HaveTheirPlaces ends channels → HaveTheirPlaces (changed c (taken_end n a) ends) channels
place_changed channels c n a ends places k e found =
    let here : cond (nat_eq k c) (option_map (taken_end n a) (item_at k ends)) (item_at k ends) ≡ Some e = sym (item_changed k c (taken_end n a) ends) ∙ found in
    elim (test_cases (nat_eq k c)) [
      | inl t ↦ (let is : option_map (taken_end n a) (item_at k ends) ≡ Some e = rw t at here in
          let q = changed_end (taken_end n a) (item_at k ends) e is in
          subst (λ (d : InEnd). slice_get channels d.place ≡ Some k) q.2 (places k q.0 q.1))
      | inr f ↦ (let is : item_at k ends ≡ Some e = rw f at here in places k e is)
    ]

module _ {B S P : Type 0} where
  places_taken : (channels : List ℕ) (mail : Mails P) (cs : List ℕ) (t : TimelineOf B S P) → HaveTheirPlaces t.in_ends channels → HaveTheirPlaces (taken_all mail cs t).in_ends channels
  places_taken channels mail [] t places = places
  places_taken channels mail (c ∷ cs) t places = places_taken channels mail cs (taken_on c (taken_parcel (mail_at mail c)) t)
      (place_changed channels c (posted_to (mail_at mail c)) (mail_at mail c).appointment t.in_ends places)

-- ---- mails that were taken

module _ {P : Type 0} where
  row_unknown : (channels : List ℕ) (rows : List (ChannelMail P)) (c : ℕ) → (Among c channels → ⊥) → row_at channels rows c ≡ no_mail
  row_unknown [] rows c none = refl
  row_unknown (k ∷ ks) [] c none = refl
  row_unknown (k ∷ ks) (row ∷ rows) c none = (let f : nat_eq k c ≡ false = differ_test k c (λ e. none (inl (sym e))) in rw f (row_unknown ks rows c (λ a. none (inr a))))

module _ {E : Type 0} where
  -- the mails of some channels are taken
  abbrev all_taken : List ℕ → (ℕ → MailOf E) → ℕ → MailOf E
  all_taken [] mails = mails
  all_taken (c ∷ cs) mails = all_taken cs (put_at c (taken_by_rule (mails c)) mails)

  taken_not : (cs : List ℕ) (mails : ℕ → MailOf E) (k : ℕ) → (Among k cs → ⊥) → all_taken cs mails k ≡ mails k
  taken_not [] mails k none = refl
  taken_not (c ∷ cs) mails k none =
      taken_not cs (put_at c (taken_by_rule (mails c)) mails) k (λ a. none (inr a)) ∙ put_else c k (taken_by_rule (mails c)) mails (λ e. none (inl e))

  taken_yes : (cs : List ℕ) (mails : ℕ → MailOf E) (k : ℕ) → AreRising cs → Among k cs → all_taken cs mails k ≡ taken_by_rule (mails k)
  taken_yes [] mails k rising a = absurd a
  taken_yes (c ∷ cs) mails k rising (inl e) =
      taken_not cs (put_at c (taken_by_rule (mails c)) mails) k (λ a. let less = rising.0 k a in omega arith)
      ∙ subst (λ n. put_at c (taken_by_rule (mails c)) mails n ≡ taken_by_rule (mails n)) (sym e) (put_here c (taken_by_rule (mails c)) mails)
  taken_yes (c ∷ cs) mails k rising (inr a) =
      taken_yes cs (put_at c (taken_by_rule (mails c)) mails) k rising.1 a
      ∙ ap taken_by_rule (put_else c k (taken_by_rule (mails c)) mails (λ e. let less = rising.0 k a in omega arith))

put_again_at : {T : Type 0} (i : ℕ) (a b : T) (g : ℕ → T) (k : ℕ) → put_at i a (put_at i b g) k ≡ put_at i a g k
put_again_at i a b g k = elim (test_cases (nat_eq k i)) [ inl t ↦ rw t refl | inr f ↦ rw f refl ]

put_again : {T : Type 0} (i : ℕ) (a b : T) (g : ℕ → T) → put_at i a (put_at i b g) ≡ put_at i a g
put_again i a b g = fun_ext (put_again_at i a b g)

module _ {X P : Type 0} (s : Scene X (Event P)) (i : ℕ) (mail : Mails P) where
  -- the mail on these channels of timeline i is that of the parts
  abbrev AreOf : CoreOf (Event P) → List ℕ → Type 0
  AreOf t cs = (c : ℕ) → Among c cs → (s.net.receiver c ≡ i) × (t.mails c ≡ mail_as (mail_at mail c))

  one_taken : (c : ℕ) (t : CoreOf (Event P)) → s.net.receiver c ≡ i → t.mails c ≡ mail_as (mail_at mail c)
      → taken_core s c t ≡ record { lines = put_at i (taken_line s c (t.lines i) (mail_as (mail_at mail c))) t.lines; mails = put_at c (taken_by_rule (t.mails c)) t.mails; barrier = t.barrier }
  one_taken c t to is =
      ap (λ (n : ℕ). record { lines = put_at n (taken_line s c (t.lines n) (t.mails c)) t.lines; mails = put_at c (taken_by_rule (t.mails c)) t.mails; barrier = t.barrier }) to
      ∙ ap (λ (m : MailOf (Event P)). record { lines = put_at i (taken_line s c (t.lines i) m) t.lines; mails = put_at c (taken_by_rule (t.mails c)) t.mails; barrier = t.barrier }) is

  -- all of it taken channel by channel
  cores_as : (cs : List ℕ) (t : CoreOf (Event P)) → AreRising cs → AreOf t cs
      → taken_cores s cs t ≡ record { lines = put_at i (taken_lines s mail cs (t.lines i)) t.lines; mails = all_taken cs t.mails; barrier = t.barrier }
  cores_as [] t rising of = ap (λ (f : ℕ → Line (Event P)). record { lines = f; mails = t.mails; barrier = t.barrier }) (sym (put_same i t.lines))
  cores_as (c ∷ cs) t rising of =
      let first = of c (inl refl) in
      let l : Line (Event P) = taken_line s c (t.lines i) (mail_as (mail_at mail c)) in
      let u : CoreOf (Event P) = record { lines = put_at i l t.lines; mails = put_at c (taken_by_rule (t.mails c)) t.mails; barrier = t.barrier } in
      let there : AreOf u cs = λ k a. (let old = of k (inr a) in
      let less : c < k = rising.0 k a in
      (old.0, put_else c k (taken_by_rule (t.mails c)) t.mails (λ e. omega arith) ∙ old.1)) in
      ap (taken_cores s cs) (one_taken c t first.0 first.1)
      ∙ (cores_as cs u rising.1 there
      ∙ (ap (λ (m : Line (Event P)). record { lines = put_at i (taken_lines s mail cs m) u.lines; mails = all_taken cs u.mails; barrier = t.barrier }) (put_here i l t.lines)
      ∙ ap (λ (f : ℕ → Line (Event P)). record { lines = f; mails = all_taken cs u.mails; barrier = t.barrier }) (put_again i (taken_lines s mail cs l) l t.lines)))

-- ---- take

module _ {B S P : Type 0} (plan : Plan B S P) (line : ℕ → ℕ) (s : Scene (States B S P) (Event P)) (keys : s.machine.key ≡ key_of) (sh : IsShared s)
    (core : CoreView B S P) (at : ℕ → ℕ) (v : ℕ) (sound : IsSoundFor plan line s core at v) where
  abbrev before : CoreOf (Event P)
  before = core_as s.net at core

  module _ (i : ℕ) (after : CoreView B S P) (q : IsTakenIn i core after) where
    abbrev t : TimelineOf B S P
    t = q.timeline

    abbrev channels : List ℕ
    channels = q.mail.channels

    abbrev made : CoreView B S P
    made = with_mail_of i q.emptied (with_timeline i q.next core)

    part : IsPartOf plan line s core i (at i) t
    part = sound.each i t q.own

    own : IsMailOf q.mail t
    own = part.mail q.mail q.own_mail

    mails : AreSoundMails s i q.mail
    mails = own_mails plan line s core at v sound i q.mail q.own_mail

    here : before.lines i ≡ line_of (at i) t
    here = line_here plan line s core at v sound i t q.own

    ends_are : channels ≡ numbers_of t.in_ends
    ends_are = own.channels ∙ sym own.ends

    rising : AreRising channels
    rising = subst AreRising (sym ends_are) part.sound.order.in_ends

    into : (c : ℕ) → Among c channels → IsInto s.net i c
    into c a = part.sound.placed.into c (subst (λ ns. Among c ns) ends_are a)

    known : (c : ℕ) → IsInto s.net i c → Among c channels
    known c to = (let found = part.sound.placed.ins c to in subst (λ ns. Among c ns) (sym ends_are) (number_among (c, found.0) t.in_ends (item_among c found.0 t.in_ends found.1)))

    row : (c : ℕ) → IsInto s.net i c → before.mails c ≡ mail_as (mail_at q.mail c)
    row c to = mail_here plan line s core at v sound c i q.mail to.receiver q.own_mail

    are_of : AreOf s i q.mail before channels
    are_of c a = (let to = into c a in (to.receiver, row c to))

    -- ---- what becomes of the mails

    unknown_row : (k : ℕ) → (Among k channels → ⊥) → mail_at q.emptied k ≡ mail_at q.mail k
    unknown_row k none =
        row_unknown q.emptied.channels q.emptied.rows k (λ a. none (subst (λ cs. Among k cs) q.taken.channels a))
        ∙ sym (row_unknown channels q.mail.rows k none)

    row_then : (k : ℕ) → mail_or k (cond (nat_eq (s.net.receiver k) i) (Some q.emptied) (slice_get core.mails (s.net.receiver k))) ≡ all_taken channels before.mails k
    row_then k = elim (listed channels k) [
      | inl a ↦ (let to = into k a in
          let own_one : nat_eq (s.net.receiver k) i ≡ true = eq-eqb (s.net.receiver k) i to.receiver in
          rw own_one (rows_as plan line s keys sh i (at i) q.mail t part.sound own mails q.emptied q.next q.taken k to ∙ (ap taken_by_rule (sym (row k to)) ∙ sym (taken_yes channels before.mails k rising a))))
      | inr none ↦ elim (test_cases (nat_eq (s.net.receiver k) i)) [
        | inl e ↦ rw e (ap mail_as (unknown_row k none) ∙ (sym (mail_here plan line s core at v sound k i q.mail (eqb-true (s.net.receiver k) i e) q.own_mail) ∙ sym (taken_not channels before.mails k none)))
        | inr f ↦ rw f (sym (taken_not channels before.mails k none))
      ]
    ]

    mail_then : (k : ℕ) → mail_or k (slice_get (set core.mails i q.emptied) (s.net.receiver k)) ≡ all_taken channels before.mails k
    mail_then k = ap (mail_or k) (set_at core.mails i (s.net.receiver k) q.emptied (get_known core.mails i q.mail q.own_mail)) ∙ row_then k

    mails_then : (λ k. mail_or k (slice_get (set core.mails i q.emptied) (s.net.receiver k))) ≡ all_taken channels before.mails
    mails_then = fun_ext mail_then

    line_next : line_of (at i) q.next ≡ taken_lines s q.mail channels (before.lines i)
    line_next = lines_as plan line s keys sh i (at i) q.mail t part.sound own mails q.emptied q.next q.taken ∙ ap (taken_lines s q.mail channels) (sym here)

    eq : taken_cores s channels before ≡ core_as s.net at made
    eq =
        cores_as s i q.mail channels before rising are_of
        ∙ sym (ap (λ (f : ℕ → Line (Event P)). record { lines = f; mails = λ k. mail_or k (slice_get (set core.mails i q.emptied) (s.net.receiver k)); barrier = before.barrier })
        (lines_put core.timelines i t q.next q.own at at (at i) refl (λ k differ. refl) ∙ ap (λ (l : Line (Event P)). put_at i l before.lines) line_next)
        ∙ ap (λ (g : ℕ → MailOf (Event P)). record { lines = put_at i (taken_lines s q.mail channels (before.lines i)) before.lines; mails = g; barrier = before.barrier }) mails_then)

    -- ---- the timelines and their mails

    still_own : IsMailOf q.emptied q.next
    still_own = own_keeps plan line s keys sh i (at i) q.mail t part.sound own mails q.emptied q.next q.taken

    mails_of : (k : ℕ) (u : TimelineOf B S P) → (k ≡ i → ⊥) → ((mail : Mails P) → slice_get core.mails k ≡ Some mail → IsMailOf mail u) → (got : Mails P) → slice_get made.mails k ≡ Some got → IsMailOf got u
    mails_of k u differ had got found = elim (mail_put core.mails i q.mail q.emptied q.own_mail k got found) [
      | inl same ↦ absurd (differ same.0)
      | inr other ↦ had got other.1
    ]

    mail_next : (got : Mails P) → slice_get made.mails i ≡ Some got → IsMailOf got q.next
    mail_next got found = elim (mail_put core.mails i q.mail q.emptied q.own_mail i got found) [
      | inl same ↦ subst (λ (z : Mails P). IsMailOf z q.next) same.1 still_own
      | inr other ↦ absurd (other.0 refl)
    ]

    next_part : IsPartOf plan line s made i (at i) q.next
    next_part =
        let all : TimelineOf B S P = taken_all q.mail channels t in
        let is = q.taken.timeline in
        record {
          sound = take_keeps plan line s keys sh i (at i) q.mail t part.sound own mails q.emptied q.next q.taken;
          budget = ap (λ (z : TimelineOf B S P). z.budget) is ∙ taken_budget q.mail channels t ∙ part.budget;
          ends = record {
            ins = still_own.ends;
            outs = ap (λ (z : TimelineOf B S P). numbers_of z.out_ends) is ∙ ap numbers_of (taken_out_ends q.mail channels t) ∙ part.ends.outs
                ∙ ap (map channel_of) (sym (ap (λ (z : TimelineOf B S P). z.outs) is ∙ taken_outs q.mail channels t));
          };
          places = subst (λ es. HaveTheirPlaces es core.barrier.channels) (sym (ap (λ (z : TimelineOf B S P). z.in_ends) is)) (places_taken core.barrier.channels q.mail channels t part.places);
          mail = mail_next;
        }

    other_part : (k : ℕ) (u : TimelineOf B S P) → (k ≡ i → ⊥) → slice_get core.timelines k ≡ Some u → IsPartOf plan line s made k (at k) u
    other_part k u differ got = (let old = sound.each k u got in part_stays plan line s core made k (at k) u old refl refl (mails_of k u differ old.mail))

    whole : (w : ℕ) → IsSoundCore s w (core_as s.net at made) → IsSoundFor plan line s made at w
    whole w all = record {
      kept = record { behaviour = sound.kept.behaviour; before = sound.kept.before; starts = sound.kept.starts };
      until = sound.until;
      timelines = set_length core.timelines i q.next ∙ sound.timelines;
      mails = set_length core.mails i q.emptied ∙ sound.mails;
      each = each_put plan line s core made at i t q.next q.own refl next_part other_part;
      barrier = sound.barrier;
      ends = sound.ends;
      all = all;
    }

    some : HasSome s sh channels before
    some =
        let found = take_enabled plan line s keys sh i (at i) q.mail t part.sound own q.may in
        let c : ℕ = found.0 in
        let to : IsInto s.net i c = found.1 in (
          c,
          known c to,
          subst (λ n. CanTake c (before.lines n) (before.mails c)) (sym to.receiver)
              (subst (λ (l : Line (Event P)). CanTake c l (before.mails c)) (sym here) (subst (λ (m : MailOf (Event P)). CanTake c (line_of (at i) t) m) (sym (row c to)) found.2)),
        )

    -- what was taken, as some steps of the rules
    pub take_leads : (n : ℕ) × (1 ≤ n) × LeadsTo plan line s core at n after
    take_leads =
        let taken = takes_are_steps s sh core.budget v channels before sound.all (λ c a. (into c a).cross) in
        let n : ℕ = taken.0 in
        let steps : AreSteps s core.budget n before (core_as s.net at made) = subst (λ (z : CoreOf (Event P)). AreSteps s core.budget n before z) eq taken.1 in
        let kept = steps_keep s core.budget sh n v before (core_as s.net at made) sound.all steps in (
          n,
          taken.2 some,
          subst (λ (z : CoreView B S P). LeadsTo plan line s core at n z) (sym q.is)
              (record { budget = refl; next = at; before = kept.0; sound = whole kept.0 kept.1; steps = steps }),
        )
