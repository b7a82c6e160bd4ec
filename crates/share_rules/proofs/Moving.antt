-- A timeline that is held stays so by its steps, and so does its mail.
use Rattle.std.proofs.Common.{◌≡◌, ◌≢◌, ℕ, suc, ◌+◌, ◌<◌, ◌≤◌, List, [], ◌∷◌, ◌++◌, map, length, refl, sym, ap, ◌∙◌, subst, arith, Bool, true, Some, None, slice_get, length-append}
use Rattle.std.proofs.lemmas.List.{append-nil}
use Rattle.event_order.specs.declared.key.Key.{Key}
use Rattle.ssf_model.specs.declared.event.Event.{Event}
use Rattle.ssf_model.specs.declared.event.Entry.{Entry}
use Rattle.ssf_model.specs.declared.plan.Plan.{Plan}
use Rattle.ssf_model.specs.Reaction.{Reaction, Validity, KeepsValid, LatestTime}
use Rattle.ssf_model.specs.Deliver.{IsModest}
use Rattle.ssf_model.specs.Run.{States, Fits, entry_by}
use Rattle.ssf_model.specs.Scene.{Scene, Net, scene_of}
use Rattle.ssf_model.specs.Truth.{IsNext}
use Rattle.ssf_model.proofs.Places.{stretch_length}
use Rattle.sync_rules.specs.Parts.{Line, MailOf}
use Rattle.sync_rules.specs.Bounds.{IsInto, IsOutOf}
use Rattle.sync_rules.specs.Sound.{IsSoundMail, HasDone}
use Rattle.sync_rules.proofs.Bounds.{put_here as line_here}
use Rattle.turn_table.specs.Changes.{put}
use Rattle.turn_table.proofs.Lookups.{alike}
use Rattle.plan_shares.specs.declared.crosses.CrossEnd.{CrossEnd}
use Rattle.timeline_parts.specs.Sending.{written_of}
use Rattle.timeline.specs.View.{TimelineOf}
use Rattle.timeline.specs.Holding.{low_in, taken_of, IsInOrder}
use Rattle.timeline.specs.Executing.{refusal, written_in, spent_of}
use Rattle.timeline.specs.Moving.{posted_end, can_enter, entered_at}
use Rattle.timeline.specs.Lines.{line_of, posted_of, outbox_of}
use Rattle.timeline.specs.Sound.{IsSoundTimeline, IsRunOnLines, IsExecuted}
use Rattle.timeline.proofs.Executed.{keys, next, step_sound, step_low}
use Rattle.timeline.proofs.Moved.{spent_sound}
use Rattle.timeline.proofs.Free.{both, less_of}
use Rattle.appointments.specs.Mails.{ChannelMail, Mails, mail_at}
use Rattle.appointments.specs.Mails.{posted_of as posted_to}
use Rattle.barrier_window.specs.BarrierFields.{BarrierFields}
use Rattle.sync_steps.specs.Between.{in_place, out_delay, IsPostedTo}
use Rattle.sync_steps.specs.Sounds.{mail_as, HaveTheirPlaces}
use Rattle.sync_steps.proofs.SoundPairs.{post_as, row_as, post_keeps, mail_keeps, entry_keeps}
use Rattle.core_rules.specs.Cores.{CoreView, IsSoundFor, IsCoreOfRun}
use Rattle.core_rules.proofs.Lists.{one_of, get_known}
use Rattle.share_rules.specs.Places.{posted_word, taken_word, round_word}
use Rattle.share_rules.specs.Runs.{IsWindowUpTo, OfItsRuns}
use Rattle.share_rules.specs.Home.{IsSince, IsTimelineAt}
use Rattle.share_rules.specs.Held.{IsNoted, IsMailNoted, IsTimelineHeld, IsMailHeld, IsBarrierHeld, HasPassed}
use Rattle.share_rules.proofs.Runs.{done_by_covers}
use Rattle.share_rules.proofs.Lists.{at_among}
use Rattle.share_rules.proofs.Holding.{put_here, put_else}
use Rattle.share_rules.proofs.Ends.{delays_put, delays_posted, posted_put, posted_other, places_move, crosses_move, entered_low, one_place}

-- ---- the ends of a channel

module _ {B S P : Type 0} (plan : Plan B S P) (line : ℕ → ℕ) (s : Scene (States B S P) (Event P)) (key : CoreView B S P) (at : ℕ → ℕ) (v : ℕ) (sound : IsSoundFor plan line s key at v)
    (k : ℕ) (end : CrossEnd) (found : slice_get key.ends k ≡ Some end) where
  pub end_out : IsOutOf s.net end.sender end.channel
  end_out = (let told = sound.ends.each end (at_among key.ends k end found) in record { cross = told.0; sender = told.1 })

  pub end_into : IsInto s.net end.receiver end.channel
  end_into = (let told = sound.ends.each end (at_among key.ends k end found) in record { cross = told.0; receiver = told.2 })

-- ---- a timeline that has moved

module _ {B S P : Type 0} where
  pub since_moves : (old t after : TimelineOf B S P) (more : List Entry) → after.ins ≡ t.ins → low_in t ≤ low_in after → after.history ≡ t.history ++ more → after.executed ≡ t.executed + length more
      → IsSince old t → IsSince old after
  since_moves old t after more ins low history executed q = record {
    ins = ins ∙ q.ins;
    low = (let before = q.low in omega (arith, before, low));
    more = q.more ++ more;
    history = history ∙ (ap (λ es. es ++ more) q.history ∙ joined old.history q.more more);
    executed = (let before = q.executed in let long = length-append q.more more in omega (arith, before, long, executed));
  }
    where
      joined : (xs ys zs : List Entry) → (xs ++ ys) ++ zs ≡ xs ++ (ys ++ zs)
      joined [] ys zs = refl
      joined (x ∷ xs) ys zs = ap (λ ws. x ∷ ws) (joined xs ys zs)

  pub none_more : (t after : TimelineOf B S P) → after.history ≡ t.history → after.history ≡ t.history ++ []
  none_more t after same = same ∙ sym (append-nil t.history)

module _ {B S P : Type 0} (valid : Validity S) (carried : P → Type 0) (r : Reaction S P) (key : CoreView B S P) where
  pub at_moves : (i : ℕ) (t after : TimelineOf B S P) (more : List Entry) → after.budget ≡ t.budget → after.ins ≡ t.ins → after.outs ≡ t.outs
      → map in_place after.in_ends ≡ map in_place t.in_ends → map out_delay after.out_ends ≡ map out_delay t.out_ends
      → low_in t ≤ low_in after → after.history ≡ t.history ++ more → after.executed ≡ t.executed + length more
      → OfItsRuns valid carried r key (λ plan line s. (moment : ℕ) × IsSoundTimeline plan line s i moment after)
      → IsTimelineAt valid carried r key i t → IsTimelineAt valid carried r key i after
  at_moves i t after more budget ins outs places delays low history executed sound q = record {
    budget = budget ∙ q.budget;
    crosses = crosses_move t after ins outs places delays q.crosses;
    places = places_move t.in_ends after.in_ends key.barrier.channels places q.places;
    since = λ old own. since_moves old t after more ins low history executed (q.since old own);
    sound = sound;
  }

  pub held_moves : (m : ℕ → ℕ) (i : ℕ) (t after : TimelineOf B S P) → after.entered ≡ t.entered → IsTimelineAt valid carried r key i after
      → IsTimelineHeld valid carried r key m i t → IsTimelineHeld valid carried r key m i after
  held_moves m i t after same at q = record {
    known = q.known;
    at = at;
    round = q.round;
    marked = q.marked;
    entered = λ plan until kept line net fits in_time at v on sound. subst (λ x. IsWindowUpTo (scene_of r plan until kept line net) q.round x) (sym same) (q.entered plan until kept line net fits in_time at v on sound);
  }

  -- the run for which the key's parts are sound has these as its own
  pub in_its_run : (law : Plan B S P → (ℕ → ℕ) → Scene (States B S P) (Event P) → Type 0) (q : IsCoreOfRun valid carried r key) → OfItsRuns valid carried r key law
      → law q.plan q.line (scene_of r q.plan key.until q.kept q.line q.net)
  in_its_run law q of = of q.plan key.until q.kept q.line q.net q.fits q.in_time q.at q.before q.run q.sound

module _ {B S P : Type 0} (valid : Validity S) (carried : P → Type 0) (r : Reaction S P) (law : KeepsValid valid carried r) (modest : IsModest valid carried r) (key : CoreView B S P) where
  -- ---- execute

  module _ (i : ℕ) (t after : TimelineOf B S P) (q : IsExecuted r t after) where
    module _ (plan : Plan B S P) (until : ℕ) (kept : Key → Bool) (line : ℕ → ℕ) (net : Net) (fits : Fits valid carried plan) (in_time : until ≤ LatestTime)
        (on : IsRunOnLines plan line key.budget (scene_of r plan until kept line net)) (moment : ℕ) (budget : t.budget ≡ key.budget) (sound : IsSoundTimeline plan line (scene_of r plan until kept line net) i moment t) where
      abbrev here : IsRunOnLines plan line t.budget (scene_of r plan until kept line net)
      here = subst (λ n. IsRunOnLines plan line n (scene_of r plan until kept line net)) (sym budget) on

      abbrev next_event : IsNext (scene_of r plan until kept line net) i moment q.run.event
      next_event = next r valid carried law modest plan until in_time fits kept line net i moment t here sound q.run.event q.run.rest q.run.first q.free

      executes_sound : IsSoundTimeline plan line (scene_of r plan until kept line net) i (suc (next_event.wait + moment)) after
      executes_sound = step_sound r valid carried law modest plan until in_time fits kept line net i moment t here sound q.run.event q.run.rest q.run.first q.free after q.run.entity q.run.at after.spare q.run.is

      executes_low : low_in t ≤ low_in after
      executes_low = step_low r valid carried law modest plan until in_time fits kept line net i moment t here sound q.run.event q.run.rest q.run.first q.free after q.run.entity q.run.at after.spare q.run.is

    pub executed_held : IsCoreOfRun valid carried r key → (m : ℕ → ℕ) → IsTimelineHeld valid carried r key m i t → IsTimelineHeld valid carried r key m i after
    executed_held run m held =
        let is = q.run.is in
        let first = in_its_run valid carried r key (λ plan line s. (moment : ℕ) × IsSoundTimeline plan line s i moment t) run held.at.sound in
        held_moves valid carried r key m i t after (ap (λ (z : TimelineOf B S P). z.entered) is)
        (at_moves valid carried r key i t after (entry_by r q.run.event (Some q.run.entity) ∷ [])
        (ap (λ (z : TimelineOf B S P). z.budget) is) (ap (λ (z : TimelineOf B S P). z.ins) is) (ap (λ (z : TimelineOf B S P). z.outs) is)
        (ap (λ (z : TimelineOf B S P). map in_place z.in_ends) is)
        (ap (λ (z : TimelineOf B S P). map out_delay z.out_ends) is ∙ delays_put (written_in r t q.run.event q.run.entity) t.out_ends)
        (executes_low run.plan key.until run.kept run.line run.net run.fits run.in_time run.run first.0 held.at.budget first.1)
        (ap (λ (z : TimelineOf B S P). z.history) is)
        (ap (λ (z : TimelineOf B S P). z.executed) is)
        (λ plan until kept line net fits in_time at v on sound.
        (let now = held.at.sound plan until kept line net fits in_time at v on sound in
        (suc ((next_event plan until kept line net fits in_time on now.0 held.at.budget now.1).wait + now.0), executes_sound plan until kept line net fits in_time on now.0 held.at.budget now.1)))
        held.at) held

  -- ---- spent

  pub spent_held : (m : ℕ → ℕ) (i : ℕ) (t after : TimelineOf B S P) → IsTimelineHeld valid carried r key m i t → refusal t ≡ None → after ≡ spent_of t after → IsInOrder after
      → IsTimelineHeld valid carried r key m i after
  spent_held m i t after held free is order =
      let low : low_in after ≡ low_in t = ap low_in is in
      let count : after.executed ≡ t.executed = ap (λ (z : TimelineOf B S P). z.executed) is in
      held_moves valid carried r key m i t after (ap (λ (z : TimelineOf B S P). z.entered) is)
      (at_moves valid carried r key i t after []
      (ap (λ (z : TimelineOf B S P). z.budget) is) (ap (λ (z : TimelineOf B S P). z.ins) is) (ap (λ (z : TimelineOf B S P). z.outs) is)
      (ap (λ (z : TimelineOf B S P). map in_place z.in_ends) is) (ap (λ (z : TimelineOf B S P). map out_delay z.out_ends) is)
      (omega (arith, low)) (none_more t after (ap (λ (z : TimelineOf B S P). z.history) is)) (omega (arith, count))
      (λ plan until kept line net fits in_time at v on sound.
      (let now = held.at.sound plan until kept line net fits in_time at v on sound in
      (now.0, spent_sound plan line (scene_of r plan until kept line net) (keys r valid carried law modest plan until in_time fits kept line net) on.shared i now.0 t now.1 after free is order)))
      held.at) held

  -- ---- post

  module _ (k : ℕ) (end : CrossEnd) (t after : TimelineOf B S P) (x x_after : Mails P) (found : slice_get key.ends k ≡ Some end) (q : IsPostedTo end.channel t after x x_after) where
    pub posted_held : (m : ℕ → ℕ) → IsTimelineHeld valid carried r key m end.sender t → IsTimelineHeld valid carried r key m end.sender after × (after.executed ≡ t.executed)
    posted_held m held =
        let is = q.timeline in
        let low : low_in after ≡ low_in t = ap low_in is in
        let count : after.executed ≡ t.executed = ap (λ (z : TimelineOf B S P). z.executed) is in (
          held_moves valid carried r key m end.sender t after (ap (λ (z : TimelineOf B S P). z.entered) is)
              (at_moves valid carried r key end.sender t after []
              (ap (λ (z : TimelineOf B S P). z.budget) is) (ap (λ (z : TimelineOf B S P). z.ins) is) (ap (λ (z : TimelineOf B S P). z.outs) is)
              (ap (λ (z : TimelineOf B S P). map in_place z.in_ends) is)
              (ap (λ (z : TimelineOf B S P). map out_delay z.out_ends) is ∙ delays_posted end.channel t.out_ends)
              (omega (arith, low)) (none_more t after (ap (λ (z : TimelineOf B S P). z.history) is)) (omega (arith, count))
              (λ plan until kept line net fits in_time at v on sound.
              (let now = held.at.sound plan until kept line net fits in_time at v on sound in (
                now.0,
                post_keeps plan line (scene_of r plan until kept line net) (keys r valid carried law modest plan until in_time fits kept line net) on.shared end.sender now.0 t now.1 end.channel
                    (end_out plan line (scene_of r plan until kept line net) key at v sound k end found) after x x_after q,
              )))
              held.at) held,
          count,
        )

    pub post_joined : (n : ℕ → ℕ) → IsNoted key n end.sender t → IsMailNoted key n end.receiver x → posted_to (mail_at x end.channel) ≡ posted_of t.out_ends end.channel
    post_joined n one two = (let a = one.posted k end found refl in let b = two.posted k end found refl in omega (arith, a, b))

    pub posted_mail_held : (n m : ℕ → ℕ) → IsTimelineHeld valid carried r key m end.sender t → IsMailHeld valid carried r key end.receiver x → IsNoted key n end.sender t → IsMailNoted key n end.receiver x
        → IsMailHeld valid carried r key end.receiver x_after
    posted_mail_held n m held mail one two = record {
      known = mail.known;
      at = record {
        channels = λ old own. q.channels ∙ mail.at.channels old own;
        sound = λ plan until kept line net fits in_time at v on sound c into.
            (let now = held.at.sound plan until kept line net fits in_time at v on sound in
            let its = mail.at.sound plan until kept line net fits in_time at v on sound in
            alike c end.channel
            (λ same. subst (λ d. IsSoundMail (scene_of r plan until kept line net) d (mail_as (mail_at x_after d))) (sym same)
            (mail_keeps plan line (scene_of r plan until kept line net) (keys r valid carried law modest plan until in_time fits kept line net) on.shared end.sender now.0 t now.1 end.channel
            (end_out plan line (scene_of r plan until kept line net) key at v sound k end found) after x x_after q (post_joined n one two)
            (its end.channel (end_into plan line (scene_of r plan until kept line net) key at v sound k end found))))
            (λ other. subst (λ (z : ChannelMail P). IsSoundMail (scene_of r plan until kept line net) c (mail_as z)) (sym (q.others c other)) (its c into)));
      };
    }

    module _ (run : IsCoreOfRun valid carried r key) where
      abbrev s : Scene (States B S P) (Event P)
      s = scene_of r run.plan key.until run.kept run.line run.net

      out : IsOutOf s.net end.sender end.channel
      out = end_out run.plan run.line s key run.at run.before run.sound k end found

      module _ (m : ℕ → ℕ) (held : IsTimelineHeld valid carried r key m end.sender t) where
        now : (moment : ℕ) × IsSoundTimeline run.plan run.line s end.sender moment t
        now = in_its_run valid carried r key (λ plan line s. (moment : ℕ) × IsSoundTimeline plan line s end.sender moment t) run held.at.sound

        posted_all : posted_of after.out_ends end.channel ≡ written_of t.out_ends end.channel
        posted_all =
            ap (λ (l : Line (Event P)). l.posted end.channel)
            (post_as run.plan run.line s (keys r valid carried law modest run.plan key.until run.in_time run.fits run.kept run.line run.net) run.run.shared end.sender now.0 t now.1 end.channel out after x x_after q)
            ∙ line_here end.channel (written_of t.out_ends end.channel) (posted_of t.out_ends)

        pub posted_joined : (n : ℕ → ℕ) → IsNoted key n end.sender t → IsMailNoted key n end.receiver x → posted_to (mail_at x_after end.channel) ≡ posted_of after.out_ends end.channel
        posted_joined n one two =
            ap (λ (z : MailOf (Event P)). z.posted)
            (row_as run.plan run.line s (keys r valid carried law modest run.plan key.until run.in_time run.fits run.kept run.line run.net) run.run.shared end.sender now.0 t now.1 end.channel out after x x_after q (post_joined n one two))
            ∙ sym posted_all

        pub posted_rises : posted_of t.out_ends end.channel ≤ posted_of after.out_ends end.channel
        posted_rises =
            (let long = stretch_length s end.channel (posted_of t.out_ends end.channel) (written_of t.out_ends end.channel) (outbox_of t.out_ends end.channel) (now.1.sound.outbox end.channel out) in
            let is = posted_all in
            omega (arith, long, is))

      posted_elsewhere : (c : ℕ) → c ≢ end.channel → posted_of after.out_ends c ≡ posted_of t.out_ends c
      posted_elsewhere c other = ap (λ (z : TimelineOf B S P). posted_of z.out_ends c) q.timeline ∙ posted_other c end.channel posted_end t.out_ends other

      one_end : (j : ℕ) (e : CrossEnd) → slice_get key.ends j ≡ Some e → e.channel ≡ end.channel → j ≡ k
      one_end j e there same = one_place key.ends run.sound.ends.rising j k e end there found same

      same_end : (j : ℕ) (e : CrossEnd) → slice_get key.ends j ≡ Some e → j ≡ k → e ≡ end
      same_end j e there same = one_of e end (sym there ∙ (ap (slice_get key.ends) same ∙ found))

      apart : (j : ℕ) → taken_word key j ≢ posted_word key k
      apart j e = (let small = get_known key.ends k end found in omega (arith, small, e))

      pub posted_noted : (n : ℕ → ℕ) → IsNoted key n end.sender t → IsNoted key (put n (posted_word key k) (suc (posted_of after.out_ends end.channel))) end.sender after
      posted_noted n one = record {
        posted = λ j e there from. alike j k
            (λ same. put_here n k (suc (posted_of after.out_ends end.channel)) j same ∙ ap (λ (d : CrossEnd). suc (posted_of after.out_ends d.channel)) (sym (same_end j e there same)))
            (λ other. put_else n k (suc (posted_of after.out_ends end.channel)) j other
            ∙ (one.posted j e there from ∙ ap (λ c. suc c) (sym (posted_elsewhere e.channel (λ same. other (one_end j e there same))))));
        taken = λ j e there to.
            put_else n k (suc (posted_of after.out_ends end.channel)) (taken_word key j) (apart j)
            ∙ (one.taken j e there to ∙ ap (λ (z : TimelineOf B S P). suc (taken_of z.in_ends e.channel)) (sym q.timeline));
      }

      taken_same : (c : ℕ) → (mail_at x_after c).taken ≡ (mail_at x c).taken
      taken_same c = alike c end.channel
          (λ same. ap (λ d. (mail_at x_after d).taken) same ∙ (ap (λ (row : ChannelMail P). row.taken) q.row ∙ ap (λ d. (mail_at x d).taken) (sym same)))
          (λ other. ap (λ (row : ChannelMail P). row.taken) (q.others c other))

      pub posted_mail_noted : (n : ℕ → ℕ) → IsMailNoted key n end.receiver x → IsMailNoted key (put n (posted_word key k) (suc (posted_to (mail_at x_after end.channel)))) end.receiver x_after
      posted_mail_noted n two = record {
        posted = λ j e there to. alike j k
            (λ same. put_here n k (suc (posted_to (mail_at x_after end.channel))) j same ∙ ap (λ (d : CrossEnd). suc (posted_to (mail_at x_after d.channel))) (sym (same_end j e there same)))
            (λ other. put_else n k (suc (posted_to (mail_at x_after end.channel))) j other
            ∙ (two.posted j e there to ∙ ap (λ (row : ChannelMail P). suc (posted_to row)) (sym (q.others e.channel (λ same. other (one_end j e there same))))));
        taken = λ j e there to.
            put_else n k (suc (posted_to (mail_at x_after end.channel))) (taken_word key j) (apart j)
            ∙ (two.taken j e there to ∙ ap (λ c. suc c) (sym (taken_same e.channel)));
      }

  -- ---- enter

  pub entered_held : (m : ℕ → ℕ) (i : ℕ) (t : TimelineOf B S P) (b : BarrierFields) → IsTimelineHeld valid carried r key m i t → IsBarrierHeld valid carried r key m b
      → HasPassed valid carried r key b i t.executed → suc b.round ≤ m (round_word key) → can_enter t b.window b.counts ≡ true → IsTimelineHeld valid carried r key m i (entered_at b.window t)
  entered_held m i t b held barrier passed marked may =
      let later : t.entered < b.window = less_of t.entered b.window (both _ _ may).0 in
      record {
        known = held.known;
        at = at_moves valid carried r key i t (entered_at b.window t) [] refl refl refl refl refl (entered_low t b.window (omega (arith, later))) (sym (append-nil t.history)) (omega arith)
            (λ plan until kept line net fits in_time at v on sound.
            (let s : Scene (States B S P) (Event P) = scene_of r plan until kept line net in
            let now = held.at.sound plan until kept line net fits in_time at v on sound in
            let of = barrier.at.of_run plan until kept line net fits in_time at v on sound in
            let told = barrier.at.sound plan until kept line net fits in_time at v on sound in
            let done : HasDone s i told.0 (line_of now.0 t) =
            done_by_covers s t.budget i told.0 (line_of now.0 t) now.1.counted (passed plan until kept line net fits in_time at v on sound told.0 b.window told.1.window) in (
              now.0,
              entry_keeps plan line s (keys r valid carried law modest plan until in_time fits kept line net) on.shared i now.0 t now.1 b of.rising of.counts
                  (subst (λ cs. HaveTheirPlaces t.in_ends cs) (sym barrier.at.channels) held.at.places) told.0 told.1 done may,
            )))
            held.at;
        round = held.round;
        marked = held.marked;
        entered = λ plan until kept line net fits in_time at v on sound.
            (let told = barrier.at.sound plan until kept line net fits in_time at v on sound in
            let same = held.marked in
            record { number = b.round; before = told.0; window = told.1.window; early = omega (arith, marked, same) });
      }

-- ---- notes of a timeline that executes, or enters a window

module _ {B S P : Type 0} (r : Reaction S P) (key : CoreView B S P) (n : ℕ → ℕ) (i : ℕ) (t after : TimelineOf B S P) where
  pub executed_noted : IsExecuted r t after → IsNoted key n i t → IsNoted key n i after
  executed_noted q noted = record {
    posted = λ k end found is. noted.posted k end found is
        ∙ ap (λ c. suc c) (sym (ap (λ (z : TimelineOf B S P). posted_of z.out_ends end.channel) q.run.is ∙ posted_put end.channel (written_in r t q.run.event q.run.entity) t.out_ends));
    taken = λ k end found is. noted.taken k end found is ∙ ap (λ (z : TimelineOf B S P). suc (taken_of z.in_ends end.channel)) (sym q.run.is);
  }

  pub spent_noted : after ≡ spent_of t after → IsNoted key n i t → IsNoted key n i after
  spent_noted is noted = record {
    posted = λ k end found from. noted.posted k end found from ∙ ap (λ (z : TimelineOf B S P). suc (posted_of z.out_ends end.channel)) (sym is);
    taken = λ k end found to. noted.taken k end found to ∙ ap (λ (z : TimelineOf B S P). suc (taken_of z.in_ends end.channel)) (sym is);
  }
