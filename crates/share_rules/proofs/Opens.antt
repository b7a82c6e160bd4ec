-- The parts of a run are at home.
use Rattle.std.proofs.Common.{◌≡◌, ℕ, ◌+◌, ◌<◌, ◌≤◌, true, List, [], length, map, refl, sym, ap, ◌∙◌, subst, arith, append-nil, Option, Some, slice_get, slice_index}
use Rattle.event_order.specs.Pending.{Among}
use Rattle.ssf_model.specs.declared.event.Event.{Event}
use Rattle.ssf_model.specs.declared.plan.Plan.{Plan}
use Rattle.ssf_model.specs.Reaction.{Reaction, Validity}
use Rattle.ssf_model.specs.Run.{States}
use Rattle.ssf_model.specs.Scene.{Scene, scene_of}
use Rattle.ssf_model.specs.Truth.{IsWindow}
use Rattle.turn_table.specs.Shapes.{words_in}
use Rattle.sync_rules.specs.Parts.{Line}
use Rattle.sync_rules.specs.Bounds.{IsInto, IsOutOf}
use Rattle.sync_rules.specs.Shared.{IsShared}
use Rattle.sync_rules.specs.Sound.{HasDone}
use Rattle.sync_rules.proofs.Windows.{window_one}
use Rattle.timeline_parts.specs.Tables.{numbers_of}
use Rattle.plan_shares.specs.declared.crosses.CrossEnd.{CrossEnd}
use Rattle.timeline.specs.View.{TimelineOf}
use Rattle.timeline.specs.Lines.{line_of}
use Rattle.timeline.proofs.TellsBounds.{number_among, item_among}
use Rattle.appointments.specs.Mails.{Mails, mail_at}
use Rattle.appointments.specs.Mails.{posted_of as posted_to}
use Rattle.sync_steps.specs.Between.{HasItsCrosses, IsMailOf}
use Rattle.sync_steps.specs.Sounds.{has_least}
use Rattle.core_rules.specs.Cores.{CoreView, core_as, line_or, IsPartOf, IsSoundFor, IsCoreOfRun}
use Rattle.core_rules.proofs.Lists.{get_known, map_length}
use Rattle.core_rules.proofs.Parts.{timeline_known, timeline_there, line_here, own_mails, joined}
use Rattle.share_rules.specs.Places.{ShareOf, count_of, posted_word, taken_word, done_word, round_word, posted_on, taken_from, executed_in, shape_of, shares_of, counts_of}
use Rattle.share_rules.specs.Runs.{Covers, IsWindowUpTo}
use Rattle.share_rules.specs.Home.{IsSince, IsTimelineAt, IsMailAt, IsBarrierAt, IsSoundAt, HasCounts, IsMailBy, IsTimelineBy, IsBarrierBy, Owes, AreAtHome}
use Rattle.share_rules.specs.WordLaws.{row_first, row_second, row_third, row_last, row_long, map_at, words_long}
use Rattle.share_rules.proofs.Lists.{at_among, IsAt, is_at, shares_long}
use Rattle.share_rules.proofs.Lists.IsAt.{a_timeline, a_mail, the_barrier}
use Rattle.share_rules.proofs.Runs.{covers_by_done, number_below}

-- ---- the numbers of the words

module _ {B S P : Type 0} (core : CoreView B S P) where
  abbrev ps : List ℕ
  ps = map (posted_on core) core.ends

  abbrev ts : List ℕ
  ts = map (taken_from core) core.ends

  abbrev ds : List ℕ
  ds = map executed_in core.timelines

  -- the number of a count word
  abbrev pub count_at : ℕ → ℕ
  count_at c = slice_index (counts_of core) c

  pub counts_long : length (counts_of core) ≡ words_in (shape_of core)
  counts_long =
      row_long ps ts ds core.barrier.round 0 (length core.ends) (length core.ends) (count_of core) (map_length (posted_on core) core.ends) (map_length (taken_from core) core.ends) (map_length executed_in core.timelines)
      ∙ sym (words_long core)

  pub posted_is : (k : ℕ) (end : CrossEnd) → slice_get core.ends k ≡ Some end → count_at (posted_word core k) ≡ posted_on core end
  posted_is k end found =
      row_first ps ts ds core.barrier.round 0 (length core.ends) (length core.ends) (count_of core) (map_length (posted_on core) core.ends) (map_length (taken_from core) core.ends) (map_length executed_in core.timelines)
      k (get_known core.ends k end found)
      ∙ map_at (posted_on core) core.ends k end 0 found

  pub taken_is : (k : ℕ) (end : CrossEnd) → slice_get core.ends k ≡ Some end → count_at (taken_word core k) ≡ taken_from core end
  taken_is k end found =
      row_second ps ts ds core.barrier.round 0 (length core.ends) (length core.ends) (count_of core) (map_length (posted_on core) core.ends) (map_length (taken_from core) core.ends) (map_length executed_in core.timelines)
      k (get_known core.ends k end found)
      ∙ map_at (taken_from core) core.ends k end 0 found

  pub done_is : (i : ℕ) (t : TimelineOf B S P) → slice_get core.timelines i ≡ Some t → count_at (done_word core i) ≡ t.executed
  done_is i t own =
      row_third ps ts ds core.barrier.round 0 (length core.ends) (length core.ends) (count_of core) (map_length (posted_on core) core.ends) (map_length (taken_from core) core.ends) (map_length executed_in core.timelines)
      i (get_known core.timelines i t own)
      ∙ map_at executed_in core.timelines i t 0 own

  pub round_is : count_at (round_word core) ≡ core.barrier.round
  round_is = row_last ps ts ds core.barrier.round 0 (length core.ends) (length core.ends) (count_of core) (map_length (posted_on core) core.ends) (map_length (taken_from core) core.ends) (map_length executed_in core.timelines)

  pub own_counts : (i : ℕ) (t : TimelineOf B S P) → slice_get core.timelines i ≡ Some t → HasCounts core count_at i t
  own_counts i t own = record {
    posted = λ k end found is. posted_is k end found ∙ ap (λ (o : Option (TimelineOf B S P)). (line_or 0 o).posted end.channel) (ap (slice_get core.timelines) is ∙ own);
    taken = λ k end found is. taken_is k end found ∙ ap (λ (o : Option (TimelineOf B S P)). (line_or 0 o).taken end.channel) (ap (slice_get core.timelines) is ∙ own);
    done = done_is i t own;
  }

-- ---- one run

module _ {B S P : Type 0} (plan : Plan B S P) (line : ℕ → ℕ) (s : Scene (States B S P) (Event P)) (sh : IsShared s) (core : CoreView B S P) (at : ℕ → ℕ) (v : ℕ) (sound : IsSoundFor plan line s core at v) where
  there : (i : ℕ) → i < count_of core → (t : TimelineOf B S P) × (slice_get core.timelines i ≡ Some t)
  there i known = timeline_there plan line s core at v sound i (subst (λ n. i < n) sound.timelines known)

  done_here : (i : ℕ) (t : TimelineOf B S P) → slice_get core.timelines i ≡ Some t → (x : ℕ) → HasDone s i x ((core_as s.net at core).lines i) → Covers s i x (count_at core (done_word core i))
  done_here i t own x done =
      let part : IsPartOf plan line s core i (at i) t = sound.each i t own in
      let here : HasDone s i x (line_of (at i) t) = subst (λ (l : Line (Event P)). HasDone s i x l) (line_here plan line s core at v sound i t own) done in
      subst (λ n. Covers s i x n) (sym (done_is core i t own)) (covers_by_done s t.budget i x (line_of (at i) t) part.sound.counted here)

  pub keeps_here : (w x : ℕ) → IsWindow s (count_at core (round_word core)) w x → (i : ℕ) → i < count_of core → Covers s i w (count_at core (done_word core i))
  keeps_here w x window i known =
      let t = there i known in
      let same = (window_one s sh core.barrier.round w x v core.barrier.window (subst (λ n. IsWindow s n w x) (round_is core) window) sound.all.barrier.window).0 in
      done_here i t.0 t.1 w (subst (λ n. HasDone s i n ((core_as s.net at core).lines i)) (sym same) (sound.all.done i (timeline_known plan line s core at v sound i t.0 t.1)))

  pub reported_here : (i : ℕ) → i < count_of core → has_least (slice_get core.barrier.reports i) ≡ true → Covers s i core.barrier.window (count_at core (done_word core i))
  reported_here i known told = (let t = there i known in done_here i t.0 t.1 core.barrier.window (sound.all.reported i (timeline_known plan line s core at v sound i t.0 t.1) told))

  pub entered_here : (i : ℕ) (t : TimelineOf B S P) → slice_get core.timelines i ≡ Some t → IsWindowUpTo s (count_at core (round_word core)) t.entered
  entered_here i t own =
      let part : IsPartOf plan line s core i (at i) t = sound.each i t own in
      let l = part.sound.sound in
      let low : t.entered ≤ core.barrier.window =
      subst (λ (z : Line (Event P)). z.entered ≤ core.barrier.window) (line_here plan line s core at v sound i t own) (sound.all.entered i (timeline_known plan line s core at v sound i t own)) in
      let early : l.index ≤ core.barrier.round = number_below s sh l.index l.before t.entered core.barrier.round v core.barrier.window l.window sound.all.barrier.window low in
      record { number = l.index; before = l.before; window = l.window; early = subst (λ n. l.index ≤ n) (sym (round_is core)) early }

  -- ---- the words of mails

  module _ (i : ℕ) (m : Mails P) (own : slice_get core.mails i ≡ Some m) (k : ℕ) (end : CrossEnd) (found : slice_get core.ends k ≡ Some end) (is : end.receiver ≡ i) where
    told : (s.net.cross end.channel ≡ true) × (s.net.sender end.channel ≡ end.sender) × (s.net.receiver end.channel ≡ end.receiver)
    told = sound.ends.each end (at_among core.ends k end found)

    into : IsInto s.net i end.channel
    into = record { cross = told.0; receiver = told.2 ∙ is }

    out : IsOutOf s.net end.sender end.channel
    out = record { cross = told.0; sender = told.1 }

    pub mail_posted : count_at core (posted_word core k) ≡ posted_to (mail_at m end.channel)
    mail_posted =
        let t = timeline_there plan line s core at v sound end.sender (subst (λ n. n < s.net.timelines) told.1 (sh.joining.sender end.channel told.0)) in
        (own_counts core end.sender t.0 t.1).posted k end found refl
        ∙ sym (joined plan line s core at v sound end.sender end.channel i t.0 m t.1 out into.receiver own)

    pub mail_taken : count_at core (taken_word core k) ≡ (mail_at m end.channel).taken
    mail_taken =
        let t = timeline_there plan line s core at v sound i (subst (λ n. n < s.net.timelines) into.receiver (sh.joining.receiver end.channel told.0)) in
        let part : IsPartOf plan line s core i (at i) t.0 = sound.each i t.0 t.1 in
        let of : IsMailOf m t.0 = part.mail m own in
        let at_end = part.sound.placed.ins end.channel into in
        let among : Among end.channel (numbers_of t.0.in_ends) = number_among (end.channel, at_end.0) t.0.in_ends (item_among end.channel at_end.0 t.0.in_ends at_end.1) in
        (own_counts core i t.0 t.1).taken k end found is
        ∙ sym (of.taken end.channel (subst (λ ns. Among end.channel ns) (of.ends ∙ sym of.channels) among))

-- ---- all of them

module _ {B S P : Type 0} (valid : Validity S) (carried : P → Type 0) (r : Reaction S P) (core : CoreView B S P) (q : IsCoreOfRun valid carried r core)
    (crosses : (i : ℕ) (t : TimelineOf B S P) → slice_get core.timelines i ≡ Some t → HasItsCrosses t) where
  abbrev s : Scene (States B S P) (Event P)
  s = scene_of r q.plan core.until q.kept q.line q.net

  many : length core.mails ≡ count_of core
  many = q.sound.mails ∙ sym q.sound.timelines

  itself : (t old : TimelineOf B S P) → old ≡ t → IsSince old t
  itself t old same = subst (λ (z : TimelineOf B S P). IsSince z t) (sym same) (record { ins = refl; low = omega arith; more = []; history = sym (append-nil t.history); executed = omega arith })

  one_there : {T : Type 0} (xs : List T) (i : ℕ) (x y : T) → slice_get xs i ≡ Some x → slice_get xs i ≡ Some y → x ≡ y
  one_there xs i x y a b = cc

  timeline_at : (i : ℕ) (t : TimelineOf B S P) → slice_get core.timelines i ≡ Some t → IsTimelineAt valid carried r core i t
  timeline_at i t own = record {
    budget = (q.sound.each i t own).budget;
    crosses = crosses i t own;
    places = (q.sound.each i t own).places;
    since = λ old is. itself t old (one_there core.timelines i old t is own);
    sound = λ plan until kept line net fits in_time at v on sound. (at i, (sound.each i t own).sound);
  }

  mail_at_home : (i : ℕ) (m : Mails P) → slice_get core.mails i ≡ Some m → IsMailAt valid carried r core i m
  mail_at_home i m own = record {
    channels = λ old is. ap (λ (z : Mails P). z.channels) (one_there core.mails i m old own is);
    sound = λ plan until kept line net fits in_time at v on sound. own_mails plan line (scene_of r plan until kept line net) core at v sound i m own;
  }

  barrier_at : IsBarrierAt valid carried r core core.barrier
  barrier_at = record {
    channels = refl;
    round = omega arith;
    of_run = λ plan until kept line net fits in_time at v on sound. sound.barrier;
    sound = λ plan until kept line net fits in_time at v on sound. (v, sound.all.barrier);
  }

  timeline_by : (i : ℕ) (t : TimelineOf B S P) → slice_get core.timelines i ≡ Some t → IsTimelineBy valid carried r core (count_at core) i t
  timeline_by i t own = record {
    counts = own_counts core i t own;
    entered = λ plan until kept line net fits in_time at v on sound. entered_here plan line (scene_of r plan until kept line net) on.shared core at v sound i t own;
  }

  mail_by : (i : ℕ) (m : Mails P) → slice_get core.mails i ≡ Some m → IsMailBy core (count_at core) i m
  mail_by i m own = record {
    posted = λ k end found is. mail_posted q.plan q.line s q.run.shared core q.at q.before q.sound i m own k end found is;
    taken = λ k end found is. mail_taken q.plan q.line s q.run.shared core q.at q.before q.sound i m own k end found is;
  }

  barrier_by : IsBarrierBy valid carried r core (count_at core) core.barrier
  barrier_by = record {
    round = round_is core;
    reported = λ plan until kept line net fits in_time at v on sound i known told. reported_here plan line (scene_of r plan until kept line net) on.shared core at v sound i known told;
  }

  sound_at : (p : ℕ) (x : ShareOf B S P) → IsAt core p x → IsSoundAt valid carried r core p x
  sound_at p x (a_timeline t own is) = subst (λ (z : ShareOf B S P). IsSoundAt valid carried r core p z) (sym is) (get_known core.timelines p t own, timeline_at p t own)
  sound_at p x (a_mail i m at own is) = subst (λ (z : ShareOf B S P). IsSoundAt valid carried r core p z) (sym is) (i, subst (λ n. i < n) many (get_known core.mails i m own), at, mail_at_home i m own)
  sound_at p x (the_barrier at is) = subst (λ (z : ShareOf B S P). IsSoundAt valid carried r core p z) (sym is) (at ∙ ap (λ n. count_of core + n) many, barrier_at)

  owed_at : (p : ℕ) (x : ShareOf B S P) → IsAt core p x → Owes valid carried r core (count_at core) p x
  owed_at p x (a_timeline t own is) = subst (λ (z : ShareOf B S P). Owes valid carried r core (count_at core) p z) (sym is) (λ known. timeline_by p t own)
  owed_at p x (a_mail i m at own is) = subst (λ (z : ShareOf B S P). Owes valid carried r core (count_at core) p z) (sym is)
      (λ j known here. let same : i ≡ j = omega (arith, at, here) in mail_by j m (subst (λ n. slice_get core.mails n ≡ Some m) same own))
  owed_at p x (the_barrier at is) = subst (λ (z : ShareOf B S P). Owes valid carried r core (count_at core) p z) (sym is) (λ here. barrier_by)

  pub opens : AreAtHome valid carried r core (count_at core) (shares_of core)
  opens = record {
    places = (let long = shares_long core in let same = many in omega (arith, long, same));
    sound = λ p x stands. sound_at p x (is_at core p x stands);
    owed = λ p x stands. owed_at p x (is_at core p x stands);
    kept = λ plan until kept line net fits in_time at v on sound. keeps_here plan line (scene_of r plan until kept line net) on.shared core at v sound;
  }
