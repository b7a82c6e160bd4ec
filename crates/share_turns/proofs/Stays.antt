-- A timeline that is held out stays so in other views, and is so where it was told.
use Rattle.std.proofs.Common.{◌≡◌, ◌≢◌, ℕ, suc, ◌<◌, ◌≤◌, refl, sym, ap, ◌∙◌, subst, arith, le_of_eq}
use Rattle.ssf_model.specs.Reaction.{Reaction, Validity}
use Rattle.turn_table.specs.declared.view.View.{View}
use Rattle.turn_table.specs.Shapes.{Speaks}
use Rattle.turn_table.specs.Views.{held, note, mark, moving_out, moving_home, taking, losing, giving, writing}
use Rattle.turn_table.proofs.Notes.{notes_stay}
use Rattle.timeline.specs.View.{TimelineOf}
use Rattle.core_rules.specs.Cores.{CoreView}
use Rattle.core_rules.proofs.Lists.{get_known}
use Rattle.share_rules.specs.Places.{count_of, posted_word, taken_word, done_word, round_word, shape_of}
use Rattle.share_rules.specs.Held.{IsNoted, IsTimelineHeld}
use Rattle.share_rules.specs.WordLaws.{posted_of_sender, taken_of_receiver, done_of_timeline}
use Rattle.share_rules.proofs.Holding.{timeline_stays, round_mark}
use Rattle.share_turns.specs.Holdings.{IsTimelineBy, StaysBy}
use Rattle.share_turns.specs.Loads.{HasLoaded}
use Rattle.share_turns.proofs.Views.{wrote_note, wrote_else, wrote_mark_else, home_else}

module _ {B S P : Type 0} (valid : B → Validity S) (carried : B → P → Type 0) (r : B → Reaction S P) (key : CoreView B S P) where
  -- with the same notes of the words that speak of it, and no lower mark of the round
  pub stays_by : (v w : View) (i : ℕ) → ((c : ℕ) → Speaks (shape_of key) c i → 0 < note v c → note w c ≡ note v c) → mark v (round_word key) ≤ mark w (round_word key)
      → StaysBy valid carried r key v w i
  stays_by v w i notes up t q = record {
    sound = timeline_stays (valid key.behaviour) (carried key.behaviour) (r key.behaviour) key (mark v) (mark w) i t up q.sound;
    noted = record {
      posted = λ k end found is. (let was = q.noted.posted k end found is in
          notes (posted_word key k) (subst (λ p. Speaks (shape_of key) (posted_word key k) p) is (posted_of_sender key k end found)) (omega (arith, was)) ∙ was);
      taken = λ k end found is. (let was = q.noted.taken k end found is in
          notes (taken_word key k) (subst (λ p. Speaks (shape_of key) (taken_word key k) p) is (taken_of_receiver key k end found)) (omega (arith, was)) ∙ was);
    };
    done = (let was = q.done in notes (done_word key i) (done_of_timeline key i q.sound.known) (omega (arith, was)) ∙ was);
  }

  pub stays_lost : (v : View) (p i : ℕ) → StaysBy valid carried r key v (losing v p) i
  stays_lost v p i = stays_by v (losing v p) i (λ c says some. refl) (omega arith)

  -- where the turn of a mail or of the barrier was taken, words were loaded and the value was moved out
  pub stays_out : (v u : View) (p i : ℕ) → v.shape ≡ shape_of key → count_of key ≤ p → HasLoaded (taking v p) u → StaysBy valid carried r key v (moving_out u p) i
  stays_out v u p i shape high h = stays_by v (moving_out u p) i (λ c says some. h.notes c some)
      (let same = round_mark key v p shape high in let up = h.marks (round_word key) in omega (arith, same, up))

  -- where another value went home
  pub stays_given : (v : View) (p i : ℕ) → v.shape ≡ shape_of key → i ≢ p → 0 < held v i → StaysBy valid carried r key v (giving (moving_home v p) p) i
  stays_given v p i shape ne some = stays_by v (giving (moving_home v p) p) i
      (λ c says noted. notes_stay (moving_home v p) p c i (subst (λ s. Speaks s c i) (sym shape) says) ne (subst (λ n. 0 < n) (sym (home_else v p i ne)) some))
      (omega arith)

  -- where what it has executed was written
  pub done_written : (v : View) (i done : ℕ) (t : TimelineOf B S P) → IsTimelineHeld (valid key.behaviour) (carried key.behaviour) (r key.behaviour) key (mark v) i t → IsNoted key (note v) i t
      → t.executed ≡ done → IsTimelineBy valid carried r key (writing v (done_word key i) done) i t
  done_written v i done t q noted is = record {
    sound = timeline_stays (valid key.behaviour) (carried key.behaviour) (r key.behaviour) key (mark v) (mark (writing v (done_word key i) done)) i t
        (le_of_eq (sym (wrote_mark_else v (done_word key i) done (round_word key) (λ e. (let known = q.known in omega (arith, e, known)))))) q;
    noted = record {
      posted = λ k end found from. wrote_else v (done_word key i) done (posted_word key k) (λ e. (let known = get_known key.ends k end found in omega (arith, e, known))) ∙ noted.posted k end found from;
      taken = λ k end found from. wrote_else v (done_word key i) done (taken_word key k) (λ e. (let known = get_known key.ends k end found in omega (arith, e, known))) ∙ noted.taken k end found from;
    };
    done = wrote_note v (done_word key i) done ∙ ap suc (sym is);
  }
