-- How much a timeline has taken, written channel by channel.
use Rattle.std.proofs.Common.{◌≡◌, ◌≢◌, ℕ, suc, ◌+◌, ◌<◌, List, refl, sym, ap, ◌∙◌, subst, inl, inr, arith, Some, slice_get}
use Rattle.event_order.specs.Pending.{Among}
use Rattle.ssf_model.specs.Reaction.{Reaction, Validity}
use Rattle.turn_table.specs.declared.view.View.{View}
use Rattle.turn_table.specs.Shapes.{is_marked}
use Rattle.turn_table.specs.Views.{held, lost, note, mark, writing}
use Rattle.turn_table.proofs.Lookups.{alike}
use Rattle.plan_shares.specs.declared.crosses.CrossEnd.{CrossEnd}
use Rattle.timeline_parts.specs.Tables.{numbers_of}
use Rattle.timeline.specs.View.{TimelineOf}
use Rattle.timeline.specs.Holding.{taken_of}
use Rattle.timeline.specs.Sound.{IsSoundTimeline}
use Rattle.timeline.proofs.TellsBounds.{number_among, item_among}
use Rattle.core_rules.specs.Cores.{CoreView, IsCoreOfRun}
use Rattle.ssf_model.specs.Scene.{scene_of}
use Rattle.share_rules.specs.Places.{count_of, taken_word, shape_of}
use Rattle.share_rules.specs.Held.{IsTimelineHeld}
use Rattle.share_rules.proofs.Holding.{taken_unmarked}
use Rattle.share_rules.proofs.Moving.{end_into, in_its_run}
use Rattle.share_turns.specs.Holdings.{IsTakenWord, AreTakenUpTo, AreTakenWritten}
use Rattle.share_turns.proofs.Rows.{IsBefore, before_none, before_cases}
use Rattle.share_turns.proofs.Views.{wrote_note, wrote_else, wrote_marks}

module _ {B S P : Type 0} (valid : Validity S) (carried : P → Type 0) (r : Reaction S P) (key : CoreView B S P) where
  -- a channel that comes to a held timeline is among its ends
  pub into_there : IsCoreOfRun valid carried r key → (m : ℕ → ℕ) (i : ℕ) (t : TimelineOf B S P) → IsTimelineHeld valid carried r key m i t
      → (k : ℕ) (end : CrossEnd) → slice_get key.ends k ≡ Some end → end.receiver ≡ i → Among end.channel (numbers_of t.in_ends)
  into_there run m i t q k end found is =
      let now = in_its_run valid carried r key (λ plan line z. (moment : ℕ) × IsSoundTimeline plan line z i moment t) run q.at.sound in
      let into = end_into run.plan run.line (scene_of r run.plan key.until run.kept run.line run.net) key run.at run.before run.sound k end found in
      let there = now.1.placed.ins end.channel (record { cross = into.cross; receiver = into.receiver ∙ is }) in
      number_among (end.channel, there.0) t.in_ends (item_among end.channel there.0 t.in_ends there.1)

-- as far as the channels whose places are among the first of a row
pub record AreTakenTo {B S P : Type 0} (key : CoreView B S P) (row : List ℕ) (v w : View) (i : ℕ) (t : TimelineOf B S P) (n : ℕ) : Type 0 where
  pub taken : (k : ℕ) (end : CrossEnd) → slice_get key.ends k ≡ Some end → end.receiver ≡ i → IsBefore row n k → note w (taken_word key k) ≡ suc (taken_of t.in_ends end.channel)
  -- a place may stand in the row once more
  pub rises : AreTakenUpTo key w i t
  pub others : (c : ℕ) → (IsTakenWord key i c → ⊥) → note w c ≡ note v c
  pub marks : (c : ℕ) → mark w c ≡ mark v c
  pub places : (p : ℕ) → held w p ≡ held v p
  pub tries : (p : ℕ) → lost w p ≡ lost v p

module _ {B S P : Type 0} (key : CoreView B S P) (row : List ℕ) (v : View) (i : ℕ) (t : TimelineOf B S P) where
  pub taken_first : AreTakenUpTo key v i t → AreTakenTo key row v v i t 0
  taken_first rises = record {
    taken = λ k end found is before. absurd (before_none row k before);
    rises = rises;
    others = λ c other. refl;
    marks = λ c. refl;
    places = λ p. refl;
    tries = λ p. refl;
  }

  pub taken_all : (w : View) (n : ℕ) → AreTakenTo key row v w i t n → ((k : ℕ) (end : CrossEnd) → slice_get key.ends k ≡ Some end → end.receiver ≡ i → IsBefore row n k) → AreTakenWritten key v w i t
  taken_all w n q all = record {
    taken = λ k end found is. q.taken k end found is (all k end found is);
    others = q.others;
    marks = q.marks;
    places = q.places;
    tries = q.tries;
  }

  -- the timeline does not receive on the channel at the next place
  pub taken_same : (w : View) (n x : ℕ) (end : CrossEnd) → slice_get row n ≡ Some x → slice_get key.ends x ≡ Some end → end.receiver ≢ i → AreTakenTo key row v w i t n → AreTakenTo key row v w i t (n + 1)
  taken_same w n x end here found other q = record {
    taken = λ k e at is before. elim (before_cases row n x k here before) [
      | inl earlier ↦ q.taken k e at is earlier
      | inr same ↦ absurd (let both : Some e ≡ Some end = sym at ∙ (ap (slice_get key.ends) same ∙ found) in let one : e ≡ end = cc in other (ap (λ (y : CrossEnd). y.receiver) (sym one) ∙ is))
    ];
    rises = q.rises;
    others = q.others;
    marks = q.marks;
    places = q.places;
    tries = q.tries;
  }

  -- it does, and what it has taken is written
  pub taken_next : (w : View) (n x : ℕ) (end : CrossEnd) → w.shape ≡ shape_of key → slice_get row n ≡ Some x → slice_get key.ends x ≡ Some end → end.receiver ≡ i → i < count_of key → AreTakenTo key row v w i t n
      → AreTakenTo key row v (writing w (taken_word key x) (taken_of t.in_ends end.channel)) i t (n + 1)
  taken_next w n x end shape here found is known q =
      let written : (k : ℕ) (e : CrossEnd) → slice_get key.ends k ≡ Some e → k ≡ x → note (writing w (taken_word key x) (taken_of t.in_ends end.channel)) (taken_word key k) ≡ suc (taken_of t.in_ends e.channel) =
      λ k e at same. (let both : Some e ≡ Some end = sym at ∙ (ap (slice_get key.ends) same ∙ found) in let one : end ≡ e = cc in
      ap (λ y. note (writing w (taken_word key x) (taken_of t.in_ends end.channel)) (taken_word key y)) same ∙ (wrote_note w (taken_word key x) (taken_of t.in_ends end.channel)
      ∙ ap (λ (y : CrossEnd). suc (taken_of t.in_ends y.channel)) one)) in
      record {
        taken = λ k e at own before. alike k x (written k e at)
            (λ ne. wrote_else w (taken_word key x) (taken_of t.in_ends end.channel) (taken_word key k) (λ e. ne (omega arith))
            ∙ elim (before_cases row n x k here before) [ inl earlier ↦ q.taken k e at own earlier | inr same ↦ absurd (ne same) ]);
        rises = λ k e at own. alike k x
            (λ same. (let is = written k e at same in (omega (arith, is), omega (arith, is))))
            (λ ne. (let is = wrote_else w (taken_word key x) (taken_of t.in_ends end.channel) (taken_word key k) (λ e. ne (omega arith)) in
            let was = q.rises k e at own in (omega (arith, is, was.0), omega (arith, is, was.1))));
        others = λ c other. wrote_else w (taken_word key x) (taken_of t.in_ends end.channel) c (λ same. other (record { k = x; end = end; is = found; receiver = is; word = same })) ∙ q.others c other;
        marks = λ c. wrote_marks w (taken_word key x) (taken_of t.in_ends end.channel) (ap (λ s. is_marked s (taken_word key x)) shape ∙ taken_unmarked key x end found (subst (λ y. y < count_of key) (sym is) known)) c ∙ q.marks c;
        places = q.places;
        tries = q.tries;
      }
