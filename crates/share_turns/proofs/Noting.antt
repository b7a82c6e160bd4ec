-- The words of channels, noted one after the other.
use Rattle.std.proofs.Common.{◌≡◌, ℕ, suc, ◌+◌, ◌<◌, ◌≤◌, List, sym, ap, ◌∙◌, subst, inl, inr, arith, Some, slice_get}
use Rattle.turn_table.specs.declared.view.View.{View}
use Rattle.turn_table.specs.Shapes.{words_in}
use Rattle.turn_table.specs.Steps.{Fits}
use Rattle.turn_table.specs.Views.{note, mark, marking}
use Rattle.turn_table.proofs.Lookups.{alike, first_put}
use Rattle.plan_shares.specs.declared.crosses.CrossEnd.{CrossEnd}
use Rattle.core_rules.specs.Cores.{CoreView}
use Rattle.share_rules.specs.Places.{count_of, posted_word, taken_word, done_word, round_word, shape_of}
use Rattle.share_rules.specs.WordLaws.{words_long}
use Rattle.share_turns.specs.Loads.{HasLoaded, AreDoneMarked}
use Rattle.share_turns.proofs.Rows.{IsBefore, before_none, before_cases}
use Rattle.share_turns.proofs.Views.{loaded_none, loaded_on, noted_on}

abbrev pub sender_of : CrossEnd → ℕ
sender_of end = end.sender

abbrev pub receiver_of : CrossEnd → ℕ
receiver_of end = end.receiver

-- the words of the ends of which one is i, as far as their places are among the first of a row
pub record EndsNoted {B S P : Type 0} (key : CoreView B S P) (from to : CrossEnd → ℕ) (places : List ℕ) (v w : View) (i n : ℕ) : Type 0 where
  pub loaded : HasLoaded v w
  pub posted : (k : ℕ) (end : CrossEnd) → slice_get key.ends k ≡ Some end → from end ≡ i → IsBefore places n k → 0 < note w (posted_word key k)
  pub taken : (k : ℕ) (end : CrossEnd) → slice_get key.ends k ≡ Some end → to end ≡ i → IsBefore places n k → 0 < note w (taken_word key k)

module _ {B S P : Type 0} (key : CoreView B S P) (from to : CrossEnd → ℕ) (places : List ℕ) (v : View) (i : ℕ) where
  pub ends_first : EndsNoted key from to places v v i 0
  ends_first = record { loaded = loaded_none v; posted = λ k end found is before. absurd (before_none places k before); taken = λ k end found is before. absurd (before_none places k before) }

  one_of : (xs : CrossEnd → ℕ) (k n : ℕ) (e end : CrossEnd) → slice_get key.ends n ≡ Some end → slice_get key.ends k ≡ Some e → k ≡ n → xs e ≡ i → xs end ≡ i
  one_of xs k n e end found at same is =
      let here : Some e ≡ Some end = sym at ∙ (ap (slice_get key.ends) same ∙ found) in let one : end ≡ e = cc in ap xs one ∙ is

  pub ends_next : (w u : View) (n x : ℕ) (end : CrossEnd) → slice_get places n ≡ Some x → slice_get key.ends x ≡ Some end → HasLoaded w u
      → (from end ≡ i → 0 < note u (posted_word key x)) → (to end ≡ i → 0 < note u (taken_word key x)) → EndsNoted key from to places v w i n → EndsNoted key from to places v u i (n + 1)
  ends_next w u n x end here found h posted taken q = record {
    loaded = loaded_on v w u q.loaded h;
    posted = λ k e at is before. elim (before_cases places n x k here before) [
      | inl earlier ↦ noted_on w u (posted_word key k) h (q.posted k e at is earlier)
      | inr same ↦ subst (λ y. 0 < note u (posted_word key y)) (sym same) (posted (one_of from k x e end found at same is))
    ];
    taken = λ k e at is before. elim (before_cases places n x k here before) [
      | inl earlier ↦ noted_on w u (taken_word key k) h (q.taken k e at is earlier)
      | inr same ↦ subst (λ y. 0 < note u (taken_word key y)) (sym same) (taken (one_of to k x e end found at same is))
    ];
  }

module _ {B S P : Type 0} (key : CoreView B S P) where
  -- a count word has the number of these counts as its mark
  mark_here : (w : View) (f : ℕ → ℕ) (c : ℕ) → w.shape ≡ shape_of key → c < words_in (shape_of key) → mark (marking w f) c ≡ suc (f c)
  mark_here w f c shape small = first_put f (words_in w.shape) w.marks c (subst (λ s. c < words_in s) (sym shape) small)

  -- all count words were marked, after the round was noted
  pub done_all : (v w : View) (f : ℕ → ℕ) → w.shape ≡ shape_of key → HasLoaded v w → 0 < note w (round_word key) → Fits w f → AreDoneMarked key v (marking w f)
  done_all v w f shape h noted fits =
      let many = words_long key in
      record {
        noted = noted;
        round = mark_here w f (round_word key) shape (omega (arith, many)) ∙ sym (fits (round_word key) noted);
        marked = λ i known. (let is = mark_here w f (done_word key i) shape (omega (arith, many, known)) in omega (arith, is));
        done = λ i known some. (let kept = h.notes (done_word key i) some in
            mark_here w f (done_word key i) shape (omega (arith, many, known)) ∙ (sym (fits (done_word key i) (omega (arith, kept, some))) ∙ kept));
      }
