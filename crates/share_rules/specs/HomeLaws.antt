-- What values owe, and what marks say of them, meets the laws of a tenant.
use Rattle.std.specs.Prelude.{ℕ, suc, ◌≡◌, ◌⊎◌, ◌<◌, ◌≤◌, true, cond}
use Rattle.std.proofs.Common.{sym, ap, ◌∙◌, subst, inl, inr, ⊎_elim, arith, eq-eqb, ne_eqb, le_of_eq}
use mathlib.Core.Logic.{dite}
use native.Mathlib.Decide.{ℕ_discrete}
use Rattle.ssf_model.specs.Reaction.{Reaction, Validity}
use Rattle.ssf_model.specs.Scene.{Scene}
use Rattle.turn_table.specs.Changes.{put}
use Rattle.turn_table.specs.Shapes.{Speaks, is_cleared}
use Rattle.timeline.specs.View.{TimelineOf}
use Rattle.appointments.specs.Mails.{Mails}
use Rattle.core_rules.specs.Cores.{CoreView}
use Rattle.share_rules.specs.Places.{ShareOf, count_of, mail_place, posted_word, taken_word, done_word, round_word, shape_of}
use Rattle.share_rules.specs.Places.ShareOf.{timeline, mail, barrier}
use Rattle.share_rules.specs.Runs.{Covers, IsWindowUpTo}
use Rattle.share_rules.specs.Home.{HasCounts, IsMailBy, Owes, Keeps, Marked}
use Rattle.share_rules.specs.WordLaws.{posted_of_sender, posted_of_mail, taken_of_mail, taken_of_receiver, done_of_timeline, round_of_barrier, round_is_cleared, done_is_cleared}

pub up_to_more : {X E : Type 0} (s : Scene X E) (k n x : ℕ) → k ≤ n → IsWindowUpTo s k x → IsWindowUpTo s n x
up_to_more s k n x more q = record { number = q.number; before = q.before; window = q.window; early = (let early = q.early in omega arith) }

pub covers_more : {X E : Type 0} (s : Scene X E) (i x k n : ℕ) → k ≤ n → Covers s i x k → Covers s i x n
covers_more s i x k n more covers j m e own early = (let below = covers j m e own early in omega arith)

-- ---- counts that speak of a place

module _ {B S P : Type 0} (key : CoreView B S P) (f g : ℕ → ℕ) where
  pub counts_on : (i : ℕ) (t : TimelineOf B S P) → i < count_of key → ((c : ℕ) → Speaks (shape_of key) c i → f c ≡ g c) → HasCounts key f i t → HasCounts key g i t
  counts_on i t known same q = record {
    posted = λ k end found is. sym (same (posted_word key k) (subst (λ p. Speaks (shape_of key) (posted_word key k) p) is (posted_of_sender key k end found))) ∙ q.posted k end found is;
    taken = λ k end found is. sym (same (taken_word key k) (subst (λ p. Speaks (shape_of key) (taken_word key k) p) is (taken_of_receiver key k end found))) ∙ q.taken k end found is;
    done = sym (same (done_word key i) (done_of_timeline key i known)) ∙ q.done;
  }

  pub mail_on : (i : ℕ) (m : Mails P) → ((c : ℕ) → Speaks (shape_of key) c (mail_place key i) → f c ≡ g c) → IsMailBy key f i m → IsMailBy key g i m
  mail_on i m same q = record {
    posted = λ k end found is. sym (same (posted_word key k) (subst (λ p. Speaks (shape_of key) (posted_word key k) (mail_place key p)) is (posted_of_mail key k end found))) ∙ q.posted k end found is;
    taken = λ k end found is. sym (same (taken_word key k) (subst (λ p. Speaks (shape_of key) (taken_word key k) (mail_place key p)) is (taken_of_mail key k end found))) ∙ q.taken k end found is;
  }

-- ---- the four laws

module _ {B S P : Type 0} (valid : Validity S) (carried : P → Type 0) (r : Reaction S P) (key : CoreView B S P) where
  pub stays : (f g : ℕ → ℕ) (p : ℕ) (x : ShareOf B S P) → ((c : ℕ) → Speaks (shape_of key) c p → f c ≡ g c) → ((c : ℕ) → f c ≤ g c)
      → Owes valid carried r key f p x → Owes valid carried r key g p x
  stays f g p (timeline t) same up owed = λ known. record {
    counts = counts_on key f g p t known same (owed known).counts;
    entered = λ plan until kept line net fits in_time at v on sound.
        up_to_more _ (f (round_word key)) (g (round_word key)) t.entered (up (round_word key)) ((owed known).entered plan until kept line net fits in_time at v on sound);
  }
  stays f g p (mail m) same up owed = λ i known is. mail_on key f g i m (λ c says. same c (subst (λ q. Speaks (shape_of key) c q) (sym is) says)) (owed i known is)
  stays f g p (barrier b) same up owed = λ is. record {
    round = sym (same (round_word key) (subst (λ q. Speaks (shape_of key) (round_word key) q) (sym is) (round_of_barrier key))) ∙ (owed is).round;
    reported = λ plan until kept line net fits in_time at v on sound i known told.
        covers_more _ i b.window (f (done_word key i)) (g (done_word key i)) (up (done_word key i)) ((owed is).reported plan until kept line net fits in_time at v on sound i known told);
  }

  fewer : (m n : ℕ → ℕ) (c k : ℕ) → (n c ≡ 0) ⊎ (n c ≡ m c) → n c ≡ suc k → m c ≡ suc k
  fewer m n c k less is = ⊎_elim (λ none. absurd (omega arith)) (λ same. sym same ∙ is) less

  pub forgets : (m n : ℕ → ℕ) (p : ℕ) (x : ShareOf B S P) → ((c : ℕ) → (n c ≡ 0) ⊎ (n c ≡ m c)) → Marked valid carried r key m p x → Marked valid carried r key n p x
  forgets m n p (timeline t) less marked = λ known k is. marked known k (fewer m n (round_word key) k (less (round_word key)) is)
  forgets m n p (mail y) less marked = tt
  forgets m n p (barrier b) less marked = λ at_barrier i k known told is. marked at_barrier i k known told (fewer m n (done_word key i) k (less (done_word key i)) is)

  pub cleared : (m : ℕ → ℕ) (p : ℕ) (x : ShareOf B S P) → ((c : ℕ) → is_cleared (shape_of key) p c ≡ true → m c ≡ 0) → Marked valid carried r key m p x
  cleared m p (timeline t) none = λ known k is. (let zero_mark = none (round_word key) (round_is_cleared key p known) in absurd (omega arith))
  cleared m p (mail y) none = tt
  cleared m p (barrier b) none = λ at_barrier i k known told is.
      (let zero_mark = none (done_word key i) (subst (λ q. is_cleared (shape_of key) q (done_word key i) ≡ true) (sym at_barrier) (done_is_cleared key i known)) in absurd (omega arith))

  -- the mark of a word after some word was marked: its number now, or as before
  marked_so : (f m : ℕ → ℕ) (c w k : ℕ) → put m c (suc (f c)) w ≡ suc k → ((w ≡ c) × (f w ≡ k)) ⊎ (m w ≡ suc k)
  marked_so f m c w k is = dite (ℕ_discrete w c)
      (λ same. let here : put m c (suc (f c)) w ≡ suc (f c) = ap (λ b. cond b (suc (f c)) (m w)) (eq-eqb w c same) in let there : f w ≡ f c = ap f same in inl (same, omega arith))
      (λ other. let here : put m c (suc (f c)) w ≡ m w = ap (λ b. cond b (suc (f c)) (m w)) (ne_eqb w c other) in inr (sym here ∙ is))

  pub marks : (f m : ℕ → ℕ) (p : ℕ) (x : ShareOf B S P) (c : ℕ) → Keeps valid carried r key f → Owes valid carried r key f p x → Marked valid carried r key m p x
      → Marked valid carried r key (put m c (suc (f c))) p x
  marks f m p (timeline t) c kept owed marked = λ known k is. ⊎_elim
      (λ new. (λ plan until kept line net fits in_time at v on sound. up_to_more _ (f (round_word key)) k t.entered (le_of_eq new.1) ((owed known).entered plan until kept line net fits in_time at v on sound)))
      (λ old. marked known k old)
      (marked_so f m c (round_word key) k is)
  marks f m p (mail y) c kept owed marked = tt
  marks f m p (barrier b) c kept owed marked = λ at_barrier i k known told is. ⊎_elim
      (λ new. (λ plan until kept line net fits in_time at v on sound. covers_more _ i b.window (f (done_word key i)) k (le_of_eq new.1) ((owed at_barrier).reported plan until kept line net fits in_time at v on sound i known told)))
      (λ old. marked at_barrier i k known told old)
      (marked_so f m c (done_word key i) k is)
