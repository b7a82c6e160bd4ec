-- Values that lie in shares, and words of the table.
use Rattle.std.proofs.Common.{◌≡◌, ℕ, ◌<◌, refl, sym, ◌∙◌, le_of_eq, arith, length}
use Rattle.timeline.specs.View.{TimelineOf}
use Rattle.appointments.specs.Mails.{Mails}
use Rattle.barrier_window.specs.BarrierFields.{BarrierFields}
use Rattle.core_rules.specs.Cores.{CoreView}
use Rattle.core_rules.proofs.Lists.{get_known}
use Rattle.share_rules.specs.Places.{posted_word, done_word}
use Rattle.share_turns.specs.declared.share.Share.{Share}
use Rattle.share_turns.specs.declared.share.Share.TheVariants.{Timeline, Mail, Barrier}
use Rattle.share_turns.specs.Holdings.{IsTakenWord, HasLostNone}
use Rattle.turn_table.specs.declared.view.View.{View}
use Rattle.worker_turns.specs.Working.{HasLost, HasLostMore}

module _ {B S P : Type 0} where
  -- a share is one value
  pub one_timeline : (s : Share B S P) (t u : TimelineOf B S P) → s ≡ Timeline t → s ≡ Timeline u → t ≡ u
  one_timeline s t u one other = cc

  pub one_mail : (s : Share B S P) (x y : Mails P) → s ≡ Mail x → s ≡ Mail y → x ≡ y
  one_mail s x y one other = cc

  pub one_barrier : (s : Share B S P) (a b : BarrierFields) → s ≡ Barrier a → s ≡ Barrier b → a ≡ b
  one_barrier s a b one other = cc

-- taken words are neither posted nor done words
module _ {B S P : Type 0} (key : CoreView B S P) where
  pub posted_no_taken : (i k : ℕ) → k < length key.ends → IsTakenWord key i (posted_word key k) → ⊥
  posted_no_taken i k known word = let is = word.word in absurd (omega arith)

  pub done_no_taken : (i j : ℕ) → IsTakenWord key i (done_word key j) → ⊥
  done_no_taken i j word = let is = word.word in let known = get_known key.ends word.k word.end word.is in absurd (omega arith)

module _ {B S P : Type 0} (key : CoreView B S P) where
  -- ---- lost tries

  pub more_none : (v : View) → HasLostMore key v v
  more_none v = record { rises = λ p. le_of_eq refl; own = λ p known. refl }

  pub more_of_none : (v w : View) → HasLostNone v w → HasLostMore key v w
  more_of_none v w none = record { rises = λ p. le_of_eq (sym (none p)); own = λ p known. none p }

  pub more_then : (u v w : View) → HasLostMore key u v → HasLostMore key v w → HasLostMore key u w
  more_then u v w one two = record {
    rises = λ p. (let a = one.rises p in let b = two.rises p in omega arith);
    own = λ p known. two.own p known ∙ one.own p known;
  }

  -- a try that was lost between was lost
  pub lost_between : (v0 v1 v2 v3 : View) (p : ℕ) → HasLostMore key v0 v1 → HasLostMore key v2 v3 → HasLost v1 v2 p → HasLost v0 v3 p
  lost_between v0 v1 v2 v3 p before after is = (let a = before.rises p in let b = after.rises p in omega arith)
