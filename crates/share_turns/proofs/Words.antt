-- The count words of a table, by what they speak of.
use Rattle.std.proofs.Common.{◌≡◌, ℕ, zero, suc, ◌+◌, ◌<◌, ◌≤◌, ◌⊎◌, length, sym, subst, ⊎_elim, arith, Some, slice_get}
use Rattle.event_order.proofs.Steps.{lt_or_ge}
use Rattle.turn_table.specs.Shapes.{words_in, spoken, Speaks}
use Rattle.plan_shares.specs.declared.crosses.CrossEnd.{CrossEnd}
use Rattle.core_rules.specs.Cores.{CoreView}
use Rattle.core_rules.proofs.Lists.{got_at}
use Rattle.share_rules.specs.Places.{count_of, mail_place, barrier_place, posted_word, taken_word, done_word, round_word, posted_places, taken_places, twice, shape_of}
use Rattle.share_rules.specs.WordLaws.{words_long, posted_speaks, taken_speaks, done_speaks, round_speaks}

above : (a b : ℕ) → a ≤ b → (j : ℕ) × (b ≡ a + j)
above zero b h = (b, omega arith)
above (suc a) zero h = absurd (omega arith)
above (suc a) (suc b) h = (let q = above a b (omega arith) in let is = q.1 in (q.0, omega (arith, is)))

module _ {B S P : Type 0} (key : CoreView B S P) where
  -- whatever holds of the words of channels, of timelines and of the round, holds of each
  each_word : (Q : ℕ → ℕ × ℕ → Type 0)
      → ((k : ℕ) (end : CrossEnd) → slice_get key.ends k ≡ Some end → Q (posted_word key k) (posted_places key end))
      → ((k : ℕ) (end : CrossEnd) → slice_get key.ends k ≡ Some end → Q (taken_word key k) (taken_places key end))
      → ((i : ℕ) → i < count_of key → Q (done_word key i) (twice i))
      → Q (round_word key) (twice (barrier_place key))
      → (c : ℕ) → c < words_in (shape_of key) → Q c (spoken (shape_of key) c)
  each_word Q posted taken done round c small =
      let many = words_long key in
      ⊎_elim
      (λ low. let end = got_at key.ends c low in subst (Q c) (sym (posted_speaks key c end.0 end.1)) (posted c end.0 end.1))
      (λ high. let k = above (length key.ends) c high in let is = k.1 in
      subst (λ w. Q w (spoken (shape_of key) w)) (sym is) (⊎_elim
      (λ low. let end = got_at key.ends k.0 low in subst (Q (taken_word key k.0)) (sym (taken_speaks key k.0 end.0 end.1)) (taken k.0 end.0 end.1))
      (λ high. let j = above (length key.ends) k.0 high in let so = j.1 in
      let there : length key.ends + k.0 ≡ done_word key j.0 = omega (arith, so) in
      subst (λ w. Q w (spoken (shape_of key) w)) (sym there) (⊎_elim
      (λ known. subst (Q (done_word key j.0)) (sym (done_speaks key j.0 known)) (done j.0 known))
      (λ last. let end : done_word key j.0 ≡ round_word key = omega (arith, small, many, is, so, last) in
      subst (λ w. Q w (spoken (shape_of key) w)) (sym end) (subst (Q (round_word key)) (sym (round_speaks key)) round))
      (lt_or_ge j.0 (count_of key))))
      (lt_or_ge k.0 (length key.ends))))
      (lt_or_ge c (length key.ends))

  module _ (n : ℕ → ℕ) (i : ℕ) (known : i < count_of key) where
    abbrev OfPlace : ℕ → ℕ → ℕ × ℕ → Type 0
    OfPlace p c places = ((places.0 ≡ p) ⊎ (places.1 ≡ p)) → 0 < n c

    -- the words that speak of a timeline
    pub timeline_words : ((k : ℕ) (end : CrossEnd) → slice_get key.ends k ≡ Some end → end.sender ≡ i → 0 < n (posted_word key k))
        → ((k : ℕ) (end : CrossEnd) → slice_get key.ends k ≡ Some end → end.receiver ≡ i → 0 < n (taken_word key k))
        → 0 < n (done_word key i)
        → (c : ℕ) → Speaks (shape_of key) c i → 0 < n c
    timeline_words posted taken done c says = each_word (OfPlace i)
        (λ k end found is. ⊎_elim (λ own. posted k end found own) (λ mail. absurd (omega (arith, mail, known))) is)
        (λ k end found is. ⊎_elim (λ mail. absurd (omega (arith, mail, known))) (λ own. taken k end found own) is)
        (λ j there is. ⊎_elim (λ same. subst (λ x. 0 < n (done_word key x)) (sym same) done) (λ same. subst (λ x. 0 < n (done_word key x)) (sym same) done) is)
        (λ is. ⊎_elim (λ same. absurd (omega (arith, same, known))) (λ same. absurd (omega (arith, same, known))) is)
        c says.0 says.1

    -- the words that speak of the mail of a timeline
    pub mail_words : ((k : ℕ) (end : CrossEnd) → slice_get key.ends k ≡ Some end → end.sender < count_of key)
        → ((k : ℕ) (end : CrossEnd) → slice_get key.ends k ≡ Some end → end.receiver < count_of key)
        → ((k : ℕ) (end : CrossEnd) → slice_get key.ends k ≡ Some end → end.receiver ≡ i → 0 < n (posted_word key k))
        → ((k : ℕ) (end : CrossEnd) → slice_get key.ends k ≡ Some end → end.receiver ≡ i → 0 < n (taken_word key k))
        → (c : ℕ) → Speaks (shape_of key) c (mail_place key i) → 0 < n c
    mail_words sender receiver posted taken c says = each_word (OfPlace (mail_place key i))
        (λ k end found is. ⊎_elim (λ own. (let there = sender k end found in absurd (omega (arith, own, there)))) (λ mail. posted k end found (omega (arith, mail))) is)
        (λ k end found is. ⊎_elim (λ mail. taken k end found (omega (arith, mail))) (λ own. (let there = receiver k end found in absurd (omega (arith, own, there)))) is)
        (λ j there is. ⊎_elim (λ same. absurd (omega (arith, same, there))) (λ same. absurd (omega (arith, same, there))) is)
        (λ is. ⊎_elim (λ same. absurd (omega (arith, same, known))) (λ same. absurd (omega (arith, same, known))) is)
        c says.0 says.1
