-- Values that are moved out are held, and held values may be moved home.
use Rattle.std.proofs.Common.{◌≡◌, ◌≢◌, ℕ, zero, suc, ◌+◌, ◌<◌, ◌≤◌, true, false, ◌==◌, List, [], ◌∷◌, ◌++◌, length, map, get_or, refl, sym, ap, ◌∙◌, subst, inl, inr, arith, eq-eqb, ne_eqb, le_of_eq, length-append, Some, slice_get}
use Rattle.std.proofs.lemmas.List.{get_or_append_left, get_or-append-add}
use Rattle.std.proofs.lemmas.List.FromFn.{length-map-range_with_len}
use Rattle.event_order.proofs.Steps.{lt_or_ge}
use Rattle.ssf_model.specs.Reaction.{Reaction, Validity}
use Rattle.ssf_model.specs.Scene.{Scene}
use Rattle.ssf_model.specs.Truth.{IsWindow}
use Rattle.turn_table.specs.declared.view.View.{View}
use Rattle.turn_table.specs.Changes.{put}
use Rattle.turn_table.specs.Shapes.{spoken, Speaks, is_listed, is_cleared, is_marked}
use Rattle.turn_table.specs.Views.{mark, taking}
use Rattle.turn_table.proofs.Lookups.{alike, cond_here, cond_else, remembered}
use Rattle.plan_shares.specs.declared.crosses.CrossEnd.{CrossEnd}
use Rattle.timeline.specs.View.{TimelineOf}
use Rattle.appointments.specs.Mails.{Mails}
use Rattle.barrier_window.specs.BarrierFields.{BarrierFields}
use Rattle.core_rules.specs.Cores.{CoreView}
use Rattle.share_rules.specs.Places.{ShareOf, numbers, count_of, mail_place, barrier_place, posted_word, taken_word, done_word, round_word, round_cleared, done_cleared, shape_of}
use Rattle.share_rules.specs.Places.ShareOf.{timeline, mail, barrier}
use Rattle.share_rules.specs.Home.{IsMailAt, IsSoundAt, IsMailBy, Keeps}
use Rattle.share_rules.specs.Held.{Meets, IsTold, IsPaid, KeepsWith, IsNoted, IsMailNoted, IsTimelineHeld, IsMailHeld, IsBarrierHeld, HasPassed}
use Rattle.share_rules.specs.HomeLaws.{up_to_more, covers_more}
use Rattle.share_rules.specs.WordLaws.{numbers_at, posted_speaks, taken_speaks, done_speaks, round_speaks, posted_of_sender, posted_of_mail, taken_of_mail, taken_of_receiver, done_of_timeline}

-- ---- numbers

above_zero : (n : ℕ) → 0 < n → (k : ℕ) × (n ≡ suc k)
above_zero zero h = absurd (omega arith)
above_zero (suc k) h = (k, refl)

pub put_here : (f : ℕ → ℕ) (c x w : ℕ) → w ≡ c → put f c x w ≡ x
put_here f c x w same = cond_here w c x (f w) same

pub put_else : (f : ℕ → ℕ) (c x w : ℕ) → w ≢ c → put f c x w ≡ f w
put_else f c x w other = cond_else w c x (f w) other

pub at_number : {X E : Type 0} (s : Scene X E) (k l v x : ℕ) → k ≡ l → IsWindow s k v x → IsWindow s l v x
at_number s k l v x same window = subst (λ n. IsWindow s n v x) same window

-- ---- notes

module _ (n m f : ℕ → ℕ) (q : Meets n m f) where
  -- what is noted is one more than the count
  pub noted_is : (c x : ℕ) → n c ≡ suc x → f c ≡ x
  noted_is c x is = (let same = q.noted c (omega (arith, is)) in omega (arith, same, is))

  pub marked_low : (c k : ℕ) → m c ≡ suc k → k ≤ f c
  marked_low c k is = (let low = q.above c in omega (arith, low, is))

module _ {B S P : Type 0} (key : CoreView B S P) (n later : ℕ → ℕ) where
  pub noted_stays : (i : ℕ) (t : TimelineOf B S P) → ((c : ℕ) → Speaks (shape_of key) c i → later c ≡ n c) → IsNoted key n i t → IsNoted key later i t
  noted_stays i t same q = record {
    posted = λ k end found is. same (posted_word key k) (subst (λ p. Speaks (shape_of key) (posted_word key k) p) is (posted_of_sender key k end found)) ∙ q.posted k end found is;
    taken = λ k end found is. same (taken_word key k) (subst (λ p. Speaks (shape_of key) (taken_word key k) p) is (taken_of_receiver key k end found)) ∙ q.taken k end found is;
  }

  pub mail_noted_stays : (i : ℕ) (x : Mails P) → ((c : ℕ) → Speaks (shape_of key) c (mail_place key i) → later c ≡ n c) → IsMailNoted key n i x → IsMailNoted key later i x
  mail_noted_stays i x same q = record {
    posted = λ k end found is. same (posted_word key k) (subst (λ p. Speaks (shape_of key) (posted_word key k) (mail_place key p)) is (posted_of_mail key k end found)) ∙ q.posted k end found is;
    taken = λ k end found is. same (taken_word key k) (subst (λ p. Speaks (shape_of key) (taken_word key k) (mail_place key p)) is (taken_of_mail key k end found)) ∙ q.taken k end found is;
  }

module _ {B S P : Type 0} (valid : Validity S) (carried : P → Type 0) (r : Reaction S P) (key : CoreView B S P) where
  -- ---- places

  pub place_of_timeline : (p : ℕ) (x : ShareOf B S P) → IsSoundAt valid carried r key p x → p < count_of key → (t : TimelineOf B S P) × (x ≡ timeline t)
  place_of_timeline p (timeline t) at low = (t, refl)
  place_of_timeline p (mail y) at low = (let is = at.2 in absurd (omega (arith, is, low)))
  place_of_timeline p (barrier b) at low = (let is = at.0 in absurd (omega (arith, is, low)))

  pub place_of_mail : (i : ℕ) (x : ShareOf B S P) → IsSoundAt valid carried r key (mail_place key i) x → i < count_of key → (y : Mails P) × (x ≡ mail y)
  place_of_mail i (timeline t) at low = (let known = at.0 in absurd (omega (arith, known)))
  place_of_mail i (mail y) at low = (y, refl)
  place_of_mail i (barrier b) at low = (let is = at.0 in absurd (omega (arith, is, low)))

  pub place_of_barrier : (x : ShareOf B S P) → IsSoundAt valid carried r key (barrier_place key) x → (b : BarrierFields) × (x ≡ barrier b)
  place_of_barrier (timeline t) at = (let known = at.0 in absurd (omega (arith, known)))
  place_of_barrier (mail y) at = (let is = at.2 in let known = at.1 in absurd (omega (arith, is, known)))
  place_of_barrier (barrier b) at = (b, refl)

  -- ---- moved out

  module _ (n m : ℕ → ℕ) where
    pub told_timeline : (i : ℕ) (t : TimelineOf B S P) → IsTold valid carried r key n m i (timeline t) → ((c : ℕ) → Speaks (shape_of key) c i → 0 < n c) → 0 < m (round_word key)
        → IsTimelineHeld valid carried r key m i t × IsNoted key n i t × (n (done_word key i) ≡ suc t.executed)
    told_timeline i t q noted marked =
        let known : i < count_of key = q.sound.0 in
        let by = q.owed known in
        let round = above_zero (m (round_word key)) marked in (
          record { known = known; at = q.sound.1; round = round.0; marked = round.1; entered = q.marked known round.0 round.1 },
          record {
            posted = λ k end found is.
                q.meets.noted (posted_word key k) (noted (posted_word key k) (subst (λ p. Speaks (shape_of key) (posted_word key k) p) is (posted_of_sender key k end found)))
                ∙ ap (λ x. suc x) (by.counts.posted k end found is);
            taken = λ k end found is.
                q.meets.noted (taken_word key k) (noted (taken_word key k) (subst (λ p. Speaks (shape_of key) (taken_word key k) p) is (taken_of_receiver key k end found)))
                ∙ ap (λ x. suc x) (by.counts.taken k end found is);
          },
          q.meets.noted (done_word key i) (noted (done_word key i) (done_of_timeline key i known)) ∙ ap (λ x. suc x) by.counts.done,
        )

    pub told_mail : (i : ℕ) (x : Mails P) → i < count_of key → IsTold valid carried r key n m (mail_place key i) (mail x) → ((c : ℕ) → Speaks (shape_of key) c (mail_place key i) → 0 < n c)
        → IsMailHeld valid carried r key i x × IsMailNoted key n i x
    told_mail i x known q noted =
        let at = q.sound in
        let place = at.2 in
        let same : at.0 ≡ i = omega (arith, place) in
        let by = q.owed i known refl in (
          record { known = known; at = subst (λ j. IsMailAt valid carried r key j x) same at.3 },
          record {
            posted = λ k end found is.
                q.meets.noted (posted_word key k) (noted (posted_word key k) (subst (λ p. Speaks (shape_of key) (posted_word key k) (mail_place key p)) is (posted_of_mail key k end found)))
                ∙ ap (λ y. suc y) (by.posted k end found is);
            taken = λ k end found is.
                q.meets.noted (taken_word key k) (noted (taken_word key k) (subst (λ p. Speaks (shape_of key) (taken_word key k) (mail_place key p)) is (taken_of_mail key k end found)))
                ∙ ap (λ y. suc y) (by.taken k end found is);
          },
        )

    pub told_barrier : (b : BarrierFields) → IsTold valid carried r key n m (barrier_place key) (barrier b) → 0 < n (round_word key) → ((i : ℕ) → i < count_of key → 0 < m (done_word key i))
        → IsBarrierHeld valid carried r key m b × (n (round_word key) ≡ suc b.round)
    told_barrier b q noted marked = (
      record {
        at = q.sound.1;
        reported = λ i known told. (let done = above_zero (m (done_word key i)) (marked i known) in
            record { done = done.0; marked = done.1; covers = q.marked refl i done.0 known told done.1 });
      },
      q.meets.noted (round_word key) noted ∙ ap (λ x. suc x) (q.owed refl).round,
    )

    pub told_passed : (b : BarrierFields) (i done : ℕ) → IsTold valid carried r key n m (barrier_place key) (barrier b) → i < count_of key → n (done_word key i) ≡ suc done
        → HasPassed valid carried r key b i done
    told_passed b i done q known noted = λ plan until kept line net fits in_time at v on sound w x window.
        (let count : q.counts (done_word key i) ≡ done = noted_is n m q.counts q.meets (done_word key i) done noted in
        covers_more _ i w (q.counts (done_word key i)) done (le_of_eq count)
        (q.kept plan until kept line net fits in_time at v on sound w x (at_number _ b.round (q.counts (round_word key)) w x (sym (q.owed refl).round) window) i known))

    -- ---- moved home

    pub paid_timeline : (i : ℕ) (t : TimelineOf B S P) → IsTimelineHeld valid carried r key m i t → IsNoted key n i t → n (done_word key i) ≡ suc t.executed → IsPaid valid carried r key n m i (timeline t)
    paid_timeline i t q noted done = record {
      sound = (q.known, q.at);
      marked = λ known k is plan until kept line net fits in_time at v on sound.
          (let same = q.marked in up_to_more _ q.round k t.entered (omega (arith, same, is)) (q.entered plan until kept line net fits in_time at v on sound));
      owed = λ f kept meets known. record {
        counts = record {
          posted = λ k end found is. noted_is n m f meets (posted_word key k) _ (noted.posted k end found is);
          taken = λ k end found is. noted_is n m f meets (taken_word key k) _ (noted.taken k end found is);
          done = noted_is n m f meets (done_word key i) t.executed done;
        };
        entered = λ plan until kept line net fits in_time at v on sound.
            up_to_more _ q.round (f (round_word key)) t.entered (marked_low n m f meets (round_word key) q.round q.marked) (q.entered plan until kept line net fits in_time at v on sound);
      };
    }

    pub paid_mail : (i : ℕ) (x : Mails P) → IsMailHeld valid carried r key i x → IsMailNoted key n i x → IsPaid valid carried r key n m (mail_place key i) (mail x)
    paid_mail i x q noted = record {
      sound = (i, q.known, refl, q.at);
      marked = tt;
      owed = λ f kept meets j known place.
          (let same : i ≡ j = omega (arith, place) in
          subst (λ k. IsMailBy key f k x) same (record {
            posted = λ k end found is. noted_is n m f meets (posted_word key k) _ (noted.posted k end found is);
            taken = λ k end found is. noted_is n m f meets (taken_word key k) _ (noted.taken k end found is);
          }));
    }

    pub paid_barrier : (b : BarrierFields) → IsBarrierHeld valid carried r key m b → n (round_word key) ≡ suc b.round → IsPaid valid carried r key n m (barrier_place key) (barrier b)
    paid_barrier b q noted = record {
      sound = (refl, q.at);
      marked = λ place i k known told is plan until kept line net fits in_time at v on sound.
          (let of = q.reported i known told in
          let same = of.marked in
          covers_more _ i b.window of.done k (omega (arith, same, is)) (of.covers plan until kept line net fits in_time at v on sound));
      owed = λ f kept meets place. record {
        round = noted_is n m f meets (round_word key) b.round noted;
        reported = λ plan until kept line net fits in_time at v on sound i known told.
            (let of = q.reported i known told in
            covers_more _ i b.window of.done (f (done_word key i)) (marked_low n m f meets (done_word key i) of.done of.marked) (of.covers plan until kept line net fits in_time at v on sound));
      };
    }

  -- ---- later marks

  pub timeline_stays : (m later : ℕ → ℕ) (i : ℕ) (t : TimelineOf B S P) → m (round_word key) ≤ later (round_word key) → IsTimelineHeld valid carried r key m i t → IsTimelineHeld valid carried r key later i t
  timeline_stays m later i t up q =
      let same = q.marked in
      let next = above_zero (later (round_word key)) (omega (arith, up, same)) in
      let is = next.1 in
      record {
        known = q.known;
        at = q.at;
        round = next.0;
        marked = next.1;
        entered = λ plan until kept line net fits in_time at v on sound. up_to_more _ q.round next.0 t.entered (omega (arith, up, same, is)) (q.entered plan until kept line net fits in_time at v on sound);
      }

  pub barrier_stays : (m later : ℕ → ℕ) (b : BarrierFields) → ((i : ℕ) → i < count_of key → m (done_word key i) ≤ later (done_word key i))
      → IsBarrierHeld valid carried r key m b → IsBarrierHeld valid carried r key later b
  barrier_stays m later b up q = record {
    at = q.at;
    reported = λ i known told.
        (let of = q.reported i known told in
        let same = of.marked in
        let more = up i known in
        let next = above_zero (later (done_word key i)) (omega (arith, more, same)) in
        let is = next.1 in
        record {
          done = next.0;
          marked = next.1;
          covers = λ plan until kept line net fits in_time at v on sound. covers_more _ i b.window of.done next.0 (omega (arith, more, same, is)) (of.covers plan until kept line net fits in_time at v on sound);
        });
  }

  -- ---- counts that are written

  -- the round and the done words stay
  other_written : (f : ℕ → ℕ) (c x : ℕ) → (round_word key ≢ c) → ((i : ℕ) → i < count_of key → done_word key i ≢ c) → Keeps valid carried r key f → Keeps valid carried r key (put f c x)
  other_written f c x round done kept plan until cut line net fits in_time at v on sound w y window i known =
      covers_more _ i w (f (done_word key i)) (put f c x (done_word key i)) (le_of_eq (sym (put_else f c x (done_word key i) (done i known))))
      (kept plan until cut line net fits in_time at v on sound w y (at_number _ (put f c x (round_word key)) (f (round_word key)) w y (put_else f c x (round_word key) round) window) i known)

  pub written_posted : (n m : ℕ → ℕ) (k x : ℕ) → k < length key.ends → KeepsWith valid carried r key n m (posted_word key k) x
  written_posted n m k x known f kept meets = other_written f (posted_word key k) x (λ e. omega arith) (λ i there e. omega arith) kept

  pub written_taken : (n m : ℕ → ℕ) (k x : ℕ) → k < length key.ends → KeepsWith valid carried r key n m (taken_word key k) x
  written_taken n m k x known f kept meets = other_written f (taken_word key k) x (λ e. omega arith) (λ i there e. omega arith) kept

  pub written_done : (n m : ℕ → ℕ) (i x : ℕ) → i < count_of key → 0 < n (done_word key i) → n (done_word key i) ≤ suc x → KeepsWith valid carried r key n m (done_word key i) x
  written_done n m i x known noted up f kept meets plan until cut line net fits in_time at v on sound w y window j there =
      let is = meets.noted (done_word key i) noted in
      let round : put f (done_word key i) x (round_word key) ≡ f (round_word key) = put_else f (done_word key i) x (round_word key) (λ e. omega arith) in
      let before = kept plan until cut line net fits in_time at v on sound w y (at_number _ (put f (done_word key i) x (round_word key)) (f (round_word key)) w y round window) j there in
      covers_more _ j w (f (done_word key j)) (put f (done_word key i) x (done_word key j)) (alike (done_word key j) (done_word key i)
      (λ same. (let here = put_here f (done_word key i) x (done_word key j) same in let one : f (done_word key j) ≡ f (done_word key i) = ap f same in omega (arith, here, one, is, up)))
      (λ other. le_of_eq (sym (put_else f (done_word key i) x (done_word key j) other)))) before

-- ---- marks

not_listed : (xs : List (ℕ × ℕ)) (p c : ℕ) → ((i : ℕ) → i < length xs → (get_or xs i (0, 0)).0 ≡ p → (get_or xs i (0, 0)).1 ≡ c → ⊥) → is_listed xs p c ≡ false
not_listed [] p c none = refl
not_listed (x ∷ xs) p c none =
    let rest : is_listed xs p c ≡ false = not_listed xs p c (λ i h one two. none (suc i) (omega arith) one two) in
    alike p x.0
    (λ same. (let other : (c == x.1) ≡ false = ne_eqb c x.1 (λ e. none 0 (omega arith) (sym same) (sym e)) in let here : (p == x.0) ≡ true = eq-eqb p x.0 same in rw (here, other, rest) refl))
    (λ differ. (let here : (p == x.0) ≡ false = ne_eqb p x.0 differ in rw (here, rest) refl))

module _ {B S P : Type 0} (key : CoreView B S P) where
  abbrev rounds : List (ℕ × ℕ)
  rounds = map (round_cleared key) (numbers (count_of key))

  abbrev dones : List (ℕ × ℕ)
  dones = map (done_cleared key) (numbers (count_of key))

  -- an item of what is cleared
  cleared_cases : (Q : ℕ × ℕ → Type 0) → ((i : ℕ) → i < count_of key → Q (round_cleared key i)) → ((i : ℕ) → i < count_of key → Q (done_cleared key i))
      → (i : ℕ) → i < length (rounds ++ dones) → Q (get_or (rounds ++ dones) i (0, 0))
  cleared_cases Q first second i h =
      let one : length rounds ≡ count_of key = length-map-range_with_len (round_cleared key) 0 (count_of key) in
      let two : length dones ≡ count_of key = length-map-range_with_len (done_cleared key) 0 (count_of key) in
      let all = length-append rounds dones in
      elim (lt_or_ge i (count_of key)) [
        | inl low ↦ subst Q (sym (get_or_append_left rounds dones (0, 0) i (omega (arith, one, low)) ∙ numbers_at (round_cleared key) (count_of key) i (0, 0) low)) (first i low)
        | inr high ↦ behind Q second i one (above i high) (omega (arith, all, one, two, h))
      ]
    where
      above : (i : ℕ) → count_of key ≤ i → (j : ℕ) × (i ≡ count_of key + j)
      above i high = more (count_of key) i high
        where
          more : (a b : ℕ) → a ≤ b → (j : ℕ) × (b ≡ a + j)
          more zero b h = (b, omega arith)
          more (suc a) zero h = absurd (omega arith)
          more (suc a) (suc b) h = (let q = more a b (omega arith) in let is = q.1 in (q.0, omega (arith, is)))

      behind : (Q : ℕ × ℕ → Type 0) → ((i : ℕ) → i < count_of key → Q (done_cleared key i)) → (i : ℕ) → length rounds ≡ count_of key → (j : ℕ) × (i ≡ count_of key + j) → i < count_of key + count_of key
          → Q (get_or (rounds ++ dones) i (0, 0))
      behind Q second i one q h =
          let is = q.1 in
          let place : i ≡ length rounds + q.0 = omega (arith, one, is) in
          subst Q (sym (ap (λ k. get_or (rounds ++ dones) k (0, 0)) place ∙ (get_or-append-add rounds dones q.0 (0, 0) ∙ numbers_at (done_cleared key) (count_of key) q.0 (0, 0) (omega (arith, is, h)))))
          (second q.0 (omega (arith, is, h)))

  pub round_kept : (p : ℕ) → count_of key ≤ p → is_cleared (shape_of key) p (round_word key) ≡ false
  round_kept p high = not_listed (rounds ++ dones) p (round_word key)
      (cleared_cases (λ x. x.0 ≡ p → x.1 ≡ round_word key → ⊥) (λ i known one two. omega (arith, known, one, high)) (λ i known one two. omega (arith, known, two)))

  pub done_kept : (p i : ℕ) → p ≢ barrier_place key → i < count_of key → is_cleared (shape_of key) p (done_word key i) ≡ false
  done_kept p i other there = not_listed (rounds ++ dones) p (done_word key i)
      (cleared_cases (λ x. x.0 ≡ p → x.1 ≡ done_word key i → ⊥) (λ j known one two. omega (arith, known, there, two)) (λ j known one two. other (sym one)))

  pub round_mark : (v : View) (p : ℕ) → v.shape ≡ shape_of key → count_of key ≤ p → mark (taking v p) (round_word key) ≡ mark v (round_word key)
  round_mark v p shape high = remembered (is_cleared v.shape p) v.marks (round_word key) (ap (λ s. is_cleared s p (round_word key)) shape ∙ round_kept p high)

  pub done_mark : (v : View) (p i : ℕ) → v.shape ≡ shape_of key → p ≢ barrier_place key → i < count_of key → mark (taking v p) (done_word key i) ≡ mark v (done_word key i)
  done_mark v p i shape other there = remembered (is_cleared v.shape p) v.marks (done_word key i) (ap (λ s. is_cleared s p (done_word key i)) shape ∙ done_kept p i other there)

  -- ---- words that are marked

  marked_by : (c a b : ℕ) → spoken (shape_of key) c ≡ (a, b) → is_marked (shape_of key) c ≡ (a == b)
  marked_by c a b is = ap (λ (x : ℕ × ℕ). x.0 == x.1) is

  pub done_marked : (i : ℕ) → i < count_of key → is_marked (shape_of key) (done_word key i) ≡ true
  done_marked i known = marked_by (done_word key i) i i (done_speaks key i known) ∙ eq-eqb i i refl

  pub round_marked : is_marked (shape_of key) (round_word key) ≡ true
  round_marked = marked_by (round_word key) (barrier_place key) (barrier_place key) (round_speaks key) ∙ eq-eqb (barrier_place key) (barrier_place key) refl

  pub posted_unmarked : (k : ℕ) (end : CrossEnd) → slice_get key.ends k ≡ Some end → end.sender < count_of key → is_marked (shape_of key) (posted_word key k) ≡ false
  posted_unmarked k end found known = marked_by (posted_word key k) end.sender (mail_place key end.receiver) (posted_speaks key k end found) ∙ ne_eqb end.sender (mail_place key end.receiver) (λ e. omega (arith, known, e))

  pub taken_unmarked : (k : ℕ) (end : CrossEnd) → slice_get key.ends k ≡ Some end → end.receiver < count_of key → is_marked (shape_of key) (taken_word key k) ≡ false
  taken_unmarked k end found known = marked_by (taken_word key k) (mail_place key end.receiver) end.receiver (taken_speaks key k end found) ∙ ne_eqb (mail_place key end.receiver) end.receiver (λ e. omega (arith, known, e))
