-- What is asked on several channels, one after the other.
use Rattle.std.proofs.Common.{◌≡◌, ℕ, ◌+◌, ◌≤◌, ◌<◌, ◌⊎◌, inl, inr, refl, sym, ap, ◌∙◌, subst, arith, Bool, true, false, nat_eq, ◌&&◌, List, [], ◌∷◌, ◌++◌, length, take, get_or, Contains, Some, None, slice_get}
use Rattle.std.proofs.lemmas.Bool.{eqb-true}
use Rattle.std.proofs.lemmas.Option.{slice_get_within}
use Rattle.std.proofs.lemmas.List.{take_all}
use Rattle.std.proofs.lemmas.List.Elements.{All-nil, Contains-get_or, Contains-push_cases}
use Rattle.event_order.proofs.Pending.{test_cases}
use Rattle.ssf_model.specs.Reaction.{Reaction, Validity}
use Rattle.turn_table.specs.declared.pass.Held.{Held}
use Rattle.turn_table.specs.declared.view.View.{View}
use Rattle.plan_shares.specs.declared.crosses.CrossEnd.{CrossEnd}
use Rattle.core_rules.specs.Cores.{CoreView}
use Rattle.share_rules.specs.Places.{mail_place}
use Rattle.share_turns.specs.declared.share.Share.{Share}
use Rattle.share_turns.specs.Rows.{ArePlacesOf}
use Rattle.share_turns.specs.Holdings.{HasTimeline}
use Rattle.sync_steps.specs.declared.steps.Step.{Step}
use Rattle.sync_steps.specs.declared.steps.Step.TheVariants.{Post}
use Rattle.sync_steps.specs.declared.steps.Stepped.TheVariants.{NotEnabled}
use Rattle.worker_hands.specs.declared.hand.Answer.TheVariants.{Done}
use Rattle.worker_hands.specs.declared.hand.Made.{Made}
use Rattle.worker_hands.specs.Hands.{HandView, IsAsked, IsToldOn}
use Rattle.worker_hands.specs.Asked.{is_step, AreOf, runs_in, last_answer, WasNotEnabled}
use Rattle.worker_hands.proofs.Asking.{told_then}
use Rattle.worker_turns.specs.Working.{HasLost, HasLostMore}
use Rattle.worker_turns.specs.Turning.{IsPost, AreAll, AreSteps, ArePostsOn, ArePostsAt, ArePosts}
use Rattle.worker_turns.proofs.Values.{more_none, more_then}
use Rattle.worker_turns.proofs.Stepping.{steps_none, still_then}
use Rattle.worker_turns.proofs.Lists.{asked_both, asked_more, asked_then, asked_nothing, last_later, last_earlier, last_none, runs_of_both, all_wider, all_of_both}

-- one post or another
module _ (i : ℕ) where
  post_other : (c d : ℕ) → nat_eq c d ≡ false → is_step (Post i c) (Post i d) ≡ false
  post_other c d other = rw other (and_false (nat_eq i i))
    where
      and_false : (b : Bool) → (b && false) ≡ false
      and_false true = refl
      and_false false = refl

  is_post : (c : ℕ) (step : Step) → step ≡ Post i c → IsPost i step
  is_post c step is = (c, is)

  -- on each channel: nothing, or what is said of this one
  one_channel : (c d : ℕ) (ys : List Made) → AreOf (Post i d) ys → (last_answer (Post i d) ys ≡ None) ⊎ WasNotEnabled (Post i d) ys → (last_answer (Post i c) ys ≡ None) ⊎ WasNotEnabled (Post i c) ys
  one_channel c d ys all said = elim (test_cases (nat_eq c d)) [
    | inl same ↦ (let is : d ≡ c = sym (eqb-true c d same) in subst (λ e. (last_answer (Post i e) ys ≡ None) ⊎ WasNotEnabled (Post i e) ys) is said)
    | inr other ↦ inl (last_none (Post i c) (λ s. s ≡ Post i d) (λ s is. ap (is_step (Post i c)) is ∙ post_other c d other) ys all)
  ]

  -- what was not enabled at the last stays so
  stays_so : (c : ℕ) (xs ys : List Made) → (last_answer (Post i c) ys ≡ None) ⊎ WasNotEnabled (Post i c) ys → WasNotEnabled (Post i c) xs → WasNotEnabled (Post i c) (xs ++ ys)
  stays_so c xs ys said before = elim said [
    | inl none ↦ last_earlier (Post i c) xs ys none ∙ before
    | inr later ↦ last_later (Post i c) xs ys (Done NotEnabled) later
  ]

module _ {B S P : Type 0} (key : CoreView B S P) (i : ℕ) where
  pub posts_on_asked : (end : CrossEnd) (v w : View) (old new : HandView) → IsAsked old new (λ made. AreOf (Post i end.channel) made × (runs_in made ≡ 0)) → IsAsked old new (WasNotEnabled (Post i end.channel)) → IsAsked old new (ArePostsOn key i end v w)
  posts_on_asked end v w old new asked done =
      asked_more old new (λ made. (AreOf (Post i end.channel) made × (runs_in made ≡ 0)) × WasNotEnabled (Post i end.channel) made) (ArePostsOn key i end v w)
      (λ made q. record { all = q.0.0; runs = q.0.1; done = inr q.1 })
      (asked_both old new (λ made. AreOf (Post i end.channel) made × (runs_in made ≡ 0)) (WasNotEnabled (Post i end.channel)) asked done)

  -- it posted on the channels of the ends at these places
  pub record ArePostsAmong (places : List ℕ) (v w : View) (made : List Made) : Type 0 where
    pub all : AreAll (IsPost i) made
    pub runs : runs_in made ≡ 0
    pub done : (k : ℕ) (end : CrossEnd) → Contains places k → slice_get key.ends k ≡ Some end → end.sender ≡ i
        → HasLost v w (mail_place key end.receiver) ⊎ WasNotEnabled (Post i end.channel) made

  pub posts_begin : (v : View) (h : HandView) → IsAsked h h (ArePostsAmong [] v v)
  posts_begin v h = asked_nothing h (ArePostsAmong [] v v) (record { all = All-nil (λ m. IsPost i m.step); runs = refl; done = λ k end at found of. absurd (let small = at.1 in omega arith) })

  -- the end k is not one of this sender
  pub posts_skipped : (k : ℕ) (end : CrossEnd) (v : View) (h : HandView) → slice_get key.ends k ≡ Some end → (end.sender ≡ i → ⊥) → IsAsked h h (ArePostsAt key k i v v)
  posts_skipped k end v h found not_its = asked_nothing h (ArePostsAt key k i v v) (record {
    all = All-nil (λ m. IsPost i m.step);
    runs = refl;
    still = λ c. inl refl;
    done = λ other at of. (let both : Some end ≡ Some other = sym found ∙ at in let is : end ≡ other = cc in absurd (not_its (ap (λ (e : CrossEnd). e.sender) is ∙ of)));
  })

  -- the end k is one
  pub posts_at : (k : ℕ) (end : CrossEnd) (v w : View) (old new : HandView) → slice_get key.ends k ≡ Some end → IsAsked old new (ArePostsOn key i end v w) → IsAsked old new (ArePostsAt key k i v w)
  posts_at k end v w old new found = asked_more old new (ArePostsOn key i end v w) (ArePostsAt key k i v w) (λ made q. record {
    all = all_wider (λ s. s ≡ Post i end.channel) (IsPost i) (is_post i end.channel) made q.all;
    runs = q.runs;
    still = λ c. one_channel i c end.channel made q.all (elim q.done [ inl was ↦ inl was.1 | inr later ↦ inr later ]);
    done = λ other at of. (let both : Some end ≡ Some other = sym found ∙ at in let is : end ≡ other = cc in
        subst (λ (x : CrossEnd). HasLost v w (mail_place key x.receiver) ⊎ WasNotEnabled (Post i x.channel) made) is (elim q.done [ inl was ↦ inl was.0 | inr later ↦ inr later ]));
  })

  -- one place more
  pub posts_more : (places : List ℕ) (k : ℕ) (v w z : View) (old mid new : HandView) → HasLostMore key v w → HasLostMore key w z
      → IsAsked old mid (ArePostsAmong places v w) → IsAsked mid new (ArePostsAt key k i w z) → IsAsked old new (ArePostsAmong (places ++ k ∷ []) v z)
  posts_more places k v w z old mid new first second = asked_then old mid new (ArePostsAmong places v w) (ArePostsAt key k i w z) (ArePostsAmong (places ++ k ∷ []) v z) (λ xs ys p q. record {
    all = all_of_both (IsPost i) xs ys p.all q.all;
    runs = runs_of_both xs ys ∙ (let one = p.runs in let two = q.runs in omega arith);
    done = λ j other at found of. elim (Contains-push_cases places k j at) [
      | inl before ↦ elim (p.done j other before found of) [
        | inl lost_before ↦ inl (let up = second.rises (mail_place key other.receiver) in omega (arith, up, lost_before))
        | inr none_last ↦ inr (stays_so i other.channel xs ys (q.still other.channel) none_last)
      ]
      | inr last ↦ elim (q.done other (ap (λ n. slice_get key.ends n) last ∙ found) of) [
        | inl was ↦ inl (let up = first.rises (mail_place key other.receiver) in omega (arith, up, was))
        | inr none_last ↦ inr (last_later (Post i other.channel) xs ys (Done NotEnabled) none_last)
      ]
    ];
  })

  -- the places of its row are those of all its ends
  pub posts_whole : (places : List ℕ) → ArePlacesOf key.ends i places → (n : ℕ) → length places ≤ n → (v w : View) (old new : HandView) → IsAsked old new (ArePostsAmong (take n places) v w) → IsAsked old new (ArePosts key i v w)
  posts_whole places are n past v w old new asked = asked_more old new (ArePostsAmong places v w) (ArePosts key i v w) (λ made q. record {
    all = q.all;
    runs = q.runs;
    done = λ k end found of. q.done k end (are.all k end found (inl of)) found of;
  }) (subst (λ l. IsAsked old new (ArePostsAmong l v w)) (take_all n places past) asked)

-- the places of a row are in range
pub place_known : (ends : List CrossEnd) (i : ℕ) (places : List ℕ) → ArePlacesOf ends i places → (n : ℕ) → n < length places → get_or places n 0 < length ends
place_known ends i places are n small =
    let end = are.known (get_or places n 0) (Contains-get_or places n 0 small) in
    slice_get_within ends (get_or places n 0) end.0 end.1

-- what is so after these places
pub record ArePostedAmong {B S P : Type 0} (valid : B → Validity S) (carried : B → P → Type 0) (r : B → Reaction S P) (key : CoreView B S P) (places : List ℕ) (i : ℕ) (v w : View) (own : Held (Share B S P)) (old new : HandView) : Type 0 where
  pub has : HasTimeline valid carried r key w i own
  pub tries : HasLostMore key v w
  pub told : IsToldOn old new
  pub steps : IsAsked old new (AreSteps key 0 i)
  pub asked : IsAsked old new (ArePostsAmong key i places v w)

-- none so far
pub among_begin : {B S P : Type 0} (valid : B → Validity S) (carried : B → P → Type 0) (r : B → Reaction S P) (key : CoreView B S P) (i : ℕ) (v : View) (own : Held (Share B S P)) (h : HandView)
    → HasTimeline valid carried r key v i own → ArePostedAmong valid carried r key [] i v v own h h
among_begin valid carried r key i v own h has = record { has = has; tries = more_none key v; told = ([], refl); steps = steps_none key i 0 h; asked = posts_begin key i v h }

module _ {B S P : Type 0} (valid : B → Validity S) (carried : B → P → Type 0) (r : B → Reaction S P) (key : CoreView B S P) (places : List ℕ) (i : ℕ) (v w : View) (own : Held (Share B S P)) (h0 h1 : HandView)
    (so : ArePostedAmong valid carried r key places i v w own h0 h1) where
  pub among_more : (k : ℕ) (z : View) (own_after : Held (Share B S P)) (h2 : HandView) → HasTimeline valid carried r key z i own_after → HasLostMore key w z → IsToldOn h1 h2 → IsAsked h1 h2 (AreSteps key 0 i) → IsAsked h1 h2 (ArePostsAt key k i w z)
      → (more : List ℕ) → more ≡ places ++ k ∷ [] → ArePostedAmong valid carried r key more i v z own_after h0 h2
  among_more k z own_after h2 has tries told steps asked more is = record {
    has = has;
    tries = more_then key v w z so.tries tries;
    told = told_then h0 h1 h2 so.told told;
    steps = still_then key i h0 h1 h2 so.steps steps;
    asked = subst (λ l. IsAsked h0 h2 (ArePostsAmong key i l v z)) (sym is) (posts_more key i places k v w z h0 h1 h2 so.tries tries so.asked asked);
  }
