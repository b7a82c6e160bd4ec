-- What is asked in the parts of a turn, one after the other.
use Rattle.std.proofs.Common.{◌≡◌, ℕ, ◌+◌, inl, inr, refl, sym, ap, ◌∙◌, subst, arith, false, List, ◌++◌, Option, Some, None}
use Rattle.turn_table.specs.declared.view.View.{View}
use Rattle.core_rules.specs.Cores.{CoreView}
use Rattle.share_rules.specs.Places.{mail_place, barrier_place}
use Rattle.sync_steps.specs.declared.steps.Step.{Step}
use Rattle.sync_steps.specs.declared.steps.Step.TheVariants.{Execute, Post, Take, Enter, Report, Cross}
use Rattle.sync_steps.specs.declared.steps.Stepped.TheVariants.{NotEnabled}
use Rattle.worker_hands.specs.declared.hand.Answer.{Answer}
use Rattle.worker_hands.specs.declared.hand.Answer.TheVariants.{Done}
use Rattle.worker_hands.specs.declared.hand.Made.{Made}
use Rattle.worker_hands.specs.Hands.{HandView, IsAsked, IsToldOn}
use Rattle.worker_hands.specs.Asked.{first_or, is_step, AreOf, runs_in, last_answer, WasNotEnabled, IsUncrossed}
use Rattle.worker_hands.proofs.Asking.{told_then}
use Rattle.worker_turns.specs.Working.{HasLostMore, IsWorked}
use Rattle.worker_turns.specs.Turning.{IsPost, IsMeeting, AreAll, AreRuns, AreMeetings, AreTakes, ArePosts, AreMeetingsOr}
use Rattle.worker_turns.proofs.Values.{more_none, more_then, lost_between}
use Rattle.worker_turns.proofs.Lists.{asked_both, asked_then, last_of_both, last_later, last_earlier, last_none, runs_of_both, all_wider, all_of_both}

-- ---- at the barrier

uncrossed_later : (a b : Option Answer) → IsUncrossed a → IsUncrossed (first_or a b)
uncrossed_later None b is = absurd is
uncrossed_later (Some x) b is = is

uncrossed_both : (xs ys : List Made) → IsUncrossed (last_answer Cross ys) → IsUncrossed (last_answer Cross (xs ++ ys))
uncrossed_both xs ys is = subst (λ o. IsUncrossed o) (sym (last_of_both Cross xs ys)) (uncrossed_later (last_answer Cross ys) (last_answer Cross xs) is)

-- steps of another kind
no_enter : (i : ℕ) (s : Step) → s ≡ Report i → is_step (Enter i) s ≡ false
no_enter i s is = ap (is_step (Enter i)) is

no_cross : (i : ℕ) (step : Step) → is_step step Cross ≡ false → (s : Step) → s ≡ Cross → is_step step s ≡ false
no_cross i step other s is = ap (is_step step) is ∙ other

module _ (i : ℕ) where
  abbrev One : List Made → Type 0
  One made = (AreOf (Enter i) made × (runs_in made ≡ 0)) × WasNotEnabled (Enter i) made

  abbrev Half : List Made → Type 0
  Half made = (AreOf (Report i) made × (runs_in made ≡ 0)) × WasNotEnabled (Report i) made

  abbrev Two : List Made → Type 0
  Two made = AreAll (IsMeeting i) made × (runs_in made ≡ 0) × WasNotEnabled (Enter i) made × WasNotEnabled (Report i) made

  abbrev Three : List Made → Type 0
  Three made = (AreOf Cross made × (runs_in made ≡ 0)) × IsUncrossed (last_answer Cross made)

  pub meetings_asked : (h0 h1 h2 h3 : HandView)
      → IsAsked h0 h1 (λ made. AreOf (Enter i) made × (runs_in made ≡ 0)) → IsAsked h0 h1 (WasNotEnabled (Enter i))
      → IsAsked h1 h2 (λ made. AreOf (Report i) made × (runs_in made ≡ 0)) → IsAsked h1 h2 (WasNotEnabled (Report i))
      → IsAsked h2 h3 (λ made. AreOf Cross made × (runs_in made ≡ 0)) → IsAsked h2 h3 (λ made. IsUncrossed (last_answer Cross made))
      → IsAsked h0 h3 (AreMeetings i)
  meetings_asked h0 h1 h2 h3 enters enter reports report crosses cross =
      asked_then h0 h2 h3 Two Three (AreMeetings i)
      (λ xs zs p q. record {
        all = all_of_both (IsMeeting i) xs zs p.0 (all_wider (λ s. s ≡ Cross) (IsMeeting i) (λ s is. inr (inr is)) zs q.0.0);
        runs = runs_of_both xs zs ∙ (let one = p.1 in let two = q.0.1 in omega arith);
        enter = last_earlier (Enter i) xs zs (last_none (Enter i) (λ s. s ≡ Cross) (no_cross i (Enter i) refl) zs q.0.0) ∙ p.2;
        report = last_earlier (Report i) xs zs (last_none (Report i) (λ s. s ≡ Cross) (no_cross i (Report i) refl) zs q.0.0) ∙ p.3;
        cross = uncrossed_both xs zs q.1;
      })
      (asked_then h0 h1 h2 One Half Two
      (λ xs ys p q. (
        all_of_both (IsMeeting i) xs ys (all_wider (λ s. s ≡ Enter i) (IsMeeting i) (λ s is. inl is) xs p.0.0) (all_wider (λ s. s ≡ Report i) (IsMeeting i) (λ s is. inr (inl is)) ys q.0.0),
        runs_of_both xs ys ∙ (let one = p.0.1 in let two = q.0.1 in omega arith),
        last_earlier (Enter i) xs ys (last_none (Enter i) (λ s. s ≡ Report i) (no_enter i) ys q.0.0) ∙ p.1,
        last_later (Report i) xs ys (Done NotEnabled) q.1,
      ))
      (asked_both h0 h1 (λ made. AreOf (Enter i) made × (runs_in made ≡ 0)) (WasNotEnabled (Enter i)) enters enter)
      (asked_both h1 h2 (λ made. AreOf (Report i) made × (runs_in made ≡ 0)) (WasNotEnabled (Report i)) reports report))
      (asked_both h2 h3 (λ made. AreOf Cross made × (runs_in made ≡ 0)) (λ made. IsUncrossed (last_answer Cross made)) crosses cross)

  pub meetings_twice : (h0 h1 h2 : HandView) → IsAsked h0 h1 (AreMeetings i) → IsAsked h1 h2 (AreMeetings i) → IsAsked h0 h2 (AreMeetings i)
  meetings_twice h0 h1 h2 = asked_then h0 h1 h2 (AreMeetings i) (AreMeetings i) (AreMeetings i) (λ xs ys p q. record {
    all = all_of_both (IsMeeting i) xs ys p.all q.all;
    runs = runs_of_both xs ys ∙ (let one = p.runs in let two = q.runs in omega arith);
    enter = last_later (Enter i) xs ys (Done NotEnabled) q.enter;
    report = last_later (Report i) xs ys (Done NotEnabled) q.report;
    cross = uncrossed_both xs ys q.cross;
  })

-- ---- the whole turn

-- the last answer to a step is the later one
pub later_asked : (step : Step) (a : Answer) (h0 h1 h2 : HandView) (any : List Made → Type 0) → IsAsked h0 h1 any → IsAsked h1 h2 (λ made. last_answer step made ≡ Some a) → IsAsked h0 h2 (λ made. last_answer step made ≡ Some a)
later_asked step a h0 h1 h2 any = asked_then h0 h1 h2 any (λ made. last_answer step made ≡ Some a) (λ made. last_answer step made ≡ Some a) (λ xs ys p q. last_later step xs ys a q)

none_both : (step : Step) (xs ys : List Made) → last_answer step xs ≡ None → last_answer step ys ≡ None → last_answer step (xs ++ ys) ≡ None
none_both step xs ys one two = last_earlier step xs ys two ∙ one

module _ {B S P : Type 0} (key : CoreView B S P) where
  pub worked_along : (most i : ℕ) (v0 v1 v2 v3 : View) (made : List Made) → HasLostMore key v0 v1 → HasLostMore key v2 v3 → IsWorked key most i v1 v2 made → IsWorked key most i v0 v3 made
  worked_along most i v0 v1 v2 v3 made before after is = record {
    take = elim is.take [ inl l ↦ inl (lost_between key v0 v1 v2 v3 (mail_place key i) before after l) | inr none_last ↦ inr none_last ];
    posts = λ k end found of. elim (is.posts k end found of) [ inl l ↦ inl (lost_between key v0 v1 v2 v3 (mail_place key end.receiver) before after l) | inr none_last ↦ inr none_last ];
    barrier = elim is.barrier [ inl l ↦ inl (lost_between key v0 v1 v2 v3 (barrier_place key) before after l) | inr none_last ↦ inr none_last ];
    executed = is.executed;
  }

  module _ (most left last i : ℕ) (v0 v1 v2 v3 v4 v5 : View)
      (t1 : HasLostMore key v0 v1) (t2 : HasLostMore key v1 v2) (t3 : HasLostMore key v2 v3) (t4 : HasLostMore key v3 v4) (t5 : HasLostMore key v4 v5) where
    module _ (a b c d e : List Made) (pa : AreTakes key i v0 v1 a) (pb : AreRuns most left i b) (pc : AreMeetingsOr key i v2 v3 c) (pd : AreRuns left last i d) (pe : ArePosts key i v4 v5 e) where
      abbrev whole : List Made
      whole = a ++ (b ++ (c ++ (d ++ e)))

      -- executions and posts have nothing to say of other steps
      none_run : (step : Step) (xs : List Made) → is_step step (Execute i) ≡ false → AreOf (Execute i) xs → last_answer step xs ≡ None
      none_run step xs other all = last_none step (λ s. s ≡ Execute i) (λ s is. ap (is_step step) is ∙ other) xs all

      none_post : (step : Step) → ((ch : ℕ) → is_step step (Post i ch) ≡ false) → last_answer step e ≡ None
      none_post step other = last_none step (IsPost i) (λ s is. ap (is_step step) is.1 ∙ other is.0) e pe.all

      none_end : (step : Step) → is_step step (Execute i) ≡ false → ((ch : ℕ) → is_step step (Post i ch) ≡ false) → last_answer step (d ++ e) ≡ None
      none_end step one two = none_both step d e (none_run step d one pd.all) (none_post step two)

      no_take : (s : Step) → IsMeeting i s → is_step (Take i) s ≡ false
      no_take s is = elim is [ inl x ↦ ap (is_step (Take i)) x | inr y ↦ elim y [ inl x ↦ ap (is_step (Take i)) x | inr x ↦ ap (is_step (Take i)) x ] ]

      take_none : last_answer (Take i) (b ++ (c ++ (d ++ e))) ≡ None
      take_none = none_both (Take i) b (c ++ (d ++ e)) (none_run (Take i) b refl pb.all)
          (none_both (Take i) c (d ++ e) (last_none (Take i) (IsMeeting i) no_take c pc.all) (none_end (Take i) refl (λ ch. refl)))

      -- what is said of c stays, of steps on the barrier
      of_meeting : (step : Step) (x : Answer) → is_step step (Execute i) ≡ false → ((ch : ℕ) → is_step step (Post i ch) ≡ false) → last_answer step c ≡ Some x → last_answer step whole ≡ Some x
      of_meeting step x one two is =
          last_later step a (b ++ (c ++ (d ++ e))) x (last_later step b (c ++ (d ++ e)) x (last_earlier step c (d ++ e) (none_end step one two) ∙ is))

      uncrossed : IsUncrossed (last_answer Cross c) → IsUncrossed (last_answer Cross whole)
      uncrossed is = uncrossed_both a (b ++ (c ++ (d ++ e))) (uncrossed_both b (c ++ (d ++ e))
          (subst (λ o. IsUncrossed o) (sym (last_earlier Cross c (d ++ e) (none_end Cross refl (λ ch. refl)))) is))

      runs_whole : runs_in whole ≡ runs_in b + runs_in d
      runs_whole =
          let r1 = runs_of_both a (b ++ (c ++ (d ++ e))) in
          let r2 = runs_of_both b (c ++ (d ++ e)) in
          let r3 = runs_of_both c (d ++ e) in
          let r4 = runs_of_both d e in
          let za = pa.runs in
          let zc = pc.runs in
          let ze = pe.runs in
          omega arith

      rest : HasLostMore key v1 v5
      rest = more_then key v1 v2 v5 t2 (more_then key v2 v3 v5 t3 (more_then key v3 v4 v5 t4 t5))

      worked : IsWorked key most i v0 v5 whole
      worked = record {
        take = elim pa.done [
          | inl l ↦ inl (lost_between key v0 v0 v1 v5 (mail_place key i) (more_none key v0) rest l)
          | inr none_last ↦ inr (last_earlier (Take i) a (b ++ (c ++ (d ++ e))) take_none ∙ none_last)
        ];
        posts = λ k end found of. elim (pe.done k end found of) [
          | inl l ↦ inl (lost_between key v0 v4 v5 v5 (mail_place key end.receiver) (more_then key v0 v1 v4 t1 (more_then key v1 v2 v4 t2 (more_then key v2 v3 v4 t3 t4))) (more_none key v5) l)
          | inr none_last ↦ inr (last_later (Post i end.channel) a (b ++ (c ++ (d ++ e))) (Done NotEnabled) (last_later (Post i end.channel) b (c ++ (d ++ e)) (Done NotEnabled)
              (last_later (Post i end.channel) c (d ++ e) (Done NotEnabled) (last_later (Post i end.channel) d e (Done NotEnabled) none_last))))
        ];
        barrier = elim pc.done [
          | inl l ↦ inl (lost_between key v0 v2 v3 v5 (barrier_place key) (more_then key v0 v1 v2 t1 t2) (more_then key v3 v4 v5 t4 t5) l)
          | inr m ↦ inr (of_meeting (Enter i) (Done NotEnabled) refl (λ ch. refl) m.enter, (of_meeting (Report i) (Done NotEnabled) refl (λ ch. refl) m.report, uncrossed m.cross))
        ];
        executed = elim pd.done [
          | inl none ↦ inl (let sum = runs_whole in let one = pb.runs in let two = pd.runs in omega arith)
          | inr some ↦ inr (
            some.0,
            last_later (Execute i) a (b ++ (c ++ (d ++ e))) some.0 (last_later (Execute i) b (c ++ (d ++ e)) some.0 (last_later (Execute i) c (d ++ e) some.0
                (last_earlier (Execute i) d e (none_post (Execute i) (λ ch. refl)) ∙ some.1))),
            some.2,
          )
        ];
      }

    abbrev L4 : List Made → Type 0
    L4 x = (d : List Made) × (e : List Made) × (x ≡ d ++ e) × AreRuns left last i d × ArePosts key i v4 v5 e

    abbrev L3 : List Made → Type 0
    L3 x = (c : List Made) × (d : List Made) × (e : List Made) × (x ≡ c ++ (d ++ e)) × AreMeetingsOr key i v2 v3 c × AreRuns left last i d × ArePosts key i v4 v5 e

    abbrev L2 : List Made → Type 0
    L2 x = (b : List Made) × (c : List Made) × (d : List Made) × (e : List Made) × (x ≡ b ++ (c ++ (d ++ e))) × AreRuns most left i b × AreMeetingsOr key i v2 v3 c × AreRuns left last i d × ArePosts key i v4 v5 e

    pub worked_asked : (h0 h1 h2 h3 h4 h5 : HandView) → IsAsked h0 h1 (AreTakes key i v0 v1) → IsAsked h1 h2 (AreRuns most left i) → IsAsked h2 h3 (AreMeetingsOr key i v2 v3)
        → IsAsked h3 h4 (AreRuns left last i) → IsAsked h4 h5 (ArePosts key i v4 v5) → IsAsked h0 h5 (IsWorked key most i v0 v5)
    worked_asked h0 h1 h2 h3 h4 h5 qa qb qc qd qe =
        asked_then h0 h1 h5 (AreTakes key i v0 v1) L2 (IsWorked key most i v0 v5)
        (λ a x pa q. subst (λ y. IsWorked key most i v0 v5 (a ++ y)) (sym q.4) (worked a q.0 q.1 q.2 q.3 pa q.5 q.6 q.7 q.8))
        qa
        (asked_then h1 h2 h5 (AreRuns most left i) L3 L2 (λ b x pb q. (b, q.0, q.1, q.2, ap (λ y. b ++ y) q.3, pb, q.4, q.5, q.6)) qb
        (asked_then h2 h3 h5 (AreMeetingsOr key i v2 v3) L4 L3 (λ c x pc q. (c, q.0, q.1, ap (λ y. c ++ y) q.2, pc, q.3, q.4)) qc
        (asked_then h3 h4 h5 (AreRuns left last i) (ArePosts key i v4 v5) L4 (λ d e pd pe. (d, e, refl, pd, pe)) qd qe)))

-- two, and three, one after the other
pub asked_two : (h0 h1 h2 : HandView) (one two : List Made → Type 0) → IsAsked h0 h1 one → IsAsked h1 h2 two → IsAsked h0 h2 (λ made. Unit {0})
asked_two h0 h1 h2 one two = asked_then h0 h1 h2 one two (λ made. Unit {0}) (λ xs ys p q. tt)

pub asked_three : (h0 h1 h2 h3 : HandView) (one two three : List Made → Type 0) → IsAsked h0 h1 one → IsAsked h1 h2 two → IsAsked h2 h3 three → IsAsked h0 h3 (λ made. Unit {0})
asked_three h0 h1 h2 h3 one two three a b c = asked_two h0 h2 h3 (λ made. Unit {0}) three (asked_two h0 h1 h2 one two a b) c

-- what three and more calls told, one after the other
pub told_three : (h0 h1 h2 h3 : HandView) → IsToldOn h0 h1 → IsToldOn h1 h2 → IsToldOn h2 h3 → IsToldOn h0 h3
told_three h0 h1 h2 h3 a b c = told_then h0 h2 h3 (told_then h0 h1 h2 a b) c

pub told_four : (h0 h1 h2 h3 h4 : HandView) → IsToldOn h0 h1 → IsToldOn h1 h2 → IsToldOn h2 h3 → IsToldOn h3 h4 → IsToldOn h0 h4
told_four h0 h1 h2 h3 h4 a b c d = told_then h0 h3 h4 (told_three h0 h1 h2 h3 a b c) d

pub told_five : (h0 h1 h2 h3 h4 h5 : HandView) → IsToldOn h0 h1 → IsToldOn h1 h2 → IsToldOn h2 h3 → IsToldOn h3 h4 → IsToldOn h4 h5 → IsToldOn h0 h5
told_five h0 h1 h2 h3 h4 h5 a b c d e = told_then h0 h4 h5 (told_four h0 h1 h2 h3 h4 a b c d) e
