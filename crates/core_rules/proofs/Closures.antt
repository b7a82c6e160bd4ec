-- Some steps of the rules one after the other, and all mail of a timeline taken channel by channel.
use Rattle.std.proofs.Common.{◌≡◌, ℕ, zero, suc, ◌+◌, ◌<◌, ◌≤◌, ◌⊎◌, max, true, nat_eq, List, [], ◌∷◌, length, refl, sym, ap, ◌∙◌, subst, inl, inr, arith, eqb-true}
use mathlib.Core.Path.{fun_ext}
use Rattle.event_order.specs.Pending.{Among, put_all}
use Rattle.event_order.proofs.Pending.{test_cases}
use Rattle.event_order.proofs.Steps.{lt_or_ge}
use Rattle.ssf_model.specs.Scene.{Scene}
use Rattle.ssf_model.specs.Truth.{IsStretch}
use Rattle.sync_rules.specs.Parts.{Line, MailOf, CoreOf, put_at}
use Rattle.sync_rules.specs.Shared.{IsShared}
use Rattle.sync_rules.specs.Sound.{IsSoundCore}
use Rattle.sync_rules.specs.Steps.{CanTake, taken_line, taken_mail, taken_core}
use Rattle.sync_rules.specs.Steps.IsStep.{takes}
use Rattle.sync_rules.proofs.Cores.{take_keeps, step_keeps}
use Rattle.core_rules.specs.Leading.{AreSteps}

put_same_at : {T : Type 0} (n : ℕ) (g : ℕ → T) (k : ℕ) → put_at n (g n) g k ≡ g k
put_same_at n g k = elim (test_cases (nat_eq k n)) [
  | inl t ↦ rw t (ap g (sym (eqb-true k n t)))
  | inr f ↦ rw f refl
]

pub put_same : {T : Type 0} (n : ℕ) (g : ℕ → T) → put_at n (g n) g ≡ g
put_same n g = fun_ext (put_same_at n g)

empty_of : {T : Type 0} (xs : List T) → length xs ≡ 0 → xs ≡ []
empty_of [] h = refl
empty_of (x ∷ xs) h = absurd (omega arith)

module _ {X E : Type 0} (s : Scene X E) (budget : ℕ) where
  pub steps_join : (n k : ℕ) (a b c : CoreOf E) → AreSteps s budget n a b → AreSteps s budget k b c → AreSteps s budget (n + k) a c
  steps_join zero k a b c is more =
      let same : k ≡ 0 + k = omega arith in
      subst (λ m. AreSteps s budget m a c) same (subst (λ t. AreSteps s budget k t c) (sym is) more)
  steps_join (suc n) k a b c steps more =
      let same : suc (n + k) ≡ suc n + k = omega arith in
      let rest : AreSteps s budget (suc (n + k)) a c = (steps.0, steps.1, steps_join n k steps.0 b c steps.2 more) in
      subst (λ m. AreSteps s budget m a c) same rest

  pub steps_keep : IsShared s → (n v : ℕ) (a b : CoreOf E) → IsSoundCore s v a → AreSteps s budget n a b → (w : ℕ) × IsSoundCore s w b
  steps_keep sh zero v a b sound is = (v, subst (λ t. IsSoundCore s v t) is sound)
  steps_keep sh (suc n) v a b sound steps = (let next = step_keeps s sh v a sound budget steps.0 steps.1 in steps_keep sh n next.0 steps.0 b next.1 steps.2)

-- all mail on some channels is taken, one after the other
abbrev pub taken_cores : {X E : Type 0} → Scene X E → List ℕ → CoreOf E → CoreOf E
taken_cores s [] t = t
taken_cores s (c ∷ cs) t = taken_cores s cs (taken_core s c t)

module _ {X E : Type 0} (s : Scene X E) (sh : IsShared s) where
  -- a channel of which nothing can be taken stays as it is
  idle_line : (c : ℕ) (l : Line E) (mail : MailOf E) → mail.events ≡ [] → mail.posted ≡ l.taken c → max (l.held c) mail.appointment ≡ l.held c → taken_line s c l mail ≡ l
  idle_line c l mail empty posted held =
      ap (λ (ps : List E). record {
        moment = l.moment;
        executed = l.executed;
        pending = ps;
        entered = l.entered;
        arrival = l.arrival;
        taken = put_at c mail.posted l.taken;
        held = put_at c (max (l.held c) mail.appointment) l.held;
        posted = l.posted;
        written = l.written;
        outbox = l.outbox;
      }) (ap (λ (es : List E). put_all s.machine.key es l.pending) empty)
      ∙ ap (λ (f : ℕ → ℕ). record {
        moment = l.moment;
        executed = l.executed;
        pending = l.pending;
        entered = l.entered;
        arrival = l.arrival;
        taken = f;
        held = put_at c (max (l.held c) mail.appointment) l.held;
        posted = l.posted;
        written = l.written;
        outbox = l.outbox;
      }) (ap (λ (n : ℕ). put_at c n l.taken) posted ∙ put_same c l.taken)
      ∙ ap (λ (f : ℕ → ℕ). record {
        moment = l.moment;
        executed = l.executed;
        pending = l.pending;
        entered = l.entered;
        arrival = l.arrival;
        taken = l.taken;
        held = f;
        posted = l.posted;
        written = l.written;
        outbox = l.outbox;
      }) (ap (λ (n : ℕ). put_at c n l.held) held ∙ put_same c l.held)

  idle_mail : (mail : MailOf E) → mail.events ≡ [] → mail.taken ≡ mail.posted → taken_mail mail ≡ mail
  idle_mail mail empty taken =
      ap (λ (es : List E). record { events = es; posted = mail.posted; taken = mail.posted; appointment = mail.appointment }) (sym empty)
      ∙ ap (λ (n : ℕ). record { events = mail.events; posted = mail.posted; taken = n; appointment = mail.appointment }) (sym taken)

  idle_core : (c : ℕ) (t : CoreOf E) → taken_line s c (t.lines (s.net.receiver c)) (t.mails c) ≡ t.lines (s.net.receiver c) → taken_mail (t.mails c) ≡ t.mails c → taken_core s c t ≡ t
  idle_core c t line mail =
      let i : ℕ = s.net.receiver c in
      ap (λ (l : Line E). record { lines = put_at i l t.lines; mails = put_at c (taken_mail (t.mails c)) t.mails; barrier = t.barrier }) line
      ∙ ap (λ (m : MailOf E). record { lines = put_at i (t.lines i) t.lines; mails = put_at c m t.mails; barrier = t.barrier }) mail
      ∙ ap (λ (f : ℕ → Line E). record { lines = f; mails = put_at c (t.mails c) t.mails; barrier = t.barrier }) (put_same i t.lines)
      ∙ ap (λ (f : ℕ → MailOf E). record { lines = t.lines; mails = f; barrier = t.barrier }) (put_same c t.mails)

  idle : (v : ℕ) (t : CoreOf E) → IsSoundCore s v t → (c : ℕ) → s.net.cross c ≡ true → length (t.mails c).events ≡ 0 → (t.mails c).appointment ≤ (t.lines (s.net.receiver c)).held c → taken_core s c t ≡ t
  idle v t sound c cross none low =
      let l : Line E = t.lines (s.net.receiver c) in
      let mail : MailOf E = t.mails c in
      let empty : mail.events ≡ [] = empty_of mail.events none in
      let stretch = (sound.mails c cross).parcel.events in
      let same : mail.taken ≡ mail.posted = stretch_ends mail.events empty stretch in
      idle_core c t
      (idle_line c l mail empty (sym same ∙ sound.taken c cross) (omega (arith, low)))
      (idle_mail mail empty same)
    where
      stretch_ends : (es : List E) → es ≡ [] → IsStretch s c (t.mails c).taken es (t.mails c).posted → (t.mails c).taken ≡ (t.mails c).posted
      stretch_ends es empty stretch = subst (λ (ds : List E). IsStretch s c (t.mails c).taken ds (t.mails c).posted) empty stretch

  take_cases : (c : ℕ) (l : Line E) (m : MailOf E) → CanTake c l m ⊎ ((length m.events ≡ 0) × (m.appointment ≤ l.held c))
  take_cases c l m = elim (lt_or_ge 0 (length m.events)) [
    | inl some ↦ inl (inl some)
    | inr none ↦ elim (lt_or_ge (l.held c) m.appointment) [
      | inl more ↦ inl (inr more)
      | inr low ↦ inr (omega arith, low)
    ]
  ]

  -- what can be taken of them on some channel
  abbrev pub HasSome : List ℕ → CoreOf E → Type 0
  HasSome cs t = (c : ℕ) × Among c cs × CanTake c (t.lines (s.net.receiver c)) (t.mails c)

  -- to take all is some steps of the rules, and one at least where there is something
  pub takes_are_steps : (budget v : ℕ) (cs : List ℕ) (t : CoreOf E) → IsSoundCore s v t → ((c : ℕ) → Among c cs → s.net.cross c ≡ true)
      → (n : ℕ) × AreSteps s budget n t (taken_cores s cs t) × (HasSome cs t → 1 ≤ n)
  takes_are_steps budget v [] t sound cross = (0, refl, λ some. absurd some.1)
  takes_are_steps budget v (c ∷ cs) t sound cross = elim (take_cases c (t.lines (s.net.receiver c)) (t.mails c)) [
    | inl may ↦ (let known : s.net.cross c ≡ true = cross c (inl refl) in
        let rest = takes_are_steps budget v cs (taken_core s c t) (take_keeps s sh v t sound c known) (λ k a. cross k (inr a)) in
        (suc rest.0, (taken_core s c t, takes c known may refl, rest.1), λ some. omega arith))
    | inr none ↦ (let known : s.net.cross c ≡ true = cross c (inl refl) in
        let same : taken_core s c t ≡ t = idle v t sound c known none.0 none.1 in
        let rest = takes_are_steps budget v cs t sound (λ k a. cross k (inr a)) in
        (rest.0, subst (λ u. AreSteps s budget rest.0 t (taken_cores s cs u)) (sym same) rest.1, λ some. rest.2 (not_here none some)))
  ]
    where
      not_here : (none : (length (t.mails c).events ≡ 0) × ((t.mails c).appointment ≤ (t.lines (s.net.receiver c)).held c)) → HasSome (c ∷ cs) t → HasSome cs t
      not_here none (k, inr a, may) = (k, a, may)
      not_here none (k, inl e, inl some) = (let other : 0 < length (t.mails c).events = subst (λ n. 0 < length (t.mails n).events) e some in let zero_long = none.0 in absurd (omega arith))
      not_here none (k, inl e, inr more) = (let other : (t.lines (s.net.receiver c)).held c < (t.mails c).appointment = subst (λ n. (t.lines (s.net.receiver n)).held n < (t.mails n).appointment) e more in
          let low = none.1 in absurd (omega arith))
