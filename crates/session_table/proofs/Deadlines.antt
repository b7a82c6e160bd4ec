-- The least deadline of the sessions of a table.
use Rattle.std.proofs.Common.{ℕ, ◌≡◌, ◌<◌, ◌≤◌, ◌∙◌, sym, ap, subst, refl, inl, inr, Bool, true, false, eqb, List, [], ◌∷◌, length, Option, Some, None, arith}
use Rattle.std.specs.List.{list_any}
use Rattle.std.specs.Map.{values_of}
use Rattle.std.specs.BTreeMap.{is_at}
use Rattle.std.specs.Ordering.{is_gt}
use Rattle.std.specs.Option.{option_eq}
use Rattle.std.proofs.lemmas.Bool.{cases_eq, cases_order, eq-eqb, ne_eqb, eqb-true, le-ltb, and_parts}
use Rattle.session_table.specs.declared.entry.Entry.{Entry}
use Rattle.session_table.specs.declared.table.Deadline.{Deadline}
use Rattle.session_table.specs.Entries.{earlier, least}
use Rattle.session_table.specs.Indexes.{deadline_cmp, kept_at, passes, is_due_at, AreKept}
use Rattle.session_table.proofs.Lists.{kept_here, kept_behind, none_above}

-- the order of deadlines is that of their times
pub due_le : (a b : Deadline) → is_gt (deadline_cmp a b) ≡ false → a.at ≤ b.at
due_le a b not_later =
    elim (cases_order a.at b.at) [
      | inl same ↦ omega arith
      | inr differ ↦ elim differ [
        | inl less ↦ omega arith
        | inr more ↦
            let low = le-ltb a.at b.at (omega arith) in
            let other = ne_eqb a.at b.at (λ is. omega arith) in
            let after = rw (low, other) at not_later in
            absurd (cc)
      ]
    ]

pub no_due : (keys : List Deadline) → (0 < length keys → ⊥) → (q : Deadline) → list_any (is_at (deadline_cmp q)) keys ≡ true → ⊥
no_due [] none q due = cc
no_due (k ∷ keys) none q due = none (omega arith)

-- a time is none, or m or later
abbrev IsLate : ℕ → Option ℕ → Type 0
IsLate m None = Unit {0}
IsLate m (Some d) = m ≤ d

earlier_late : (m : ℕ) (a b : Option ℕ) → IsLate m a → IsLate m b → IsLate m (earlier a b)
earlier_late m None b first second = second
earlier_late m (Some a) None first second = first
earlier_late m (Some a) (Some b) first second = omega arith

earlier_left : (m : ℕ) (b : Option ℕ) → IsLate m b → Some m ≡ earlier (Some m) b
earlier_left m None late = refl
earlier_left m (Some b) late = ap Some (omega arith)

earlier_right : (m : ℕ) (a : Option ℕ) → IsLate m a → Some m ≡ earlier a (Some m)
earlier_right m None late = refl
earlier_right m (Some a) late = ap Some (omega arith)

abbrev deadline_at : ℕ → ℕ → Deadline
deadline_at at number = record { at = at; number = number }

module _ {S : Type 0} where
  -- the first session stands under its deadline
  head_due : (e : ℕ × Entry S) (es : List (ℕ × Entry S)) (d : ℕ) → e.1.number ≡ e.0 → e.1.deadline ≡ Some d → passes (is_due_at (deadline_at d e.0)) (kept_at (e ∷ es) e.0) ≡ true
  head_due e es d number is =
      let t = eq-eqb e.1.number e.0 number in
      let u = eq-eqb d d refl in
      ap (passes (is_due_at (deadline_at d e.0))) (kept_here e es) ∙ rw (t, is, u) refl

  -- and each one behind it stands where it stood
  behind_due : (e : ℕ × Entry S) (es : List (ℕ × Entry S)) (q : Deadline) → AreKept (e ∷ es) → passes (is_due_at q) (kept_at es q.number) ≡ true → passes (is_due_at q) (kept_at (e ∷ es) q.number) ≡ true
  behind_due e es q kept is =
      elim (cases_eq q.number e.0) [
        | inl same ↦
            let none : kept_at es q.number ≡ None = rw same (none_above e.0 es kept.1) in
            let off : passes (is_due_at q) (kept_at es q.number) ≡ false = ap (passes (is_due_at q)) none in
            absurd (cc)
        | inr differ ↦ ap (passes (is_due_at q)) (kept_behind e es q.number differ) ∙ is
      ]

  head_late : (m : ℕ) (e : ℕ × Entry S) (es : List (ℕ × Entry S)) (o : Option ℕ) → e.1.number ≡ e.0 → e.1.deadline ≡ o → ((q : Deadline) → passes (is_due_at q) (kept_at (e ∷ es) q.number) ≡ true → m ≤ q.at) → IsLate m o
  head_late m e es None number is lower = tt
  head_late m e es (Some d) number is lower = lower (deadline_at d e.0) (head_due e es d number is)

  least_late : (m : ℕ) (es : List (ℕ × Entry S)) → AreKept es → ((q : Deadline) → passes (is_due_at q) (kept_at es q.number) ≡ true → m ≤ q.at) → IsLate m (least (values_of es))
  least_late m [] kept lower = tt
  least_late m (e ∷ es) kept lower =
      earlier_late m e.1.deadline (least (values_of es)) (head_late m e es e.1.deadline kept.0 refl lower) (least_late m es kept.2 (λ q is. lower q (behind_due e es q kept is)))

  least_by : (m n : ℕ) (x : Entry S) (es : List (ℕ × Entry S)) → AreKept es → ((q : Deadline) → passes (is_due_at q) (kept_at es q.number) ≡ true → m ≤ q.at) → kept_at es n ≡ Some x → x.deadline ≡ Some m → Some m ≡ least (values_of es)
  least_by m n x [] kept lower at is = absurd (cc)
  least_by m n x (e ∷ es) kept lower at is =
      let tail : (q : Deadline) → passes (is_due_at q) (kept_at es q.number) ≡ true → m ≤ q.at = λ q due. lower q (behind_due e es q kept due) in
      elim (cases_eq n e.0) [
        | inl same ↦
            let here : Some e.1 ≡ Some x = sym (kept_here e es) ∙ subst (λ k. kept_at (e ∷ es) k ≡ Some x) same at in
            let first : e.1 ≡ x = cc in
            let head : e.1.deadline ≡ Some m = ap (λ (y : Entry S). y.deadline) first ∙ is in
            earlier_left m (least (values_of es)) (least_late m es kept.2 tail) ∙ ap (λ o. earlier o (least (values_of es))) (sym head)
        | inr differ ↦
            let rest = least_by m n x es kept.2 tail (sym (kept_behind e es n differ) ∙ at) is in
            earlier_right m e.1.deadline (head_late m e es e.1.deadline kept.0 refl lower) ∙ ap (earlier e.1.deadline) rest
      ]

  due_at : (q : Deadline) (x : Entry S) (o : Option ℕ) → x.deadline ≡ o → is_due_at q x ≡ true → o ≡ Some q.at
  due_at q x None none is = let both = and_parts (eqb x.number q.number) (option_eq eqb x.deadline (Some q.at)) is in let off = both.1 in let no_time = rw none at off in absurd (cc)
  due_at q x (Some d) some is = let both = and_parts (eqb x.number q.number) (option_eq eqb x.deadline (Some q.at)) is in let off = both.1 in let same = rw some at off in ap Some (eqb-true d q.at same)

  least_at : (q : Deadline) (es : List (ℕ × Entry S)) (o : Option (Entry S)) → kept_at es q.number ≡ o → AreKept es → passes (is_due_at q) o ≡ true → ((p : Deadline) → passes (is_due_at p) (kept_at es p.number) ≡ true → q.at ≤ p.at) → Some q.at ≡ least (values_of es)
  least_at q es None at kept is lower = absurd (cc)
  least_at q es (Some x) at kept is lower = least_by q.at q.number x es kept lower at (due_at q x x.deadline refl is)

  -- the first of the deadlines is the least one
  pub least_is : (q : Deadline) (es : List (ℕ × Entry S)) (dues : Deadline → Bool) → AreKept es → ((p : Deadline) → dues p ≡ passes (is_due_at p) (kept_at es p.number)) → dues q ≡ true
      → ((p : Deadline) → dues p ≡ true → q.at ≤ p.at) → Some q.at ≡ least (values_of es)
  least_is q es dues kept is here lower = least_at q es (kept_at es q.number) refl kept (sym (is q) ∙ here) (λ p due. lower p (is p ∙ due))

  no_head : (e : ℕ × Entry S) (es : List (ℕ × Entry S)) (o : Option ℕ) → e.1.number ≡ e.0 → e.1.deadline ≡ o → ((q : Deadline) → passes (is_due_at q) (kept_at (e ∷ es) q.number) ≡ true → ⊥) → None ≡ o
  no_head e es None number is none = refl
  no_head e es (Some d) number is none = absurd (none (deadline_at d e.0) (head_due e es d number is))

  pub no_least : (es : List (ℕ × Entry S)) → AreKept es → ((q : Deadline) → passes (is_due_at q) (kept_at es q.number) ≡ true → ⊥) → None ≡ least (values_of es)
  no_least [] kept none = refl
  no_least (e ∷ es) kept none =
      let head = no_head e es e.1.deadline kept.0 refl none in
      no_least es kept.2 (λ q is. none q (behind_due e es q kept is)) ∙ ap (λ o. earlier o (least (values_of es))) head
