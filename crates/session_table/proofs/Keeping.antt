-- What stands under the ends and the deadlines of sessions as they come and go.
use Rattle.std.proofs.Common.{ℕ, ◌≡◌, ◌∙◌, sym, ap, subst, refl, inl, inr, Bool, true, false, not, cond, ◌&&◌, ◌||◌, eqb, List, Option, Some, None}
use Rattle.std.proofs.lemmas.Bool.{cases_Bool, cases_eq, eq-eqb, ne_eqb, eqb-true, and_parts, not-true}
use Rattle.std.specs.List.{find}
use Rattle.std.specs.Map.{values_of}
use Rattle.session_table.specs.declared.entry.Sockets.{Sockets}
use Rattle.session_table.specs.declared.entry.Entry.{Entry}
use Rattle.session_table.specs.declared.table.Deadline.{Deadline}
use Rattle.session_table.specs.Entries.{same_sockets, is_accepted, accepts_at, opens_at}
use Rattle.session_table.specs.Indexes.{is_number, kept_at, passes, is_due_at, AreUnder}
use Rattle.session_table.proofs.Lists.{none_passes}

is_only : (o : Option ℕ) (n m : ℕ) → is_number n o ≡ true → (m ≡ n → ⊥) → is_number m o ≡ false
is_only None n m is differ = refl
is_only (Some k) n m is differ = let same = eqb-true k n is in ne_eqb k m (λ at. differ (sym at ∙ same))

both_off : (d : Bool) → (not d && d) ≡ false
both_off true = refl
both_off false = refl

or_off : (d : Bool) → (d || false) ≡ d
or_off true = refl
or_off false = refl

module _ {S : Type 0} where
  -- a session goes
  pub gone_under : (test : Sockets → Entry S → Bool) (old new : ℕ → Option (Entry S)) (under after : Sockets → Option ℕ) (x : Entry S) (n : ℕ) → AreUnder test old under → old n ≡ Some x
      → ((m : ℕ) → new m ≡ cond (eqb n m) None (old m)) → ((q : Sockets) → after q ≡ cond (test q x) None (under q)) → AreUnder test new after
  gone_under test old new under after x n is was kept left q m =
      let at_n : is_number n (under q) ≡ test q x = is q n ∙ ap (passes (test q)) was in
      elim (cases_eq m n) [
        | inl same ↦
            let t = eq-eqb n m (sym same) in
            let none : passes (test q) (new m) ≡ false = ap (passes (test q)) (let k = kept m in rw t at k) in
            elim (cases_Bool (test q x)) [
              | inl holds ↦ ap (is_number m) (let k = left q in rw holds at k) ∙ sym none
              | inr fails ↦ let off : is_number m (under q) ≡ false = rw same (at_n ∙ fails) in ap (is_number m) (let k = left q in rw fails at k) ∙ off ∙ sym none
            ]
        | inr differ ↦
            let t = ne_eqb n m (λ at. differ (sym at)) in
            let stays : passes (test q) (new m) ≡ passes (test q) (old m) = ap (passes (test q)) (let k = kept m in rw t at k) in
            elim (cases_Bool (test q x)) [
              | inl holds ↦ ap (is_number m) (let k = left q in rw holds at k) ∙ sym (is_only (under q) n m (at_n ∙ holds) differ) ∙ is q m ∙ sym stays
              | inr fails ↦ ap (is_number m) (let k = left q in rw fails at k) ∙ is q m ∙ sym stays
            ]
      ]

  -- a session comes
  pub come_under : (test : Sockets → Entry S → Bool) (old new : ℕ → Option (Entry S)) (under after : Sockets → Option ℕ) (x : Entry S) (n : ℕ) → AreUnder test old under → old n ≡ None
      → ((q : Sockets) (m : ℕ) → test q x ≡ true → passes (test q) (old m) ≡ false)
      → ((m : ℕ) → new m ≡ cond (eqb n m) (Some x) (old m)) → ((q : Sockets) → after q ≡ cond (test q x) (Some n) (under q)) → AreUnder test new after
  come_under test old new under after x n is was free kept put q m =
      elim (cases_eq m n) [
        | inl same ↦
            let t = eq-eqb n m (sym same) in
            let here : passes (test q) (new m) ≡ test q x = ap (passes (test q)) (let k = kept m in rw t at k) in
            let gone : old m ≡ None = rw same was in
            elim (cases_Bool (test q x)) [
              | inl holds ↦ ap (is_number m) (let k = put q in rw holds at k) ∙ t ∙ sym (here ∙ holds)
              | inr fails ↦ ap (is_number m) (let k = put q in rw fails at k) ∙ is q m ∙ ap (passes (test q)) gone ∙ sym (here ∙ fails)
            ]
        | inr differ ↦
            let t = ne_eqb n m (λ at. differ (sym at)) in
            let stays : passes (test q) (new m) ≡ passes (test q) (old m) = ap (passes (test q)) (let k = kept m in rw t at k) in
            elim (cases_Bool (test q x)) [
              | inl holds ↦ ap (is_number m) (let k = put q in rw holds at k) ∙ t ∙ sym (stays ∙ free q m holds)
              | inr fails ↦ ap (is_number m) (let k = put q in rw fails at k) ∙ is q m ∙ sym stays
            ]
      ]

  pub same_under : (test : Sockets → Entry S → Bool) (old : ℕ → Option (Entry S)) (under after : Sockets → Option ℕ) → AreUnder test old under → ((q : Sockets) → after q ≡ under q) → AreUnder test old after
  same_under test old under after is same q n = ap (is_number n) (same q) ∙ is q n

  -- a session that came and went again
  pub back_again : (old : ℕ → Option (Entry S)) (x : Entry S) (n : ℕ) → old n ≡ None → (m : ℕ) → old m ≡ cond (eqb n m) None (cond (eqb n m) (Some x) (old m))
  back_again old x n was m =
      elim (cases_Bool (eqb n m)) [
        | inl same ↦ let at = eqb-true n m same in rw (same, ← at) was
        | inr differ ↦ rw differ refl
      ]

  not_its_own : (q : Deadline) (x : Entry S) → (x.number ≡ q.number → ⊥) → is_due_at q x ≡ false
  not_its_own q x differ = let t = ne_eqb x.number q.number differ in rw t refl

  pub gone_due : (old new : ℕ → Option (Entry S)) (dues after : Deadline → Bool) (x : Entry S) (n : ℕ) → x.number ≡ n → ((q : Deadline) → dues q ≡ passes (is_due_at q) (old q.number)) → old n ≡ Some x
      → ((m : ℕ) → new m ≡ cond (eqb n m) None (old m)) → ((q : Deadline) → after q ≡ (not (is_due_at q x) && dues q)) → (q : Deadline) → after q ≡ passes (is_due_at q) (new q.number)
  gone_due old new dues after x n number is was kept left q =
      elim (cases_eq q.number n) [
        | inl same ↦
            let t = eq-eqb n q.number (sym same) in
            let none : passes (is_due_at q) (new q.number) ≡ false = ap (passes (is_due_at q)) (let k = kept q.number in rw t at k) in
            let there : old q.number ≡ Some x = rw same was in
            let here : dues q ≡ is_due_at q x = is q ∙ ap (passes (is_due_at q)) there in
            left q ∙ ap (λ b. not (is_due_at q x) && b) here ∙ both_off (is_due_at q x) ∙ sym none
        | inr differ ↦
            let t = ne_eqb n q.number (λ at. differ (sym at)) in
            let stays : passes (is_due_at q) (new q.number) ≡ passes (is_due_at q) (old q.number) = ap (passes (is_due_at q)) (let k = kept q.number in rw t at k) in
            left q ∙ ap (λ b. not b && dues q) (not_its_own q x (λ at. differ (sym at ∙ number))) ∙ is q ∙ sym stays
      ]

  pub come_due : (old new : ℕ → Option (Entry S)) (dues after : Deadline → Bool) (x : Entry S) (n : ℕ) → x.number ≡ n → ((q : Deadline) → dues q ≡ passes (is_due_at q) (old q.number)) → old n ≡ None
      → ((m : ℕ) → new m ≡ cond (eqb n m) (Some x) (old m)) → ((q : Deadline) → after q ≡ (is_due_at q x || dues q)) → (q : Deadline) → after q ≡ passes (is_due_at q) (new q.number)
  come_due old new dues after x n number is was kept put q =
      elim (cases_eq q.number n) [
        | inl same ↦
            let t = eq-eqb n q.number (sym same) in
            let here : passes (is_due_at q) (new q.number) ≡ is_due_at q x = ap (passes (is_due_at q)) (let k = kept q.number in rw t at k) in
            let there : old q.number ≡ None = rw same was in
            let none : dues q ≡ false = is q ∙ ap (passes (is_due_at q)) there in
            put q ∙ ap (λ b. is_due_at q x || b) none ∙ or_off (is_due_at q x) ∙ sym here
        | inr differ ↦
            let t = ne_eqb n q.number (λ at. differ (sym at)) in
            let stays : passes (is_due_at q) (new q.number) ≡ passes (is_due_at q) (old q.number) = ap (passes (is_due_at q)) (let k = kept q.number in rw t at k) in
            put q ∙ ap (λ b. b || dues q) (not_its_own q x (λ at. differ (sym at ∙ number))) ∙ is q ∙ sym stays
      ]

abbrev sockets_of : ℕ → ℕ → ℕ → ℕ → Sockets
sockets_of a b c d = record { own = a; own_port = b; peer = c; peer_port = d }

sockets_same : (a b : Sockets) → same_sockets a b ≡ true → a ≡ b
sockets_same a b same =
    let own = and_parts (eqb a.own b.own) (eqb a.own_port b.own_port && (eqb a.peer b.peer && eqb a.peer_port b.peer_port)) same in
    let port = and_parts (eqb a.own_port b.own_port) (eqb a.peer b.peer && eqb a.peer_port b.peer_port) own.1 in
    let peer = and_parts (eqb a.peer b.peer) (eqb a.peer_port b.peer_port) port.1 in
    ap (λ k. sockets_of k a.own_port a.peer a.peer_port) (eqb-true a.own b.own own.0) ∙ ap (λ k. sockets_of b.own k a.peer a.peer_port) (eqb-true a.own_port b.own_port port.0)
    ∙ ap (λ k. sockets_of b.own b.own_port k a.peer_port) (eqb-true a.peer b.peer peer.0) ∙ ap (λ k. sockets_of b.own b.own_port b.peer k) (eqb-true a.peer_port b.peer_port peer.1)

module _ {S : Type 0} where
  pub free_accepted : (x : Entry S) (es : List (ℕ × Entry S)) → (is_accepted x ≡ true → find (accepts_at x.sockets) (values_of es) ≡ None)
      → (q : Sockets) (m : ℕ) → accepts_at q x ≡ true → passes (accepts_at q) (kept_at es m) ≡ false
  free_accepted x es none q m holds =
      let both = and_parts (same_sockets q x.sockets) (is_accepted x) holds in
      subst (λ (s : Sockets). passes (accepts_at s) (kept_at es m) ≡ false) (sym (sockets_same q x.sockets both.0)) (none_passes (accepts_at x.sockets) es m (none both.1))

  pub free_opened : (x : Entry S) (es : List (ℕ × Entry S)) → (is_accepted x ≡ false → find (opens_at x.sockets) (values_of es) ≡ None)
      → (q : Sockets) (m : ℕ) → opens_at q x ≡ true → passes (opens_at q) (kept_at es m) ≡ false
  free_opened x es none q m holds =
      let both = and_parts (same_sockets q x.sockets) (not (is_accepted x)) holds in
      subst (λ (s : Sockets). passes (opens_at s) (kept_at es m) ≡ false) (sym (sockets_same q x.sockets both.0)) (none_passes (opens_at x.sockets) es m (none (not-true (is_accepted x) both.1)))
