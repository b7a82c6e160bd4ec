use Rattle.std.proofs.Common.{◌≡◌, ◌∙◌, ℕ, ◌||◌, eqb, cond, if◌then◌else◌, List, Option, Some, None, refl, sym, ap, subst}
use Rattle.std.specs.HashMap.{get}
use Rattle.std.specs.BTreeSet.{contains}
use Rattle.session_table.specs.declared.entry.Entry.{Entry}
use Rattle.session_table.specs.declared.entry.Sockets.{Sockets}
use Rattle.session_table.specs.declared.table.Deadline.{Deadline}
use Rattle.session_table.specs.Entries.{same_sockets, accepts_at, opens_at, numbered, placed, IsNew}
use Rattle.session_table.specs.Indexes.{kept_at, deadline_cmp, is_due_at, AreKept}
use Rattle.session_table.proofs.Lists.{numbered_is, placed_is, kept_put, come_map, on_ok, on_err, here_now}
use Rattle.session_table.proofs.Keeping.{same_under, back_again, come_under, gone_under, come_due, gone_due, free_accepted, free_opened}
use Rattle.session_table.proofs.table.SessionTable.put.Goals as goal

pub invariant_of-self-then-is_err-2 : goal.invariant_of-self-then-is_err-2
invariant_of-self-then-is_err-2 g c =
    let S = g.row.S.Denot in
    let x = c.args.entry in
    let n = c.args.entry.number in
    let es = c.self.inside.entries.entries in
    let was : kept_at es n ≡ None = sym (numbered_is es n c.self.invariant.kept) ∙ ap (numbered n) c.self.view_is ∙ c.requires.number in
    let more : ℕ → Option (Entry S) = λ m. cond (eqb n m) (Some x) (kept_at es m) in
    let stored : ((q : Deadline) → contains deadline_cmp c.keep_deadline.new.deadlines q ≡ (is_due_at q x || contains deadline_cmp c.self.inside.deadlines q)) =
    on_ok _ c.keep_deadline.result (sym c.is_err.ensures.value ∙ c.if-is_err.false) c.keep_deadline.ensures.ok in
    let accepted : ((q : Sockets) → get same_sockets c.keep_place.new.accepted q ≡ get same_sockets c.self.inside.accepted q) =
    on_err _ c.keep_place.result (sym c.is_err-2.ensures.value ∙ c.if-is_err-2.true) c.keep_place.ensures.same_accepted in
    let opened : ((q : Sockets) → get same_sockets c.keep_place.new.opened q ≡ get same_sockets c.self.inside.opened q) =
    on_err _ c.keep_place.result (sym c.is_err-2.ensures.value ∙ c.if-is_err-2.true) c.keep_place.ensures.same_opened in
    let dues = come_due (kept_at es) more (contains deadline_cmp c.self.inside.deadlines) (contains deadline_cmp c.keep_deadline.new.deadlines) x n refl c.self.invariant.dues was (λ m. refl) stored in
    record {
      kept = c.self.invariant.kept;
      accepts = same_under accepts_at (kept_at es) (get same_sockets c.self.inside.accepted) (get same_sockets c.keep_place.new.accepted) c.self.invariant.accepts accepted;
      opens = same_under opens_at (kept_at es) (get same_sockets c.self.inside.opened) (get same_sockets c.keep_place.new.opened) c.self.invariant.opens opened;
      dues = gone_due more (kept_at es) (contains deadline_cmp c.keep_deadline.new.deadlines) (contains deadline_cmp c.forget_deadline.new.deadlines) x n refl dues
          (here_now n x (kept_at es n)) (back_again (kept_at es) x n was) c.forget_deadline.ensures;
    }

pub invariant_of-self-in-Ok : goal.invariant_of-self-in-Ok
invariant_of-self-in-Ok g c =
    let S = g.row.S.Denot in
    let x = c.args.entry in
    let n = c.args.entry.number in
    let es = c.self.inside.entries.entries in
    let after = c.insert.new.self.entries in
    let was : kept_at es n ≡ None = sym (numbered_is es n c.self.invariant.kept) ∙ ap (numbered n) c.self.view_is ∙ c.requires.number in
    let kept : (m : ℕ) → kept_at after m ≡ cond (eqb n m) (Some x) (kept_at es m) = come_map es after n x c.in-Ok.ensures.updates.0 in
    let stored : ((q : Deadline) → contains deadline_cmp c.keep_deadline.new.deadlines q ≡ (is_due_at q x || contains deadline_cmp c.self.inside.deadlines q)) =
    on_ok _ c.keep_deadline.result (sym c.is_err.ensures.value ∙ c.if-is_err.false) c.keep_deadline.ensures.ok in
    let accepted : ((q : Sockets) → get same_sockets c.keep_place.new.accepted q ≡ (if accepts_at q x then Some n else get same_sockets c.self.inside.accepted q)) =
    on_ok _ c.keep_place.result (sym c.is_err-2.ensures.value ∙ c.if-is_err-2.false) c.keep_place.ensures.accepted in
    let opened : ((q : Sockets) → get same_sockets c.keep_place.new.opened q ≡ (if opens_at q x then Some n else get same_sockets c.self.inside.opened q)) =
    on_ok _ c.keep_place.result (sym c.is_err-2.ensures.value ∙ c.if-is_err-2.false) c.keep_place.ensures.opened in
    let free = subst (λ (l : List (Entry S)). IsNew x l) (sym c.self.view_is) c.requires in
    record {
      kept = subst (λ (l : List (ℕ × Entry S)). AreKept l) (sym c.in-Ok.ensures.entries) (kept_put x es c.self.invariant.kept was);
      accepts = come_under accepts_at (kept_at es) (kept_at after) (get same_sockets c.self.inside.accepted) (get same_sockets c.keep_place.new.accepted) x n c.self.invariant.accepts was
          (free_accepted x es free.accepted) kept accepted;
      opens = come_under opens_at (kept_at es) (kept_at after) (get same_sockets c.self.inside.opened) (get same_sockets c.keep_place.new.opened) x n c.self.invariant.opens was
          (free_opened x es free.opened) kept opened;
      dues = come_due (kept_at es) (kept_at after) (contains deadline_cmp c.self.inside.deadlines) (contains deadline_cmp c.keep_deadline.new.deadlines) x n refl c.self.invariant.dues was kept stored;
    }

pub invariant_of-self-in-Err : goal.invariant_of-self-in-Err
invariant_of-self-in-Err g c =
    let S = g.row.S.Denot in
    let x = c.args.entry in
    let n = c.args.entry.number in
    let es = c.self.inside.entries.entries in
    let after = c.insert.new.self.entries in
    let y : Entry S = c.in-Err.refused.value.1 in
    let same : after ≡ es = c.in-Err.ensures.err in
    let back : y ≡ x = ap (λ (p : ℕ × Entry S). p.1) c.in-Err.ensures.value_returned in
    let was : kept_at es n ≡ None = sym (numbered_is es n c.self.invariant.kept) ∙ ap (numbered n) c.self.view_is ∙ c.requires.number in
    let more : ℕ → Option (Entry S) = λ m. cond (eqb n m) (Some x) (kept_at es m) in
    let at_n : more n ≡ Some y = here_now n x (kept_at es n) ∙ ap Some (sym back) in
    let left : (m : ℕ) → kept_at after m ≡ cond (eqb n m) None (more m) = λ m. ap (λ (l : List (ℕ × Entry S)). kept_at l m) same ∙ back_again (kept_at es) x n was m in
    let stored : ((q : Deadline) → contains deadline_cmp c.keep_deadline.new.deadlines q ≡ (is_due_at q x || contains deadline_cmp c.self.inside.deadlines q)) =
    on_ok _ c.keep_deadline.result (sym c.is_err.ensures.value ∙ c.if-is_err.false) c.keep_deadline.ensures.ok in
    let accepted : ((q : Sockets) → get same_sockets c.keep_place.new.accepted q ≡ (if accepts_at q x then Some n else get same_sockets c.self.inside.accepted q)) =
    on_ok _ c.keep_place.result (sym c.is_err-2.ensures.value ∙ c.if-is_err-2.false) c.keep_place.ensures.accepted in
    let opened : ((q : Sockets) → get same_sockets c.keep_place.new.opened q ≡ (if opens_at q x then Some n else get same_sockets c.self.inside.opened q)) =
    on_ok _ c.keep_place.result (sym c.is_err-2.ensures.value ∙ c.if-is_err-2.false) c.keep_place.ensures.opened in
    let free = subst (λ (l : List (Entry S)). IsNew x l) (sym c.self.view_is) c.requires in
    let accepts = come_under accepts_at (kept_at es) more (get same_sockets c.self.inside.accepted) (get same_sockets c.keep_place.new.accepted) x n c.self.invariant.accepts was
    (free_accepted x es free.accepted) (λ m. refl) accepted in
    let opens = come_under opens_at (kept_at es) more (get same_sockets c.self.inside.opened) (get same_sockets c.keep_place.new.opened) x n c.self.invariant.opens was
    (free_opened x es free.opened) (λ m. refl) opened in
    let dues = come_due (kept_at es) more (contains deadline_cmp c.self.inside.deadlines) (contains deadline_cmp c.keep_deadline.new.deadlines) x n refl c.self.invariant.dues was (λ m. refl) stored in
    record {
      kept = subst (λ (l : List (ℕ × Entry S)). AreKept l) (sym same) c.self.invariant.kept;
      accepts = gone_under accepts_at more (kept_at after) (get same_sockets c.keep_place.new.accepted) (get same_sockets c.forget_place.new.accepted) y n accepts at_n left c.forget_place.ensures.accepted;
      opens = gone_under opens_at more (kept_at after) (get same_sockets c.keep_place.new.opened) (get same_sockets c.forget_place.new.opened) y n opens at_n left c.forget_place.ensures.opened;
      dues = gone_due more (kept_at after) (contains deadline_cmp c.keep_deadline.new.deadlines) (contains deadline_cmp c.forget_deadline-in-Err.new.deadlines) y n
          (ap (λ (e : Entry S). e.number) back) dues at_n left c.forget_deadline-in-Err.ensures;
    }

pub returns-in-Ok-clause-ok : goal.returns-in-Ok-clause-ok
returns-in-Ok-clause-ok g c =
    let x = c.args.entry in
    let n = c.args.entry.number in
    let es = c.self.inside.entries.entries in
    let was : kept_at es n ≡ None = sym (numbered_is es n c.self.invariant.kept) ∙ ap (numbered n) c.self.view_is ∙ c.requires.number in
    rw c.in-Ok.ensures.entries (placed_is x es c.self.invariant.kept was) ∙ ap (placed x) c.self.view_is
