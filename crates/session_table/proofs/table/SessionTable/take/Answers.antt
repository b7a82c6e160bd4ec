use Rattle.std.proofs.Common.{◌≡◌, ◌∙◌, ℕ, eqb, cond, List, Some, None, sym, ap, subst}
use Rattle.std.specs.HashMap.{get}
use Rattle.std.specs.BTreeSet.{contains}
use Rattle.session_table.specs.declared.entry.Entry.{Entry}
use Rattle.session_table.specs.Entries.{same_sockets, accepts_at, opens_at, numbered, without}
use Rattle.session_table.specs.Indexes.{kept_at, deadline_cmp, AreKept}
use Rattle.session_table.proofs.Lists.{kept_number, numbered_is, without_is, kept_removed, gone_map, not_none}
use Rattle.session_table.proofs.Keeping.{gone_under, gone_due}
use Rattle.session_table.proofs.table.SessionTable.take.Goals as goal

pub invariant_of-self : goal.invariant_of-self
invariant_of-self g c =
    let S = g.row.S.Denot in
    let es = c.self.inside.entries.entries in
    let n = c.args.number in
    let x = c.in-Some.entry in
    let after = c.remove.new.self.entries in
    let was : kept_at es n ≡ Some x = sym c.in-Some.ensures.value in
    let kept : (m : ℕ) → kept_at after m ≡ cond (eqb n m) None (kept_at es m) = gone_map es after n c.in-Some.ensures.updates.0 in
    record {
      kept = subst (λ (l : List (ℕ × Entry S)). AreKept l) (sym c.in-Some.ensures.entries) (kept_removed n es c.self.invariant.kept);
      accepts = gone_under accepts_at (kept_at es) (kept_at after) (get same_sockets c.self.inside.accepted) (get same_sockets c.forget_place.new.accepted) x n c.self.invariant.accepts was kept c.forget_place.ensures.accepted;
      opens = gone_under opens_at (kept_at es) (kept_at after) (get same_sockets c.self.inside.opened) (get same_sockets c.forget_place.new.opened) x n c.self.invariant.opens was kept c.forget_place.ensures.opened;
      dues = gone_due (kept_at es) (kept_at after) (contains deadline_cmp c.self.inside.deadlines) (contains deadline_cmp c.forget_deadline.new.deadlines) x n
          (kept_number es n x c.self.invariant.kept was) c.self.invariant.dues was kept c.forget_deadline.ensures;
    }

pub unreachable-requires : goal.unreachable-requires
unreachable-requires g c =
    let es = c.self.inside.entries.entries in
    let n = c.args.number in
    not_none (numbered n c.args.self.now) c.requires
    (sym (ap (numbered n) c.self.view_is) ∙ numbered_is es n c.self.invariant.kept ∙ sym c.in-None.ensures.value)

pub returns-clause-entry : goal.returns-clause-entry
returns-clause-entry g c =
    let es = c.self.inside.entries.entries in
    let n = c.args.number in
    sym (ap (numbered n) c.self.view_is) ∙ numbered_is es n c.self.invariant.kept ∙ sym c.in-Some.ensures.value

pub returns-clause-rest : goal.returns-clause-rest
returns-clause-rest g c =
    let es = c.self.inside.entries.entries in
    let n = c.args.number in
    rw c.in-Some.ensures.entries (without_is n es c.self.invariant.kept) ∙ ap (without n) c.self.view_is
