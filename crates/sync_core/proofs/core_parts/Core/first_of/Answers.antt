use Rattle.std.proofs.Common.{◌≡◌, ◌<◌, true, false, sym, ap, ◌∙◌, subst, arith, length, set, None, rules}
use Rattle.std.proofs.lemmas.Option.{slice_get_within}
use Rattle.sync_core.specs.Choosing.{Covers}
use Rattle.sync_core.proofs.Firsts.{marked_count, fewer_marked, covers_less, least_first, no_first}
use Rattle.sync_core.proofs.core_parts.Core.first_of.Goals as goal

pub returns-in-Some-first_at-clause-first : goal.returns-in-Some-first_at-clause-first
returns-in-Some-first_at-clause-first g c =
    sym (least_first c.args.kind c.args.self.now c.loop-number.marks c.in-Some.number c.in-Some-first_at.step c.loop-number.invariant c.in-Some.ensures.some (sym c.first_at.ensures ∙ c.in-Some-first_at.is))

pub unmark-requires : goal.unmark-requires
unmark-requires g c =
    let within = slice_get_within c.loop-number.marks c.in-Some.number true c.in-Some.ensures.some.marked in
    omega (arith, within, ap length c.first.ensures.same)

pub loop-number-smaller : goal.loop-number-smaller
loop-number-smaller g c =
    subst (λ ms. marked_count ms < marked_count c.loop-number.marks) (sym (c.unmark.ensures ∙ ap (λ ms. set ms c.in-Some.number false) c.first.ensures.same))
    (fewer_marked c.loop-number.marks c.in-Some.number c.in-Some.ensures.some.marked)

pub loop-number-preserved : goal.loop-number-preserved
loop-number-preserved g c =
    let none : c.first_at.result ≡ None = search rules in
    subst (λ ms. Covers c.args.kind c.args.self.now ms) (sym (c.unmark.ensures ∙ ap (λ ms. set ms c.in-Some.number false) c.first.ensures.same))
    (covers_less c.args.kind c.args.self.now c.loop-number.marks c.in-Some.number c.loop-number.invariant (sym c.first_at.ensures ∙ none))

pub returns-clause-first : goal.returns-clause-first
returns-clause-first g c = sym (no_first c.args.kind c.args.self.now c.loop-number.marks c.loop-number.invariant c.in_default.ensures.none)
