use Rattle.std.proofs.Common.{◌≡◌, ◌∙◌, ℕ, ◌<◌, ◌+◌, ap, sym, take, drop, length, get_or, rules, Some, None}
use Rattle.sync_steps.specs.Schedules.{step_of, steps_of}
use Rattle.sync_steps.proofs.Words.{after, read_more, read_last, bad_more, bad_last}
use Rattle.sync_steps.proofs.schedules.read_schedule.Goals as goal

pub returns-in_default-step_of-clause-bad : goal.returns-in_default-step_of-clause-bad
returns-in_default-step_of-clause-bad c = λ bad.
    let none : step_of (take c.in-Some.comma c.loop-comma.rest.now) ≡ None = search rules in
    bad_more c.args.word.now c.loop-comma.rest.now c.in-Some.comma c.loop-comma.steps.items c.loop-comma.invariant (sym c.in-Some.is ∙ c.place_of.ensures.place) none

pub loop-comma-preserved : goal.loop-comma-preserved
loop-comma-preserved c =
    let is : step_of (take c.in-Some.comma c.loop-comma.rest.now) ≡ Some c.in-Some-step_of.step = search rules in
    let more = read_more c.args.word.now c.loop-comma.rest.now c.in-Some.comma c.loop-comma.steps.items c.in-Some-step_of.step c.loop-comma.invariant (sym c.in-Some.is ∙ c.place_of.ensures.place) is in
    more
    ∙ ap (λ steps. after steps (steps_of (drop (c.in-Some.comma + 1) c.loop-comma.rest.now))) (sym c.in_ok-push.ensures.items)
    ∙ ap (λ rest. after c.push.new.self.items (steps_of rest)) (sym c.behind-rest.ensures)

pub returns-in_default-step_of-2-clause-bad : goal.returns-in_default-step_of-2-clause-bad
returns-in_default-step_of-2-clause-bad c = λ bad.
    let none : (k : ℕ) → k < length c.loop-comma.rest.now → get_or c.loop-comma.rest.now k 0 ≡ 44 → ⊥ = search rules in
    let no : step_of c.loop-comma.rest.now ≡ None = search rules in
    bad_last c.args.word.now c.loop-comma.rest.now c.loop-comma.steps.items c.loop-comma.invariant none no

pub returns-clause-steps : goal.returns-clause-steps
returns-clause-steps c =
    let none : (k : ℕ) → k < length c.loop-comma.rest.now → get_or c.loop-comma.rest.now k 0 ≡ 44 → ⊥ = search rules in
    let is : step_of c.loop-comma.rest.now ≡ Some c.in-Some-step_of-2.step = search rules in
    read_last c.args.word.now c.loop-comma.rest.now c.loop-comma.steps.items c.in-Some-step_of-2.step c.loop-comma.invariant none is
    ∙ ap Some (sym c.in_ok-push-2.ensures.items)
