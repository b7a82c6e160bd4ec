use Rattle.std.proofs.Common.{◌≡◌, ◌∙◌, ap, sym, take, false, true, rules, refl}
use Rattle.command_words.specs.Schedule.{is_schedule, is_step}
use Rattle.command_words.proofs.Places.{schedule_cut, schedule_whole}
use Rattle.command_words.proofs.schedule.is_schedule.Goals as goal

pub returns-then-not-is_step : goal.returns-then-not-is_step
returns-then-not-is_step c =
    let cut = schedule_cut c.loop-comma.rest.now c.in-Some.comma (sym c.in-Some.is ∙ c.place_of.ensures.place) in
    let fails : is_step (take c.in-Some.comma c.loop-comma.rest.now) ≡ false = search rules in
    sym (c.loop-comma.invariant ∙ (cut ∙ rw fails refl))

pub loop-comma-preserved : goal.loop-comma-preserved
loop-comma-preserved c =
    let cut = schedule_cut c.loop-comma.rest.now c.in-Some.comma (sym c.in-Some.is ∙ c.place_of.ensures.place) in
    let passes : is_step (take c.in-Some.comma c.loop-comma.rest.now) ≡ true = search rules in
    c.loop-comma.invariant ∙ (cut ∙ (rw passes refl ∙ ap is_schedule (sym c.behind-rest.ensures)))

pub returns : goal.returns
returns c = c.is_step-2.ensures ∙ sym (c.loop-comma.invariant ∙ schedule_whole c.loop-comma.rest.now (search rules))
