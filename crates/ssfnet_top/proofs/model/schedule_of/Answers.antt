use Rattle.std.proofs.Common.{◌≡◌, ◌∙◌, ap, subst, None, Err, List, ℕ, Option, option_map, String, string_bytes}
use Rattle.std.specs.declared.alloc.Global.{Global}
use Rattle.sync_steps.specs.declared.schedules.ScheduleFault.{ScheduleFault}
use Rattle.sync_steps.specs.Schedules.{steps_of}
use Rattle.ssfnet_top.proofs.Schedules.{spells}
use Rattle.ssfnet_top.proofs.model.schedule_of.Goals as goal

pub unreachable-requires : goal.unreachable-requires
unreachable-requires c =
    let word = string_bytes c.in-Some.word in
    let fits = c.requires.spelt word (ap (λ (o : Option (String Global)). option_map string_bytes o) c.in-Some.is) in
    let none = c.read_schedule.ensures.bad (c.in-Err-BadStep.is ∙ ap (λ (f : ScheduleFault). Err f) c.in-Err-BadStep.field-0-is) in
    spells word fits (subst (λ (t : List ℕ). steps_of t ≡ None) c.as_bytes.ensures.value none)
