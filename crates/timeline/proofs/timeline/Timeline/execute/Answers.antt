use Rattle.std.proofs.Common.{◌<◌, sym, ap, ◌∙◌, subst}
use Rattle.ssf_model.specs.declared.event.Event.{Event}
use Rattle.timeline.specs.declared.answers.Ran.TheVariants.{Ran}
use Rattle.timeline.proofs.Refusals.{refusal_none}
use Rattle.timeline.proofs.timeline.Timeline.execute.Goals as goal

pub run-requires-clause-may : goal.run-requires-clause-may
run-requires-clause-may g c κs within = λ rest is.
    let head = c.in-Some.head in
    c.requires head rest is (refusal_none c.args.self.now head (sym c.spent.ensures ∙ c.if-spent.false) (sym c.due.ensures ∙ c.in-Some.is)
    (subst (λ b. head.key.time < b) c.bound-bound.ensures.bound c.if-bound-head.false) (sym c.is_full.ensures ∙ c.if-is_full.false))

pub returns-in-Ok-clause-ran : goal.returns-in-Ok-clause-ran
returns-in-Ok-clause-ran g c = λ none. (c.in-Ok.ensures.ran.0, ap (λ (e : Event g.row.B-Payload.Denot). Ran e.key) (sym c.in-Ok.ensures.ran.1))
