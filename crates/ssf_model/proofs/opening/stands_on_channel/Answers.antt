use Rattle.std.proofs.Common.{IsTrue, ◌↔◌, sym, subst}
use Rattle.ssf_model.specs.declared.wait.Kind.{Kind}
use Rattle.ssf_model.specs.Run.{IsOnChannel}
use Rattle.ssf_model.specs.Openings.{reopened_entities}
use Rattle.ssf_model.proofs.opening.stands_on_channel.Goals as goal

pub returns-in-Timer : goal.returns-in-Timer
returns-in-Timer g c =
    subst (λ (k : Kind _). IsTrue c.is_end_at.result ↔ IsOnChannel (g.B.Behaviour.carried c.args.plan.now.behaviour) (reopened_entities c.args.plan.now.entities c.args.opening.now.entities) c.args.plan.now.mappings
    c.args.event.now.entity c.args.event.now.key k) (sym c.in-Timer.is) c.is_end_at.ensures
