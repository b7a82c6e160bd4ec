use Rattle.run_laws.proofs.OfPlans.{plan_cut_same, plan_cut_entries}
use Rattle.run_laws.proofs.laws.cut_keeps_first.Goals as goal

pub returns : goal.returns
returns g c = λ b plan until R n opens low. record {
  events = plan_cut_same (g.B.Behaviour.reaction b) plan until opens R n low;
  entries = plan_cut_entries (g.B.Behaviour.reaction b) plan until opens R n low;
}
