use Rattle.std.proofs.Common.{◌∙◌, length, ap}
use Rattle.global_list.proofs.Cuts.{prefix_cut, finished_cut, over_cut, exceeded_cut, other_ends}
use Rattle.run_laws.proofs.Opens.{fits_open}
use Rattle.global_list.proofs.single.run_single.Goals as goal

pub returns-clause-prefix : goal.returns-clause-prefix
returns-clause-prefix g c =
    let plan = c.args.plan in
    prefix_cut (g.B.Behaviour.reaction plan.behaviour) plan c.args.until c.args.budget (fits_open _ _ plan c.requires.plan) c.from_vec.result c.run-end.new.entries.items
    c.from_vec.ensures c.run-end.ensures.prefix c.run-end.ensures.most

pub returns-clause-finished : goal.returns-clause-finished
returns-clause-finished g c = λ e.
    let plan = c.args.plan in
    finished_cut (g.B.Behaviour.reaction plan.behaviour) plan c.args.until c.args.budget (fits_open _ _ plan c.requires.plan) c.from_vec.result c.run-end.new.entries.items
    c.from_vec.ensures (c.run-end.ensures.finished e) c.run-end.ensures.most

pub returns-clause-over : goal.returns-clause-over
returns-clause-over g c = λ e.
    let plan = c.args.plan in (
      ap length c.from_vec.ensures ∙ (c.run-end.ensures.over e).0,
      over_cut (g.B.Behaviour.reaction plan.behaviour) plan c.args.until c.args.budget (fits_open _ _ plan c.requires.plan) (c.run-end.ensures.over e).1,
    )

pub returns-clause-exceeded : goal.returns-clause-exceeded
returns-clause-exceeded g c = λ R l more.
    let plan = c.args.plan in
    other_ends _ (λ e. exceeded_cut (g.B.Behaviour.reaction plan.behaviour) plan c.args.until c.args.budget (fits_open _ _ plan c.requires.plan) c.run-end.new.entries.items
    (c.run-end.ensures.finished e) c.run-end.ensures.most R l more)
