use Rattle.list_examples.proofs.timers.sleepers_plan.Goals as goal

pub returns-clause-fits : goal.returns-clause-fits
returns-clause-fits c = c.in_ok-plan.ensures.fits
