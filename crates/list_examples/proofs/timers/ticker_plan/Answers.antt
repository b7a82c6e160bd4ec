use Rattle.list_examples.proofs.timers.ticker_plan.Goals as goal

pub returns-clause-runs : goal.returns-clause-runs
returns-clause-runs c = c.in_ok-plan.ensures.fits
