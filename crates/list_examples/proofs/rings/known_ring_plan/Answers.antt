use Rattle.list_examples.proofs.rings.known_ring_plan.Goals as goal

pub returns-clause-runs : goal.returns-clause-runs
returns-clause-runs c = c.in_ok-plan.ensures.fits
