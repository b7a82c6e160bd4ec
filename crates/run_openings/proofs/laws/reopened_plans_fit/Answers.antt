use Rattle.run_openings.proofs.Fitting.{is_opening, fits_again}
use Rattle.run_openings.proofs.laws.reopened_plans_fit.Goals as goal

pub returns-clause-lawful : goal.returns-clause-lawful
returns-clause-lawful g c = λ b plan until kept line net fits in_time.
    is_opening (g.B.Behaviour.reaction b) (g.B.Behaviour.valid b) (g.B.Behaviour.carried b) (g.met.B.Behaviour.sound b) (g.met.B.Behaviour.modest b) plan until in_time fits kept

pub returns-clause-fits : goal.returns-clause-fits
returns-clause-fits g c = λ b plan until kept line net fits in_time.
    fits_again (g.B.Behaviour.reaction b) (g.B.Behaviour.valid b) (g.B.Behaviour.carried b) (g.met.B.Behaviour.sound b) (g.met.B.Behaviour.modest b) plan until in_time fits kept
