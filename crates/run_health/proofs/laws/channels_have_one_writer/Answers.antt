use Rattle.std.proofs.Common.{sym, subst, ◌<◌, ℕ}
use Rattle.run_health.proofs.Writers.{writer_low, one_writer}
use Rattle.run_health.proofs.laws.channels_have_one_writer.Goals as goal

pub returns-clause-within : goal.returns-clause-within
returns-clause-within g c = λ b plan fits k channel w. subst (λ (n : ℕ). channel < n) (sym fits.opened.size) (writer_low plan fits.wired k channel w)

pub returns-clause-one : goal.returns-clause-one
returns-clause-one g c = λ b plan fits. one_writer plan fits.wired
