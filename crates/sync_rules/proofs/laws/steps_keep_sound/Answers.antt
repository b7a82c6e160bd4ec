use Rattle.sync_rules.proofs.Cores.{step_keeps}
use Rattle.sync_rules.proofs.Wholes.{step_counts, step_low, step_safe}
use Rattle.sync_rules.proofs.laws.steps_keep_sound.Goals as goal

pub returns-clause-sound : goal.returns-clause-sound
returns-clause-sound g c = λ s sh budget v t after sound step. step_keeps s sh v t sound budget after step

pub returns-clause-counted : goal.returns-clause-counted
returns-clause-counted g c = λ s sh budget v t after sound counted step. step_counts s sh v t sound budget counted after step

pub returns-clause-low : goal.returns-clause-low
returns-clause-low g c = λ s sh budget v t after sound step. step_low s sh v t sound budget after step

pub returns-clause-safe : goal.returns-clause-safe
returns-clause-safe g c = λ s sh budget v t after sound step. step_safe s sh v t sound budget after step
