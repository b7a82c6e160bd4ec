use Rattle.ssf_model.proofs.Windows.{window_computed, computed_window}
use Rattle.run_laws.proofs.laws.windows_are_computed.Goals as goal

pub returns-clause-tells : goal.returns-clause-tells
returns-clause-tells g c = λ s end over. window_computed s end over

pub returns-clause-told : goal.returns-clause-told
returns-clause-told g c = λ s end over. computed_window s end over
