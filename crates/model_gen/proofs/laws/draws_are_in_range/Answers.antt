use Rattle.model_gen.proofs.Ranges.{delay_from, delay_digits, server_within}
use Rattle.model_gen.proofs.laws.draws_are_in_range.Goals as goal

pub returns : goal.returns
returns c = record { delays = delay_from; digits = delay_digits; servers = server_within }
