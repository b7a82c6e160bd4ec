use Rattle.model_gen.proofs.Ranges.{next_within, next_differs}
use Rattle.model_gen.proofs.laws.links_join_nets.Goals as goal

pub returns : goal.returns
returns c = record { there = next_within; another = next_differs }
