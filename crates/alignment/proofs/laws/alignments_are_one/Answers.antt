use Rattle.alignment.proofs.Lawful.{alignment_one}
use Rattle.alignment.proofs.laws.alignments_are_one.Goals as goal

pub returns : goal.returns
returns g c = alignment_one
