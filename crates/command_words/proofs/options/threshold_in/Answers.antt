use Rattle.std.proofs.Common.{codes, refl}
use Rattle.clap.specs.Words.{first_value, found_of}
use Rattle.command_words.specs.Table.{LargestThreshold}
use Rattle.command_words.proofs.Asked.{number_fits}
use Rattle.command_words.proofs.options.threshold_in.Goals as goal

pub number_or-requires : goal.number_or-requires
number_or-requires c = number_fits 0 LargestThreshold (first_value (found_of c.args.matches.now) (codes "threshold")) (λ v is. c.requires (codes "--threshold") refl v is)
