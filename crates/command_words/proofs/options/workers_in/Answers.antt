use Rattle.std.proofs.Common.{codes, refl}
use Rattle.clap.specs.Words.{first_value, found_of}
use Rattle.command_words.specs.Table.{MostWorkers}
use Rattle.command_words.proofs.Asked.{number_fits}
use Rattle.command_words.proofs.options.workers_in.Goals as goal

pub number_or-requires : goal.number_or-requires
number_or-requires c = number_fits 1 MostWorkers (first_value (found_of c.args.matches.now) (codes "workers")) (λ v is. c.requires (codes "--workers") refl v is)
