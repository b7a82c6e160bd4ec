use Rattle.std.proofs.Common.{rules}
use Rattle.ssfnet_top.proofs.FaultPlaces.{file_placed}
use Rattle.ssfnet_top.proofs.FilesRead.{long_file}
use Rattle.ssfnet_top.proofs.files.read_tree.Goals as goal

pub returns-in-Err-TooLong-clause-file : goal.returns-in-Err-TooLong-clause-file
returns-in-Err-TooLong-clause-file g c =
    long_file (g.L.Library.files c.args.library.now) c.args.number c.args.name.now c.no_dml-in-Err-TooLong.result (search rules) c.no_dml-in-Err-TooLong.ensures

pub returns-in-Ok-read-clause-placed : goal.returns-in-Ok-read-clause-placed
returns-in-Ok-read-clause-placed g c = file_placed c.args.number _ c.in-Ok-read.tree c.in-Ok-read.ensures
