use Rattle.ssfnet_top.proofs.NoFiles.{campus_outcome}
use Rattle.ssfnet_top.proofs.laws.campuses_need_no_files.Goals as goal

pub returns : goal.returns
returns c = λ files words asked seed size is gen. campus_outcome files words asked seed size is gen
