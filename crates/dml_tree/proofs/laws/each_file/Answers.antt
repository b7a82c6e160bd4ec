use Rattle.dml_tree.proofs.EachFile as proof
use Rattle.dml_tree.proofs.laws.each_file.Goals as goal

pub returns : goal.returns
returns c = λ file bytes. proof.each_file file bytes
