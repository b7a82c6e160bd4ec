use Rattle.std.proofs.Common.{subst}
use Rattle.dml_tree.specs.Building.{Builds}
use Rattle.dml_tree.proofs.Readings.{answers}
use Rattle.dml_tree.proofs.reading.read.Goals as goal

pub returns : goal.returns
returns c =
    answers c.args.file c.args.bytes.now c.in-Ok.tokens.items c.if-bytes-gt-MOST_BYTES.false c.in-Ok.ensures.spelt c.build.result
    (subst (λ ts. Builds c.args.file c.args.bytes.now ts c.build.result) c.as_slice.ensures.value c.build.ensures)
