use Rattle.std.proofs.Common.{◌≡◌, take}
use Rattle.dml_tree.specs.Building.{Holds}
use Rattle.dml_tree.proofs.reading.build.Given as goal

abbrev pub invariant-loop-token : goal.invariant-loop-token
invariant-loop-token l = record {
  file : l.builder.file ≡ l.file;
  holds : Holds l.bytes (take l.token-index l.tokens) l.builder;
}
