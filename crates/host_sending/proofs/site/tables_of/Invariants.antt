use Rattle.host_sending.specs.Sites.{AreTables}
use Rattle.host_sending.proofs.site.tables_of.Given as goal

abbrev pub invariant-loop-place : goal.invariant-loop-place
invariant-loop-place l = AreTables l.rows.routes l.place l.tables.items
