use Rattle.std.proofs.Common.{[], ◌∙◌, arith}
use mathlib.Core.Option.{none}
use Rattle.atomic_table.specs.Table.{step}
use Rattle.turn_table.specs.Rule.{Kept}
use Rattle.turn_table.specs.Passes.{view_of}
use Rattle.turn_table.specs.Steps.{marked_all}
use Rattle.turn_table.proofs.Hands.{from}
use Rattle.turn_table.proofs.Moves.{marks_all}
use Rattle.turn_table.proofs.turns.Turns.mark.Goals as goal

pub load-requires : goal.load-requires
load-requires g c =
    let own = c.requires in let z = c.args.self.now.board.table.shared.table_id in let key = c.args.self.now.board.table.shared.key in let v = view_of c.args.pass.now in (
      c.sit-seat.ensures.table ∙ own.table,
      (let w = own.words in omega arith),
      from (Kept g.V.Tenant key) z.slots c.sit-seat.result.id 0 (λ n. n) (λ me n. marked_all (step z.slots 0 0 0 none) me n) c.sit-seat.result.me (v, []) c.sit-seat.ensures.me
          (marks_all g.V.Tenant key z.slots c.sit-seat.result.id v []),
    )
