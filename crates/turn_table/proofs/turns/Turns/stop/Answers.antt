use Rattle.std.proofs.Common.{[], ◌∙◌, arith}
use mathlib.Core.Option.{none}
use Rattle.atomic_table.specs.Table.{step}
use Rattle.turn_table.specs.Rule.{Kept}
use Rattle.turn_table.specs.Passes.{view_of}
use Rattle.turn_table.specs.Steps.{raised}
use Rattle.turn_table.proofs.Hands.{from}
use Rattle.turn_table.proofs.Moves.{raises}
use Rattle.turn_table.proofs.turns.Turns.stop.Goals as goal

pub store-requires : goal.store-requires
store-requires g c =
    let own = c.requires in let z = c.args.self.now.board.table.shared.table_id in let key = c.args.self.now.board.table.shared.key in let v = view_of c.args.pass.now in (
      c.sit-seat.ensures.table ∙ own.table,
      (let w = own.words in omega arith),
      from (Kept g.V.Tenant key) z.slots c.sit-seat.result.id 0 (λ _. 1) (λ me n. raised (step z.slots 0 1 0 none) me 1) c.sit-seat.result.me (v, []) c.sit-seat.ensures.me
          (raises g.V.Tenant key z.slots c.sit-seat.result.id v [] 1),
    )
