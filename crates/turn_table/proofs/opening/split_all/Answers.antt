use Rattle.std.proofs.Common.{ap, arith}
use Rattle.atomic_table.specs.Table.{Me}
use Rattle.turn_table.specs.declared.view.View.{View}
use Rattle.turn_table.proofs.Passing.{splits}
use Rattle.turn_table.proofs.opening.split_all.Goals as goal

pub split_seat-seat-requires : goal.split_seat-seat-requires
split_seat-seat-requires g c = (
  c.loop-i.invariant.table,
  (let w = c.requires.words in omega arith),
  splits g.V.Tenant c.args.shared.now.key c.loop-i.root.id c.loop-i.root.me.0 (ap (λ (m : Me _ View). m.0.is_root) c.loop-i.invariant.root),
)
