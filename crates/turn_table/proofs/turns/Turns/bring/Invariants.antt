use Rattle.std.proofs.Common.{Some}
use Rattle.turn_table.proofs.turns.Turns.bring.Given as goal

abbrev pub ghosts-reach : goal.ghosts-reach
ghosts-reach g a = record { key = Some a.self.now.board.table.shared.key }
