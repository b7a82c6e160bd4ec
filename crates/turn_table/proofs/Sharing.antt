-- A table of turns may be shared by threads: its board may, and the root's seat, which takes no bytes, is used by its owner alone.
use denote.Param.Send.{IsSend, IsSync, part_keyless, recorded_sync}
use denote.RattleType.{RattleType}
use Rattle.atomic_table.proofs.Sent.{badge_keyless}
use Rattle.atomic_table.specs.contracts.badge.Badge as badge
use Rattle.turn_table.specs.contracts.view.View as view
use Rattle.turn_table.specs.contracts.turns.Board as board
use Rattle.turn_table.specs.contracts.turns.Turns as turns
use Rattle.turn_table.specs.declared.tenant.Tenant.{Ghosts}
use Rattle.turn_table.proofs.turns.Board.TheSendSync as law

badge_send : (V : RattleType) → IsSend (badge.the_row V)
badge_send V = record { owned = λ d vs. ((λ vss. (tt, ((λ uss. (tt, tt)), tt))), badge_keyless V.coded.code d.table_id d.id d.views); leaving = λ k f vs. tt }

board_sync : (T K : RattleType) (g : Ghosts T.Denot K.Denot) → IsSend T → IsSync (board.the_row T K g)
board_sync T K g s = recorded_sync (board.the_field T K g).row _ _ (board.the_type T K g).to_one (law.the_field_sync T K g s)

pub turns_sync : (T K : RattleType) (g : Ghosts T.Denot K.Denot) → IsSend T → IsSync (turns.the_row T K g)
turns_sync T K g s = record { shared = λ d b o ν. (((board_sync T K g s).shared d.board b _ ν, ((λ q. part_keyless (badge.the_row view.the_row) (badge_send view.the_row) q d.root b _), tt)), λ q. tt) }
