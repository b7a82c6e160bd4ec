use Rattle.std.proofs.Common.{rules}
use denote.Param.Send.{sendable}
use Rattle.turn_table.proofs.Sharing.{turns_sync}
use Rattle.turn_table.proofs.pass.Pass.TheSendSync as pass_law
use Rattle.turn_examples.proofs.ball.Ball.TheSendSync as ball_law
use Rattle.turn_examples.proofs.tests.play_both.Goals as goal

pub join-requires-send-F : goal.join-requires-send-F
join-requires-send-F g c κs within = first_of (
  search (sendable, turns_sync, pass_law.the_send, ball_law.the_send) depth 30,
  search (rules, sendable, turns_sync, pass_law.the_send, ball_law.the_send) depth 30,
  search (sendable, turns_sync, pass_law.the_send, ball_law.the_send, within) depth 40,
)
