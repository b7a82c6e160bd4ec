use Rattle.host_stack.proofs.Valid.{left_length, given_length}
use Rattle.host_stack.proofs.Sending.{refill_keeps}
use Rattle.host_stack.proofs.stack.Stack.send_turn.Goals as goal

pub send_next-requires-clause-valid : goal.send_next-requires-clause-valid
send_next-requires-clause-valid c = refill_keeps _ _ _ c.args.client c.args.row.now.file c.args.row.now c.requires.valid c.requires.row c.refill.ensures

pub refill-requires-2-clause-left : goal.refill-requires-2-clause-left
refill-requires-2-clause-left c = left_length c.args.site.now c.send_next.new.self c.args.client c.args.row.now c.send_next.ensures.kept c.requires.row

pub refill-requires-2-clause-given : goal.refill-requires-2-clause-given
refill-requires-2-clause-given c = given_length c.args.site.now c.send_next.new.self c.args.client c.args.row.now c.send_next.ensures.kept c.requires.row

pub returns-clause-kept : goal.returns-clause-kept
returns-clause-kept c = refill_keeps _ _ _ c.args.client c.args.row.now.file c.args.row.now c.send_next.ensures.kept c.requires.row c.refill-2.ensures
