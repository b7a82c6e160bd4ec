use Rattle.std.proofs.lemmas.Result.{on_ok_weaker}
use Rattle.turn_table.specs.Passes.{view_of}
use Rattle.turn_table.specs.Turned.{key_of}
use Rattle.worker_turns.proofs.Posts.{posts_skipped, posts_at}
use Rattle.worker_turns.proofs.task.post_at.Goals as goal

pub returns-then-end-table-clause-done : goal.returns-then-end-table-clause-done
returns-then-end-table-clause-done g c =
    posts_skipped (key_of c.args.table.now.turns.now).value c.args.table.now.number c.args.place c.args.end.now (view_of c.args.pass.now) c.args.hand.now c.requires.end c.if-end-table.true

pub returns-clause-done : goal.returns-clause-done
returns-clause-done g c =
    on_ok_weaker c.post_on.result (posts_at (key_of c.args.table.now.turns.now).value c.args.table.now.number c.args.place c.args.end.now (view_of c.args.pass.now) (view_of c.post_on.new.pass) c.args.hand.now c.post_on.new.hand c.requires.end) c.post_on.ensures.done
