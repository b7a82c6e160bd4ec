use Rattle.share_turns.proofs.Rows.{added}
use Rattle.share_turns.proofs.near.Near.add.Goals as goal

pub returns : goal.returns
returns c = added c.args.self.now.rows.items c.args.timeline c.args.place c.index_mut.result.now c.push.new.self c.requires c.index_mut.ensures.value c.in_ok-push.ensures.items
