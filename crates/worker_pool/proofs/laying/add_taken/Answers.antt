use Rattle.std.proofs.Common.{◌≡◌, ◌∙◌, get_or, refl, arith, Some, slice_get}
use Rattle.plan_shares.specs.declared.crosses.CrossEnd.{CrossEnd}
use Rattle.sync_core.specs.Cores.{core_of}
use Rattle.share_rules.specs.Places.{taken_from}
use Rattle.worker_pool.proofs.Counting.{receiver_known, taken_known, taken_count}
use Rattle.worker_pool.proofs.Found.{item_of, read_of, one_more}
use Rattle.worker_pool.proofs.laying.add_taken.Goals as goal

pub index-requires : goal.index-requires
index-requires g c =
    let core = core_of c.args.parts.now in
    let b = c.args.parts.now.behaviour in
    let items = c.deref-end-items.result.now in
    let k = c.loop-end.end-index in
    let end : CrossEnd = get_or items k (record { channel = 0; sender = 0; receiver = 0 }) in
    let found : slice_get core.ends k ≡ Some end = item_of items core.ends k (record { channel = 0; sender = 0; receiver = 0 }) c.deref-end-items.ensures.value c.loop-end-test.true in
    let there = receiver_known (g.B.Behaviour.valid b) (g.B.Behaviour.carried b) (g.B.Behaviour.reaction b) core c.requires.run k end found in
    omega (arith, there, c.args.parts.now.timelines.ok.0)

pub taken-requires-after_bounds : goal.taken-requires-after_bounds
taken-requires-after_bounds g c κs within =
    let core = core_of c.args.parts.now in
    let b = c.args.parts.now.behaviour in
    let items = c.deref-end-items.result.now in
    let k = c.loop-end.end-index in
    let end : CrossEnd = get_or items k (record { channel = 0; sender = 0; receiver = 0 }) in
    let found : slice_get core.ends k ≡ Some end = item_of items core.ends k (record { channel = 0; sender = 0; receiver = 0 }) c.deref-end-items.ensures.value c.loop-end-test.true in
    let there = receiver_known (g.B.Behaviour.valid b) (g.B.Behaviour.carried b) (g.B.Behaviour.reaction b) core c.requires.run k end found in
    let its = read_of c.args.parts.now.timelines.items core.timelines end.receiver c.index.result.now refl there c.index.ensures in
    taken_known (g.B.Behaviour.valid b) (g.B.Behaviour.carried b) (g.B.Behaviour.reaction b) core c.requires.run k end found c.index.result.now its

pub loop-end-preserved : goal.loop-end-preserved
loop-end-preserved g c = record {
  items = (
      let core = core_of c.args.parts.now in
      let b = c.args.parts.now.behaviour in
      let items = c.deref-end-items.result.now in
      let k = c.loop-end.end-index in
      let end : CrossEnd = get_or items k (record { channel = 0; sender = 0; receiver = 0 }) in
      let found : slice_get core.ends k ≡ Some end = item_of items core.ends k (record { channel = 0; sender = 0; receiver = 0 }) c.deref-end-items.ensures.value c.loop-end-test.true in
      let there = receiver_known (g.B.Behaviour.valid b) (g.B.Behaviour.carried b) (g.B.Behaviour.reaction b) core c.requires.run k end found in
      let its = read_of c.args.parts.now.timelines.items core.timelines end.receiver c.index.result.now refl there c.index.ensures in
      one_more (taken_from core) c.args.counts.now.items c.loop-end.counts.items c.push_reserved.new.self.items core.ends k end c.taken.result c.loop-end.invariant.items c.push_reserved.ensures.items found
      (c.taken.ensures ∙ taken_count (g.B.Behaviour.valid b) (g.B.Behaviour.carried b) (g.B.Behaviour.reaction b) core c.requires.run k end found c.index.result.now its));
  len = omega (arith, c.push_reserved.ensures.len, c.loop-end.invariant.len);
  capacity = c.push_reserved.ensures.capacity ∙ c.loop-end.invariant.capacity;
}
