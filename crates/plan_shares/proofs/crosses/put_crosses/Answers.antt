use Rattle.std.proofs.Common.{get_or, length, ap, length-append, arith}
use Rattle.timeline_parts.specs.declared.part.Cross.{Cross}
use Rattle.plan_shares.proofs.ForEach.{here_is}
use Rattle.plan_shares.proofs.Crossing.{nothing, crosses_more, crossing_short}
use Rattle.plan_shares.proofs.crosses.put_crosses.Goals as goal

pub loop-index-preserved : goal.loop-index-preserved
loop-index-preserved c = record {
  crosses = λ lines threshold known.
      crosses_more lines threshold c.args.mappings.now c.args.classes.now.classes c.loop-index.index (get_or c.args.mappings.now c.loop-index.index nothing) c.class.result c.loop-index.crosses.items c.put_cross.new.crosses.items
      c.loop-index-test.true (here_is c.args.mappings.now c.loop-index.index nothing c.loop-index-test.true) known c.class.ensures (c.loop-index.invariant.crosses lines threshold known) c.in_ok-put_cross.ensures;
  few = let short = crossing_short c.class.result (length c.loop-index.crosses.items) (get_or c.args.mappings.now c.loop-index.index nothing) in let longer = ap length c.in_ok-put_cross.ensures in omega (arith, length-append {A = Cross}, short, longer, c.loop-index.invariant.few);
}
