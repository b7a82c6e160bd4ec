use Rattle.std.proofs.Common.{nat_eq, length, arith}
use Rattle.std.specs.HashMap.{get}
use Rattle.alignment.specs.Alignment.{label_of}
use Rattle.alignment.proofs.Tying.{first_within, some_next, some_all}
use Rattle.alignment.proofs.groups.Groups.join_labels.Goals as goal

pub join-requires-clause-a : goal.join-requires-clause-a
join-requires-clause-a c =
    first_within c.args.self.now c.loop-entity.self (label_of c.args.mode c.args.nets.now (length c.args.nets.now)) c.loop-entity.entity c.in_ok-first.first c.label_of.result (get nat_eq c.loop-entity.firsts)
    c.loop-entity.invariant (omega arith) c.label_of.ensures c.in_ok-first.ensures.first

pub join-requires-clause-b : goal.join-requires-clause-b
join-requires-clause-b c = let count = c.loop-entity.invariant.count in omega arith

pub loop-entity-preserved : goal.loop-entity-preserved
loop-entity-preserved c =
    some_next c.args.self.now c.loop-entity.self c.join.new.self (label_of c.args.mode c.args.nets.now (length c.args.nets.now)) c.loop-entity.entity c.in_ok-first.first c.label_of.result (get nat_eq c.loop-entity.firsts) (get nat_eq c.first_with.new.firsts)
    c.loop-entity.invariant (omega arith) c.label_of.ensures c.in_ok-first.ensures.first c.in_ok-first.ensures.firsts c.join.ensures

pub returns : goal.returns
returns c =
    some_all c.args.self.now c.loop-entity.self (label_of c.args.mode c.args.nets.now (length c.args.nets.now)) c.loop-entity.entity (get nat_eq c.loop-entity.firsts) (omega arith) c.loop-entity.invariant
