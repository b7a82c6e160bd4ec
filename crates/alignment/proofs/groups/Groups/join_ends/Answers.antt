use Rattle.std.proofs.Common.{◌+◌, take, slice_index_or, subst, sym, arith}
use Rattle.std.proofs.lemmas.List.{take_more}
use Rattle.alignment.specs.Forests.{AreEndsTied}
use Rattle.alignment.proofs.Tying.{nothing, get_among, ends_joined, ends_passed}
use Rattle.alignment.proofs.groups.Groups.join_ends.Goals as goal
use Rattle.alignment.proofs.groups.Groups.join_ends.Goals.{then-mapping-eq0, else-mapping-eq0}

pub join-requires-clause-a : goal.join-requires-clause-a
join-requires-clause-a c =
    let ends = c.requires _ (get_among c.args.mappings.now c.loop-mapping.mapping-index nothing c.loop-mapping-test.true) in
    let from = ends.0 in
    let count = c.loop-mapping.invariant.count in
    omega arith

pub join-requires-clause-b : goal.join-requires-clause-b
join-requires-clause-b c =
    let ends = c.requires _ (get_among c.args.mappings.now c.loop-mapping.mapping-index nothing c.loop-mapping-test.true) in
    let to = ends.1 in
    let count = c.loop-mapping.invariant.count in
    omega arith

pub loop-mapping-preserved : goal.loop-mapping-preserved
loop-mapping-preserved c =
    let mappings = c.args.mappings.now in
    let i = c.loop-mapping.mapping-index in
    let m = slice_index_or mappings i nothing in
    let ends = c.requires m (get_among mappings i nothing c.loop-mapping-test.true) in
    let next = take_more mappings i nothing c.loop-mapping-test.true in
    elim c.if-mapping-eq0.branch [
      | then-mapping-eq0 w ↦ subst (λ xs. AreEndsTied c.args.self.now xs (take (i + 1) mappings)) (sym w.self-is)
          (subst (λ ms. AreEndsTied c.args.self.now w.join.new.self ms) (sym next)
          (ends_joined c.args.self.now c.loop-mapping.self w.join.new.self (take i mappings) m c.loop-mapping.invariant ends.0 ends.1 w.join.ensures w.if-mapping-eq0.true))
      | else-mapping-eq0 w ↦ subst (λ xs. AreEndsTied c.args.self.now xs (take (i + 1) mappings)) (sym w.self-is)
          (subst (λ ms. AreEndsTied c.args.self.now c.loop-mapping.self ms) (sym next)
          (ends_passed c.args.self.now c.loop-mapping.self (take i mappings) m c.loop-mapping.invariant w.if-mapping-eq0.false))
    ]
