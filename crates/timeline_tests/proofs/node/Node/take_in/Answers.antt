use Rattle.std.proofs.Common.{◌≡◌, ◌≤◌, ◌∙◌, rules, arith, subst}
use Rattle.timeline.specs.Holding.{taken_of}
use Rattle.timeline_tests.specs.Tame.{IsSmall}
use Rattle.timeline_tests.proofs.Tame.{on_ins, may_take, tame_tried}
use Rattle.timeline_tests.proofs.node.Node.take_in.Goals as goal

pub take_in-requires-after_bounds : goal.take_in-requires-after_bounds
take_in-requires-after_bounds c κs =
    let taken : c.taken-taken.result ≡ taken_of c.self.inside.timeline.in_ends c.args.channel = c.taken-taken.ensures in
    let first : c.args.parcel.first ≡ c.taken-taken.result = search (rules, c.if-parcel-taken.false) in
    let most : c.taken-taken.result ≤ 1000 = search (rules, c.if-taken-gt1000.false) in
    let small = subst (λ es. IsSmall c.self.inside.number c.args.channel c.taken-taken.result es) c.as_slice.ensures (c.is_small.ensures (search (rules, c.if-not-is_small.false))) in
    may_take c.self.inside.number c.args.channel c.args.parcel c.self.inside.timeline c.self.invariant
    (subst (λ n. IsSmall c.self.inside.number c.args.channel n c.args.parcel.events) taken small) (first ∙ taken) (search rules) (omega (arith, first, most))

pub invariant_of-self : goal.invariant_of-self
invariant_of-self c =
    let taken : c.taken-taken.result ≡ taken_of c.self.inside.timeline.in_ends c.args.channel = c.taken-taken.ensures in
    let first : c.args.parcel.first ≡ c.taken-taken.result = search (rules, c.if-parcel-taken.false) in
    let small = subst (λ es. IsSmall c.self.inside.number c.args.channel c.taken-taken.result es) c.as_slice.ensures (c.is_small.ensures (search (rules, c.if-not-is_small.false))) in
    tame_tried c.self.inside.number c.take_in.result c.args.channel c.args.parcel c.self.inside.timeline c.take_in.new.self c.self.invariant
    (subst (λ n. IsSmall c.self.inside.number c.args.channel n c.args.parcel.events) taken small) (first ∙ taken)
    (on_ins c.self.inside.number c.args.channel c.self.inside.timeline c.self.invariant (search rules)) c.take_in.ensures.taken c.take_in.ensures.kept
