use Rattle.std.proofs.Common.{◌≡◌, ◌<◌, ◌∙◌, sym, ap, subst, Some, slice_get}
use Rattle.sync_core.specs.Cores.{core_of}
use Rattle.share_rules.specs.Places.{count_of}
use Rattle.share_rules.proofs.Taking.{sender_known, receiver_known}
use Rattle.worker_pool.proofs.laying.tables_in.Goals as goal

pub new-requires-clause-known : goal.new-requires-clause-known
new-requires-clause-known g c = λ k end found.
    let core = core_of c.args.parts.now in
    let b = c.args.parts.now.behaviour in
    let at : slice_get core.ends k ≡ Some end = ap (λ xs. slice_get xs k) (sym c.as_slice.ensures.value) ∙ found in
    let long : count_of core ≡ c.len.result = sym c.args.parts.now.timelines.ok.0 ∙ sym c.len.ensures in (
      subst (λ n. end.sender < n) long (sender_known (g.B.Behaviour.valid b) (g.B.Behaviour.carried b) (g.B.Behaviour.reaction b) (g.met.B.Behaviour.sound b) (g.met.B.Behaviour.modest b) core c.requires.run k end at),
      subst (λ n. end.receiver < n) long (receiver_known (g.B.Behaviour.valid b) (g.B.Behaviour.carried b) (g.B.Behaviour.reaction b) (g.met.B.Behaviour.sound b) (g.met.B.Behaviour.modest b) core c.requires.run k end at),
    )
