use Rattle.std.proofs.Common.{ℕ, ◌≡◌, ◌∙◌, List, ◌++◌, length, take, drop, sym, ap, subst, arith}
use Rattle.std.specs.List.{All, Contains}
use Rattle.barrier_window.specs.BarrierFields.{BarrierFields}
use Rattle.barrier_window.specs.Inside.{fields_of}
use Rattle.barrier_window.specs.Crossings.{latest_of, after_report}
use Rattle.barrier_window.proofs.Latest.{length-latest_of}
use Rattle.barrier_window.proofs.Rounds.{put_back, stays_at_stale, taken_is}
use Rattle.barrier_window.proofs.barrier.Barrier.report.Goals as goal

pub returns-then-round-self-clause-after : goal.returns-then-round-self-clause-after
returns-then-round-self-clause-after c = subst (λ (b : BarrierFields). b ≡ after_report c.args.timeline c.args.round c.args.least c.args.counts.now b) c.self.view_is
    (stays_at_stale (fields_of c.self.inside) c.args.timeline c.args.round c.args.least c.args.counts.now c.if-round-self.true)

pub put_numbers-requires-clause-among : goal.put_numbers-requires-clause-among
put_numbers-requires-clause-among c =
    let own = subst (λ (b : BarrierFields). All (λ (p : ℕ × ℕ). Contains b.channels p.0) c.args.counts.now) (sym c.self.view_is) c.requires.cross in
    subst (λ (l : List ℕ). All (λ (p : ℕ × ℕ). Contains l p.0) c.args.counts.now) (sym c.deref.ensures.value) own

pub returns-clause-after : goal.returns-clause-after
returns-clause-after c =
    let b = fields_of c.self.inside in
    let ps = c.args.counts.now in
    let xs = c.self.inside.sent.items in
    let ys = c.put_numbers.new.numbers in
    let given : ys ≡ latest_of ps c.self.inside.channels.items xs = c.put_numbers.ensures ∙ ap (λ l. latest_of ps l c.deref_mut.result.now) c.deref.ensures.value ∙ ap (latest_of ps c.self.inside.channels.items) c.deref_mut.ensures.value in
    let each = length-latest_of ps c.self.inside.channels.items xs c.self.invariant.fields.sent in
    let long = ap length given in
    let put : take c.self.inside.sent.len (ys ++ drop (length ys) xs) ≡ ys = put_back xs ys c.self.inside.sent.len c.self.inside.sent.ok.0 (omega (arith, c.self.invariant.fields.sent)) in
    subst (λ (b : BarrierFields). c.put_report.new.self ≡ after_report c.args.timeline c.args.round c.args.least ps b) c.self.view_is
    (c.put_report.ensures ∙ taken_is b c.args.timeline c.args.round c.args.least ps (take c.self.inside.sent.len (ys ++ drop (length ys) xs)) c.if-round-self.false (put ∙ given))
