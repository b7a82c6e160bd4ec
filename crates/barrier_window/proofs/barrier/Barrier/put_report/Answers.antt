use Rattle.std.proofs.Common.{◌≡◌, ◌+◌, ◌∙◌, drop, Some, None, slice_get, sym, ap, subst, min, arith, length-set}
use Rattle.barrier_window.specs.BarrierFields.{BarrierFields}
use Rattle.barrier_window.specs.Crossings.{first_without}
use Rattle.barrier_window.proofs.Rounds.{least_more, first_stays, first_goes, is_timeline, is_other}
use Rattle.barrier_window.proofs.barrier.Barrier.put_report.Goals as goal

pub invariant_of-self : goal.invariant_of-self
invariant_of-self c =
    let k = c.self.invariant.fields in
    let rs = c.self.inside.reports.items in
    let t = c.args.timeline in
    let m = c.args.least in
    let at : slice_get rs t ≡ Some None = subst (λ (b : BarrierFields). slice_get b.reports t ≡ Some None) (sym c.self.view_is) c.requires in
    let same = length-set rs t (Some m) in
    record {
      fields = record { lookahead = k.lookahead; until = k.until; round = k.round; window = k.window; rising = k.rising; counts = k.counts; sent = k.sent; timelines = omega (arith, k.timelines) };
      waiting = c.least_without-self-inside.ensures ∙ ap (λ l. first_without (t + 1) (drop (t + 1) l)) c.deref.ensures.value
          ∙ first_goes rs t m c.self.inside.waiting (is_timeline c.self.inside.waiting t (sym c.eq.ensures ∙ c.if-eq.true)) c.self.invariant.waiting;
      least = c.min-self-inside.ensures ∙ ap (λ i. min i m) c.self.invariant.least ∙ sym (least_more (c.self.inside.until + 1) m rs t at);
    }

pub invariant_of-self-else-eq : goal.invariant_of-self-else-eq
invariant_of-self-else-eq c =
    let k = c.self.invariant.fields in
    let rs = c.self.inside.reports.items in
    let t = c.args.timeline in
    let m = c.args.least in
    let at : slice_get rs t ≡ Some None = subst (λ (b : BarrierFields). slice_get b.reports t ≡ Some None) (sym c.self.view_is) c.requires in
    let same = length-set rs t (Some m) in
    record {
      fields = record { lookahead = k.lookahead; until = k.until; round = k.round; window = k.window; rising = k.rising; counts = k.counts; sent = k.sent; timelines = omega (arith, k.timelines) };
      waiting = first_stays rs t m c.self.inside.waiting at c.self.invariant.waiting (is_other c.self.inside.waiting t (sym c.eq.ensures ∙ c.if-eq.false));
      least = c.min-self-inside.ensures ∙ ap (λ i. min i m) c.self.invariant.least ∙ sym (least_more (c.self.inside.until + 1) m rs t at);
    }
