use Rattle.std.proofs.Common.{rules, ◌≡◌, ◌≤◌, ◌+◌, ◌∙◌, length, replicate, None, sym, ap, subst, arith}
use Rattle.barrier_window.specs.BarrierFields.{BarrierFields}
use Rattle.barrier_window.specs.Crossings.{first_without, least_report}
use Rattle.barrier_window.proofs.Rounds.{least_of_none, none_long}
use Rattle.barrier_window.proofs.barrier.Barrier.go_on.Goals as goal

pub invariant_of-self : goal.invariant_of-self
invariant_of-self c =
    let k = c.self.invariant.fields in
    let n = length c.self.inside.reports.items in
    let len = c.self.inside.reports.ok.0 in
    let all : c.fill.new.self.items ≡ replicate c.self.inside.reports.len None = c.fill.ensures.items (λ y h. search rules) in
    let copied = ap length c.copy_from_slice.ensures.items in
    let from = ap length c.deref.ensures.value in
    let until : c.args.window ≤ c.self.inside.until + 1 = subst (λ (b : BarrierFields). c.args.window ≤ b.until + 1) (sym c.self.view_is) c.requires in
    let long = none_long c.fill.new.self.items c.self.inside.reports.len all in
    let filled = c.fill.new.self.ok.0 in
    let count : c.len.result ≡ c.self.inside.reports.len = omega (arith, c.len.ensures) in
    record {
      fields = record {
        lookahead = k.lookahead;
        until = k.until;
        round = omega arith;
        window = until;
        rising = k.rising;
        counts = omega (arith, k.sent);
        sent = k.sent;
        timelines = omega (arith, k.timelines);
      };
      waiting = c.first_of-self-inside.ensures ∙ ap (λ i. first_without 0 (replicate i None)) count ∙ ap (first_without 0) (sym all);
      least = sym (least_of_none (c.self.inside.until + 1) c.self.inside.reports.len) ∙ ap (least_report (c.self.inside.until + 1)) (sym all);
    }
