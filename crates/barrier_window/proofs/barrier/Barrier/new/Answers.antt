use Rattle.std.proofs.Common.{rules, ◌≡◌, ◌+◌, ◌∙◌, length, replicate, None, sym, ap, subst, arith}
use Rattle.std.specs.List.Sorted.{IsStrictlyIncreasing}
use Rattle.barrier_window.specs.Crossings.{first_without, least_report}
use Rattle.barrier_window.proofs.Rounds.{least_of_none, none_long}
use Rattle.barrier_window.proofs.barrier.Barrier.new.Goals as goal

pub invariant_of-result : goal.invariant_of-result
invariant_of-result c =
    let all : c.in_ok-reports.reports.items ≡ replicate c.args.timelines None = c.in_ok-reports.ensures.items_if_clones_equal (λ y h. search rules) in
    let long = none_long c.in_ok-reports.reports.items c.args.timelines all in
    let channels = ap length c.in_ok-channels.ensures.items in
    let counts = c.in_ok-counts.counts.ok.0 in
    let sent = c.in_ok-sent.sent.ok.0 in
    record {
      fields = record {
        lookahead = c.requires.lookahead;
        until = c.requires.until;
        round = omega arith;
        window = omega arith;
        rising = subst IsStrictlyIncreasing (sym c.in_ok-channels.ensures.items) c.requires.rising;
        counts = omega (arith, c.in_ok-counts.ensures.len);
        sent = omega (arith, c.in_ok-sent.ensures.len);
        timelines = omega arith;
      };
      waiting = c.first_of.ensures ∙ ap (first_without 0) (sym all);
      least = sym (least_of_none (c.args.until + 1) c.args.timelines) ∙ ap (least_report (c.args.until + 1)) (sym all);
    }
