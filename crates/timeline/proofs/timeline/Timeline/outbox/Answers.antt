use Rattle.std.proofs.Common.{sym, ap, subst, ◌∙◌}
use Rattle.timeline_parts.specs.Tables.{numbers_of}
use Rattle.timeline_parts.proofs.Tables.{numbered_same, numbers_changed}
use Rattle.ssf_model.specs.Reaction.{Each}
use Rattle.timeline.specs.Holding.{IsFilled}
use Rattle.timeline.specs.Moving.{posted_end}
use Rattle.timeline.proofs.Kept.{filled_posted}
use Rattle.timeline.proofs.timeline.Timeline.outbox.Goals as goal

pub invariant_of-self : goal.invariant_of-self
invariant_of-self g c =
    let old = c.self.invariant in
    record {
      order = record {
        until = old.order.until;
        budget = old.order.budget;
        few = old.order.few;
        entities = old.order.entities;
        counts = old.order.counts;
        in_ends = old.order.in_ends;
        out_ends = numbered_same c.post_from.new.ends.items c.self.inside.desk.ends.items
            (ap numbers_of c.post_from.ensures.posted.left ∙ numbers_changed c.args.channel posted_end c.self.inside.desk.ends.items) old.order.out_ends;
        filled = subst (λ ends. Each IsFilled ends) (sym c.post_from.ensures.posted.left) (filled_posted c.args.channel c.self.inside.desk.ends.items old.order.filled);
      };
      sends = old.sends;
      bound_is = old.bound_is;
      holder_is = old.holder_is;
    }
