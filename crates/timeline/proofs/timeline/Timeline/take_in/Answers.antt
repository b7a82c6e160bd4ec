use Rattle.std.proofs.Common.{sym, ap, ◌∙◌}
use Rattle.timeline_parts.specs.Tables.{numbers_of}
use Rattle.timeline_parts.proofs.Tables.{numbered_same, numbers_changed}
use Rattle.timeline.specs.Holding.{least_held, holder_of}
use Rattle.timeline.specs.Moving.{taken_end}
use Rattle.timeline.proofs.timeline.Timeline.take_in.Goals as goal

pub bound_after-bound-requires-clause-bound : goal.bound_after-bound-requires-clause-bound
bound_after-bound-requires-clause-bound g c = λ no.
    c.hold-anew.ensures.bound no c.self.inside.entered c.self.invariant.bound_is ∙ ap (least_held c.self.inside.entered) (sym c.as_slice-2.ensures.value)

pub bound_after-bound-requires-clause-holder : goal.bound_after-bound-requires-clause-holder
bound_after-bound-requires-clause-holder g c = λ no.
    c.self.invariant.holder_is
    ∙ (ap (λ b. holder_of b c.self.inside.in_ends.items) (sym c.self.invariant.bound_is)
    ∙ (sym (c.hold-anew.ensures.holder no c.self.inside.entered c.self.invariant.bound_is) ∙ ap (holder_of c.self.inside.bound) (sym c.as_slice-2.ensures.value)))

pub invariant_of-self-2 : goal.invariant_of-self-2
invariant_of-self-2 g c =
    let old = c.self.invariant in
    let bound = c.bound_after-bound.ensures.bound ∙ ap (least_held c.self.inside.entered) c.as_slice-2.ensures.value in
    record {
      order = record {
        until = old.order.until;
        budget = old.order.budget;
        few = old.order.few;
        entities = old.order.entities;
        counts = old.order.counts;
        in_ends = numbered_same c.hold-anew.new.ends.items c.self.inside.in_ends.items
            (ap numbers_of c.hold-anew.ensures.ends ∙ numbers_changed c.args.channel (taken_end _ c.args.parcel.promise) c.self.inside.in_ends.items) old.order.in_ends;
        out_ends = old.order.out_ends;
        filled = old.order.filled;
      };
      sends = old.sends;
      bound_is = bound;
      holder_is = c.bound_after-bound.ensures.holder
          ∙ (ap (holder_of c.bound_after-bound.result.0) c.as_slice-2.ensures.value ∙ ap (λ b. holder_of b c.hold-anew.new.ends.items) bound);
    }
