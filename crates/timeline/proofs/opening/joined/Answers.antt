use Rattle.std.proofs.Common.{sym, ap, subst, ◌∙◌, arith}
use Rattle.ssf_model.specs.Reaction.{Each}
use Rattle.timeline_parts.specs.Tables.{numbers_of, AreRising, AreNumbered}
use Rattle.timeline.specs.Holding.{IsFilled, least_held, holder_of}
use Rattle.timeline.proofs.Kept.{numbers_first_in, numbers_first_out, filled_first}
use Rattle.timeline.proofs.opening.joined.Goals as goal

pub invariant_of-result : goal.invariant_of-result
invariant_of-result g c =
    let part = c.requires.part in
    let opened = c.requires.opened in
    record {
      order = record {
        until = c.requires.until;
        budget = c.requires.budget;
        few = omega arith;
        entities = subst AreNumbered (sym c.into_vec.ensures) part.entities;
        counts = subst AreNumbered (sym c.into_vec-2.ensures) part.counts;
        in_ends = subst AreRising (sym (ap numbers_of opened.ins_are ∙ numbers_first_in c.args.part.ins)) part.ins;
        out_ends = subst AreRising (sym (ap numbers_of opened.outs_are ∙ numbers_first_out _ c.args.part.outs)) part.outs;
        filled = subst (λ ends. Each IsFilled ends) (sym opened.outs_are) (filled_first _ c.args.part.outs);
      };
      sends = opened.sends;
      bound_is = c.least_held-bound.ensures ∙ ap (least_held 0) c.as_slice.ensures.value;
      holder_is = c.holder_of-holder.ensures ∙ (ap (holder_of c.least_held-bound.result) c.as_slice-2.ensures.value
          ∙ ap (λ b. holder_of b c.args.opened.in_ends.items) (c.least_held-bound.ensures ∙ ap (least_held 0) c.as_slice.ensures.value));
    }
