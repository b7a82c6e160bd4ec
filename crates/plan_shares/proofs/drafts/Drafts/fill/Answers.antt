use Rattle.std.proofs.Common.{◌≡◌, ◌<◌, ◌^◌, ℕ, List, length, map, subst, sym, ap, ◌∙◌}
use Rattle.event_order.specs.Pending.{Among}
use Rattle.ssf_model.specs.declared.plan.Mapping.{Mapping}
use Rattle.timeline_parts.specs.declared.part.Cross.{Cross}
use Rattle.timeline_parts.proofs.Sending.{on_ok}
use Rattle.alignment.specs.Alignment.{timeline_count}
use Rattle.alignment.specs.Classes.{class_of}
use Rattle.plan_shares.specs.Shares.{inside_on, into, out_of, crosses_of, end_of}
use Rattle.plan_shares.specs.Lists.{for_each}
use Rattle.plan_shares.proofs.Drafting.{mapping_ends, cross_ends, few_mappings, classes_length, classes_are}
use Rattle.plan_shares.proofs.drafts.Drafts.fill.Goals as goal

pub put_crosses-requires : goal.put_crosses-requires
put_crosses-requires g c =
    let turned = sym c.mappings-mappings.ensures in
    record {
      empty = c.requires.empty.mappings.crosses;
      few = subst (λ (ms : List Mapping). length ms < 2 ^ 32) turned (few_mappings c.args.plan.now c.requires.fits c.args.alignment.now c.requires.aligned);
      known = classes_length c.args.alignment.now c.requires.classes.0 c.args.plan.now.mappings c.args.classes.now c.requires.classes.1 ∙ ap (λ (ms : List Mapping). length ms) turned;
    }

pub put_ends-requires : goal.put_ends-requires
put_ends-requires g c =
    let threshold : ℕ = c.requires.classes.0 in
    let known = classes_are c.args.alignment.now threshold c.args.plan.now.mappings c.args.classes.now c.requires.classes.1 ∙ ap (λ ms. map (class_of c.args.alignment.now threshold) ms) (sym c.mappings-mappings.ensures) in
    let all : c.as_slice-crosses.result.now ≡ crosses_of c.args.alignment.now threshold c.args.plan.now.mappings =
    c.as_slice-crosses.ensures.value ∙ (c.in_ok-put_crosses.ensures c.args.alignment.now threshold known ∙ ap (λ ms. crosses_of c.args.alignment.now threshold ms) c.mappings-mappings.ensures) in
    record {
      empty = c.requires.empty.mappings.ends;
      known = cross_ends c.args.plan.now c.requires.fits c.args.alignment.now c.requires.aligned threshold c.as_slice-crosses.result.now all;
    }

pub put_inside-requires : goal.put_inside-requires
put_inside-requires g c = record {
  empty = c.requires.empty.mappings.inside;
  known = λ m among. mapping_ends c.args.plan.now c.requires.fits c.args.alignment.now c.requires.aligned m (subst (λ (ms : List Mapping). Among m ms) c.mappings-mappings.ensures among);
}

pub put_ins-requires : goal.put_ins-requires
put_ins-requires g c =
    let threshold : ℕ = c.requires.classes.0 in
    let known = classes_are c.args.alignment.now threshold c.args.plan.now.mappings c.args.classes.now c.requires.classes.1 ∙ ap (λ ms. map (class_of c.args.alignment.now threshold) ms) (sym c.mappings-mappings.ensures) in
    let all : c.as_slice-crosses.result.now ≡ crosses_of c.args.alignment.now threshold c.args.plan.now.mappings =
    c.as_slice-crosses.ensures.value ∙ (c.in_ok-put_crosses.ensures c.args.alignment.now threshold known ∙ ap (λ ms. crosses_of c.args.alignment.now threshold ms) c.mappings-mappings.ensures) in
    record {
      empty = c.requires.empty.mappings.ins;
      known = cross_ends c.args.plan.now c.requires.fits c.args.alignment.now c.requires.aligned threshold c.as_slice-crosses.result.now all;
    }

pub put_outs-requires : goal.put_outs-requires
put_outs-requires g c =
    let threshold : ℕ = c.requires.classes.0 in
    let known = classes_are c.args.alignment.now threshold c.args.plan.now.mappings c.args.classes.now c.requires.classes.1 ∙ ap (λ ms. map (class_of c.args.alignment.now threshold) ms) (sym c.mappings-mappings.ensures) in
    let all : c.as_slice-crosses.result.now ≡ crosses_of c.args.alignment.now threshold c.args.plan.now.mappings =
    c.as_slice-crosses.ensures.value ∙ (c.in_ok-put_crosses.ensures c.args.alignment.now threshold known ∙ ap (λ ms. crosses_of c.args.alignment.now threshold ms) c.mappings-mappings.ensures) in
    record {
      empty = c.requires.empty.mappings.outs;
      known = cross_ends c.args.plan.now c.requires.fits c.args.alignment.now c.requires.aligned threshold c.as_slice-crosses.result.now all;
    }

pub fill_rest-requires-clause-empty : goal.fill_rest-requires-clause-empty
fill_rest-requires-clause-empty g c κs within =
    let rest = c.requires.empty.rest in
    record { entities = rest.entities; events = rest.events; counts = rest.counts; starts = rest.starts; parts = rest.parts }

pub returns : goal.returns
returns g c =
    let n : ℕ = timeline_count c.args.alignment.now in
    let lines : List ℕ = c.args.alignment.now in
    let keeps = c.fill_rest.ensures.mappings in
    on_ok c.fill_rest.result (λ rest threshold is.
    let known = classes_are lines threshold c.args.plan.now.mappings c.args.classes.now is ∙ ap (λ ms. map (class_of lines threshold) ms) (sym c.mappings-mappings.ensures) in
    let all : c.as_slice-crosses.result.now ≡ crosses_of lines threshold c.args.plan.now.mappings =
    c.as_slice-crosses.ensures.value ∙ (c.in_ok-put_crosses.ensures lines threshold known ∙ ap (λ ms. crosses_of lines threshold ms) c.mappings-mappings.ensures) in
    record {
      mappings = record {
        inside = keeps.inside ∙ (c.in_ok-put_inside.ensures ∙ ap (λ ms. for_each n (λ i. inside_on lines i ms)) c.mappings-mappings.ensures);
        ins = keeps.ins ∙ (c.in_ok-put_ins.ensures ∙ ap (λ xs. for_each n (λ i. into lines i xs)) all);
        outs = keeps.outs ∙ (c.in_ok-put_outs.ensures ∙ ap (λ xs. for_each n (λ i. out_of lines i xs)) all);
        ends = ap (λ es. es.items) keeps.ends ∙ (c.in_ok-put_ends.ensures ∙ ap (λ (xs : List Cross). map (end_of lines) xs) all);
      };
      rest = rest;
    }) c.fill_rest.ensures.rest
