use Rattle.std.proofs.Common.{◌∙◌, ℕ, List, map, ap, rules}
use Rattle.std.specs.List.{range_with_len}
use Rattle.plan_shares.specs.declared.drafts.Drafts.{Drafts}
use Rattle.plan_shares.specs.Drafts.{part_at}
use Rattle.plan_shares.proofs.Drafting.{few_entities, parts_are, shares_are, whole_of}
use Rattle.plan_shares.proofs.shares.share_out.Goals as goal

pub put_entities-requires-clause-empty : goal.put_entities-requires-clause-empty
put_entities-requires-clause-empty g c κs within = let filled = c.in_ok-fill.ensures c.requires.classes.0 c.requires.classes.1 in filled.rest.entities

pub put_entities-requires-clause-few : goal.put_entities-requires-clause-few
put_entities-requires-clause-few g c κs within = few_entities c.args.plan c.requires.fits c.args.alignment.now c.requires.aligned

pub join-requires : goal.join-requires
join-requires g c =
    let filled = c.in_ok-fill.ensures c.requires.classes.0 c.requires.classes.1 in
    (search rules, (search rules, whole_of c.args.plan c.args.alignment.now c.requires.classes.0 c.count.result c.put_entities.new.lists c.fill.new.self c.count.ensures filled c.in_ok-put_entities.ensures))

pub returns : goal.returns
returns g c = λ threshold is.
    let filled = c.in_ok-fill.ensures threshold is in
    let lines : List ℕ = c.args.alignment.now in
    let made : Drafts g.row.B.Denot g.row.B-State.Denot g.row.B-Payload.Denot = record {
      entities = c.put_entities.new.lists;
      events = c.fill.new.self.events;
      inside = c.fill.new.self.inside;
      ins = c.fill.new.self.ins;
      outs = c.fill.new.self.outs;
      counts = c.fill.new.self.counts;
      crosses = c.fill.new.self.crosses;
      ends = c.fill.new.self.ends;
      starts = c.fill.new.self.starts;
      parts = c.fill.new.self.parts;
    } in
    shares_are c.args.plan lines threshold c.from_vec.result c.from_vec-2.result c.from_vec-3.result
    (c.from_vec.ensures ∙ (c.join.ensures.parts ∙ (ap (λ n. map (part_at made) (range_with_len 0 n)) c.count.ensures
    ∙ parts_are c.args.plan lines threshold made c.in_ok-put_entities.ensures filled.rest.events
    (record { inside = filled.mappings.inside; ins = filled.mappings.ins; outs = filled.mappings.outs; ends = filled.mappings.ends }) filled.rest.counts)))
    (c.from_vec-2.ensures ∙ (ap (λ v. v.items) c.join.ensures.ends ∙ filled.mappings.ends))
    (c.from_vec-3.ensures ∙ (ap (λ v. v.items) c.join.ensures.starts ∙ filled.rest.starts))
