use Rattle.std.proofs.Common.{◌≡◌, ◌+◌, ◌^◌, ◌<◌, ◌≤◌, ◌∙◌, sym, ap, subst, List, ℕ, length, slice_index, slice_index_or, arith}
use Rattle.ssf_model.specs.declared.builder.OutChannel.{OutChannel}
use Rattle.ssf_model.specs.Reaction.{LongestDelay}
use Rattle.ssf_model.specs.Drafts.{Draft, MostChannels, channels_of, out_at}
use Rattle.ssf_model.proofs.Owning.{kept_mapping}
use Rattle.ssf_model.proofs.builder.PlanBuilder.mapto_at.Goals as goal

pub invariant_of-self-2 : goal.invariant_of-self-2
invariant_of-self-2 g c =
    let d : Draft _ _ = record {
      behaviour = c.self.inside.behaviour;
      entities = c.self.inside.entities.items;
      in_owners = c.self.inside.in_owners.items;
      outs = c.self.inside.outs.items;
      mappings = c.self.inside.mappings.items;
    } in
    let within_outs : c.args.from < length d.outs = subst (λ (xs : List OutChannel). c.args.from < length xs) c.deref.ensures.value c.in-Some.ensures.lookup.3.0 in
    let out_is : c.in-Some.field-0.now ≡ out_at d c.args.from =
    (c.in-Some.ensures.lookup.3.1 (record { entity = 0; delay = 0 }) ∙ ap (λ (xs : List OutChannel). slice_index_or xs c.args.from (record { entity = 0; delay = 0 })) c.deref.ensures.value) in
    let within_ins : c.args.to < length d.in_owners = subst (λ (xs : List ℕ). c.args.to < length xs) c.deref-2.ensures.value c.in-Some-get.ensures.lookup.3.0 in
    let owner_is : c.in-Some-get.field-0.now ≡ slice_index d.in_owners c.args.to =
    (c.in-Some-get.ensures.lookup.3.1 0 ∙ ap (λ (xs : List ℕ). slice_index xs c.args.to) c.deref-2.ensures.value) in
    let count : c.channels.result ≡ channels_of d = c.channels.ensures.count ∙ ap (λ (x : Draft _ _). channels_of x) (sym c.self.view_is) in
    let total_is : c.in-Some-checked_add.total ≡ c.in-Some.field-0.now.delay + c.args.delay = c.in-Some-checked_add.ensures.1 in
    let short : c.in-Some-checked_add.total ≤ LongestDelay = omega arith in
    let few : channels_of d < MostChannels = omega arith in
    let level : c.args.priority < 2 ^ 8 = omega arith in
    let place : c.len-place.result ≡ length d.mappings = omega arith in
    kept_mapping c.self.inside.timers d c.args.from c.args.to c.args.delay c.args.priority c.len-place.result c.in-Some-get.field-0.now c.in-Some-checked_add.total c.in-Some.field-0.now c.push.new.self.items
    within_outs out_is within_ins owner_is total_is short few level place c.in-Ok.ensures.items c.self.invariant
