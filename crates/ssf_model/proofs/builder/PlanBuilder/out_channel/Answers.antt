use Rattle.std.proofs.Common.{◌≡◌, ◌<◌, ◌≤◌, ◌∙◌, ◌++◌, ◌∷◌, [], sym, ap, subst, refl, length, Some, None, slice_get, arith}
use Rattle.std.proofs.lemmas.Option.{slice_get_read}
use Rattle.ssf_model.specs.declared.builder.BuildFault.TheVariants.{DelayTooLong, TooManyChannels}
use Rattle.ssf_model.specs.Reaction.{LongestDelay}
use Rattle.ssf_model.specs.Drafts.{Draft, MostEnds, with_out_channel, out_channel_refusal}
use Rattle.ssf_model.specs.Owners.{IsDraft}
use Rattle.ssf_model.proofs.Owning.{draft_out_channel, made_out, no_room, no_long}
use Rattle.ssf_model.proofs.builder.PlanBuilder.out_channel.Goals as goal

pub invariant_of-self-in-Ok-push : goal.invariant_of-self-in-Ok-push
invariant_of-self-in-Ok-push g c =
    let d : Draft _ _ = record {
      behaviour = c.self.inside.behaviour;
      entities = c.self.inside.entities.items;
      in_owners = c.self.inside.in_owners.items;
      outs = c.self.inside.outs.items;
      mappings = c.self.inside.mappings.items;
    } in
    let within : c.args.entity < length d.entities = subst (λ (x : Draft _ _). c.args.entity < length x.entities) (sym c.self.view_is) c.requires in
    let few : length d.outs < MostEnds = omega arith in
    let number : c.len-place.result ≡ length d.outs = omega arith in
    let draft = c.index_mut-draft.result.now in
    let here : slice_get d.entities c.args.entity ≡ Some draft = slice_get_read d.entities (length d.entities) c.args.entity _ refl within c.index_mut-draft.ensures.value in
    let channels : c.push-2.new.self ≡ draft.out_channels ++ length d.outs ∷ [] = c.in-Ok-push.ensures.pushed ∙ ap (λ n. draft.out_channels ++ n ∷ []) number in
    let owners : c.push.new.self.items ≡ d.outs ++ record { entity = c.args.entity; delay = c.args.delay } ∷ [] = c.in-Ok.ensures.items in
    subst (λ (x : Draft _ _). IsDraft c.self.inside.timers x) (sym (made_out d c.args.entity c.args.delay draft c.push-2.new.self c.push.new.self.items here channels owners))
    (draft_out_channel c.self.inside.timers d c.args.entity c.args.delay within few c.self.invariant)

pub returns-in-Ok-push-clause-made : goal.returns-in-Ok-push-clause-made
returns-in-Ok-push-clause-made g c =
    let d : Draft _ _ = record {
      behaviour = c.self.inside.behaviour;
      entities = c.self.inside.entities.items;
      in_owners = c.self.inside.in_owners.items;
      outs = c.self.inside.outs.items;
      mappings = c.self.inside.mappings.items;
    } in
    let within : c.args.entity < length d.entities = subst (λ (x : Draft _ _). c.args.entity < length x.entities) (sym c.self.view_is) c.requires in
    let few : length d.outs < MostEnds = omega arith in
    let number : c.len-place.result ≡ length d.outs = omega arith in
    let draft = c.index_mut-draft.result.now in
    let here : slice_get d.entities c.args.entity ≡ Some draft = slice_get_read d.entities (length d.entities) c.args.entity _ refl within c.index_mut-draft.ensures.value in
    let channels : c.push-2.new.self ≡ draft.out_channels ++ length d.outs ∷ [] = c.in-Ok-push.ensures.pushed ∙ ap (λ n. draft.out_channels ++ n ∷ []) number in
    let owners : c.push.new.self.items ≡ d.outs ++ record { entity = c.args.entity; delay = c.args.delay } ∷ [] = c.in-Ok.ensures.items in
    let short : c.args.delay ≤ LongestDelay = omega arith in (
      subst (λ (x : Draft _ _). out_channel_refusal x c.args.delay ≡ None) c.self.view_is (no_long DelayTooLong c.args.delay LongestDelay _ short (no_room TooManyChannels (length d.outs) MostEnds few)),
      number ∙ ap (λ (x : Draft _ _). length x.outs) c.self.view_is,
      made_out d c.args.entity c.args.delay draft c.push-2.new.self c.push.new.self.items here channels owners ∙ ap (λ (x : Draft _ _). with_out_channel x c.args.entity c.args.delay) c.self.view_is,
    )
