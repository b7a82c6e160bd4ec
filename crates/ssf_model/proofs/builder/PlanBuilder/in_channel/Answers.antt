use Rattle.std.proofs.Common.{◌≡◌, ◌<◌, ◌∙◌, ◌++◌, ◌∷◌, [], sym, ap, subst, refl, length, Some, None, slice_get, arith}
use Rattle.std.proofs.lemmas.Option.{slice_get_read}
use Rattle.ssf_model.specs.declared.builder.BuildFault.TheVariants.{TooManyChannels}
use Rattle.ssf_model.specs.Drafts.{Draft, MostEnds, with_in_channel, in_channel_refusal}
use Rattle.ssf_model.specs.Owners.{IsDraft}
use Rattle.ssf_model.proofs.Owning.{draft_in_channel, made_in, no_room}
use Rattle.ssf_model.proofs.builder.PlanBuilder.in_channel.Goals as goal

pub invariant_of-self-in-Ok-push : goal.invariant_of-self-in-Ok-push
invariant_of-self-in-Ok-push g c =
    let d : Draft _ _ = record {
      behaviour = c.self.inside.behaviour;
      entities = c.self.inside.entities.items;
      in_owners = c.self.inside.in_owners.items;
      outs = c.self.inside.outs.items;
      mappings = c.self.inside.mappings.items;
    } in
    let within : c.args.entity < length d.entities = subst (λ (x : Draft _ _). c.args.entity < length x.entities) (sym c.self.view_is) c.requires in
    let few : length d.in_owners < MostEnds = omega arith in
    let number : c.len-place.result ≡ length d.in_owners = omega arith in
    let draft = c.index_mut-draft.result.now in
    let here : slice_get d.entities c.args.entity ≡ Some draft = slice_get_read d.entities (length d.entities) c.args.entity _ refl within c.index_mut-draft.ensures.value in
    let channels : c.push-2.new.self ≡ draft.in_channels ++ length d.in_owners ∷ [] = c.in-Ok-push.ensures.pushed ∙ ap (λ n. draft.in_channels ++ n ∷ []) number in
    let owners : c.push.new.self.items ≡ d.in_owners ++ c.args.entity ∷ [] = c.in-Ok.ensures.items in
    subst (λ (x : Draft _ _). IsDraft c.self.inside.timers x) (sym (made_in d c.args.entity draft c.push-2.new.self c.push.new.self.items here channels owners))
    (draft_in_channel c.self.inside.timers d c.args.entity within few c.self.invariant)

pub returns-in-Ok-push-clause-made : goal.returns-in-Ok-push-clause-made
returns-in-Ok-push-clause-made g c =
    let d : Draft _ _ = record {
      behaviour = c.self.inside.behaviour;
      entities = c.self.inside.entities.items;
      in_owners = c.self.inside.in_owners.items;
      outs = c.self.inside.outs.items;
      mappings = c.self.inside.mappings.items;
    } in
    let within : c.args.entity < length d.entities = subst (λ (x : Draft _ _). c.args.entity < length x.entities) (sym c.self.view_is) c.requires in
    let few : length d.in_owners < MostEnds = omega arith in
    let number : c.len-place.result ≡ length d.in_owners = omega arith in
    let draft = c.index_mut-draft.result.now in
    let here : slice_get d.entities c.args.entity ≡ Some draft = slice_get_read d.entities (length d.entities) c.args.entity _ refl within c.index_mut-draft.ensures.value in
    let channels : c.push-2.new.self ≡ draft.in_channels ++ length d.in_owners ∷ [] = c.in-Ok-push.ensures.pushed ∙ ap (λ n. draft.in_channels ++ n ∷ []) number in
    let owners : c.push.new.self.items ≡ d.in_owners ++ c.args.entity ∷ [] = c.in-Ok.ensures.items in (
      subst (λ (x : Draft _ _). in_channel_refusal x ≡ None) c.self.view_is (no_room TooManyChannels (length d.in_owners) MostEnds few),
      number ∙ ap (λ (x : Draft _ _). length x.in_owners) c.self.view_is,
      made_in d c.args.entity draft c.push-2.new.self c.push.new.self.items here channels owners ∙ ap (λ (x : Draft _ _). with_in_channel x c.args.entity) c.self.view_is,
    )
