use Rattle.std.proofs.Common.{◌≡◌, ◌∙◌, ◌+◌, ◌++◌, ◌∷◌, [], List, Bool, ap}
use Rattle.ssf_model.specs.declared.process.Process.{Process}
use Rattle.ssf_model.specs.Drafts.{timers, first_entity, first_processes}
use Rattle.ssf_model.proofs.Drafted.{entities_next}
use Rattle.ssf_model.proofs.builder.first_entities.Goals as goal

pub loop-draft-preserved : goal.loop-draft-preserved
loop-draft-preserved g c =
    let draft = c.in-Some.draft in
    let processes : c.from_vec.result ≡ first_processes c.loop-draft.next draft.timed =
    c.from_vec.ensures ∙ (c.in_ok-processes.ensures ∙ ap (λ (flags : List Bool). first_processes c.loop-draft.next flags) c.as_slice.ensures) in
    let pushed : c.push.new.self.items ≡ c.loop-draft.entities.items ++ first_entity c.loop-draft.next draft ∷ [] =
    c.in_ok-push.ensures.items ∙ ap (λ (ps : List Process). c.loop-draft.entities.items ++ record { state = draft.state; processes = ps; in_channels = draft.in_channels; out_channels = draft.out_channels } ∷ []) processes in
    let next = entities_next c.args.first c.loop-draft.next c.loop-draft.yielded draft c.loop-draft.entities.items c.push.new.self.items
    c.loop-draft.invariant.0 c.loop-draft.invariant.1 pushed in (
      next.0,
      ap (λ k. c.loop-draft.next + k) (c.count_timed.ensures ∙ ap (λ (flags : List Bool). timers flags) c.as_slice-in-loop-draft.ensures) ∙ next.1,
    )
