use Rattle.std.proofs.Common.{◌++◌, ◌∙◌, ap, length, refl}
use Rattle.std.proofs.lemmas.Option.{slice_get_read}
use Rattle.ssf_model.specs.Output.{Output}
use Rattle.ssf_model.specs.Channels.{delivered_to}
use Rattle.global_list.proofs.Going.{executed_by}
use Rattle.global_list.proofs.one_list.OneList.execute.Goals as goal

pub returns-clause-executed : goal.returns-clause-executed
returns-clause-executed g c =
    let old = c.args.self.now in
    let d = delivered_to (g.B.Behaviour.reaction old.behaviour) c.args.event.now c.index_mut-entity.result.now in
    executed_by (g.B.Behaviour.reaction old.behaviour) old.fan_out 0 c.args.event.now old.entities.items c.index_mut-entity.result.now c.deliver.new.self
    old.agenda.counts.items c.post_all.new.self.counts.items old.agenda.pending c.post_all.new.self.pending c.as_slice.result.now c.writes.result.now c.from_vec.result
    (slice_get_read old.entities.items (length old.entities.items) c.args.event.now.entity c.index_mut-entity.result.now refl c.requires.within c.index_mut-entity.ensures.value)
    c.in_ok-deliver.ensures.entity c.as_slice.ensures
    (c.writes.ensures ∙ (c.in_ok-deliver.ensures.writes ∙ ap (λ (o : Output g.row.B-Payload.Denot). o.writes ++ d.writes) c.clear.ensures))
    (c.from_vec.ensures ∙ (c.in_ok-lines.ensures.items ∙ (c.lines.ensures ∙ (c.in_ok-deliver.ensures.lines ∙ ap (λ (o : Output g.row.B-Payload.Denot). o.lines ++ d.lines) c.clear.ensures))))
    c.in_ok-post_all.ensures
