use Rattle.std.proofs.Common.{◌≡◌, ◌+◌, ◌∙◌, sym, ap, subst, List, length, arith}
use Rattle.ssf_model.specs.declared.plan.Mapping.{Mapping}
use Rattle.ssf_model.specs.Reaction.{Each}
use Rattle.ssf_model.specs.Drafts.{Draft, IsValidDraft, with_channels}
use Rattle.ssf_model.proofs.Fitted.{parts_fit}
use Rattle.ssf_model.proofs.builder.PlanBuilder.finish.Goals as goal

pub returns-clause-fits : goal.returns-clause-fits
returns-clause-fits g c =
    let d : Draft _ _ = record {
      behaviour = c.self.inside.behaviour;
      entities = c.self.inside.entities.items;
      in_owners = c.self.inside.in_owners.items;
      outs = c.self.inside.outs.items;
      mappings = c.self.inside.mappings.items;
    } in
    let behaviour : d.behaviour ≡ c.args.self.behaviour = ap (λ (x : Draft _ _). x.behaviour) c.self.view_is in
    let states : Each (IsValidDraft (g.B.Behaviour.valid d.behaviour)) d.entities =
    subst (λ (x : Draft _ _). Each (IsValidDraft (g.B.Behaviour.valid x.behaviour)) x.entities) (sym c.self.view_is) c.requires in
    let starts : c.len-starts.result ≡ length d.entities = omega arith in
    let fits = parts_fit (g.B.Behaviour.valid d.behaviour) (g.B.Behaviour.carried d.behaviour) c.len-starts.result c.self.inside.timers (c.self.inside.timers + c.len.result) d
    c.from_vec.result c.from_vec-2.result c.from_vec-3.result c.from_vec-4.result c.self.invariant states starts (omega arith)
    (c.from_vec.ensures ∙ c.in_ok-entities.ensures)
    (c.from_vec-2.ensures ∙ c.in_ok-events.ensures)
    (c.from_vec-3.ensures ∙ (c.in_ok-mappings.ensures ∙ ap (λ (ms : List Mapping). with_channels (c.len-starts.result + c.self.inside.timers) ms) c.as_slice.ensures.value))
    (c.from_vec-4.ensures ∙ c.in_ok-counts.ensures) in
    rw (← behaviour) fits
