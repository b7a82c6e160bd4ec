use Rattle.std.proofs.Common.{◌≡◌, ◌∙◌, ap, sym, subst, length}
use Rattle.std.proofs.lemmas.Slice.Zip.{AllZip-long}
use Rattle.ssf_model.specs.Run.{Fits}
use Rattle.ssf_model.specs.Openings.{IsAsLong, reopened_entities}
use Rattle.ssf_model.proofs.Reopened.{fits_again}
use Rattle.ssf_model.proofs.plan.Plan.begin_at.Goals as goal

pub reopen_all-entities-requires-clause-size : goal.reopen_all-entities-requires-clause-size
reopen_all-entities-requires-clause-size g c κs within =
    ap (λ os. length os) c.into_vec-2.ensures ∙ (AllZip-long IsAsLong c.args.self.entities c.args.opening.entities c.requires.lawful.shape.entities ∙ sym (ap (λ es. length es) c.into_vec.ensures))

pub returns-clause-fits : goal.returns-clause-fits
returns-clause-fits g c =
    let fits = fits_again (g.B.Behaviour.valid c.args.self.behaviour) (g.B.Behaviour.carried c.args.self.behaviour) c.args.self c.args.opening c.requires.fits c.requires.lawful in
    let made : c.from_vec.result ≡ reopened_entities c.args.self.entities c.args.opening.entities =
    c.from_vec.ensures ∙ (c.reopen_all-entities.ensures ∙ (ap (λ es. reopened_entities es c.into_vec-2.result.items) c.into_vec.ensures ∙ ap (λ os. reopened_entities c.args.self.entities os) c.into_vec-2.ensures)) in
    subst (λ es. Fits (g.B.Behaviour.valid c.args.self.behaviour) (g.B.Behaviour.carried c.args.self.behaviour) (record {
      behaviour = c.args.self.behaviour;
      entities = es;
      events = c.args.opening.pending;
      mappings = c.args.self.mappings;
      counts = c.args.opening.counts;
      before = c.args.opening.events;
    })) (sym made) fits
