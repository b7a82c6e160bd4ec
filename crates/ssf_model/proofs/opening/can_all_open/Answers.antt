use Rattle.std.proofs.Common.{arith}
use Rattle.std.proofs.lemmas.Slice.Zip.{AllZip-long}
use Rattle.ssf_model.specs.Openings.{MayOpen}
use Rattle.ssf_model.proofs.opening.can_all_open.Goals as goal

pub returns-then-opened-entities : goal.returns-then-opened-entities
returns-then-opened-entities g c = (
  (λ h. absurd (cc)),
  (λ zip. let size = AllZip-long (MayOpen (g.B.Behaviour.valid c.args.behaviour.now)) c.args.entities.now c.args.opened.now zip in absurd (omega arith)),
)
