use Rattle.std.proofs.Common.{◌∙◌}
use Rattle.ssf_model.proofs.Reopened.{is_opening, entities_may, all_long}
use Rattle.ssf_model.proofs.plan.Plan.lawful.Goals as goal

pub returns-then-not-can_all_open : goal.returns-then-not-can_all_open
returns-then-not-can_all_open g c = (
  (λ h. absurd (cc)),
  (λ is.
      let may = entities_may (g.B.Behaviour.valid c.args.self.now.behaviour) (g.B.Behaviour.carried c.args.self.now.behaviour) c.args.self.now c.args.opening.now is in
      let yes = c.can_all_open.ensures.1 (rw (c.as_slice-entities.ensures, c.as_slice.ensures) may) in
      let no = c.if-not-can_all_open.true in absurd (cc)),
)

pub are_pending-requires-clause-shape : goal.are_pending-requires-clause-shape
are_pending-requires-clause-shape g c κs within =
    let may = rw (c.as_slice-entities.ensures, c.as_slice.ensures) at (c.can_all_open.ensures.0 c.if-not-can_all_open.false) in
    record {
      entities = all_long (g.B.Behaviour.valid c.args.self.now.behaviour) c.args.self.now.entities c.args.opening.now.entities may;
      counts = (c.is_in_range.ensures.0 c.if-not-is_in_range.false).0 ∙ c.len.ensures;
    }

pub returns-then-are_rising : goal.returns-then-are_rising
returns-then-are_rising g c =
    let may = rw (c.as_slice-entities.ensures, c.as_slice.ensures) at (c.can_all_open.ensures.0 c.if-not-can_all_open.false) in
    let range = c.is_in_range.ensures.0 c.if-not-is_in_range.false in
    let rising = rw c.as_slice-2.ensures at (c.are_rising.ensures.0 c.if-are_rising.true) in (
      (λ h.
          is_opening (g.B.Behaviour.valid c.args.self.now.behaviour) (g.B.Behaviour.carried c.args.self.now.behaviour) c.args.self.now c.args.opening.now c.requires (range.0 ∙ c.len.ensures) range.1 range.2 may rising
          (c.are_pending.ensures.0 h)),
      (λ is. c.are_pending.ensures.1 is.opened.pending),
    )
