use Rattle.ssf_model.proofs.Reopened.{may_open_read, may_read}
use Rattle.ssf_model.proofs.opening.can_open.Goals as goal

pub returns-then-not-is_valid : goal.returns-then-not-is_valid
returns-then-not-is_valid g c = (
  (λ h. absurd (cc)),
  (λ may.
      let read = may_read (g.B.Behaviour.valid c.args.behaviour.now) c.args.entity.now c.args.opened.now c.as_slice-processes.result.now c.as_slice-waits.result.now
      c.as_slice-tickets.result.now c.as_slice-ins.result.now c.as_slice-outs.result.now c.as_slice-processes.ensures c.as_slice-waits.ensures c.as_slice-tickets.ensures c.as_slice-ins.ensures c.as_slice-outs.ensures may in
      let yes = c.is_valid.ensures.1 read.is in
      let no = c.if-not-is_valid.true in absurd (cc)),
)

pub returns-then-can_all_wait : goal.returns-then-can_all_wait
returns-then-can_all_wait g c = (
  (λ h.
      may_open_read (g.B.Behaviour.valid c.args.behaviour.now) c.args.entity.now c.args.opened.now c.as_slice-processes.result.now c.as_slice-waits.result.now
      c.as_slice-tickets.result.now c.as_slice-ins.result.now c.as_slice-outs.result.now c.as_slice-processes.ensures c.as_slice-waits.ensures c.as_slice-tickets.ensures c.as_slice-ins.ensures c.as_slice-outs.ensures
      c.requires.few c.if-waits-processes.false c.if-tickets-processes.false (c.is_valid.ensures.0 c.if-not-is_valid.false) (c.can_all_wait.ensures.0 c.if-can_all_wait.true) (c.are_at_most.ensures.0 h)),
  (λ may.
      let read = may_read (g.B.Behaviour.valid c.args.behaviour.now) c.args.entity.now c.args.opened.now c.as_slice-processes.result.now c.as_slice-waits.result.now
      c.as_slice-tickets.result.now c.as_slice-ins.result.now c.as_slice-outs.result.now c.as_slice-processes.ensures c.as_slice-waits.ensures c.as_slice-tickets.ensures c.as_slice-ins.ensures c.as_slice-outs.ensures may in
      c.are_at_most.ensures.1 read.few),
)

pub returns-else-can_all_wait : goal.returns-else-can_all_wait
returns-else-can_all_wait g c = (
  (λ h. let no = c.if-can_all_wait.false in absurd (cc)),
  (λ may.
      let read = may_read (g.B.Behaviour.valid c.args.behaviour.now) c.args.entity.now c.args.opened.now c.as_slice-processes.result.now c.as_slice-waits.result.now
      c.as_slice-tickets.result.now c.as_slice-ins.result.now c.as_slice-outs.result.now c.as_slice-processes.ensures c.as_slice-waits.ensures c.as_slice-tickets.ensures c.as_slice-ins.ensures c.as_slice-outs.ensures may in
      c.can_all_wait.ensures.1 read.may),
)
