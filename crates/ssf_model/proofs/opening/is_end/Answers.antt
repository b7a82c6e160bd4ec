use Rattle.std.proofs.Common.{◌≤◌, subst, List, length}
use Rattle.ssf_model.specs.declared.process.Process.{Process}
use Rattle.ssf_model.proofs.Reopened.{end_iff_read, no_end_read, past_end}
use Rattle.ssf_model.proofs.opening.is_end.Goals as goal

pub returns-then-place-processes : goal.returns-then-place-processes
returns-then-place-processes g c = (
  (λ h. absurd (cc)),
  (λ has.
      let past : length c.args.entity.now.processes ≤ c.args.process = subst (λ (ps : List Process). length ps ≤ c.args.process) c.as_slice-processes.ensures c.if-place-processes.true in
      absurd (past_end c.args.entity.now.processes c.args.opened.now.waits c.args.opened.now.tickets c.args.process c.args.channel c.args.ticket c.requires.waits c.requires.tickets past has)),
)

pub returns-then-is_timer : goal.returns-then-is_timer
returns-then-is_timer g c =
    end_iff_read c.args.entity.now.processes c.as_slice-processes.result.now c.args.opened.now.waits c.as_slice.result.now c.args.opened.now.tickets c.as_slice-2.result.now c.args.process
    c.index-processes-place.result c.index-as_slice-place.result c.args.channel c.args.ticket c.is_given.result c.as_slice-processes.ensures c.as_slice.ensures c.as_slice-2.ensures c.requires.waits c.requires.tickets
    c.if-place-processes.false c.index-processes-place.is c.index-as_slice-place.is (c.is_timer.ensures.0 c.if-is_timer.true) c.is_given.ensures

pub returns-else-is_timer : goal.returns-else-is_timer
returns-else-is_timer g c = (
  (λ h. absurd (let no = c.if-is_timer.false in cc)),
  (λ has.
      absurd (no_end_read c.args.entity.now.processes c.as_slice-processes.result.now c.args.opened.now.waits c.as_slice.result.now c.args.opened.now.tickets c.args.process
      c.index-processes-place.result c.index-as_slice-place.result c.args.channel c.args.ticket c.as_slice-processes.ensures c.as_slice.ensures c.requires.waits c.requires.tickets
      c.if-place-processes.false c.index-processes-place.is c.index-as_slice-place.is (λ on. let yes = c.is_timer.ensures.1 on in let no = c.if-is_timer.false in cc) has)),
)
