use Rattle.std.proofs.Common.{arith}
use Rattle.std.proofs.lemmas.Grind.{common_steps}
use Rattle.nhi_address.proofs.NhiTexts.{ids_text_first, ids_text_more}
use Rattle.nhi_address.proofs.nhi.push_ids.Goals as goal
use Rattle.nhi_address.proofs.nhi.push_ids.Goals.{then-place-gt0+in_ok-push, else-place-gt0}

pub loop-place-preserved : goal.loop-place-preserved
loop-place-preserved c = elim c.if-place-gt0.branch [
  | then-place-gt0+in_ok-push w ↦ grind (arith, common_steps, ids_text_more c.args.ids.now c.loop-place.place (omega arith) (omega arith), c.in_ok-push_number.ensures.appended, w.in_ok-push.ensures.items)
  | else-place-gt0 w ↦ grind (arith, common_steps, ids_text_first c.args.ids.now c.loop-place.place (omega arith) (omega arith), c.in_ok-push_number.ensures.appended)
]
