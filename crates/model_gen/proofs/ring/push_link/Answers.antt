use Rattle.std.proofs.Common.{◌+◌, ◌%◌, ◌<◌, sym, ◌∙◌, arith}
use Rattle.std.specs.Prelude.{decimal}
use Rattle.std.proofs.Math.Nat.{mod-lt}
use Rattle.model_gen.specs.Campus.{next_net}
use Rattle.model_gen.proofs.Texts.{onto, link_is, after_first, after_second, link_end}
use Rattle.model_gen.proofs.ring.push_link.Goals as goal

pub returns : goal.returns
returns c =
    let i = c.args.i in
    let size = c.args.size in
    let some : 0 < size = omega arith in
    let within : (i + 1) % size < size = mod-lt (i + 1) some in
    onto link_end (onto (decimal c.args.delay) (onto after_second (onto (decimal (next_net size i)) (onto after_first (onto (decimal i)
    c.in_ok-extend_from_slice.ensures.items
    c.in_ok-push_decimal.ensures)
    c.in_ok-extend_from_slice-2.ensures.items)
    c.in_ok-push_decimal-2.ensures)
    c.in_ok-extend_from_slice-3.ensures.items)
    c.in_ok-push_decimal-3.ensures)
    c.in_ok-extend_from_slice-4.ensures.items
    ∙ sym (link_is c.args.out.now.items size i c.args.delay (omega arith) (omega arith) (omega arith))
