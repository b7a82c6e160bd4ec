use Rattle.std.proofs.Common.{sym, ◌∙◌, arith}
use Rattle.std.specs.Prelude.{decimal}
use Rattle.model_gen.proofs.Texts.{onto, pattern_is, after_client, pattern_end}
use Rattle.model_gen.proofs.traffic.push_pattern.Goals as goal

pub returns : goal.returns
returns c =
    onto pattern_end (onto (decimal c.args.server) (onto after_client (onto (decimal c.args.i)
    c.in_ok-extend_from_slice.ensures.items
    c.in_ok-push_decimal.ensures)
    c.in_ok-extend_from_slice-2.ensures.items)
    c.in_ok-push_decimal-2.ensures)
    c.in_ok-extend_from_slice-3.ensures.items
    ∙ sym (pattern_is c.args.out.now.items c.args.i c.args.server (omega arith) (omega arith))
