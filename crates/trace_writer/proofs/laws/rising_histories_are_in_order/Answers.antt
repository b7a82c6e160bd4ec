use Rattle.trace_writer.proofs.Writing.{rising_in_order}
use Rattle.trace_writer.proofs.laws.rising_histories_are_in_order.Goals as goal

pub returns : goal.returns
returns c = rising_in_order
