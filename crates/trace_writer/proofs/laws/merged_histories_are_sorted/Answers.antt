use Rattle.trace_writer.proofs.Writing.{merged_from, merged_whole, merged_rises}
use Rattle.trace_writer.proofs.laws.merged_histories_are_sorted.Goals as goal

pub returns-clause-from : goal.returns-clause-from
returns-clause-from c = merged_from

pub returns-clause-whole : goal.returns-clause-whole
returns-clause-whole c = merged_whole

pub returns-clause-rises : goal.returns-clause-rises
returns-clause-rises c = merged_rises
