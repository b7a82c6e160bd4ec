use Rattle.timeline_parts.proofs.Tables.{numbers_set}
use Rattle.timeline.proofs.executing.act.Goals as goal

pub returns-in_err-deliver-clause-numbers : goal.returns-in_err-deliver-clause-numbers
returns-in_err-deliver-clause-numbers g c = numbers_set c.args.entities.now.items c.args.place c.index_mut.result.now c.deliver.new.self c.index_mut.ensures.value

pub returns-in_err-lines-clause-numbers : goal.returns-in_err-lines-clause-numbers
returns-in_err-lines-clause-numbers g c = numbers_set c.args.entities.now.items c.args.place c.index_mut.result.now c.deliver.new.self c.index_mut.ensures.value

pub returns-clause-numbers : goal.returns-clause-numbers
returns-clause-numbers g c = numbers_set c.args.entities.now.items c.args.place c.index_mut.result.now c.deliver.new.self c.index_mut.ensures.value
