use Rattle.std.proofs.Common.{ap, ◌∙◌, map}
use Rattle.std.specs.List.{fold}
use Rattle.trace_writer.specs.Merging.{entries_before}
use Rattle.trace_writer.specs.Report.{events_of}
use Rattle.trace_writer.specs.Tallying.{with_entry}
use Rattle.core_traces.specs.Kept.{history_in, histories_of}
use Rattle.step_run.proofs.Tallied.{tallied_merged}
use Rattle.step_run.proofs.records.Records.write_below.Goals as goal

pub returns-clause-tally : goal.returns-clause-tally
returns-clause-tally g c =
    tallied_merged c.args.tally.now c.add_before.new.tally (histories_of c.args.core.now) c.args.below
    (c.add_before.ensures
    ∙ ap (λ ts. fold with_entry c.args.tally.now (entries_before c.args.below (events_of (map history_in ts)))) c.histories.ensures)
