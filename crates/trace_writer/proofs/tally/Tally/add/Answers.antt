-- One more event.
use Rattle.trace_writer.proofs.Tallies.{tally-with_entry}
use Rattle.trace_writer.proofs.tally.Tally.add.Goals as goal

pub returns-clause-tally : goal.returns-clause-tally
returns-clause-tally c entries is =
    tally-with_entry _ _ _ c.args.entry.now _ entries c.add_event.ensures c.as_slice.ensures c.add_lines.ensures is
