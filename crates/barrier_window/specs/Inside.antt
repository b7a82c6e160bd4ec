-- How a barrier is kept. No public clause cites this file.
use Rattle.std.specs.Prelude.{◌≡◌, ◌+◌}
use Rattle.barrier_window.specs.declared.barrier.Barrier.TheInside.{Inside}
use Rattle.barrier_window.specs.BarrierFields.{BarrierFields, IsBarrier}
use Rattle.barrier_window.specs.Crossings.{first_without, least_report}

abbrev pub fields_of : Inside → BarrierFields
fields_of i = record { lookahead = i.lookahead; until = i.until; round = i.round; window = i.window; channels = i.channels.items; counts = i.counts.items; sent = i.sent.items; reports = i.reports.items; ended = i.ended }

-- the fields are in their ranges, and two of them are what the reports say
pub record IsBarrierInside (i : Inside) : Type 0 where
  pub fields : IsBarrier (fields_of i)
  pub waiting : i.waiting ≡ first_without 0 i.reports.items
  pub least : i.least ≡ least_report (i.until + 1) i.reports.items
