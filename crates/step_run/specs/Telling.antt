-- What was written of a run so far, and what a tally counts of it.
use Rattle.std.specs.Prelude.{ℕ, ◌≡◌, ◌++◌, List}
use Rattle.ssf_model.specs.declared.event.Entry.{Entry}
use Rattle.trace_writer.specs.Merging.{Room}
use Rattle.trace_writer.specs.Report.{Totals, totals_of}

-- the most records that are counted: the last number of 64 bits
abbrev pub MostCounted : ℕ
MostCounted = 18446744073709551615

-- the room for writing, how many records were written, and the time below which all were
pub record Told : Type 0 where
  pub room : Room
  pub count : ℕ
  pub below : ℕ

-- a tally of any entries became one of these and the new ones
abbrev pub IsTallied : Totals → Totals → List Entry → Type 0
IsTallied before after entries = (told : List Entry) → before ≡ totals_of told → after ≡ totals_of (told ++ entries)
