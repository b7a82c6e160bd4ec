use Rattle.std.proofs.Common.{◌≡◌, ◌++◌, List, ℕ, length}
use Rattle.std.specs.Option.{option_map}
use Rattle.nhi_address.specs.NhiText.{ids_of}
use Rattle.nhi_address.proofs.read.read_ids.Given as goal

abbrev pub invariant-loop-colon : goal.invariant-loop-colon
invariant-loop-colon l = ids_of l.bytes ≡ option_map (λ (more : List ℕ). l.ids.items ++ more) (ids_of l.rest)

abbrev pub decreases-loop-colon : goal.decreases-loop-colon
decreases-loop-colon l = length l.rest
