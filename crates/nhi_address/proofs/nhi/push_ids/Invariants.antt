use Rattle.std.proofs.Common.{◌≡◌, ◌++◌, take}
use Rattle.nhi_address.specs.NhiText.{ids_text}
use Rattle.nhi_address.proofs.nhi.push_ids.Given as goal

abbrev pub invariant-loop-place : goal.invariant-loop-place
invariant-loop-place l = l.out.items ≡ l.fn.out.items ++ ids_text (take l.place l.ids)
