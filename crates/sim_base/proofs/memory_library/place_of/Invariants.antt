use Rattle.std.proofs.Common.{◌≡◌, drop}
use Rattle.sim_base.specs.Outside.{first_file}
use Rattle.sim_base.proofs.memory_library.place_of.Given as goal

-- no file up to here has the name
abbrev pub invariant-loop-place : goal.invariant-loop-place
invariant-loop-place l = first_file l.files l.name ≡ first_file (drop l.place l.files) l.name
