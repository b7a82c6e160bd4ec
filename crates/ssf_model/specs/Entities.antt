-- Entities in a valid state.
use Rattle.std.specs.Prelude.{◌≤◌, ◌^◌, length, map}
use Rattle.ssf_model.specs.declared.entity.Entity.{Entity}
use Rattle.ssf_model.specs.Reaction.{Validity, is_timed, wait_of}

-- the state is valid for the entity's channels, processes and waits; its processes are numbered in 32 bits
pub record IsValidEntity {B S P : Type 0} (valid : Validity S) (e : Entity B S P) : Type 0 where
  pub state : valid e.state e.in_channels e.out_channels (map is_timed e.processes) (map wait_of e.processes)
  pub few : length e.processes ≤ 2 ^ 32
