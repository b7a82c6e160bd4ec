-- What contracts see of an NHI.
use Rattle.std.specs.Prelude.{ℕ, ◌<◌, ◌^◌, List, length, Option}
use Rattle.std.specs.Option.{ForSome}
use Rattle.std.specs.List.{All}

-- the ids of the Nets and of the host, and perhaps the id of an interface
pub record NhiFields : Type 0 where
  pub ids : List ℕ
  pub interface : Option ℕ

-- an id of a Net, a host or an interface
abbrev pub IsId : ℕ → Type 0
IsId id = id < 2 ^ 31

-- there is a host, and all ids are in their range
pub record IsNhi (nhi : NhiFields) : Type 0 where
  pub some : 0 < length nhi.ids
  pub within : All IsId nhi.ids
  pub interface : ForSome nhi.interface IsId
