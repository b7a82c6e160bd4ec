-- What the actions of one event write and tell, in order.
use Rattle.std.specs.Prelude.{List}
use Rattle.ssf_model.specs.declared.out.Written.{Written}
use Rattle.ssf_model.specs.declared.event.Line.{Line}

pub record Output (P : Type 0) : Type 0 where
  pub writes : List (Written P)
  pub lines : List Line
