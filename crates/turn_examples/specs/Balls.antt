-- Four places, and no count words.
use Rattle.std.specs.Prelude.{[]}
use Rattle.turn_table.specs.declared.view.Shape.{Shape}

abbrev pub ball_shape : Shape
ball_shape = record { places = 4; words = []; clears = [] }
