-- The miniature post: a sender at place 0, a mail at place 1, and one posted word that speaks of both.
use Rattle.std.specs.Prelude.{[], ◌∷◌}
use Rattle.turn_table.specs.declared.view.Shape.{Shape}

abbrev pub post_shape : Shape
post_shape = record { places = 2; words = (0, 1) ∷ []; clears = [] }
