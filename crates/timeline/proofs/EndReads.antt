-- What is read of the tables of ends.
use Rattle.std.proofs.Common.{◌≡◌, ℕ, ◌<◌, List, length, get_or, ap, Option, option_map, unwrap_or}
use Rattle.timeline_parts.specs.declared.ends.InEnd.{InEnd}
use Rattle.timeline_parts.specs.Tables.{numbers_of, AreNumbered}
use Rattle.timeline_parts.proofs.Tables.{item_here}
use Rattle.timeline.specs.Holding.{taken_of, held_of}

pub taken_here : (xs : List (ℕ × InEnd)) (n i : ℕ) (x : ℕ × InEnd) → AreNumbered xs → i < length xs → get_or (numbers_of xs) i 0 ≡ n → x ≡ get_or xs i x → taken_of xs n ≡ x.1.taken
taken_here xs n i x r h p e = ap (λ (o : Option InEnd). unwrap_or (option_map (λ (y : InEnd). y.taken) o) 0) (item_here xs n i x r h p e)

pub held_here : (xs : List (ℕ × InEnd)) (n i : ℕ) (x : ℕ × InEnd) → AreNumbered xs → i < length xs → get_or (numbers_of xs) i 0 ≡ n → x ≡ get_or xs i x → held_of xs n ≡ x.1.held
held_here xs n i x r h p e = ap (λ (o : Option InEnd). unwrap_or (option_map (λ (y : InEnd). y.held) o) 0) (item_here xs n i x r h p e)
