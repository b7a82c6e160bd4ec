-- What a shape says of a table: its places, the count words with the places that each speaks of, and the marks that are lost where a turn is taken.
use Rattle.std.specs.Prelude.{◌≡◌, ℕ, ◌==◌, ◌<◌, ◌⊎◌, Bool, false, ◌&&◌, ◌||◌, List, [], ◌∷◌, length, slice_index_or}
use Rattle.turn_table.specs.declared.view.Shape.{Shape}

-- how many places there are
abbrev pub places_in : Shape → ℕ
places_in s = s.places

-- how many count words there are
abbrev pub words_in : Shape → ℕ
words_in s = length s.words

-- the two places of which the count word c speaks, which may be one place twice
abbrev pub spoken : Shape → ℕ → ℕ × ℕ
spoken s c = slice_index_or s.words c (0, 0)

-- the count word c speaks of the place p
abbrev pub Speaks : Shape → ℕ → ℕ → Type 0
Speaks s c p = (c < words_in s) × ((spoken s c).0 ≡ p ⊎ (spoken s c).1 ≡ p)

-- a word that speaks of one place alone is marked by those who read or write it
abbrev pub is_marked : Shape → ℕ → Bool
is_marked s c = (spoken s c).0 == (spoken s c).1

-- the pair (p, c) is among these
abbrev pub is_listed : List (ℕ × ℕ) → ℕ → ℕ → Bool
is_listed [] p c = false
is_listed (x ∷ xs) p c = (p == x.0 && c == x.1) || is_listed xs p c

-- a mark of the word c is lost where the turn of the place p is taken
abbrev pub is_cleared : Shape → ℕ → ℕ → Bool
is_cleared s p c = is_listed s.clears p c
