-- What the outside tells, and what one call of it does. An object that does not tell is held to nothing.
use Rattle.std.specs.Prelude.{ℕ, ◌≡◌, ◌<◌, ◌≤◌, ◌-◌, ◌^◌, ◌⊎◌, if◌then◌else◌, nat_eq, List, [], ◌∷◌, ◌++◌, length, take, drop, Option, Some, None, IfSome}
use Rattle.std.specs.Cmp.Lexicographic.{pointwise}

-- from a name to the bytes of that file, where there is one
abbrev pub Files : Type 0
Files = List ℕ → Option (List ℕ)

-- a count rose, or stands at its last value
abbrev pub Rose : ℕ → ℕ → Type 0
Rose old new = (old < new) ⊎ (new ≡ 2 ^ 64 - 1)

-- where the bytes held are told, they are told again, with this piece behind them
abbrev pub Appends : List ℕ → Option (List ℕ) → Option (List ℕ) → Type 0
Appends piece old new = IfSome old (λ bytes. new ≡ Some (bytes ++ piece))

-- where the bytes held are told, they are told again, with a part of this text from its beginning behind them
abbrev pub AppendsPrefix : List ℕ → Option (List ℕ) → Option (List ℕ) → Type 0
AppendsPrefix text old new = IfSome old (λ bytes. (n : ℕ) × (n ≤ length text) × (new ≡ Some (bytes ++ take n text)))

-- where the files are told, this name is among them, and all its bytes are still to be read
abbrev pub Fetches : Option Files → List ℕ → Option (List ℕ) → Type 0
Fetches files name ahead = IfSome files (λ told. (bytes : List ℕ) × (told name ≡ Some bytes) × (ahead ≡ Some bytes))

-- the n bytes at the beginning of the buffer are the next ones of these, and the others are still to be read;
-- none into a buffer with room is the end
pub record IsRead (n : ℕ) (buffer bytes : List ℕ) (ahead : Option (List ℕ)) : Type 0 where
  pub within : n ≤ length bytes
  pub next : take n buffer ≡ take n bytes
  pub rest : ahead ≡ Some (drop n bytes)
  pub at_end : n ≡ 0 → 0 < length buffer → bytes ≡ []

-- what a read of n bytes says where the bytes ahead are told
abbrev pub Reads : ℕ → List ℕ → Option (List ℕ) → Option (List ℕ) → Type 0
Reads n buffer old new = IfSome old (λ bytes. IsRead n buffer bytes new)

-- where the files are told, this is the whole file of that name
abbrev pub IsFile : Option Files → List ℕ → List ℕ → Type 0
IsFile files name bytes = IfSome files (λ told. told name ≡ Some bytes)

-- where the files are told, the file of that name is longer than this
abbrev pub IsLonger : Option Files → List ℕ → ℕ → Type 0
IsLonger files name most = IfSome files (λ told. (bytes : List ℕ) × (told name ≡ Some bytes) × (most < length bytes))

-- the file that pairs of a name and its contents give: the first of that name
abbrev pub first_file : List (List ℕ × List ℕ) → Files
first_file [] name = None
first_file (file ∷ files) name = if pointwise nat_eq file.0 name then Some file.1 else first_file files name
