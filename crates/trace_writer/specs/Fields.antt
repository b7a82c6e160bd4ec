-- Lines of fields, and how addresses are written.
use Rattle.std.specs.Prelude.{ℕ, ◌/◌, ◌%◌, ◌^◌, List, [], ◌∷◌, ◌++◌, decimal}
use Rattle.std.specs.List.{join_with_byte}

-- fields with a space between each two, and a line feed behind them
abbrev pub line_of : List (List ℕ) → List ℕ
line_of fields = join_with_byte 32 fields ++ 10 ∷ []

-- an IPv4 address: its four bytes in decimal, with a point between each two
abbrev pub address_text : ℕ → List ℕ
address_text a =
    join_with_byte 46 (decimal (a / 2 ^ 24) ∷ decimal (a / 2 ^ 16 % 2 ^ 8) ∷ decimal (a / 2 ^ 8 % 2 ^ 8) ∷ decimal (a % 2 ^ 8) ∷ [])

-- the end of a connection: an address and a port, with a colon between them
abbrev pub peer_text : ℕ → ℕ → List ℕ
peer_text address port = address_text address ++ 58 ∷ decimal port
