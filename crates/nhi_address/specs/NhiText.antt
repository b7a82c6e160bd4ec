-- The text of an NHI, both ways.
use Rattle.std.specs.Prelude.{ℕ, ◌-◌, nat_eq, ◌&&◌, List, [], ◌∷◌, ◌++◌, length, map, drop, Option, Some, None, if◌then◌else◌, decimal, slice_index}
use Rattle.std.specs.Option.{option_map}
use Rattle.std.specs.List.{slice_split, slice_range, before_first, position_or_len, join_with_byte}
use Rattle.nhi_address.specs.NhiFields.{NhiFields}
use Rattle.nhi_address.specs.Number.{number_of}

-- an id has 1 to 10 digits and is at most 2^31 - 1
abbrev pub id_of : List ℕ → Option ℕ
id_of text = number_of 10 0 2147483647 text

abbrev pub all_with : Option ℕ → Option (List ℕ) → Option (List ℕ)
all_with None more = None
all_with (Some x) more = option_map (λ xs. x ∷ xs) more

-- all of these, where each of them is there
abbrev pub all_of : List (Option ℕ) → Option (List ℕ)
all_of [] = Some []
all_of (x ∷ more) = all_with x (all_of more)

-- ids that colons join
abbrev pub ids_of : List ℕ → Option (List ℕ)
ids_of text = all_of (map id_of (slice_split (λ b. nat_eq b 58) text))

-- nothing, or an id in brackets
abbrev pub interface_of : List ℕ → Option (Option ℕ)
interface_of text = if nat_eq (length text) 0 then Some None
    else if nat_eq (slice_index text 0) 40 && nat_eq (slice_index text (length text - 1)) 41
    then option_map Some (id_of (slice_range text 1 (length text - 1)))
    else None

abbrev pub nhi_with : Option (List ℕ) → Option (Option ℕ) → Option NhiFields
nhi_with None interface = None
nhi_with (Some ids) None = None
nhi_with (Some ids) (Some interface) = Some (record { ids = ids; interface = interface })

-- the NHI that a text spells: ids up to the first opening bracket, and what stands from there on
abbrev pub nhi_of : List ℕ → Option NhiFields
nhi_of text = nhi_with (ids_of (before_first (λ b. nat_eq b 40) text)) (interface_of (drop (position_or_len (λ b. nat_eq b 40) text) text))

-- ids in decimal, with a colon between each two
abbrev pub ids_text : List ℕ → List ℕ
ids_text ids = join_with_byte 58 (map decimal ids)

-- nothing, or the id of an interface in brackets
abbrev pub interface_text : Option ℕ → List ℕ
interface_text None = []
interface_text (Some id) = 40 ∷ decimal id ++ 41 ∷ []

-- how an NHI is printed
abbrev pub nhi_text : NhiFields → List ℕ
nhi_text nhi = ids_text nhi.ids ++ interface_text nhi.interface
