-- Worked rows: four sessions, the third of which was opened between the same ends as the first was accepted.
use Rattle.std.proofs.Common.{◌≡◌, ℕ, refl, List, [], ◌∷◌, Option, Some, None}
use Rattle.session_table.specs.declared.entry.Sockets.{Sockets}
use Rattle.session_table.specs.declared.entry.Entry.{Entry}
use Rattle.session_table.specs.Entries.{found, least, placed, without}

abbrev ends : ℕ → Sockets
ends port = record { own = 1; own_port = 80; peer = 2; peer_port = port }

abbrev session : ℕ → ℕ → Option ℕ → Option ℕ → Entry ℕ
session number port client deadline = record { number = number; sockets = ends port; client = client; deadline = deadline; session = 0 }

abbrev table : List (Entry ℕ)
table = session 1 7 None (Some 50) ∷ session 2 8 (Some 0) None ∷ session 5 7 (Some 0) (Some 40) ∷ []

accepted_first : found (ends 7) table ≡ Some 1
accepted_first = refl

opened_else : found (ends 7) (without 1 table) ≡ Some 5
opened_else = refl

nobody : found (ends 9) table ≡ None
nobody = refl

earliest : least table ≡ Some 40
earliest = refl

no_deadline : least (without 1 (without 5 table)) ≡ None
no_deadline = refl

in_its_place : placed (session 3 9 None None) (without 5 table) ≡ session 1 7 None (Some 50) ∷ session 2 8 (Some 0) None ∷ session 3 9 None None ∷ []
in_its_place = refl
