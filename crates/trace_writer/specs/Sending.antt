-- A text that is sent in pieces: some of it stands on the sink, and the rest is still held back. No public clause cites this file.
use Rattle.std.specs.Prelude.{ℕ, ◌≡◌, List, ◌++◌, Option, Some, IfSome}

-- where the bytes held are told, this text was sent behind them but for the rest
abbrev pub Sends : List ℕ → List ℕ → Option (List ℕ) → Option (List ℕ) → Type 0
Sends text rest old new = IfSome old (λ bytes. (sent : List ℕ) × (text ≡ sent ++ rest) × (new ≡ Some (bytes ++ sent)))
