-- A line of eight fields that were appended one after another.
use Rattle.std.proofs.Common.{ℕ, ◌≡◌, List, [], ◌∷◌, ◌++◌, append_assoc}
use Rattle.trace_writer.specs.Fields.{line_of}

-- pieces that were appended one after another stand in their order
in_order : (a b c d e f g h end : List ℕ) → (((((((a ++ b) ++ c) ++ d) ++ e) ++ f) ++ g) ++ h) ++ end ≡ (a ++ (b ++ (c ++ (d ++ (e ++ (f ++ (g ++ h))))))) ++ end
in_order a b c d e f g h end = simp append_assoc

pub line_made : (a b c d e f g h l0 l1 l2 l3 l4 l5 l6 l7 l8 l9 : List ℕ) → l0 ≡ [] → l1 ≡ l0 ++ a → l2 ≡ l1 ++ 32 ∷ b → l3 ≡ l2 ++ 32 ∷ c → l4 ≡ l3 ++ 32 ∷ d
    → l5 ≡ l4 ++ 32 ∷ e → l6 ≡ l5 ++ 32 ∷ f → l7 ≡ l6 ++ 32 ∷ g → l8 ≡ l7 ++ 32 ∷ h → l9 ≡ l8 ++ 10 ∷ []
    → l9 ≡ line_of (a ∷ b ∷ c ∷ d ∷ e ∷ f ∷ g ∷ h ∷ [])
line_made a b c d e f g h l0 l1 l2 l3 l4 l5 l6 l7 l8 l9 e0 e1 e2 e3 e4 e5 e6 e7 e8 e9 =
    rw (e9, e8, e7, e6, e5, e4, e3, e2, e1, e0) (in_order a (32 ∷ b) (32 ∷ c) (32 ∷ d) (32 ∷ e) (32 ∷ f) (32 ∷ g) (32 ∷ h) (10 ∷ []))
