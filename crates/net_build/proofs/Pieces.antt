-- Texts of pieces, one piece more.
use Rattle.std.proofs.Common.{◌≡◌, ℕ, ◌+◌, List, [], ◌++◌, refl, sym, ap, ◌∙◌, append_assoc, add-one, subst}
use Rattle.std.proofs.lemmas.List.{append-nil}
use Rattle.net_build.specs.PlanText.{AreTexts}

-- so many pieces stand behind a text
abbrev pub Behind : (ℕ → List ℕ → Type 0) → List ℕ → List ℕ → ℕ → Type 0
Behind P old now n = (text : List ℕ) × AreTexts P n text × (now ≡ old ++ text)

pub no_texts : (P : ℕ → List ℕ → Type 0) (old : List ℕ) → Behind P old old 0
no_texts P old = ([], refl, sym (append-nil old))

texts_next : (P : ℕ → List ℕ → Type 0) (n : ℕ) (before piece : List ℕ) → AreTexts P n before → P n piece → AreTexts P (n + 1) (before ++ piece)
texts_next P n before piece h p = subst (λ k. AreTexts P k (before ++ piece)) (sym (add-one n)) (before, piece, h, p, refl)

pub more_texts : (P : ℕ → List ℕ → Type 0) (old mid now : List ℕ) (n : ℕ) → Behind P old mid n → (text : List ℕ) × P n text × (now ≡ mid ++ text) → Behind P old now (n + 1)
more_texts P old mid now n before more = (
  before.0 ++ more.0,
  texts_next P n before.0 more.0 before.1 more.1,
  more.2 ∙ ap (λ xs. xs ++ more.0) before.2 ∙ append_assoc old before.0 more.0,
)
