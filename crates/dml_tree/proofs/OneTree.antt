-- A list of tokens spells at most one tree.
use Rattle.std.proofs.Common.{◌≡◌, ℕ, ◌+◌, List, [], ◌∷◌, ◌++◌, slice_range, refl, ap, sym, ◌∙◌, subst, append_assoc}
use Rattle.dml_lexer.specs.declared.lexer.Token.{Token}
use Rattle.dml_lexer.specs.declared.lexer.TokenKind.{TokenKind}
use Rattle.dml_lexer.specs.declared.lexer.TokenKind.TheVariants.{Word, Quoted, LeftBracket, RightBracket}
use Rattle.dml_tree.specs.declared.tree.Place.{Place}
use Rattle.dml_tree.specs.Attributes.{Attributes, none, plain, list}
use Rattle.dml_tree.specs.Grammar.{Spells, IsKey, IsText, IsTextOf}

-- nothing, or a closing bracket
abbrev Closes : List Token → Type 0
Closes [] = Unit {0}
Closes (r ∷ more) = r.kind ≡ RightBracket

no_key : (x : List Token) (k : Token) (l : List Token) → Closes x → x ≡ k ∷ l → k.kind ≡ Word → ⊥
no_key [] k l c e w = cc
no_key (r ∷ more) k l c e w =
    let same : r ≡ k = cc in
    let kinds : RightBracket ≡ Word = sym c ∙ ap (λ t. t.kind) same ∙ w in
    cc

same_text : (bytes : List ℕ) (kind : TokenKind) (from to : ℕ) (t u : List ℕ) → IsTextOf bytes kind from to t → IsTextOf bytes kind from to u → t ≡ u
same_text bytes Word from to t u h g = h ∙ sym g
same_text bytes Quoted from to t u h g = h ∙ sym g
same_text bytes LeftBracket from to t u h g = absurd h
same_text bytes RightBracket from to t u h g = absurd h

no_text : (bytes : List ℕ) (v l : Token) (text : List ℕ) → v ≡ l → IsText bytes v text → l.kind ≡ LeftBracket → ⊥
no_text bytes v l text e is left = subst (λ k. IsTextOf bytes k v.from v.to text) (ap (λ t. t.kind) e ∙ left) is

same_key : (file : ℕ) (bytes : List ℕ) (k j : Token) (key other : List ℕ) (place there : Place) → k ≡ j → IsKey file bytes k key place → IsKey file bytes j other there → key ≡ other
same_key file bytes k j key other place there e a b = a.text ∙ ap (λ t. slice_range bytes t.from t.to) e ∙ sym b.text

same_place : (file : ℕ) (bytes : List ℕ) (k j : Token) (key other : List ℕ) (place there : Place) → k ≡ j → IsKey file bytes k key place → IsKey file bytes j other there → place ≡ there
same_place file bytes k j key other place there e a b =
    let at : ℕ → Place = λ n. record { file = file; at = n } in
    a.at ∙ ap (λ t. at t.from) e ∙ sym b.at

same_front : (a b x y c d : List Token) → a ≡ c → a ++ x ≡ b ++ y → b ≡ d → c ++ x ≡ d ++ y
same_front a b x y c d ea e eb = ap (λ l. l ++ x) (sym ea) ∙ e ∙ ap (λ l. l ++ y) eb

module _ (file : ℕ) (bytes : List ℕ) where
  pub unique : (depth : ℕ) (t u : Attributes) (a b x y : List Token) → Spells file bytes depth a t → Spells file bytes depth b u → a ++ x ≡ b ++ y → Closes x → Closes y → (t ≡ u) × (x ≡ y)
  unique depth none none a b x y ea eb e cx cy = (refl, same_front a b x y [] [] ea e eb)
  unique depth none (plain key place text rest) a b x y ea (k, v, m, eb, ik, it, s) e cx cy =
      absurd (no_key x k (v ∷ (m ++ y)) cx (same_front a b x y [] (k ∷ v ∷ m) ea e eb) ik.word)
  unique depth none (list key place inner rest) a b x y ea (k, l, body, r, m, eb, ik, left, right, few, si, s) e cx cy =
      absurd (no_key x k (l ∷ ((body ++ r ∷ m) ++ y)) cx (same_front a b x y [] (k ∷ l ∷ (body ++ r ∷ m)) ea e eb) ik.word)
  unique depth (plain key place text rest) none a b x y (k, v, m, ea, ik, it, s) eb e cx cy =
      absurd (no_key y k (v ∷ (m ++ x)) cy (sym (same_front a b x y (k ∷ v ∷ m) [] ea e eb)) ik.word)
  unique depth (list key place inner rest) none a b x y (k, l, body, r, m, ea, ik, left, right, few, si, s) eb e cx cy =
      absurd (no_key y k (l ∷ ((body ++ r ∷ m) ++ x)) cy (sym (same_front a b x y (k ∷ l ∷ (body ++ r ∷ m)) [] ea e eb)) ik.word)
  unique depth (plain key place text rest) (plain key' place' text' rest') a b x y (k, v, m, ea, ik, it, s) (k', v', m', eb, ik', it', s') e cx cy =
      let f : k ∷ v ∷ (m ++ x) ≡ k' ∷ v' ∷ (m' ++ y) = same_front a b x y (k ∷ v ∷ m) (k' ∷ v' ∷ m') ea e eb in
      let ek : k ≡ k' = cc in
      let ev : v ≡ v' = cc in
      let em : m ++ x ≡ m' ++ y = cc in
      let below = unique depth rest rest' m m' x y s s' em cx cy in
      let keys : key ≡ key' = same_key file bytes k k' key key' place place' ek ik ik' in
      let places : place ≡ place' = same_place file bytes k k' key key' place place' ek ik ik' in
      let texts : text ≡ text' = same_text bytes v'.kind v'.from v'.to text text' (subst (λ t. IsText bytes t text) ev it) it' in
      let rests : rest ≡ rest' = below.0 in
      (cc, below.1)
  unique depth (plain key place text rest) (list key' place' inner' rest') a b x y (k, v, m, ea, ik, it, s) (k', l', body', r', m', eb, ik', left', right', few', si', s') e cx cy =
      let f : k ∷ v ∷ (m ++ x) ≡ k' ∷ l' ∷ ((body' ++ r' ∷ m') ++ y) = same_front a b x y (k ∷ v ∷ m) (k' ∷ l' ∷ (body' ++ r' ∷ m')) ea e eb in
      absurd (no_text bytes v l' text (let ev : v ≡ l' = cc in ev) it left')
  unique depth (list key place inner rest) (plain key' place' text' rest') a b x y (k, l, body, r, m, ea, ik, left, right, few, si, s) (k', v', m', eb, ik', it', s') e cx cy =
      let f : k ∷ l ∷ ((body ++ r ∷ m) ++ x) ≡ k' ∷ v' ∷ (m' ++ y) = same_front a b x y (k ∷ l ∷ (body ++ r ∷ m)) (k' ∷ v' ∷ m') ea e eb in
      absurd (no_text bytes v' l text' (let ev : v' ≡ l = cc in ev) it' left)
  unique depth (list key place inner rest) (list key' place' inner' rest') a b x y (k, l, body, r, m, ea, ik, left, right, few, si, s) (k', l', body', r', m', eb, ik', left', right', few', si', s') e cx cy =
      let f : k ∷ l ∷ ((body ++ r ∷ m) ++ x) ≡ k' ∷ l' ∷ ((body' ++ r' ∷ m') ++ y) = same_front a b x y (k ∷ l ∷ (body ++ r ∷ m)) (k' ∷ l' ∷ (body' ++ r' ∷ m')) ea e eb in
      let ek : k ≡ k' = cc in
      let eg : (body ++ r ∷ m) ++ x ≡ (body' ++ r' ∷ m') ++ y = cc in
      let eh : body ++ (r ∷ (m ++ x)) ≡ body' ++ (r' ∷ (m' ++ y)) = sym (append_assoc body (r ∷ m) x) ∙ eg ∙ append_assoc body' (r' ∷ m') y in
      let within = unique (depth + 1) inner inner' body body' (r ∷ (m ++ x)) (r' ∷ (m' ++ y)) si si' eh right right' in
      let after : r ∷ (m ++ x) ≡ r' ∷ (m' ++ y) = within.1 in
      let em : m ++ x ≡ m' ++ y = cc in
      let below = unique depth rest rest' m m' x y s s' em cx cy in
      let keys : key ≡ key' = same_key file bytes k k' key key' place place' ek ik ik' in
      let places : place ≡ place' = same_place file bytes k k' key key' place place' ek ik ik' in
      let inners : inner ≡ inner' = within.0 in
      let rests : rest ≡ rest' = below.0 in
      (cc, below.1)

  -- a list of tokens spells at most one tree
  pub one_tree : (depth : ℕ) (tokens : List Token) (t u : Attributes) → Spells file bytes depth tokens t → Spells file bytes depth tokens u → t ≡ u
  one_tree depth tokens t u h g = (unique depth t u tokens tokens [] [] h g refl tt tt).0
