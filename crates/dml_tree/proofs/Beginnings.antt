-- Tokens that begin a list in the grammar go on to one, and none goes on with a token that is refused.
use Rattle.std.proofs.Common.{◌≡◌, ℕ, ◌+◌, List, [], ◌∷◌, ◌++◌, slice_range, refl, ap, sym, ◌∙◌, subst, append_assoc, append-nil, inl}
use Rattle.std.specs.Prelude.{Some}
use Rattle.dml_lexer.specs.declared.lexer.Token.{Token}
use Rattle.dml_lexer.specs.declared.lexer.TokenKind.TheVariants.{Word, RightBracket}
use Rattle.dml_tree.specs.declared.tree.Place.{Place}
use Rattle.dml_tree.specs.declared.reading.TreeFault.{TreeFault}
use Rattle.dml_tree.specs.Attributes.{Attributes, none, plain, list}
use Rattle.dml_tree.specs.TreeView.{joined}
use Rattle.dml_tree.specs.Grammar.{Spells, IsKey, IsText, IsTextOf, Begins, Wanted, key_wanted, value_wanted, refusal, Refused}
use Rattle.dml_tree.proofs.Grammars.{Spells-append}
use Rattle.dml_tree.proofs.OneFault.{no_fault}

module _ (file : ℕ) (bytes : List ℕ) where
  pub key_of : Token → List ℕ
  key_of token = slice_range bytes token.from token.to

  pub place_of : Token → Place
  place_of token = record { file = file; at = token.from }

  pub is_key : (k : Token) → k.kind ≡ Word → IsKey file bytes k (key_of k) (place_of k)
  unfolding key_of place_of
  is_key k word = record { word = word; text = refl; at = refl }

  is_text : (v : Token) → v.kind ≡ Word → IsText bytes v (key_of v)
  unfolding key_of
  is_text v word = subst (λ kind. IsTextOf bytes kind v.from v.to (slice_range bytes v.from v.to)) (sym word) refl

  closing : Token
  closing = record { kind = RightBracket; from = 0; to = 1 }

  pub goes_on : (depth : ℕ) (tokens : List Token) (opened : List ℕ) (wanted : Wanted) → Begins file bytes depth tokens opened wanted → (more : List Token) × (tree : Attributes) × Spells file bytes depth (tokens ++ more) tree
  unfolding closing
  goes_on depth tokens [] key_wanted (tree, s) = ([], tree, subst (λ ts. Spells file bytes depth ts tree) (sym (append-nil tokens)) s)
  goes_on depth tokens [] value_wanted (before, k, tree, e, s, word) =
      let whole : Attributes = joined tree (plain (key_of k) (place_of k) (key_of k) none) in (
        k ∷ [],
        whole,
        subst (λ ts. Spells file bytes depth ts whole) (sym (ap (λ ts. ts ++ k ∷ []) e ∙ append_assoc before (k ∷ []) (k ∷ [])))
            (Spells-append file bytes depth before (k ∷ k ∷ []) tree (plain (key_of k) (place_of k) (key_of k) none) s
            (k, k, [], refl, is_key k word, is_text k word, refl)),
      )
  goes_on depth tokens (at ∷ opened) wanted (before, k, l, inside, tree, e, s, word, left, from, few, begins) =
      let within = goes_on (depth + 1) inside opened wanted begins in
      let more : List Token = within.0 ++ closing ∷ [] in
      let all : tokens ++ more ≡ before ++ k ∷ l ∷ (inside ++ within.0 ++ closing ∷ []) =
      ap (λ ts. ts ++ more) e ∙ append_assoc before (k ∷ l ∷ inside) more
      ∙ ap (λ ts. before ++ k ∷ l ∷ ts) (sym (append_assoc inside within.0 (closing ∷ []))) in
      let whole : Attributes = joined tree (list (key_of k) (place_of k) within.1 none) in (
        more,
        whole,
        subst (λ ts. Spells file bytes depth ts whole) (sym all)
            (Spells-append file bytes depth before (k ∷ l ∷ (inside ++ within.0 ++ closing ∷ [])) tree (list (key_of k) (place_of k) within.1 none) s
            (k, l, inside ++ within.0, closing, [], refl, is_key k word, left, refl, few, within.2, refl)),
      )

  pub no_way_on : (before : List Token) (token : Token) (after : List Token) (opened : List ℕ) (wanted : Wanted) (fault : TreeFault) (tree : Attributes) → Begins file bytes 0 before opened wanted → refusal wanted opened token ≡ Some fault → Spells file bytes 0 (before ++ token ∷ after) tree → ⊥
  no_way_on before token after opened wanted fault tree begins refused spells =
      let r : Refused file bytes (before ++ token ∷ after) fault =
      record { before = before; token = token; after = after; opened = opened; wanted = wanted; split = refl; begins = begins; fault_is = refused } in
      no_fault file bytes (before ++ token ∷ after) tree fault spells (inl r)
