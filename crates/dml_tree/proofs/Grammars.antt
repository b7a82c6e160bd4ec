-- How spelled tokens go together, and how the state of a tree that is built goes from token to token.
use Rattle.std.proofs.Common.{◌≡◌, ℕ, ◌+◌, ◌<◌, List, [], ◌∷◌, ◌++◌, length, refl, ap, sym, ◌∙◌, subst, append_assoc, arith}
use Rattle.std.specs.Prelude.{Option, Some, None}
use Rattle.dml_lexer.specs.declared.lexer.Token.{Token}
use Rattle.dml_lexer.specs.declared.lexer.TokenKind.TheVariants.{LeftBracket, RightBracket}
use Rattle.dml_tree.specs.declared.tree.Attribute.{Attribute}
use Rattle.dml_tree.specs.declared.tree.Value.TheVariants as value
use Rattle.dml_tree.specs.declared.builder.Open.{Open}
use Rattle.dml_tree.specs.declared.builder.Key.{Key}
use Rattle.dml_tree.specs.Attributes.{Attributes, none, plain, list}
use Rattle.dml_tree.specs.TreeView.{tree_of, joined}
use Rattle.dml_tree.specs.Grammar.{Spells, IsKey, IsText, Begins, most_open}
use Rattle.dml_tree.specs.Building.{Stands, brackets, wanted}
use Rattle.dml_tree.proofs.TreeLists.{tree_of-append}

module _ (file : ℕ) (bytes : List ℕ) where
  pub Spells-append : (depth : ℕ) (ts us : List Token) (t u : Attributes) → Spells file bytes depth ts t → Spells file bytes depth us u → Spells file bytes depth (ts ++ us) (joined t u)
  Spells-append depth ts us none u e h = subst (λ l. Spells file bytes depth (l ++ us) u) (sym e) h
  Spells-append depth ts us (plain key place text rest) u (k, v, more, e, is, text_is, s) h =
      (k, v, more ++ us, ap (λ l. l ++ us) e, is, text_is, Spells-append depth more us rest u s h)
  Spells-append depth ts us (list key place inner rest) u (k, l, body, r, more, e, is, left, right, few, within, s) h =
      (k, l, body, r, more ++ us, ap (λ x. x ++ us) e ∙ ap (λ x. k ∷ l ∷ x) (append_assoc body (r ∷ more) us), is, left, right, few, within, Spells-append depth more us rest u s h)

  -- tokens so far and those of one attribute
  one_more : (depth : ℕ) (ts us : List Token) (xs : List Attribute) (x : Attribute) → Spells file bytes depth ts (tree_of xs) → Spells file bytes depth us (tree_of (x ∷ [])) → Spells file bytes depth (ts ++ us) (tree_of (xs ++ x ∷ []))
  one_more depth ts us xs x s h = subst (Spells file bytes depth (ts ++ us)) (sym (tree_of-append xs (x ∷ []))) (Spells-append depth ts us (tree_of xs) (tree_of (x ∷ [])) s h)

  pub push_key : (depth : ℕ) (ts : List Token) (opens : List Open) (xs : List Attribute) (t : Token) (key : Key) → Stands file bytes depth ts opens xs None → IsKey file bytes t key.text key.place → Stands file bytes depth (ts ++ t ∷ []) opens xs (Some key)
  push_key depth ts [] xs t key s is = (ts, t, refl, s, is)
  push_key depth ts (o ∷ opens) xs t key (before, k, l, inside, e, sp, ik, left, at, few, s) is =
      (before, k, l, inside ++ t ∷ [], ap (λ x. x ++ t ∷ []) e ∙ append_assoc before (k ∷ l ∷ inside) (t ∷ []), sp, ik, left, at, few, push_key (depth + 1) inside opens xs t key s is)

  pub push_text : (depth : ℕ) (ts : List Token) (opens : List Open) (xs : List Attribute) (v : Token) (key : Key) (text : List ℕ) → Stands file bytes depth ts opens xs (Some key) → IsText bytes v text → Stands file bytes depth (ts ++ v ∷ []) opens (xs ++ record { key = key.text; place = key.place; value = value.Plain text } ∷ []) None
  push_text depth ts [] xs v key text (before, k, e, sp, ik) is =
      let x : Attribute = record { key = key.text; place = key.place; value = value.Plain text } in
      let all : ts ++ v ∷ [] ≡ before ++ k ∷ v ∷ [] = ap (λ l. l ++ v ∷ []) e ∙ append_assoc before (k ∷ []) (v ∷ []) in
      subst (λ l. Spells file bytes depth l (tree_of (xs ++ x ∷ []))) (sym all) (one_more depth before (k ∷ v ∷ []) xs x sp (k, v, [], refl, ik, is, refl))
  push_text depth ts (o ∷ opens) xs v key text (before, k, l, inside, e, sp, ik, left, at, few, s) is =
      (before, k, l, inside ++ v ∷ [], ap (λ x. x ++ v ∷ []) e ∙ append_assoc before (k ∷ l ∷ inside) (v ∷ []), sp, ik, left, at, few, push_text (depth + 1) inside opens xs v key text s is)

  pub push_open : (depth : ℕ) (ts : List Token) (opens : List Open) (o : Open) (l : Token) → Stands file bytes depth ts opens o.before.items (Some o.key) → l.kind ≡ LeftBracket → l.from ≡ o.bracket → depth + length opens < most_open → Stands file bytes depth (ts ++ l ∷ []) (opens ++ o ∷ []) [] None
  push_open depth ts [] o l (before, k, e, sp, ik) left at few =
      (before, k, l, [], ap (λ x. x ++ l ∷ []) e ∙ append_assoc before (k ∷ []) (l ∷ []), sp, ik, left, at, (let f : depth < most_open = omega arith in f), refl)
  push_open depth ts (p ∷ opens) o l (before, k, b, inside, e, sp, ik, pleft, pat, pfew, s) left at few =
      (before, k, b, inside ++ l ∷ [], ap (λ x. x ++ l ∷ []) e ∙ append_assoc before (k ∷ b ∷ inside) (l ∷ []), sp, ik, pleft, pat, pfew, push_open (depth + 1) inside opens o l s left at (omega arith))

  pub push_close : (depth : ℕ) (ts : List Token) (opens : List Open) (o : Open) (xs : List Attribute) (r : Token) → Stands file bytes depth ts (opens ++ o ∷ []) xs None → r.kind ≡ RightBracket → Stands file bytes depth (ts ++ r ∷ []) opens (o.before.items ++ record { key = o.key.text; place = o.key.place; value = value.List (tree_of xs) } ∷ []) None
  push_close depth ts [] o xs r (before, k, l, inside, e, sp, ik, left, at, few, s) right =
      let x : Attribute = record { key = o.key.text; place = o.key.place; value = value.List (tree_of xs) } in
      let all : ts ++ r ∷ [] ≡ before ++ k ∷ l ∷ (inside ++ r ∷ []) = ap (λ x. x ++ r ∷ []) e ∙ append_assoc before (k ∷ l ∷ inside) (r ∷ []) in
      subst (λ l. Spells file bytes depth l (tree_of (o.before.items ++ x ∷ []))) (sym all)
      (one_more depth before (k ∷ l ∷ (inside ++ r ∷ [])) o.before.items x sp (k, l, inside, r, [], refl, ik, left, right, few, s, refl))
  push_close depth ts (p ∷ opens) o xs r (before, k, l, inside, e, sp, ik, left, at, few, s) right =
      (before, k, l, inside ++ r ∷ [], ap (λ x. x ++ r ∷ []) e ∙ append_assoc before (k ∷ l ∷ inside) (r ∷ []), sp, ik, left, at, few, push_close (depth + 1) inside opens o xs r s right)

  -- the tokens of such a state begin a list
  pub begins : (depth : ℕ) (ts : List Token) (opens : List Open) (xs : List Attribute) (key : Option Key) → Stands file bytes depth ts opens xs key → Begins file bytes depth ts (brackets opens) (wanted key)
  begins depth ts [] xs None s = (tree_of xs, s)
  begins depth ts [] xs (Some key) (before, k, e, sp, ik) = (before, k, tree_of xs, e, sp, ik.word)
  begins depth ts (o ∷ opens) xs None (before, k, l, inside, e, sp, ik, left, at, few, s) =
      (before, k, l, inside, tree_of o.before.items, e, sp, ik.word, left, at, few, begins (depth + 1) inside opens xs None s)
  begins depth ts (o ∷ opens) xs (Some key) (before, k, l, inside, e, sp, ik, left, at, few, s) =
      (before, k, l, inside, tree_of o.before.items, e, sp, ik.word, left, at, few, begins (depth + 1) inside opens xs (Some key) s)
