-- What a tree has that some bytes spell: keys of word bytes, texts without a quote, and few lists within one another.
use Rattle.std.proofs.Common.{◌≡◌, ℕ, Bool, false, ◌&&◌, refl, ap, ◌∙◌, ◌+◌, ◌<◌, ◌==◌, true, not, List, [], ◌∷◌, ◌++◌, length, sym, subst, arith}
use Rattle.std.specs.List.{AllByRecursion}
use Rattle.std.specs.Prelude.{nat_eq}
use Rattle.std.proofs.lemmas.Bool.{eqb-true}
use Rattle.dml_tree.specs.SameTree.{same_tree, same_text}
use Rattle.std.proofs.lemmas.Bool.Decides.{nat_tests}
use Rattle.dml_lexer.specs.declared.lexer.Token.{Token}
use Rattle.dml_lexer.specs.declared.lexer.TokenKind.{TokenKind}
use Rattle.dml_lexer.specs.declared.lexer.TokenKind.TheVariants.{Word, Quoted, LeftBracket, RightBracket}
use Rattle.dml_lexer.specs.Tokens.{is_word_byte, SpansBytes, HasItsBytes}
use Rattle.dml_tree.specs.declared.tree.Place.{Place}
use Rattle.dml_tree.specs.Attributes.{Attributes, none, plain, list}
use Rattle.dml_tree.specs.Grammar.{Spells, IsKey, IsTextOf, most_open}

abbrev pub IsKeyText : List ℕ → Type 0
IsKeyText key = (0 < length key) × AllByRecursion (λ byte. is_word_byte byte ≡ true) key

abbrev pub HasNoQuote : List ℕ → Type 0
HasNoQuote text = AllByRecursion (λ byte. not (byte == 34) ≡ true) text

abbrev pub Spellable : ℕ → Attributes → Type 0
Spellable depth none = Unit {0}
Spellable depth (plain key place text rest) = IsKeyText key × HasNoQuote text × Spellable depth rest
Spellable depth (list key place inner rest) = IsKeyText key × (depth < most_open) × Spellable (depth + 1) inner × Spellable depth rest

no_quote : (byte : ℕ) → is_word_byte byte ≡ true → not (byte == 34) ≡ true
no_quote byte e = grind (arith, nat_tests)

word_has_no_quote : (text : List ℕ) → AllByRecursion (λ byte. is_word_byte byte ≡ true) text → HasNoQuote text
word_has_no_quote [] h = tt
word_has_no_quote (byte ∷ text) h = (no_quote byte h.0, word_has_no_quote text h.1)

-- what holds of all of two lists holds of all of each
all_first : (P : Token → Type 0) (xs ys : List Token) → AllByRecursion P (xs ++ ys) → AllByRecursion P xs
all_first P [] ys h = tt
all_first P (x ∷ xs) ys h = (h.0, all_first P xs ys h.1)

all_last : (P : Token → Type 0) (xs ys : List Token) → AllByRecursion P (xs ++ ys) → AllByRecursion P ys
all_last P [] ys h = h
all_last P (x ∷ xs) ys h = all_last P xs ys h.1

module _ (file : ℕ) (bytes : List ℕ) where
  is_key_text : (k : Token) (key : List ℕ) (place : Place) → IsKey file bytes k key place → HasItsBytes bytes k → IsKeyText key
  is_key_text k key place is has = subst IsKeyText (sym is.text) (subst (λ kind. SpansBytes bytes kind k.from k.to) is.word has)

  has_no_quote : (kind : TokenKind) (from to : ℕ) (text : List ℕ) → IsTextOf bytes kind from to text → SpansBytes bytes kind from to → HasNoQuote text
  has_no_quote Word from to text is has = subst HasNoQuote (sym is) (word_has_no_quote _ has.1)
  has_no_quote Quoted from to text is has = subst HasNoQuote (sym is) has.1
  has_no_quote LeftBracket from to text is has = absurd is
  has_no_quote RightBracket from to text is has = absurd is

  pub spellable : (depth : ℕ) (tokens : List Token) (t : Attributes) → AllByRecursion (HasItsBytes bytes) tokens → Spells file bytes depth tokens t → Spellable depth t
  spellable depth tokens none h s = tt
  spellable depth tokens (plain key place text rest) h (k, v, more, e, ik, it, s) =
      let all = subst (AllByRecursion (HasItsBytes bytes)) e h in
      (is_key_text k key place ik all.0, has_no_quote v.kind v.from v.to text it all.1.0, spellable depth more rest all.1.1 s)
  spellable depth tokens (list key place inner rest) h (k, l, body, r, more, e, ik, left, right, few, si, s) =
      let all = subst (AllByRecursion (HasItsBytes bytes)) e h in (
        is_key_text k key place ik all.0,
        few,
        spellable (depth + 1) body inner (all_first (HasItsBytes bytes) body (r ∷ more) all.1.1) si,
        spellable depth more rest (all_last (HasItsBytes bytes) body (r ∷ more) all.1.1).1 s,
      )

first_so : (a b : Bool) → (a && b) ≡ true → a ≡ true
first_so true b e = refl
first_so false b e = e

then_so : (a b : Bool) → (a && b) ≡ true → b ≡ true
then_so true b e = e
then_so false true e = refl
then_so false false e = e

-- equal texts are one
one_text : (a b : List ℕ) → same_text a b ≡ true → a ≡ b
one_text [] [] e = refl
one_text [] (y ∷ b) e = absurd (let f : false ≡ true = e in cc)
one_text (x ∷ a) [] e = absurd (let f : false ≡ true = e in cc)
one_text (x ∷ a) (y ∷ b) e =
    ap (λ n. n ∷ a) (eqb-true x y (first_so (nat_eq x y) (same_text a b) e)) ∙ ap (λ l. y ∷ l) (one_text a b (then_so (nat_eq x y) (same_text a b) e))

-- so is a tree that equals such a tree
pub spellable_alike : (depth : ℕ) (t u : Attributes) → same_tree t u ≡ true → Spellable depth t → Spellable depth u
spellable_alike depth none none e s = tt
spellable_alike depth none (plain key place text rest) e s = absurd (let f : false ≡ true = e in cc)
spellable_alike depth none (list key place inner rest) e s = absurd (let f : false ≡ true = e in cc)
spellable_alike depth (plain key place text rest) none e s = absurd (let f : false ≡ true = e in cc)
spellable_alike depth (plain key place text rest) (list key' place' inner' rest') e s = absurd (let f : false ≡ true = e in cc)
spellable_alike depth (list key place inner rest) none e s = absurd (let f : false ≡ true = e in cc)
spellable_alike depth (list key place inner rest) (plain key' place' text' rest') e s = absurd (let f : false ≡ true = e in cc)
spellable_alike depth (plain key place text rest) (plain key' place' text' rest') e s =
    let e2 = first_so (same_text key key' && same_text text text') (same_tree rest rest') e in (
      subst IsKeyText (one_text key key' (first_so (same_text key key') (same_text text text') e2)) s.0,
      subst HasNoQuote (one_text text text' (then_so (same_text key key') (same_text text text') e2)) s.1,
      spellable_alike depth rest rest' (then_so (same_text key key' && same_text text text') (same_tree rest rest') e) s.2,
    )
spellable_alike depth (list key place inner rest) (list key' place' inner' rest') e s =
    let e2 = first_so (same_text key key' && same_tree inner inner') (same_tree rest rest') e in (
      subst IsKeyText (one_text key key' (first_so (same_text key key') (same_tree inner inner') e2)) s.0,
      s.1,
      spellable_alike (depth + 1) inner inner' (then_so (same_text key key') (same_tree inner inner') e2) s.2,
      spellable_alike depth rest rest' (then_so (same_text key key' && same_tree inner inner') (same_tree rest rest') e) s.3,
    )
