-- The lines of a tree are those of its attributes, one after another; and texts of digits are printed bare.
use Prim.Native.String.{String}
use Rattle.std.proofs.Common.{◌≡◌, ℕ, ◌+◌, ◌%◌, ◌^◌, ◌<◌, ◌==◌, Bool, true, not, ◌&&◌, if◌then◌else◌, List, [], ◌∷◌, ◌++◌, length, refl, sym, ap, ◌∙◌, arith, append-nil, length-append}
use Rattle.std.specs.Prelude.{decimal, codes}
use Rattle.std.specs.List.{flat_map, list_all}
use Rattle.std.proofs.lemmas.Bool.Decides.{nat_tests}
use Rattle.std.proofs.lemmas.Fmt.{decimal_by_steps}
use Rattle.std.proofs.lemmas.List.Folds.{list_all-append}
use Rattle.dml_lexer.specs.Tokens.{is_word_byte}
use Rattle.dml_tree.specs.declared.tree.Place.{Place}
use Rattle.dml_tree.specs.declared.tree.Attribute.{Attribute}
use Rattle.dml_tree.specs.declared.tree.Value.{Value}
use Rattle.dml_tree.specs.declared.tree.Value.TheVariants as value
use Rattle.dml_tree.specs.Attributes.{Attributes, none}
use Rattle.dml_tree.specs.TreeView.{tree_of, with_value}
use Rattle.dml_tree.specs.Printing.{printing, blanks, shown, text_end, is_bare}
use Rattle.model_gen.specs.Campus.{text, list, lines}

-- ---- attributes one after another

first_then : (n : ℕ) (key : List ℕ) (place : Place) (v : Value) (rest : Attributes) → printing n (with_value key place v rest) ≡ printing n (with_value key place v none) ++ printing n rest
first_then n key place (value.Plain t) rest = ap (λ (l : List ℕ). l ++ printing n rest) (sym (append-nil (blanks n ++ key ++ text_end t)))
first_then n key place (value.List inner) rest =
    ap (λ (l : List ℕ). l ++ printing n rest) (sym (append-nil (blanks n ++ key ++ 32 ∷ 91 ∷ 10 ∷ [] ++ printing (n + 2) inner ++ blanks n ++ 93 ∷ 10 ∷ [])))

pub printing_is : (n : ℕ) (xs : List Attribute) → printing n (tree_of xs) ≡ flat_map (lines n) xs
unfolding lines
printing_is n [] = refl
printing_is n (x ∷ xs) = first_then n x.key x.place x.value (tree_of xs) ∙ ap (λ (l : List ℕ). printing n (tree_of (x ∷ [])) ++ l) (printing_is n xs)

pub list_lines : (n : ℕ) (key : String) (xs : List Attribute) → lines n (list key xs) ≡ blanks n ++ codes key ++ 32 ∷ 91 ∷ 10 ∷ [] ++ flat_map (lines (n + 2)) xs ++ blanks n ++ 93 ∷ 10 ∷ []
unfolding lines
list_lines n key xs =
    append-nil (blanks n ++ codes key ++ 32 ∷ 91 ∷ 10 ∷ [] ++ printing (n + 2) (tree_of xs) ++ blanks n ++ 93 ∷ 10 ∷ [])
    ∙ ap (λ (l : List ℕ). blanks n ++ codes key ++ 32 ∷ 91 ∷ 10 ∷ [] ++ l ++ blanks n ++ 93 ∷ 10 ∷ []) (printing_is (n + 2) xs)

-- ---- bare texts

pub record IsWordText (t : List ℕ) : Type 0 where
  pub long : 0 < length t
  pub all : list_all is_word_byte t ≡ true

both : (a b : Bool) → a ≡ true → b ≡ true → (a && b) ≡ true
both a b p q = rw (p, q) refl

bare : (t : List ℕ) → IsWordText t → is_bare t ≡ true
bare t is =
    let some : not (length t == 0) ≡ true = grind (arith, nat_tests, is.long) in
    both (not (length t == 0)) (list_all is_word_byte t) some is.all

shown_bare : (t : List ℕ) → IsWordText t → shown t ≡ t
shown_bare t is = ap (λ (b : Bool). if b then t else (34 ∷ [] ++ t ++ 34 ∷ [])) (bare t is)

pub text_lines : (n : ℕ) (key : String) (t : List ℕ) → IsWordText t → lines n (text key t) ≡ blanks n ++ codes key ++ (32 ∷ [] ++ t ++ 10 ∷ [])
unfolding lines
text_lines n key t is =
    append-nil (blanks n ++ codes key ++ text_end t) ∙ ap (λ (s : List ℕ). blanks n ++ codes key ++ (32 ∷ [] ++ s ++ 10 ∷ [])) (shown_bare t is)

digit_is_word : (d : ℕ) → d < 10 → is_word_byte (48 + d) ≡ true
digit_is_word d h = grind (arith, nat_tests)

pub then_word : (s t : List ℕ) → IsWordText s → list_all is_word_byte t ≡ true → IsWordText (s ++ t)
then_word s t is all = record {
  long = let long = length-append s t in omega (arith, is.long);
  all = list_all-append is_word_byte s t ∙ both (list_all is_word_byte s) (list_all is_word_byte t) is.all all;
}

one_digit : (d : ℕ) → d < 10 → list_all is_word_byte ((48 + d) ∷ []) ≡ true
one_digit d h = both (is_word_byte (48 + d)) true (digit_is_word d h) refl

pub decimal_is_word : (n : ℕ) → n < 2 ^ 64 → IsWordText (decimal n)
decimal_is_word n h =
    decimal_by_steps (λ _ ds. IsWordText ds)
    (λ d low. record { long = let few : 0 < length ((48 + d) ∷ []) = omega arith in few; all = one_digit d low })
    (λ m ds least is. then_word ds ((48 + m % 10) ∷ []) is (one_digit (m % 10) (omega arith))) n h
