-- The canonical printing of a tree that some bytes spell reads back as an equal tree: its fronts, their tokens, and
-- what these spell.
use Rattle.std.proofs.Common.{◌≡◌, ℕ, zero, suc, ◌+◌, ◌==◌, Bool, true, false, cond, not, ◌&&◌, List, [], ◌∷◌, ◌++◌, length, drop, refl, ap, sym, ◌∙◌, subst, append_assoc, append-nil, inl, arith}
use Rattle.std.specs.Prelude.{Some, None}
use Rattle.std.specs.List.{AllByRecursion, list_all}
use Rattle.std.proofs.lemmas.Cmp.{nat_list_eq_equiv}
use Rattle.dml_lexer.specs.declared.lexer.Token.{Token}
use Rattle.dml_lexer.specs.declared.lexer.TokenKind.{TokenKind}
use Rattle.dml_lexer.specs.declared.lexer.TokenKind.TheVariants.{Word, Quoted, LeftBracket, RightBracket}
use Rattle.dml_lexer.specs.Tokens.{is_word_byte, IsFront, Front, text_of, AreFronts, tokens_from}
use Rattle.dml_lexer.proofs.TokenBytes.{slice_at, slice_within, drop_at, tokens_have_their_bytes}
use Rattle.dml_tree.specs.Attributes.{Attributes, none, plain, list}
use Rattle.dml_tree.specs.Grammar.{Spells, IsTextOf}
use Rattle.dml_tree.specs.Printing.{printing, blanks, is_bare}
use Rattle.dml_tree.specs.Reading.{ReadsBack}
use Rattle.dml_tree.specs.SameTree.{same_tree, same_text}
use Rattle.dml_tree.proofs.SameLists.{all_and}
use Rattle.dml_tree.proofs.Spellable.{Spellable, HasNoQuote, spellable, spellable_alike}

abbrev blank : ℕ → Front
blank byte = record { kind = None; bytes = byte ∷ [] }

abbrev word : List ℕ → Front
word key = record { kind = Some Word; bytes = key }

abbrev left : Front
left = record { kind = Some LeftBracket; bytes = 91 ∷ [] }

abbrev right : Front
right = record { kind = Some RightBracket; bytes = 93 ∷ [] }

-- a text that is printed bare, or between quotes
abbrev text_kind : Bool → TokenKind
text_kind true = Word
text_kind false = Quoted

abbrev text_bytes : Bool → List ℕ → List ℕ
text_bytes bare text = cond bare text (34 ∷ (text ++ 34 ∷ []))

abbrev text_front : List ℕ → Front
text_front text = record { kind = Some (text_kind (is_bare text)); bytes = text_bytes (is_bare text) text }

abbrev indented : ℕ → List Front → List Front
indented zero more = more
indented (suc n) more = blank 32 ∷ indented n more

-- the fronts of a printing, and then more
abbrev fronts : ℕ → Attributes → List Front → List Front
fronts n none more = more
fronts n (plain key place text rest) more = indented n (word key ∷ blank 32 ∷ text_front text ∷ blank 10 ∷ fronts n rest more)
fronts n (list key place inner rest) more =
    indented n (word key ∷ blank 32 ∷ left ∷ blank 10 ∷ fronts (n + 2) inner (indented n (right ∷ blank 10 ∷ fronts n rest more)))

text_of-indented : (n : ℕ) (more : List Front) → text_of (indented n more) ≡ blanks n ++ text_of more
text_of-indented zero more = refl
text_of-indented (suc n) more = ap (λ l. 32 ∷ l) (text_of-indented n more)

plain_line : (a b c d e : List ℕ) → a ++ b ++ 32 ∷ (c ++ 10 ∷ []) ++ d ++ e ≡ a ++ (b ++ 32 ∷ (c ++ 10 ∷ (d ++ e)))
plain_line a b c d e = simp append_assoc refl

list_lines : (a b c d e : List ℕ) → a ++ b ++ 32 ∷ 91 ∷ 10 ∷ [] ++ c ++ a ++ 93 ∷ 10 ∷ [] ++ d ++ e ≡ a ++ (b ++ 32 ∷ 91 ∷ 10 ∷ (c ++ (a ++ 93 ∷ 10 ∷ (d ++ e))))
list_lines a b c d e = simp append_assoc refl

-- the fronts cover the printing
text_of-fronts : (n : ℕ) (t : Attributes) (more : List Front) → text_of (fronts n t more) ≡ printing n t ++ text_of more
text_of-fronts n none more = refl
text_of-fronts n (plain key place text rest) more =
    text_of-indented n (word key ∷ blank 32 ∷ text_front text ∷ blank 10 ∷ fronts n rest more)
    ∙ ap (λ l. blanks n ++ (key ++ 32 ∷ (text_bytes (is_bare text) text ++ 10 ∷ l))) (text_of-fronts n rest more)
    ∙ sym (plain_line (blanks n) key (text_bytes (is_bare text) text) (printing n rest) (text_of more))
text_of-fronts n (list key place inner rest) more =
    let closing : List Front = right ∷ blank 10 ∷ fronts n rest more in
    text_of-indented n (word key ∷ blank 32 ∷ left ∷ blank 10 ∷ fronts (n + 2) inner (indented n closing))
    ∙ ap (λ l. blanks n ++ (key ++ 32 ∷ 91 ∷ 10 ∷ l)) (text_of-fronts (n + 2) inner (indented n closing)
    ∙ ap (λ l. printing (n + 2) inner ++ l) (text_of-indented n closing ∙ ap (λ l. blanks n ++ 93 ∷ 10 ∷ l) (text_of-fronts n rest more)))
    ∙ sym (list_lines (blanks n) key (printing (n + 2) inner) (printing n rest) (text_of more))

are_indented : (n : ℕ) (more : List Front) → AreFronts more [] → AreFronts (indented n more) []
are_indented zero more h = h
are_indented (suc n) more h = (inl (32, refl, refl), are_indented n more h)

first : (a b : Bool) → (a && b) ≡ true → a ≡ true
first true b e = refl
first false b e = e

second : (a b : Bool) → (a && b) ≡ true → b ≡ true
second true b e = e
second false true e = refl
second false false e = e

all_pass : (p : ℕ → Bool) (text : List ℕ) → list_all p text ≡ true → AllByRecursion (λ byte. p byte ≡ true) text
all_pass p [] e = tt
all_pass p (byte ∷ text) e = (first (p byte) (list_all p text) e, all_pass p text (second (p byte) (list_all p text) e))

bare_is_word : (text rest : List ℕ) → is_bare text ≡ true → IsFront (Some Word) text (10 ∷ rest)
bare_is_word [] rest e = absurd (let f : false ≡ true = e in cc)
bare_is_word (byte ∷ text) rest e =
    let passes : list_all is_word_byte (byte ∷ text) ≡ true = second (not (length (byte ∷ text) == 0)) (list_all is_word_byte (byte ∷ text)) e in
    (omega arith, record { all = all_pass is_word_byte (byte ∷ text) passes; longest = refl })

text_is_front : (text rest : List ℕ) (bare : Bool) → is_bare text ≡ bare → HasNoQuote text → IsFront (Some (text_kind bare)) (text_bytes bare text) (10 ∷ rest)
text_is_front text rest true e h = bare_is_word text rest e
text_is_front text rest false e h = (text, refl, h)

are_fronts : (n depth : ℕ) (t : Attributes) (more : List Front) → Spellable depth t → AreFronts more [] → AreFronts (fronts n t more) []
are_fronts n depth none more s h = h
are_fronts n depth (plain key place text rest) more s h =
    are_indented n (word key ∷ blank 32 ∷ text_front text ∷ blank 10 ∷ fronts n rest more) (
      (s.0.0, record { all = s.0.1; longest = refl }),
      (
        inl (32, refl, refl),
        (text_is_front text (text_of (fronts n rest more) ++ []) (is_bare text) refl s.1, (inl (10, refl, refl), are_fronts n depth rest more s.2 h)),
      ),
    )
are_fronts n depth (list key place inner rest) more s h =
    let closing : List Front = right ∷ blank 10 ∷ fronts n rest more in
    are_indented n (word key ∷ blank 32 ∷ left ∷ blank 10 ∷ fronts (n + 2) inner (indented n closing)) (
      (s.0.0, record { all = s.0.1; longest = refl }),
      (
        inl (32, refl, refl),
        (
          refl,
          (
            inl (10, refl, refl),
            are_fronts (n + 2) (depth + 1) inner (indented n closing) s.2 (are_indented n closing (refl, (inl (10, refl, refl), are_fronts n depth rest more s.3 h))),
          ),
        ),
      ),
    )

tokens_from-indented : (n at : ℕ) (more : List Front) → tokens_from at (indented n more) ≡ tokens_from (at + n) more
tokens_from-indented zero at more = ap (λ p. tokens_from p more) (let e : at ≡ at + 0 = omega arith in e)
tokens_from-indented (suc n) at more = tokens_from-indented n (at + 1) more ∙ ap (λ p. tokens_from p more) (let e : at + 1 + n ≡ at + suc n = omega arith in e)

module _ (file : ℕ) (bytes : List ℕ) where
  drop-indented : (n at : ℕ) (more : List Front) → drop at bytes ≡ text_of (indented n more) → drop (at + n) bytes ≡ text_of more
  drop-indented zero at more e = ap (λ p. drop p bytes) (let f : at + 0 ≡ at = omega arith in f) ∙ e
  drop-indented (suc n) at more e =
      ap (λ p. drop p bytes) (let f : at + suc n ≡ at + 1 + n = omega arith in f)
      ∙ drop-indented n (at + 1) more (drop_at bytes at (32 ∷ []) (text_of (indented n more)) e)

  text_is : (bare : Bool) (at : ℕ) (text rest : List ℕ) → drop at bytes ≡ text_bytes bare text ++ rest → IsTextOf bytes (text_kind bare) at (at + length (text_bytes bare text)) text
  text_is true at text rest e = sym (slice_at bytes at text rest e)
  text_is false at text rest e = sym (slice_within bytes at text rest _ e refl)

  -- the tokens of the fronts of a printing that stands at a place spell an equal tree
  record Back (depth at n : ℕ) (t : Attributes) (more : List Front) : Type 0 where
    tokens : List Token
    tree : Attributes
    end : ℕ
    split : tokens_from at (fronts n t more) ≡ tokens ++ tokens_from end more
    rest : drop end bytes ≡ text_of more
    spells : Spells file bytes depth tokens tree
    same : same_tree tree t ≡ true

  back : (n depth at : ℕ) (t : Attributes) (more : List Front) → Spellable depth t → drop at bytes ≡ text_of (fronts n t more) → Back depth at n t more
  back n depth at none more s e = record { tokens = []; tree = none; end = at; split = refl; rest = e; spells = refl; same = refl }
  back n depth at (plain key place text rest) more s e =
      let others : List Front = fronts n rest more in
      let shown : List ℕ = text_bytes (is_bare text) text in
      let k : ℕ = at + n in
      let v : ℕ = k + length key + 1 in
      let e1 = drop-indented n at (word key ∷ blank 32 ∷ text_front text ∷ blank 10 ∷ others) e in
      let e2 = drop_at bytes k key (32 ∷ (shown ++ 10 ∷ text_of others)) e1 in
      let e3 = drop_at bytes (k + length key) (32 ∷ []) (shown ++ 10 ∷ text_of others) e2 in
      let e4 = drop_at bytes v shown (10 ∷ text_of others) e3 in
      let e5 = drop_at bytes (v + length shown) (10 ∷ []) (text_of others) e4 in
      let after = back n depth (v + length shown + 1) rest more s.2 e5 in
      let kt : Token = record { kind = Word; from = k; to = k + length key } in
      let vt : Token = record { kind = text_kind (is_bare text); from = v; to = v + length shown } in
      record {
        tokens = kt ∷ vt ∷ after.tokens;
        tree = plain key (record { file = file; at = k }) text after.tree;
        end = after.end;
        split = tokens_from-indented n at (word key ∷ blank 32 ∷ text_front text ∷ blank 10 ∷ others) ∙ ap (λ l. kt ∷ vt ∷ l) after.split;
        rest = after.rest;
        spells = (
          kt,
          vt,
          after.tokens,
          refl,
          record { word = refl; text = sym (slice_at bytes k key (32 ∷ (shown ++ 10 ∷ text_of others)) e1); at = refl },
          text_is (is_bare text) v text (10 ∷ text_of others) e3,
          after.spells,
        );
        same = all_and (same_text key key) (same_text text text) (same_tree after.tree rest) (nat_list_eq_equiv.refl key) (nat_list_eq_equiv.refl text) ∙ after.same;
      }
  back n depth at (list key place inner rest) more s e =
      let others : List Front = fronts n rest more in
      let closing : List Front = right ∷ blank 10 ∷ others in
      let inside : List Front = fronts (n + 2) inner (indented n closing) in
      let k : ℕ = at + n in
      let l : ℕ = k + length key + 1 in
      let e1 = drop-indented n at (word key ∷ blank 32 ∷ left ∷ blank 10 ∷ inside) e in
      let e2 = drop_at bytes k key (32 ∷ 91 ∷ 10 ∷ text_of inside) e1 in
      let e3 = drop_at bytes (k + length key) (32 ∷ []) (91 ∷ 10 ∷ text_of inside) e2 in
      let e4 = drop_at bytes l (91 ∷ []) (10 ∷ text_of inside) e3 in
      let e5 = drop_at bytes (l + 1) (10 ∷ []) (text_of inside) e4 in
      let within = back (n + 2) (depth + 1) (l + 1 + 1) inner (indented n closing) s.2 e5 in
      let r : ℕ = within.end + n in
      let e6 = drop-indented n within.end closing within.rest in
      let e7 = drop_at bytes r (93 ∷ []) (10 ∷ text_of others) e6 in
      let e8 = drop_at bytes (r + 1) (10 ∷ []) (text_of others) e7 in
      let after = back n depth (r + 1 + 1) rest more s.3 e8 in
      let kt : Token = record { kind = Word; from = k; to = k + length key } in
      let lt : Token = record { kind = LeftBracket; from = l; to = l + 1 } in
      let rt : Token = record { kind = RightBracket; from = r; to = r + 1 } in
      record {
        tokens = kt ∷ lt ∷ (within.tokens ++ rt ∷ after.tokens);
        tree = list key (record { file = file; at = k }) within.tree after.tree;
        end = after.end;
        split = tokens_from-indented n at (word key ∷ blank 32 ∷ left ∷ blank 10 ∷ inside)
            ∙ ap (λ ts. kt ∷ lt ∷ ts) (within.split
            ∙ ap (λ ts. within.tokens ++ ts) (tokens_from-indented n within.end closing ∙ ap (λ ts. rt ∷ ts) after.split)
            ∙ sym (append_assoc within.tokens (rt ∷ after.tokens) (tokens_from after.end more)));
        rest = after.rest;
        spells = (
          kt,
          lt,
          within.tokens,
          rt,
          after.tokens,
          refl,
          record { word = refl; text = sym (slice_at bytes k key (32 ∷ 91 ∷ 10 ∷ text_of inside) e1); at = refl },
          refl,
          refl,
          s.1,
          within.spells,
          after.spells,
        );
        same = all_and (same_text key key) (same_tree within.tree inner) (same_tree after.tree rest) (nat_list_eq_equiv.refl key) within.same ∙ after.same;
      }

-- the printing reads back as an equal tree
pub reads_back : (tree : Attributes) → ReadsBack (printing 0 tree) tree
reads_back tree file number bytes tokens like spelt spells same short =
    let s : Spellable 0 tree = spellable_alike 0 like tree same (spellable file bytes 0 tokens like (tokens_have_their_bytes bytes tokens spelt) spells) in
    let text : List ℕ = printing 0 tree in
    let cover : text ≡ text_of (fronts 0 tree []) = sym (text_of-fronts 0 tree [] ∙ append-nil text) in
    let b = back number text 0 0 0 tree [] s cover in (
      b.tree,
      record {
        short = short;
        tokens = tokens_from 0 (fronts 0 tree []);
        spelt = record { fronts = fronts 0 tree []; are = are_fronts 0 0 tree [] s tt; cover = cover; these = refl };
        spells = subst (λ ts. Spells number text 0 ts b.tree) (sym (b.split ∙ append-nil b.tokens)) b.spells;
      },
      b.same,
    )
