-- The bytes that the tokens of a text span.
use Rattle.std.proofs.Common.{◌≡◌, ℕ, ◌+◌, ◌-◌, ◌<◌, ◌==◌, true, not, List, [], ◌∷◌, ◌++◌, length, take, drop, slice_range, ap, sym, ◌∙◌, subst, append_assoc, append-nil, length-append, arith}
use Rattle.std.specs.Prelude.{Option, Some, None}
use Rattle.std.specs.List.{AllByRecursion}
use Rattle.std.proofs.Math.Seq.{take-append_seam, drop-append_seam}
use Rattle.std.proofs.lemmas.List.{drop-drop}
use Rattle.dml_lexer.specs.declared.lexer.TokenKind.{TokenKind}
use Rattle.dml_lexer.specs.declared.lexer.TokenKind.TheVariants as kind
use Rattle.dml_lexer.specs.declared.lexer.Token.{Token}
use Rattle.dml_lexer.specs.Tokens.{is_word_byte, IsFront, Front, text_of, AreFronts, with_token, tokens_from, Spelt, HasItsBytes}

module _ (bytes : List ℕ) where
  -- the bytes from a place on, up to where the first of two parts ends
  pub slice_at : (at : ℕ) (front rest : List ℕ) → drop at bytes ≡ front ++ rest → slice_range bytes at (at + length front) ≡ front
  slice_at at front rest e =
      ap (λ n. take n (drop at bytes)) (let n : at + length front - at ≡ length front = omega arith in n)
      ∙ ap (take (length front)) e ∙ take-append_seam front rest

  -- and those after it
  pub drop_at : (at : ℕ) (front rest : List ℕ) → drop at bytes ≡ front ++ rest → drop (at + length front) bytes ≡ rest
  drop_at at front rest e =
      sym (drop-drop (length front) at bytes) ∙ ap (drop (length front)) e ∙ drop-append_seam front rest

  -- the bytes between two quotes
  pub slice_within : (at : ℕ) (text rest : List ℕ) (to : ℕ) → drop at bytes ≡ 34 ∷ (text ++ 34 ∷ []) ++ rest → to ≡ at + length (34 ∷ (text ++ 34 ∷ [])) → slice_range bytes (at + 1) (to - 1) ≡ text
  slice_within at text rest to e f =
      let after : drop (at + 1) bytes ≡ text ++ (34 ∷ rest) = drop_at at (34 ∷ []) ((text ++ 34 ∷ []) ++ rest) e ∙ append_assoc text (34 ∷ []) rest in
      let end : to - 1 ≡ at + 1 + length text = omega (arith, length-append text (34 ∷ [])) in
      ap (slice_range bytes (at + 1)) end ∙ slice_at (at + 1) text (34 ∷ rest) after

  token_at : (k : Option TokenKind) (at : ℕ) (front rest : List ℕ) (tokens : List Token) → IsFront k front rest → drop at bytes ≡ front ++ rest → AllByRecursion (HasItsBytes bytes) tokens → AllByRecursion (HasItsBytes bytes) (with_token k at (at + length front) tokens)
  token_at None at front rest tokens is e all = all
  token_at (Some kind.Word) at front rest tokens is e all =
      (subst (λ (word : List ℕ). (0 < length word) × AllByRecursion (λ byte. is_word_byte byte ≡ true) word) (sym (slice_at at front rest e)) (is.0, is.1.all), all)
  token_at (Some kind.Quoted) at front rest tokens (text, f, none) e all =
      let within = slice_within at text rest (at + length front) (e ∙ ap (λ l. l ++ rest) f) (ap (λ l. at + length l) f) in (
        (slice_at at front rest e ∙ f ∙ ap (λ l. 34 ∷ (l ++ 34 ∷ [])) (sym within), subst (AllByRecursion (λ byte. not (byte == 34) ≡ true)) (sym within) none),
        all,
      )
  token_at (Some kind.LeftBracket) at front rest tokens is e all = (slice_at at front rest e ∙ is, all)
  token_at (Some kind.RightBracket) at front rest tokens is e all = (slice_at at front rest e ∙ is, all)

  tokens_at : (at : ℕ) (fronts : List Front) → AreFronts fronts [] → drop at bytes ≡ text_of fronts → AllByRecursion (HasItsBytes bytes) (tokens_from at fronts)
  tokens_at at [] are e = tt
  tokens_at at (f ∷ fronts) are e =
      let rest : List ℕ = text_of fronts ++ [] in
      let here : drop at bytes ≡ f.bytes ++ rest = e ∙ ap (λ l. f.bytes ++ l) (sym (append-nil (text_of fronts))) in
      token_at f.kind at f.bytes rest (tokens_from (at + length f.bytes) fronts) are.0 here
      (tokens_at (at + length f.bytes) fronts are.1 (drop_at at f.bytes rest here ∙ append-nil (text_of fronts)))

  -- each token of a text has its bytes
  pub tokens_have_their_bytes : (tokens : List Token) → Spelt bytes tokens → AllByRecursion (HasItsBytes bytes) tokens
  tokens_have_their_bytes tokens h = subst (AllByRecursion (HasItsBytes bytes)) (sym h.these) (tokens_at 0 h.fronts h.are h.cover)
