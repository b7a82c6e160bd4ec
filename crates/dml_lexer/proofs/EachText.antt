-- Each text has tokens or a fault: a walk over it, by what its first byte begins.
use Rattle.std.proofs.Common.{◌≡◌, ℕ, zero, suc, ◌+◌, ◌<◌, ◌≤◌, ◌==◌, Bool, true, false, not, ◌||◌, ltb, List, [], ◌∷◌, ◌++◌, length, refl, ap, sym, ◌∙◌, subst, inl, inr, arith, eqb-true, length-append}
use Rattle.std.specs.Prelude.{Option, Some, None, ◌⊎◌}
use Rattle.std.specs.List.{prefix_len}
use Rattle.std.proofs.lemmas.Bool.{ltb-true, ltb-false}
use Rattle.std.proofs.lemmas.List.Sums.{prefix_len-le-length}
use Rattle.dml_lexer.specs.declared.lexer.TokenKind.{TokenKind}
use Rattle.dml_lexer.specs.declared.lexer.TokenKind.TheVariants as kind
use Rattle.dml_lexer.specs.declared.lexer.Token.{Token}
use Rattle.dml_lexer.specs.declared.lexer.LexFault.TheVariants.{BadByte, OpenQuote}
use Rattle.dml_lexer.specs.Tokens.{is_blank, is_mark, is_word_byte, text_of, with_token, Spelt, Unspelt, Reaches, BeginsBad, BeginsOpen}
use Rattle.dml_lexer.specs.FirstFront.{BeginsFront}
use Rattle.dml_lexer.proofs.Runs.{comment_begins, word_begins, quoted_begins, open_begins}
use Rattle.dml_lexer.proofs.Walked.{Walked, walked_none, walked_more, walked_all, walked_fault}

-- what a text that is not empty begins with
data First (bytes : List ℕ) : Type 0 where
  front : (kind : Option TokenKind) (len : ℕ) → BeginsFront kind len bytes → First bytes
  bad : BeginsBad bytes → First bytes
  unclosed : BeginsOpen bytes → First bytes

no_other : (blank mark word : Bool) → blank ≡ false → mark ≡ false → word ≡ false → (blank || mark || word) ≡ false
no_other blank mark word a b c = ap (λ x. x || mark || word) a ∙ ap (λ x. x || word) b ∙ c

no_mark : (a b c d : Bool) → a ≡ false → b ≡ false → c ≡ false → d ≡ false → (a || b || c || d) ≡ false
no_mark a b c d e f g h = ap (λ x. x || b || c || d) e ∙ ap (λ x. x || c || d) f ∙ ap (λ x. x || d) g ∙ h

module _ (byte : ℕ) (more : List ℕ) where
  of_word : (word : Bool) → is_word_byte byte ≡ word → is_blank byte ≡ false → is_mark byte ≡ false → First (byte ∷ more)
  of_word true e blank mark =
      front (Some kind.Word) (1 + prefix_len is_word_byte more) (word_begins byte more (prefix_len is_word_byte more) e refl (prefix_len-le-length is_word_byte more))
  of_word false e blank mark = bad (no_other (is_blank byte) (is_mark byte) (is_word_byte byte) blank mark e)

  of_quote : (closed : Bool) → ltb (prefix_len (λ b. not (b == 34)) more) (length more) ≡ closed → First (34 ∷ more)
  of_quote true e = front (Some kind.Quoted) (prefix_len (λ b. not (b == 34)) more + 2) (quoted_begins more (prefix_len (λ b. not (b == 34)) more) refl (ltb-true (prefix_len (λ b. not (b == 34)) more) (length more) e))
  of_quote false e = unclosed (open_begins more (prefix_len (λ b. not (b == 34)) more) refl (ltb-false (prefix_len (λ b. not (b == 34)) more) (length more) e))

  at : (other : ℕ) → (byte == other) ≡ true → First (other ∷ more) → First (byte ∷ more)
  at other e h = subst (λ b. First (b ∷ more)) (sym (eqb-true byte other e)) h

  is_quote : (quote : Bool) → (byte == 34) ≡ quote → is_blank byte ≡ false → (byte == 35) ≡ false → (byte == 91) ≡ false → (byte == 93) ≡ false → First (byte ∷ more)
  is_quote true e blank hash left right = at 34 e (of_quote (ltb (prefix_len (λ b. not (b == 34)) more) (length more)) refl)
  is_quote false e blank hash left right = of_word (is_word_byte byte) refl blank (no_mark (byte == 35) (byte == 91) (byte == 93) (byte == 34) hash left right e)

  is_right : (right : Bool) → (byte == 93) ≡ right → is_blank byte ≡ false → (byte == 35) ≡ false → (byte == 91) ≡ false → First (byte ∷ more)
  is_right true e blank hash left = at 93 e (front (Some kind.RightBracket) 1 (record { some = omega arith; within = omega arith; is = refl }))
  is_right false e blank hash left = is_quote (byte == 34) refl blank hash left e

  is_left : (left : Bool) → (byte == 91) ≡ left → is_blank byte ≡ false → (byte == 35) ≡ false → First (byte ∷ more)
  is_left true e blank hash = at 91 e (front (Some kind.LeftBracket) 1 (record { some = omega arith; within = omega arith; is = refl }))
  is_left false e blank hash = is_right (byte == 93) refl blank hash e

  is_hash : (hash : Bool) → (byte == 35) ≡ hash → is_blank byte ≡ false → First (byte ∷ more)
  is_hash true e blank =
      at 35 e (front None (1 + prefix_len (λ b. not (b == 10)) more) (comment_begins more (prefix_len (λ b. not (b == 10)) more) refl (prefix_len-le-length (λ b. not (b == 10)) more)))
  is_hash false e blank = is_left (byte == 91) refl blank e

  of_blank : (blank : Bool) → is_blank byte ≡ blank → First (byte ∷ more)
  of_blank true e = front None 1 (record { some = omega arith; within = omega arith; is = inl (byte, e, refl) })
  of_blank false e = is_hash (byte == 35) refl e

  first : First (byte ∷ more)
  first = of_blank (is_blank byte) refl

-- tokens or a fault
data Meaning (bytes : List ℕ) : Type 0 where
  tokens : (ts : List Token) → Spelt bytes ts → Meaning bytes
  bad_byte : (at : ℕ) → Reaches bytes at BeginsBad → Meaning bytes
  open_quote : (at : ℕ) → Reaches bytes at BeginsOpen → Meaning bytes

at_end : (bytes : List ℕ) (at : ℕ) (ts : List Token) (w : Walked bytes at ts) → w.rest ≡ [] → length bytes ≤ at
at_end bytes at ts w e = omega (arith, ap length e, ap length w.cover, length-append (text_of w.fronts) w.rest, w.place)

-- one front more, or the end of the walk
on_first : (bytes : List ℕ) (at : ℕ) (ts : List Token) (w : Walked bytes at ts) → First w.rest → ((there : ℕ) (us : List Token) → Walked bytes there us → at < there → Meaning bytes) → Meaning bytes
on_first bytes at ts w (front k len h) go = go (at + len) (ts ++ with_token k at (at + len) []) (walked_more bytes at ts k len w h) (omega (arith, h.some))
on_first bytes at ts w (bad h) go = bad_byte at (walked_fault bytes at ts w BeginsBad h)
on_first bytes at ts w (unclosed h) go = open_quote at (walked_fault bytes at ts w BeginsOpen h)

on_rest : (bytes : List ℕ) (at : ℕ) (ts : List Token) (w : Walked bytes at ts) (rest : List ℕ) → w.rest ≡ rest → ((there : ℕ) (us : List Token) → Walked bytes there us → at < there → Meaning bytes) → Meaning bytes
on_rest bytes at ts w [] e go = tokens ts (walked_all bytes at ts w (at_end bytes at ts w e))
on_rest bytes at ts w (byte ∷ more) e go = on_first bytes at ts w (subst First (sym e) (first byte more)) go

-- a walk that has no more than so many bytes before it
walk : (n : ℕ) (bytes : List ℕ) (at : ℕ) (ts : List Token) → Walked bytes at ts → length bytes ≤ at + n → Meaning bytes
walk zero bytes at ts w le = tokens ts (walked_all bytes at ts w (omega arith))
walk (suc n) bytes at ts w le = on_rest bytes at ts w w.rest refl (λ there us v lt. walk n bytes there us v (omega arith))

either : (bytes : List ℕ) → Meaning bytes → ((ts : List Token) × Spelt bytes ts) ⊎ (((at : ℕ) × Unspelt bytes (BadByte at)) ⊎ ((at : ℕ) × Unspelt bytes (OpenQuote at)))
either bytes (tokens ts h) = inl (ts, h)
either bytes (bad_byte at h) = inr (inl (at, h))
either bytes (open_quote at h) = inr (inr (at, h))

pub each_text : (bytes : List ℕ) → ((ts : List Token) × Spelt bytes ts) ⊎ (((at : ℕ) × Unspelt bytes (BadByte at)) ⊎ ((at : ℕ) × Unspelt bytes (OpenQuote at)))
each_text bytes = either bytes (walk (length bytes) bytes 0 [] (walked_none bytes) (omega arith))
