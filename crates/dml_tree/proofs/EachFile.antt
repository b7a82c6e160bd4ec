-- Each file has a meaning: a walk over the tokens of its text, which keeps how they begin a list.
use Rattle.std.proofs.Common.{◌≡◌, ℕ, ◌+◌, ◌<◌, ◌≤◌, Bool, true, false, cond, ltb, List, [], ◌∷◌, ◌++◌, length, refl, ap, sym, ◌∙◌, subst, append_assoc, append-nil, inl, inr, arith}
use Rattle.std.specs.Prelude.{Option, Some, None, ◌⊎◌, Result, Ok, Err}
use Rattle.std.proofs.lemmas.Bool.{ltb-true, ltb-false}
use Rattle.dml_lexer.specs.declared.lexer.Token.{Token}
use Rattle.dml_lexer.specs.declared.lexer.TokenKind.{TokenKind}
use Rattle.dml_lexer.specs.declared.lexer.TokenKind.TheVariants.{Word, Quoted, LeftBracket, RightBracket}
use Rattle.dml_lexer.specs.declared.lexer.LexFault.TheVariants as lexical
use Rattle.dml_lexer.specs.Tokens.{Spelt, Unspelt}
use Rattle.dml_lexer.proofs.EachText.{each_text}
use Rattle.dml_tree.specs.declared.reading.TreeFault.{TreeFault}
use Rattle.dml_tree.specs.declared.reading.TreeFault.TheVariants as fault
use Rattle.dml_tree.specs.Attributes.{Attributes, none, plain, list}
use Rattle.dml_tree.specs.TreeView.{joined}
use Rattle.dml_tree.specs.Grammar.{Spells, IsTextOf, IsText, Begins, Wanted, key_wanted, value_wanted, most_open, refusal_of, end_refusal, Faulted}
use Rattle.dml_tree.specs.Reading.{Reads, most_bytes}
use Rattle.dml_tree.proofs.Grammars.{Spells-append}
use Rattle.dml_tree.proofs.Beginnings.{key_of, place_of, is_key}
use Rattle.dml_tree.proofs.Readings.{fault_reads, faulted_of_grammar}

-- how tokens begin a list, whatever it is
data Begun (file : ℕ) (bytes : List ℕ) (tokens : List Token) : Type 0 where
  begun : (opened : List ℕ) (wanted : Wanted) → Begins file bytes 0 tokens opened wanted → Begun file bytes tokens

-- a tree or a fault
data Ended (file : ℕ) (bytes : List ℕ) (tokens : List Token) : Type 0 where
  spelled : (tree : Attributes) → Spells file bytes 0 tokens tree → Ended file bytes tokens
  faulted : (f : TreeFault) → Faulted file bytes tokens f → Ended file bytes tokens

-- all but the last of a list that is not empty, and the last
last_of : (x : ℕ) (xs : List ℕ) → (front : List ℕ) × (last : ℕ) × (x ∷ xs ≡ front ++ last ∷ [])
last_of x [] = ([], x, refl)
last_of x (y ∷ xs) = let more = last_of y xs in (x ∷ more.0, more.1, ap (λ l. x ∷ l) more.2)

module _ (file : ℕ) (bytes : List ℕ) where
  text_of_kind : (kind : TokenKind) (from to : ℕ) (opened : List ℕ) → refusal_of value_wanted opened kind from ≡ None → (kind ≡ LeftBracket) ⊎ ((text : List ℕ) × IsTextOf bytes kind from to text)
  text_of_kind Word from to opened e = inr (_, refl)
  text_of_kind Quoted from to opened e = inr (_, refl)
  text_of_kind LeftBracket from to opened e = inl refl
  text_of_kind RightBracket from to opened e = absurd (cc)

  key_step : (depth : ℕ) (tokens : List Token) (opened : List ℕ) (t : Token) → Begins file bytes depth tokens opened key_wanted → t.kind ≡ Word → Begins file bytes depth (tokens ++ t ∷ []) opened value_wanted
  key_step depth tokens [] t (tree, s) word = (tokens, t, tree, refl, s, word)
  key_step depth tokens (at ∷ opened) t (before, k, l, inside, tree, e, s, word, left, from, few, b) is =
      (before, k, l, inside ++ t ∷ [], tree, ap (λ x. x ++ t ∷ []) e ∙ append_assoc before (k ∷ l ∷ inside) (t ∷ []), s, word, left, from, few, key_step (depth + 1) inside opened t b is)

  text_step : (depth : ℕ) (tokens : List Token) (opened : List ℕ) (t : Token) (text : List ℕ) → Begins file bytes depth tokens opened value_wanted → IsText bytes t text → Begins file bytes depth (tokens ++ t ∷ []) opened key_wanted
  text_step depth tokens [] t text (before, k, tree, e, s, word) is =
      let whole : Attributes = joined tree (plain (key_of file bytes k) (place_of file bytes k) text none) in (
        whole,
        subst (λ ts. Spells file bytes depth ts whole) (sym (ap (λ x. x ++ t ∷ []) e ∙ append_assoc before (k ∷ []) (t ∷ [])))
            (Spells-append file bytes depth before (k ∷ t ∷ []) tree (plain (key_of file bytes k) (place_of file bytes k) text none) s
            (k, t, [], refl, is_key file bytes k word, is, refl)),
      )
  text_step depth tokens (at ∷ opened) t text (before, k, l, inside, tree, e, s, word, left, from, few, b) is =
      (before, k, l, inside ++ t ∷ [], tree, ap (λ x. x ++ t ∷ []) e ∙ append_assoc before (k ∷ l ∷ inside) (t ∷ []), s, word, left, from, few, text_step (depth + 1) inside opened t text b is)

  open_step : (depth : ℕ) (tokens : List Token) (opened : List ℕ) (t : Token) → Begins file bytes depth tokens opened value_wanted → t.kind ≡ LeftBracket → depth + length opened < most_open → Begins file bytes depth (tokens ++ t ∷ []) (opened ++ t.from ∷ []) key_wanted
  open_step depth tokens [] t (before, k, tree, e, s, word) is few =
      (before, k, t, [], tree, ap (λ x. x ++ t ∷ []) e ∙ append_assoc before (k ∷ []) (t ∷ []), s, word, is, refl, (let f : depth < most_open = omega arith in f), (none, refl))
  open_step depth tokens (at ∷ opened) t (before, k, l, inside, tree, e, s, word, left, from, room, b) is few =
      (before, k, l, inside ++ t ∷ [], tree, ap (λ x. x ++ t ∷ []) e ∙ append_assoc before (k ∷ l ∷ inside) (t ∷ []), s, word, left, from, room, open_step (depth + 1) inside opened t b is (omega arith))

  close_step : (depth : ℕ) (tokens : List Token) (opened : List ℕ) (last : ℕ) (t : Token) → Begins file bytes depth tokens (opened ++ last ∷ []) key_wanted → t.kind ≡ RightBracket → Begins file bytes depth (tokens ++ t ∷ []) opened key_wanted
  close_step depth tokens [] last t (before, k, l, inside, tree, e, s, word, left, from, few, (inner, within)) is =
      let part : Attributes = list (key_of file bytes k) (place_of file bytes k) inner none in (
        joined tree part,
        subst (λ ts. Spells file bytes depth ts (joined tree part)) (sym (ap (λ x. x ++ t ∷ []) e ∙ append_assoc before (k ∷ l ∷ inside) (t ∷ [])))
            (Spells-append file bytes depth before (k ∷ l ∷ (inside ++ t ∷ [])) tree part s
            (k, l, inside, t, [], refl, is_key file bytes k word, left, is, few, within, refl)),
      )
  close_step depth tokens (at ∷ opened) last t (before, k, l, inside, tree, e, s, word, left, from, few, b) is =
      (before, k, l, inside ++ t ∷ [], tree, ap (λ x. x ++ t ∷ []) e ∙ append_assoc before (k ∷ l ∷ inside) (t ∷ []), s, word, left, from, few, close_step (depth + 1) inside opened last t b is)

  room : (opened : List ℕ) (at : ℕ) (few : Bool) → ltb (length opened) most_open ≡ few → cond few None (Some (fault.NestedTooDeep at)) ≡ None → length opened < most_open
  room opened at true e h = ltb-true (length opened) most_open e
  room opened at false e h = absurd (cc)

  opens : (tokens : List Token) (opened : List ℕ) (t : Token) → Begins file bytes 0 tokens opened value_wanted → t.kind ≡ LeftBracket → refusal_of value_wanted opened LeftBracket t.from ≡ None → Begun file bytes (tokens ++ t ∷ [])
  opens tokens opened t b is e =
      let few : length opened < most_open = room opened t.from (ltb (length opened) most_open) refl e in
      begun (opened ++ t.from ∷ []) key_wanted (open_step 0 tokens opened t b is (omega arith))

  closes : (tokens : List Token) (opened : List ℕ) (t : Token) → Begins file bytes 0 tokens opened key_wanted → t.kind ≡ RightBracket → refusal_of key_wanted opened RightBracket t.from ≡ None → Begun file bytes (tokens ++ t ∷ [])
  closes tokens [] t b is e = absurd (cc)
  closes tokens (x ∷ opened) t b is e =
      let parts = last_of x opened in
      begun parts.0 key_wanted (close_step 0 tokens parts.0 parts.1 t (subst (λ o. Begins file bytes 0 tokens o key_wanted) parts.2 b) is)

  key_goes_on : (tokens : List Token) (opened : List ℕ) (t : Token) (kind : TokenKind) → t.kind ≡ kind → Begins file bytes 0 tokens opened key_wanted → refusal_of key_wanted opened kind t.from ≡ None → Begun file bytes (tokens ++ t ∷ [])
  key_goes_on tokens opened t Word is b e = begun opened value_wanted (key_step 0 tokens opened t b is)
  key_goes_on tokens opened t Quoted is b e = absurd (cc)
  key_goes_on tokens opened t LeftBracket is b e = absurd (cc)
  key_goes_on tokens opened t RightBracket is b e = closes tokens opened t b is e

  value_goes_on : (tokens : List Token) (opened : List ℕ) (t : Token) → Begins file bytes 0 tokens opened value_wanted → refusal_of value_wanted opened t.kind t.from ≡ None → (t.kind ≡ LeftBracket) ⊎ ((text : List ℕ) × IsText bytes t text) → Begun file bytes (tokens ++ t ∷ [])
  value_goes_on tokens opened t b e (inl is) = opens tokens opened t b is (sym (ap (λ k. refusal_of value_wanted opened k t.from) is) ∙ e)
  value_goes_on tokens opened t b e (inr (text, is)) = begun opened key_wanted (text_step 0 tokens opened t text b is)

  more : (tokens : List Token) (opened : List ℕ) (wanted : Wanted) (t : Token) → Begins file bytes 0 tokens opened wanted → refusal_of wanted opened t.kind t.from ≡ None → Begun file bytes (tokens ++ t ∷ [])
  more tokens opened key_wanted t b e = key_goes_on tokens opened t t.kind refl b e
  more tokens opened value_wanted t b e = value_goes_on tokens opened t b e (text_of_kind t.kind t.from t.to opened e)

  at_end : (tokens : List Token) (opened : List ℕ) (wanted : Wanted) (o : Option TreeFault) → Begins file bytes 0 tokens opened wanted → end_refusal wanted opened (length bytes) ≡ o → Ended file bytes tokens
  at_end tokens [] key_wanted None b e = spelled b.0 b.1
  at_end tokens (x ∷ opened) key_wanted None b e = absurd (not_open x opened e)
    where
      not_open : (x : ℕ) (opened : List ℕ) → end_refusal key_wanted (x ∷ opened) (length bytes) ≡ None → ⊥
      not_open x [] e = cc
      not_open x (y ∷ opened) e = not_open y opened e
  at_end tokens opened value_wanted None b e = absurd (cc)
  at_end tokens opened wanted (Some f) b e = faulted f (inr (record { opened = opened; wanted = wanted; begins = b; fault_is = e }))

  at_token : (before : List Token) (t : Token) (after : List Token) (opened : List ℕ) (wanted : Wanted) (o : Option TreeFault) → Begins file bytes 0 before opened wanted → refusal_of wanted opened t.kind t.from ≡ o → (Begun file bytes (before ++ t ∷ []) → Ended file bytes (before ++ t ∷ after)) → Ended file bytes (before ++ t ∷ after)
  at_token before t after opened wanted None b e go = go (more before opened wanted t b e)
  at_token before t after opened wanted (Some f) b e go =
      faulted f (inl (record { before = before; token = t; after = after; opened = opened; wanted = wanted; split = refl; begins = b; fault_is = e }))

  walk : (before after : List Token) → Begun file bytes before → Ended file bytes (before ++ after)
  walk before [] (begun opened wanted b) = subst (Ended file bytes) (sym (append-nil before)) (at_end before opened wanted (end_refusal wanted opened (length bytes)) b refl)
  walk before (t ∷ after) (begun opened wanted b) =
      at_token before t after opened wanted (refusal_of wanted opened t.kind t.from) b refl
      (λ on. subst (Ended file bytes) (append_assoc before (t ∷ []) after) (walk (before ++ t ∷ []) after on))

  ended : (tokens : List Token) → Ended file bytes tokens
  ended tokens = walk [] tokens (begun [] key_wanted (none, refl))

  of_ended : (tokens : List Token) → length bytes ≤ most_bytes → Spelt bytes tokens → Ended file bytes tokens → (meaning : Result Attributes TreeFault) × Reads file bytes meaning
  of_ended tokens short spelt (spelled tree s) = (Ok tree, record { short = short; tokens = tokens; spelt = spelt; spells = s })
  of_ended tokens short spelt (faulted f h) = (Err f, fault_reads file bytes tokens short spelt f (faulted_of_grammar file bytes tokens f h) h)

  of_text : length bytes ≤ most_bytes → ((ts : List Token) × Spelt bytes ts) ⊎ (((at : ℕ) × Unspelt bytes (lexical.BadByte at)) ⊎ ((at : ℕ) × Unspelt bytes (lexical.OpenQuote at))) → (meaning : Result Attributes TreeFault) × Reads file bytes meaning
  of_text short (inl (ts, spelt)) = of_ended ts short spelt (ended ts)
  of_text short (inr (inl (at, h))) = (Err (fault.BadByte at), (short, h))
  of_text short (inr (inr (at, h))) = (Err (fault.OpenQuote at), (short, h))

  of_length : (long : Bool) → ltb most_bytes (length bytes) ≡ long → (meaning : Result Attributes TreeFault) × Reads file bytes meaning
  of_length true e = (Err fault.TooLong, ltb-true most_bytes (length bytes) e)
  of_length false e = of_text (ltb-false most_bytes (length bytes) e) (each_text bytes)

  -- the bytes of a file have a meaning
  pub each_file : (meaning : Result Attributes TreeFault) × Reads file bytes meaning
  each_file = of_length (ltb most_bytes (length bytes)) refl
