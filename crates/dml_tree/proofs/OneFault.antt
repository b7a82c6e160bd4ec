-- Tokens that spell a tree have no fault, and others have at most one. A walk over the tokens, which keeps only the
-- open lists and what is wanted, comes to the same answer for each way to say it.
use Rattle.std.proofs.Common.{◌≡◌, ℕ, ◌+◌, ◌<◌, cond, List, [], ◌∷◌, ◌++◌, length, refl, ap, sym, ◌∙◌, subst, append_assoc, append-nil, length-append, inl, inr, lt-ltb}
use Rattle.std.specs.Prelude.{Option, Some, None, Result, Ok, Err}
use Rattle.dml_lexer.specs.declared.lexer.Token.{Token}
use Rattle.dml_lexer.specs.declared.lexer.TokenKind.{TokenKind}
use Rattle.dml_lexer.specs.declared.lexer.TokenKind.TheVariants.{Word, Quoted, LeftBracket, RightBracket}
use Rattle.dml_tree.specs.declared.reading.TreeFault.{TreeFault}
use Rattle.dml_tree.specs.declared.reading.TreeFault.TheVariants as fault
use Rattle.dml_tree.specs.Attributes.{Attributes, none, plain, list}
use Rattle.dml_tree.specs.Grammar.{Spells, IsTextOf, Begins, Wanted, key_wanted, value_wanted, most_open, refusal_of, end_refusal, Faulted}

record At : Type 0 where
  opened : List ℕ
  wants : Wanted

abbrev at_key : List ℕ → At
at_key opened = record { opened = opened; wants = key_wanted }

abbrev at_value : List ℕ → At
at_value opened = record { opened = opened; wants = value_wanted }

abbrev but_last : List ℕ → List ℕ
but_last [] = []
but_last (x ∷ []) = []
but_last (x ∷ (y ∷ xs)) = x ∷ but_last (y ∷ xs)

-- where a token leads that may stand there
abbrev next : Wanted → List ℕ → TokenKind → ℕ → At
next key_wanted opened Word at = at_value opened
next key_wanted opened Quoted at = at_key opened
next key_wanted opened LeftBracket at = at_key opened
next key_wanted opened RightBracket at = at_key (but_last opened)
next value_wanted opened Word at = at_key opened
next value_wanted opened Quoted at = at_key opened
next value_wanted opened LeftBracket at = at_key (opened ++ at ∷ [])
next value_wanted opened RightBracket at = at_key opened

abbrev moved : Option TreeFault → At → Result At TreeFault
moved None s = Ok s
moved (Some f) s = Err f

abbrev step_by : At → TokenKind → ℕ → Result At TreeFault
step_by s kind from = moved (refusal_of s.wants s.opened kind from) (next s.wants s.opened kind from)

abbrev step : At → Token → Result At TreeFault
step s t = step_by s t.kind t.from

abbrev bind : Result At TreeFault → (At → Result At TreeFault) → Result At TreeFault
bind (Ok s) f = f s
bind (Err e) f = Err e

abbrev run : At → List Token → Result At TreeFault
run s [] = Ok s
run s (t ∷ ts) = bind (step s t) (λ s. run s ts)

bind-bind : (r : Result At TreeFault) (f g : At → Result At TreeFault) → bind (bind r f) g ≡ bind r (λ s. bind (f s) g)
bind-bind (Ok s) f g = refl
bind-bind (Err e) f g = refl

bind_each : (r : Result At TreeFault) (f g : At → Result At TreeFault) → ((s : At) → f s ≡ g s) → bind r f ≡ bind r g
bind_each (Ok s) f g h = h s
bind_each (Err e) f g h = refl

run-append : (s : At) (ts us : List Token) → run s (ts ++ us) ≡ bind (run s ts) (λ s. run s us)
run-append s [] us = refl
run-append s (t ∷ ts) us = bind_each (step s t) _ _ (λ s. run-append s ts us) ∙ sym (bind-bind (step s t) (λ s. run s ts) (λ s. run s us))

run_step : (s n : At) (t : Token) (ts : List Token) → step s t ≡ Ok n → run s (t ∷ ts) ≡ run n ts
run_step s n t ts e = ap (λ r. bind r (λ s. run s ts)) e

run_then : (s n : At) (ts us : List Token) → run s ts ≡ Ok n → run s (ts ++ us) ≡ run n us
run_then s n ts us e = run-append s ts us ∙ ap (λ r. bind r (λ s. run s us)) e

step_key : (opened : List ℕ) (k : Token) → k.kind ≡ Word → step (at_key opened) k ≡ Ok (at_value opened)
step_key opened k e = ap (λ kind. step_by (at_key opened) kind k.from) e

step_text_by : (bytes : List ℕ) (opened : List ℕ) (kind : TokenKind) (from to : ℕ) (text : List ℕ) → IsTextOf bytes kind from to text → step_by (at_value opened) kind from ≡ Ok (at_key opened)
step_text_by bytes opened Word from to text h = refl
step_text_by bytes opened Quoted from to text h = refl
step_text_by bytes opened LeftBracket from to text h = absurd h
step_text_by bytes opened RightBracket from to text h = absurd h

step_open : (opened : List ℕ) (l : Token) → l.kind ≡ LeftBracket → length opened < most_open → step (at_value opened) l ≡ Ok (at_key (opened ++ l.from ∷ []))
step_open opened l e few =
    ap (λ kind. step_by (at_value opened) kind l.from) e
    ∙ ap (λ b. moved (cond b None (Some (fault.NestedTooDeep l.from))) (at_key (opened ++ l.from ∷ []))) (lt-ltb (length opened) most_open few)

but_last-push : (opened : List ℕ) (at : ℕ) → but_last (opened ++ at ∷ []) ≡ opened
but_last-push [] at = refl
but_last-push (x ∷ []) at = refl
but_last-push (x ∷ (y ∷ xs)) at = ap (λ l. x ∷ l) (but_last-push (y ∷ xs) at)

no_stray : (opened : List ℕ) (at from : ℕ) → refusal_of key_wanted (opened ++ at ∷ []) RightBracket from ≡ None
no_stray [] at from = refl
no_stray (x ∷ xs) at from = refl

step_close : (opened : List ℕ) (at : ℕ) (r : Token) → r.kind ≡ RightBracket → step (at_key (opened ++ at ∷ [])) r ≡ Ok (at_key opened)
step_close opened at r e =
    ap (λ kind. step_by (at_key (opened ++ at ∷ [])) kind r.from) e
    ∙ ap (λ o. moved o (at_key (but_last (opened ++ at ∷ [])))) (no_stray opened at r.from)
    ∙ ap (λ l. Ok (at_key l)) (but_last-push opened at)

module _ (file : ℕ) (bytes : List ℕ) where
  spells_run : (opened : List ℕ) (depth : ℕ) (ts : List Token) (t : Attributes) → length opened ≡ depth → Spells file bytes depth ts t → run (at_key opened) ts ≡ Ok (at_key opened)
  spells_run opened depth ts none d e = ap (run (at_key opened)) e
  spells_run opened depth ts (plain key place text rest) d (k, v, more, e, ik, it, s) =
      ap (run (at_key opened)) e
      ∙ run_step (at_key opened) (at_value opened) k (v ∷ more) (step_key opened k ik.word)
      ∙ run_step (at_value opened) (at_key opened) v more (step_text_by bytes opened v.kind v.from v.to text it)
      ∙ spells_run opened depth more rest d s
  spells_run opened depth ts (list key place inner rest) d (k, l, body, r, more, e, ik, left, right, few, si, s) =
      let inside : List ℕ = opened ++ l.from ∷ [] in
      let deeper : length inside ≡ depth + 1 = length-append opened (l.from ∷ []) ∙ ap (λ n. n + 1) d in
      let room : length opened < most_open = subst (λ n. n < most_open) (sym d) few in
      ap (run (at_key opened)) e
      ∙ run_step (at_key opened) (at_value opened) k (l ∷ (body ++ r ∷ more)) (step_key opened k ik.word)
      ∙ run_step (at_value opened) (at_key inside) l (body ++ r ∷ more) (step_open opened l left room)
      ∙ run_then (at_key inside) (at_key inside) body (r ∷ more) (spells_run inside (depth + 1) body inner deeper si)
      ∙ run_step (at_key inside) (at_key opened) r more (step_close opened l.from r right)
      ∙ spells_run opened depth more rest d s

  begins_run : (so : List ℕ) (depth : ℕ) (ts : List Token) (opened : List ℕ) (w : Wanted) → length so ≡ depth → Begins file bytes depth ts opened w → run (at_key so) ts ≡ Ok (record { opened = so ++ opened; wants = w })
  begins_run so depth ts [] key_wanted d (tree, s) = spells_run so depth ts tree d s ∙ ap (λ l. Ok (at_key l)) (sym (append-nil so))
  begins_run so depth ts [] value_wanted d (before, k, tree, e, s, w) =
      ap (run (at_key so)) e
      ∙ run_then (at_key so) (at_key so) before (k ∷ []) (spells_run so depth before tree d s)
      ∙ run_step (at_key so) (at_value so) k [] (step_key so k w)
      ∙ ap (λ l. Ok (at_value l)) (sym (append-nil so))
  begins_run so depth ts (at ∷ opened) w d (before, k, l, inside, tree, e, s, word, left, from, few, b) =
      let deep : List ℕ = so ++ l.from ∷ [] in
      let deeper : length deep ≡ depth + 1 = length-append so (l.from ∷ []) ∙ ap (λ n. n + 1) d in
      let room : length so < most_open = subst (λ n. n < most_open) (sym d) few in
      let ends : List ℕ → At = λ o. record { opened = o; wants = w } in
      ap (run (at_key so)) e
      ∙ run_then (at_key so) (at_key so) before (k ∷ l ∷ inside) (spells_run so depth before tree d s)
      ∙ run_step (at_key so) (at_value so) k (l ∷ inside) (step_key so k word)
      ∙ run_step (at_value so) (at_key deep) l inside (step_open so l left room)
      ∙ begins_run deep (depth + 1) inside opened w deeper b
      ∙ ap (λ o. Ok (ends o)) (append_assoc so (l.from ∷ []) opened ∙ ap (λ n. so ++ n ∷ opened) from)

  ending : Result At TreeFault → Option TreeFault
  ending (Ok s) = end_refusal s.wants s.opened (length bytes)
  ending (Err f) = Some f

  -- the fault of a list of tokens, as the walk finds it
  outcome : List Token → Option TreeFault
  outcome ts = ending (run (at_key []) ts)

  spells_outcome : (ts : List Token) (t : Attributes) → Spells file bytes 0 ts t → outcome ts ≡ None
  unfolding outcome ending
  spells_outcome ts t s = ap ending (spells_run [] 0 ts t refl s)

  faulted_outcome : (ts : List Token) (f : TreeFault) → Faulted file bytes ts f → outcome ts ≡ Some f
  unfolding outcome ending
  faulted_outcome ts f (inl r) =
      let there : At = record { opened = r.opened; wants = r.wanted } in
      ap ending (ap (run (at_key [])) r.split
      ∙ run_then (at_key []) there r.before (r.token ∷ r.after) (begins_run [] 0 r.before r.opened r.wanted refl r.begins)
      ∙ ap (λ o. bind (moved o (next r.wanted r.opened r.token.kind r.token.from)) (λ s. run s r.after)) r.fault_is)
  faulted_outcome ts f (inr u) = ap ending (begins_run [] 0 ts u.opened u.wanted refl u.begins) ∙ u.fault_is

  -- tokens that spell a tree have no fault
  pub no_fault : (ts : List Token) (t : Attributes) (f : TreeFault) → Spells file bytes 0 ts t → Faulted file bytes ts f → ⊥
  no_fault ts t f s h = let e : None ≡ Some f = sym (spells_outcome ts t s) ∙ faulted_outcome ts f h in cc

  -- and other tokens have at most one
  pub one_fault : (ts : List Token) (f g : TreeFault) → Faulted file bytes ts f → Faulted file bytes ts g → f ≡ g
  one_fault ts f g h i = let e : Some f ≡ Some g = sym (faulted_outcome ts f h) ∙ faulted_outcome ts g i in cc
