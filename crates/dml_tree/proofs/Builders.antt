-- One step of a tree that is built, over the tokens that it stands for.
use Rattle.std.proofs.Common.{◌≡◌, ℕ, suc, ◌≤◌, false, cond, ltb, List, [], ◌∷◌, ◌++◌, length, refl, ap, sym, ◌∙◌, subst, inl, inr, arith, le-ltb}
use Rattle.std.specs.Prelude.{Option, Some, None, Result, Ok, Err, OnOk, IfErr, ◌⊎◌}
use Rattle.dml_lexer.specs.declared.lexer.Token.{Token}
use Rattle.dml_lexer.specs.declared.lexer.TokenKind.{TokenKind}
use Rattle.dml_lexer.specs.declared.lexer.TokenKind.TheVariants.{LeftBracket, RightBracket}
use Rattle.dml_tree.specs.declared.tree.Attribute.{Attribute}
use Rattle.dml_tree.specs.declared.tree.Value.TheVariants as value
use Rattle.dml_tree.specs.declared.reading.TreeFault.{TreeFault}
use Rattle.dml_tree.specs.declared.reading.TreeFault.TheVariants as fault
use Rattle.dml_tree.specs.declared.builder.Open.{Open}
use Rattle.dml_tree.specs.declared.builder.Key.{Key}
use Rattle.dml_tree.specs.declared.builder.Builder.{Builder}
use Rattle.dml_tree.specs.Grammar.{IsText, IsTextOf, key_wanted, value_wanted, most_open, refusal_of, end_refusal}
use Rattle.dml_tree.specs.Building.{Stands, brackets, GoesOn, IsRefusal, IsOneMore, IsOpened, IsClosed}
use Rattle.dml_tree.proofs.Grammars.{push_text, push_open, push_close}

pub on_ok : {T E : Type 0} (r : Result T E) (P Q : Type 0) → (P → Q) → OnOk r P → OnOk r Q
on_ok (Ok x) P Q f h = f h
on_ok (Err e) P Q f h = tt

pub if_err : {T E : Type 0} (r : Result T E) (P Q : E → Type 0) → ((e : E) → P e → Q e) → IfErr r P → IfErr r Q
if_err (Ok x) P Q f h = tt
if_err (Err e) P Q f h = f e h

-- a state with equal parts stands for the same tokens
pub same_state : (bytes : List ℕ) (ts : List Token) (f g : ℕ) (os ps : List Open) (xs ys : List Attribute) (k l : Option Key) → f ≡ g → os ≡ ps → xs ≡ ys → k ≡ l → Stands g bytes 0 ts ps ys l → Stands f bytes 0 ts os xs k
same_state bytes ts f g os ps xs ys k l ef eo ex ek h =
    subst (λ f. Stands f bytes 0 ts os xs k) (sym ef) (subst (λ os. Stands g bytes 0 ts os xs k) (sym eo) (subst (λ xs. Stands g bytes 0 ts ps xs k) (sym ex) (subst (Stands g bytes 0 ts ps ys) (sym ek) h)))

pub is_text : (bytes : List ℕ) (token : Token) (kind : TokenKind) (text : List ℕ) → token.kind ≡ kind → IsTextOf bytes kind token.from token.to text → IsText bytes token text
is_text bytes token kind text e h = subst (λ k. IsTextOf bytes k token.from token.to text) (sym e) h

pub text_goes_on : (bytes : List ℕ) (token : Token) (old new : Builder) (key : Key) (text : List ℕ) → old.key ≡ None → IsText bytes token text → IsOneMore old key (value.Plain text) new → GoesOn bytes token old (Some key) new
text_goes_on bytes token old new key text none_left is more = record {
  file = more.file;
  holds = λ ts h. same_state bytes (ts ++ token ∷ []) _ _ _ _ _ _ _ _ more.file more.opened more.attributes (more.key_left ∙ none_left)
      (push_text old.file bytes 0 ts old.opened.items old.attributes.items token key text h is);
}

pub open_goes_on : (bytes : List ℕ) (token : Token) (old new : Builder) (key : Key) → old.key ≡ None → token.kind ≡ LeftBracket → IsOpened old key token.from new → GoesOn bytes token old (Some key) new
open_goes_on bytes token old new key none_left left opened = record {
  file = opened.file;
  holds = λ ts h. same_state bytes (ts ++ token ∷ []) _ _ _ _ _ _ _ _ opened.file opened.opened opened.attributes (opened.key_left ∙ none_left)
      (push_open old.file bytes 0 ts old.opened.items (record { before = old.attributes; key = key; bracket = token.from }) token h left refl (omega (arith, opened.fewer)));
}

pub close_goes_on : (bytes : List ℕ) (token : Token) (old new : Builder) → old.key ≡ None → token.kind ≡ RightBracket → IsClosed old new → GoesOn bytes token old None new
close_goes_on bytes token old new none_left right closed = record {
  file = closed.file;
  holds = λ ts h. same_state bytes (ts ++ token ∷ []) _ _ _ _ _ _ _ _ closed.file refl closed.attributes (closed.key_left ∙ none_left)
      (push_close old.file bytes 0 ts new.opened.items closed.closed old.attributes.items token
      (subst (λ os. Stands old.file bytes 0 ts os old.attributes.items None) closed.opened h) right);
}

pub length-brackets : (opens : List Open) → length (brackets opens) ≡ length opens
length-brackets [] = refl
length-brackets (o ∷ opens) = ap suc (length-brackets opens)

pub left_refused : (opens : List Open) (token : Token) (f : TreeFault) → token.kind ≡ LeftBracket → (f ≡ fault.Memory) ⊎ ((most_open ≤ length opens) × (f ≡ fault.NestedTooDeep token.from)) → IsRefusal opens value_wanted token f
left_refused opens token f left (inl e) = inl e
left_refused opens token f left (inr (le, e)) =
    let shut : ltb (length (brackets opens)) most_open ≡ false = le-ltb _ _ (omega (arith, length-brackets opens)) in
    inr (ap (λ k. refusal_of value_wanted (brackets opens) k token.from) left
    ∙ ap (λ b. cond b None (Some (fault.NestedTooDeep token.from))) shut
    ∙ ap Some (sym e))

pub right_refused : (opens : List Open) (token : Token) (f : TreeFault) → token.kind ≡ RightBracket → (f ≡ fault.Memory) ⊎ ((opens ≡ []) × (f ≡ fault.StrayClose token.from)) → IsRefusal opens key_wanted token f
right_refused opens token f right (inl e) = inl e
right_refused opens token f right (inr (none_open, e)) =
    inr (ap (λ k. refusal_of key_wanted (brackets opens) k token.from) right
    ∙ ap (λ os. refusal_of key_wanted (brackets os) RightBracket token.from) none_open
    ∙ ap Some (sym e))

-- the innermost of the open lists is the last
pub end_of_last : (opens : List Open) (o : Open) (end : ℕ) → end_refusal key_wanted (brackets (opens ++ o ∷ [])) end ≡ Some (fault.OpenList o.bracket)
end_of_last [] o end = refl
end_of_last (p ∷ []) o end = refl
end_of_last (p ∷ (q ∷ opens)) o end = end_of_last (q ∷ opens) o end
