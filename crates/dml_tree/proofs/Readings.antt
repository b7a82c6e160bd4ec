-- From what a tree that is built stands for to what the bytes mean.
use Rattle.std.proofs.Common.{◌≡◌, ℕ, suc, ◌<◌, ◌≤◌, Bool, true, false, cond, ltb, List, [], ◌∷◌, ◌++◌, length, get_or, take, drop, ap, sym, ◌∙◌, subst, inl, inr, take-append-drop, drop-cons}
use Rattle.std.specs.Prelude.{Option, Some, None, Result, Ok, Err, IfOk, IfErr}
use Rattle.dml_lexer.specs.declared.lexer.Token.{Token}
use Rattle.dml_lexer.specs.declared.lexer.TokenKind.{TokenKind}
use Rattle.dml_lexer.specs.declared.lexer.TokenKind.TheVariants.{Word, Quoted, LeftBracket, RightBracket}
use Rattle.dml_lexer.specs.Tokens.{Spelt}
use Rattle.dml_tree.specs.declared.reading.TreeFault.{TreeFault}
use Rattle.dml_tree.specs.declared.reading.TreeFault.TheVariants as fault
use Rattle.dml_tree.specs.declared.builder.Builder.{Builder}
use Rattle.dml_tree.specs.Attributes.{Attributes}
use Rattle.dml_tree.specs.TreeView.{tree_of}
use Rattle.dml_tree.specs.Grammar.{Spells, Begins, Wanted, key_wanted, value_wanted, most_open, refusal_of, end_refusal, Faulted}
use Rattle.dml_tree.specs.Building.{Stands, brackets, wanted, Holds, IsRefusal, Builds}
use Rattle.dml_tree.specs.Reading.{Reads, Answers, AnswersFault, most_bytes}
use Rattle.dml_tree.proofs.Grammars.{begins}

pub refused_builds : (file : ℕ) (bytes : List ℕ) (tokens : List Token) (i : ℕ) (d : Token) (b : Builder) (f : TreeFault) → i < length tokens → b.file ≡ file → Holds bytes (take i tokens) b → IsRefusal b.opened.items (wanted b.key) (get_or tokens i d) f → Builds file bytes tokens (Err f)
refused_builds file bytes tokens i d b f lt same h (inl e) = inl e
refused_builds file bytes tokens i d b f lt same h (inr e) = inr (inl (record {
  before = take i tokens;
  token = get_or tokens i d;
  after = drop (suc i) tokens;
  opened = brackets b.opened.items;
  wanted = wanted b.key;
  split = sym (take-append-drop i tokens) ∙ ap (λ r. take i tokens ++ r) (drop-cons tokens i d lt);
  begins = subst (λ n. Begins n bytes 0 (take i tokens) (brackets b.opened.items) (wanted b.key)) same (begins b.file bytes 0 (take i tokens) b.opened.items b.attributes.items b.key h);
  fault_is = e;
}))

pub ended_builds : (file : ℕ) (bytes : List ℕ) (tokens : List Token) (b : Builder) (r : Result Attributes TreeFault) → b.file ≡ file → Holds bytes tokens b
    → IfOk r (λ tree. (b.opened.items ≡ []) × (b.key ≡ None) × (tree ≡ tree_of b.attributes.items))
    → IfErr r (λ f. end_refusal (wanted b.key) (brackets b.opened.items) (length bytes) ≡ Some f)
    → Builds file bytes tokens r
ended_builds file bytes tokens b (Ok tree) same h ok err =
    subst (λ n. Spells n bytes 0 tokens tree) same (subst (Spells b.file bytes 0 tokens) (sym ok.2)
    (subst (Stands b.file bytes 0 tokens [] b.attributes.items) ok.1 (subst (λ os. Stands b.file bytes 0 tokens os b.attributes.items b.key) ok.0 h)))
ended_builds file bytes tokens b (Err f) same h ok err = inr (inr (record {
  opened = brackets b.opened.items;
  wanted = wanted b.key;
  begins = subst (λ n. Begins n bytes 0 tokens (brackets b.opened.items) (wanted b.key)) same (begins b.file bytes 0 tokens b.opened.items b.attributes.items b.key h);
  fault_is = err;
}))

-- a fault of the grammar
abbrev pub IsOfGrammar : TreeFault → Type 0
IsOfGrammar (fault.KeyWanted at) = Unit {0}
IsOfGrammar (fault.ValueWanted at) = Unit {0}
IsOfGrammar (fault.OpenList at) = Unit {0}
IsOfGrammar (fault.StrayClose at) = Unit {0}
IsOfGrammar (fault.NestedTooDeep at) = Unit {0}
IsOfGrammar (fault.BadByte at) = ⊥
IsOfGrammar (fault.OpenQuote at) = ⊥
IsOfGrammar fault.TooLong = ⊥
IsOfGrammar fault.Memory = ⊥

abbrev IfOfGrammar : Option TreeFault → Type 0
IfOfGrammar None = Unit {0}
IfOfGrammar (Some f) = IsOfGrammar f

left_of_grammar : (b : Bool) (at : ℕ) → IfOfGrammar (cond b None (Some (fault.NestedTooDeep at)))
left_of_grammar true at = tt
left_of_grammar false at = tt

refusal_of_grammar : (w : Wanted) (opened : List ℕ) (k : TokenKind) (at : ℕ) → IfOfGrammar (refusal_of w opened k at)
refusal_of_grammar key_wanted opened Word at = tt
refusal_of_grammar key_wanted opened Quoted at = tt
refusal_of_grammar key_wanted opened LeftBracket at = tt
refusal_of_grammar key_wanted [] RightBracket at = tt
refusal_of_grammar key_wanted (b ∷ opened) RightBracket at = tt
refusal_of_grammar value_wanted opened Word at = tt
refusal_of_grammar value_wanted opened Quoted at = tt
refusal_of_grammar value_wanted opened LeftBracket at = left_of_grammar (ltb (length opened) most_open) at
refusal_of_grammar value_wanted opened RightBracket at = tt

end_of_grammar : (w : Wanted) (opened : List ℕ) (end : ℕ) → IfOfGrammar (end_refusal w opened end)
end_of_grammar key_wanted [] end = tt
end_of_grammar key_wanted (at ∷ []) end = tt
end_of_grammar key_wanted (at ∷ (b ∷ opened)) end = end_of_grammar key_wanted (b ∷ opened) end
end_of_grammar value_wanted opened end = tt

pub faulted_of_grammar : (file : ℕ) (bytes : List ℕ) (tokens : List Token) (f : TreeFault) → Faulted file bytes tokens f → IsOfGrammar f
faulted_of_grammar file bytes tokens f (inl r) = subst IfOfGrammar r.fault_is (refusal_of_grammar r.wanted r.opened r.token.kind r.token.from)
faulted_of_grammar file bytes tokens f (inr u) = subst IfOfGrammar u.fault_is (end_of_grammar u.wanted u.opened (length bytes))

meant : (Means : Result Attributes TreeFault → Type 0) (f : TreeFault) → Means (Err f) → AnswersFault Means f
meant Means fault.Memory h = tt
meant Means f h = h

module _ (file : ℕ) (bytes : List ℕ) (tokens : List Token) (short : length bytes ≤ most_bytes) (spelt : Spelt bytes tokens) where
  pub fault_reads : (f : TreeFault) → IsOfGrammar f → Faulted file bytes tokens f → Reads file bytes (Err f)
  fault_reads (fault.KeyWanted at) g h = record { short = short; tokens = tokens; spelt = spelt; faulted = h }
  fault_reads (fault.ValueWanted at) g h = record { short = short; tokens = tokens; spelt = spelt; faulted = h }
  fault_reads (fault.OpenList at) g h = record { short = short; tokens = tokens; spelt = spelt; faulted = h }
  fault_reads (fault.StrayClose at) g h = record { short = short; tokens = tokens; spelt = spelt; faulted = h }
  fault_reads (fault.NestedTooDeep at) g h = record { short = short; tokens = tokens; spelt = spelt; faulted = h }
  fault_reads (fault.BadByte at) g h = absurd g
  fault_reads (fault.OpenQuote at) g h = absurd g
  fault_reads fault.TooLong g h = absurd g
  fault_reads fault.Memory g h = absurd g

  pub answers : (r : Result Attributes TreeFault) → Builds file bytes tokens r → Answers (Reads file bytes) r
  answers (Ok tree) h = record { short = short; tokens = tokens; spelt = spelt; spells = h }
  answers (Err f) (inl e) = subst (λ g. Answers (Reads file bytes) (Err g)) (sym e) tt
  answers (Err f) (inr h) = meant (Reads file bytes) f (fault_reads f (faulted_of_grammar file bytes tokens f h) h)
