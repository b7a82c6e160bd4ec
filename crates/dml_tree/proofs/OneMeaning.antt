-- The bytes of a file have at most one meaning.
use Rattle.std.proofs.Common.{◌≡◌, ℕ, ◌<◌, ◌≤◌, List, length, refl, ap, sym, ◌∙◌, subst, arith}
use Rattle.std.specs.Prelude.{Result, Ok, Err}
use Rattle.dml_lexer.specs.Tokens.{Reaches, BeginsBad, BeginsOpen}
use Rattle.dml_lexer.proofs.OneSplit.{one_list, no_bad, no_open, one_bad, one_open, not_both}
use Rattle.dml_tree.specs.declared.reading.TreeFault.{TreeFault}
use Rattle.dml_tree.specs.declared.reading.TreeFault.TheVariants as fault
use Rattle.dml_tree.specs.Attributes.{Attributes}
use Rattle.dml_tree.specs.Grammar.{Spells, Faulted}
use Rattle.dml_tree.specs.Reading.{Reads, HasTree, HasNoTree, most_bytes}
use Rattle.dml_tree.proofs.OneTree.{one_tree}
use Rattle.dml_tree.proofs.OneFault.{no_fault, one_fault}

-- the five ways in which a file has a meaning
data Way (file : ℕ) (bytes : List ℕ) (x : Result Attributes TreeFault) : Type 0 where
  long : most_bytes < length bytes → x ≡ Err fault.TooLong → Way file bytes x
  unread : (at : ℕ) → length bytes ≤ most_bytes → Reaches bytes at BeginsBad → x ≡ Err (fault.BadByte at) → Way file bytes x
  unclosed : (at : ℕ) → length bytes ≤ most_bytes → Reaches bytes at BeginsOpen → x ≡ Err (fault.OpenQuote at) → Way file bytes x
  treeless : (f : TreeFault) → HasNoTree file bytes f → x ≡ Err f → Way file bytes x
  spelled : (t : Attributes) → HasTree file bytes t → x ≡ Ok t → Way file bytes x

module _ (file : ℕ) (bytes : List ℕ) where
  way : (x : Result Attributes TreeFault) → Reads file bytes x → Way file bytes x
  way (Ok t) h = spelled t h refl
  way (Err fault.TooLong) h = long h refl
  way (Err (fault.BadByte at)) h = unread at h.0 h.1 refl
  way (Err (fault.OpenQuote at)) h = unclosed at h.0 h.1 refl
  way (Err (fault.KeyWanted at)) h = treeless (fault.KeyWanted at) h refl
  way (Err (fault.ValueWanted at)) h = treeless (fault.ValueWanted at) h refl
  way (Err (fault.OpenList at)) h = treeless (fault.OpenList at) h refl
  way (Err (fault.StrayClose at)) h = treeless (fault.StrayClose at) h refl
  way (Err (fault.NestedTooDeep at)) h = treeless (fault.NestedTooDeep at) h refl
  way (Err fault.Memory) h = absurd h

  same_faults : (f g : TreeFault) → HasNoTree file bytes f → HasNoTree file bytes g → f ≡ g
  same_faults f g a b =
      one_fault file bytes b.tokens f g (subst (λ ts. Faulted file bytes ts f) (one_list bytes a.tokens b.tokens a.spelt b.spelt) a.faulted) b.faulted

  same_trees : (t u : Attributes) → HasTree file bytes t → HasTree file bytes u → t ≡ u
  same_trees t u a b =
      one_tree file bytes 0 b.tokens t u (subst (λ ts. Spells file bytes 0 ts t) (one_list bytes a.tokens b.tokens a.spelt b.spelt) a.spells) b.spells

  not_both_ways : (t : Attributes) (f : TreeFault) → HasTree file bytes t → HasNoTree file bytes f → ⊥
  not_both_ways t f a b =
      no_fault file bytes b.tokens t f (subst (λ ts. Spells file bytes 0 ts t) (one_list bytes a.tokens b.tokens a.spelt b.spelt) a.spells) b.faulted

  same_way : (x y : Result Attributes TreeFault) → Way file bytes x → Way file bytes y → x ≡ y
  same_way x y (long h e) (long g d) = e ∙ sym d
  same_way x y (long h e) (unread at s r d) = absurd (omega arith)
  same_way x y (long h e) (unclosed at s r d) = absurd (omega arith)
  same_way x y (long h e) (treeless f n d) = absurd (omega (arith, n.short))
  same_way x y (long h e) (spelled t n d) = absurd (omega (arith, n.short))
  same_way x y (unread at s r e) (long g d) = absurd (omega arith)
  same_way x y (unread at s r e) (unread there q p d) = e ∙ ap (λ n. Err (fault.BadByte n)) (one_bad bytes at there r p) ∙ sym d
  same_way x y (unread at s r e) (unclosed there q p d) = absurd (not_both bytes at there r p)
  same_way x y (unread at s r e) (treeless f n d) = absurd (no_bad bytes n.tokens at n.spelt r)
  same_way x y (unread at s r e) (spelled t n d) = absurd (no_bad bytes n.tokens at n.spelt r)
  same_way x y (unclosed at s r e) (long g d) = absurd (omega arith)
  same_way x y (unclosed at s r e) (unread there q p d) = absurd (not_both bytes there at p r)
  same_way x y (unclosed at s r e) (unclosed there q p d) = e ∙ ap (λ n. Err (fault.OpenQuote n)) (one_open bytes at there r p) ∙ sym d
  same_way x y (unclosed at s r e) (treeless f n d) = absurd (no_open bytes n.tokens at n.spelt r)
  same_way x y (unclosed at s r e) (spelled t n d) = absurd (no_open bytes n.tokens at n.spelt r)
  same_way x y (treeless f n e) (long g d) = absurd (omega (arith, n.short))
  same_way x y (treeless f n e) (unread at s r d) = absurd (no_bad bytes n.tokens at n.spelt r)
  same_way x y (treeless f n e) (unclosed at s r d) = absurd (no_open bytes n.tokens at n.spelt r)
  same_way x y (treeless f n e) (treeless g m d) = e ∙ ap Err (same_faults f g n m) ∙ sym d
  same_way x y (treeless f n e) (spelled t m d) = absurd (not_both_ways t f m n)
  same_way x y (spelled t n e) (long g d) = absurd (omega (arith, n.short))
  same_way x y (spelled t n e) (unread at s r d) = absurd (no_bad bytes n.tokens at n.spelt r)
  same_way x y (spelled t n e) (unclosed at s r d) = absurd (no_open bytes n.tokens at n.spelt r)
  same_way x y (spelled t n e) (treeless f m d) = absurd (not_both_ways t f n m)
  same_way x y (spelled t n e) (spelled u m d) = e ∙ ap Ok (same_trees t u n m) ∙ sym d

  pub one_meaning : (x y : Result Attributes TreeFault) → Reads file bytes x → Reads file bytes y → x ≡ y
  one_meaning x y h g = same_way x y (way x h) (way y g)
