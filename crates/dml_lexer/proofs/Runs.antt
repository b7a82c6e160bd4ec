-- What the first bytes of a text are, from how many of them pass a test.
use Rattle.std.proofs.Common.{◌≡◌, ℕ, ◌+◌, ◌<◌, ◌≤◌, ◌==◌, suc, Bool, true, false, not, cond, List, [], ◌∷◌, ◌++◌, length, get_or, take, drop, Some, None, refl, sym, ap, ◌∙◌, arith, inr, subst, eqb-true}
use Rattle.std.proofs.Math.Numerals.{one-add}
use Rattle.std.proofs.lemmas.List.{take_more, take_all}
use Rattle.std.specs.List.{prefix_len, AllByRecursion}
use Rattle.std.proofs.lemmas.List.Sums.{prefix_len_stops}
use Rattle.dml_lexer.specs.Tokens.{IsRun, Ends, is_word_byte, BeginsOpen}
use Rattle.dml_lexer.specs.FirstFront.{BeginsFront}
use Rattle.dml_lexer.specs.declared.lexer.TokenKind.TheVariants as kind

run_all_at : (p : ℕ → Bool) (x : ℕ) (xs : List ℕ) (b : Bool) → p x ≡ b → AllByRecursion (λ y. p y ≡ true) (take (prefix_len p xs) xs) → AllByRecursion (λ y. p y ≡ true) (take (cond b (1 + prefix_len p xs) 0) (x ∷ xs))
run_all_at p x xs true e h = rw one-add (e, h)
run_all_at p x xs false e h = tt

run_all : (p : ℕ → Bool) (xs : List ℕ) → AllByRecursion (λ y. p y ≡ true) (take (prefix_len p xs) xs)
run_all p [] = tt
run_all p (x ∷ xs) = run_all_at p x xs (p x) refl (run_all p xs)

run_ends_at : (p : ℕ → Bool) (x : ℕ) (xs : List ℕ) (b : Bool) → p x ≡ b → Ends p (drop (prefix_len p xs) xs) → Ends p (drop (cond b (1 + prefix_len p xs) 0) (x ∷ xs))
run_ends_at p x xs true e h = rw one-add h
run_ends_at p x xs false e h = e

run_ends : (p : ℕ → Bool) (xs : List ℕ) → Ends p (drop (prefix_len p xs) xs)
run_ends p [] = tt
run_ends p (x ∷ xs) = run_ends_at p x xs (p x) refl (run_ends p xs)

-- the bytes that pass, and what follows them
pub IsRun-prefix_len : (p : ℕ → Bool) (xs : List ℕ) → IsRun p (take (prefix_len p xs) xs) (drop (prefix_len p xs) xs)
IsRun-prefix_len p xs = record { all = run_all p xs; longest = run_ends p xs }

pub comment_begins : (more : List ℕ) (n : ℕ) → n ≡ prefix_len (λ byte. not (byte == 10)) more → n ≤ length more → BeginsFront None (1 + n) (35 ∷ more)
comment_begins more n e le = record {
  some = omega arith;
  within = omega arith;
  is = rw one-add (inr (take n more, refl, rw e (IsRun-prefix_len (λ byte. not (byte == 10)) more)));
}

pub word_begins : (first : ℕ) (more : List ℕ) (n : ℕ) → is_word_byte first ≡ true → n ≡ prefix_len is_word_byte more → n ≤ length more → BeginsFront (Some kind.Word) (1 + n) (first ∷ more)
word_begins first more n t e le = record {
  some = omega arith;
  within = omega arith;
  is = rw one-add (omega arith, record { all = (t, rw e (run_all is_word_byte more)); longest = rw e (run_ends is_word_byte more) });
}

not_false : (b : Bool) → not b ≡ false → b ≡ true
not_false true e = refl
not_false false e = sym e

two : (n : ℕ) → n + 2 ≡ suc (n + 1)
two n = omega arith

not_end : (x y : ℕ) → not (x == y) ≡ false → x ≡ y
not_end x y e = eqb-true x y (not_false (x == y) e)

take_quoted : (more : List ℕ) (n : ℕ) → n < length more → get_or more n 0 ≡ 34 → take (n + 2) (34 ∷ more) ≡ 34 ∷ (take n more ++ 34 ∷ [])
take_quoted more n lt e =
    ap (λ k. take k (34 ∷ more)) (two n)
    ∙ ap (λ l. 34 ∷ l) (take_more more n 0 lt ∙ ap (λ b. take n more ++ b ∷ []) e)

pub quoted_begins : (more : List ℕ) (n : ℕ) → n ≡ prefix_len (λ byte. not (byte == 34)) more → n < length more → BeginsFront (Some kind.Quoted) (n + 2) (34 ∷ more)
quoted_begins more n e lt =
    let q : ℕ → Bool = λ byte. not (byte == 34) in
    let at_end : get_or more n 0 ≡ 34 = rw e (not_end _ 34 (prefix_len_stops q more 0 (rw (← e) lt))) in
    record {
      some = omega arith;
      within = omega arith;
      is = (take n more, take_quoted more n lt at_end, rw e (run_all q more));
    }

pub open_begins : (more : List ℕ) (n : ℕ) → n ≡ prefix_len (λ byte. not (byte == 34)) more → length more ≤ n → BeginsOpen (34 ∷ more)
open_begins more n e le =
    let q : ℕ → Bool = λ byte. not (byte == 34) in
    (refl, subst (AllByRecursion (λ y. q y ≡ true)) (ap (λ k. take k more) (sym e) ∙ take_all n more le) (run_all q more))
