-- A part of a text for each net in turn, beside the draws.
use Rattle.std.proofs.Common.{◌≡◌, ℕ, ◌+◌, ◌*◌, List, [], ◌∷◌, ◌++◌, sym, ap, ◌∙◌, arith, append-nil}
use Rattle.std.specs.List.{flat_map, range_with_len}
use Rattle.std.proofs.lemmas.List.{map-id, flat_map_more}
use Rattle.std.proofs.lemmas.List.FromFn.{map-range_with_len_more}
use Rattle.rand_pcg.specs.Lcg.{Lcg}
use Rattle.model_gen.specs.Draws.{generator_after}
use Rattle.model_gen.specs.Campus.{numbers}

range_next : (n : ℕ) → range_with_len 0 (n + 1) ≡ range_with_len 0 n ++ n ∷ []
range_next n =
    sym (map-id (range_with_len 0 (n + 1))) ∙ map-range_with_len_more (λ (x : ℕ). x) 0 n n (omega arith) ∙ ap (λ xs. xs ++ n ∷ []) (map-id (range_with_len 0 n))

pub one_more : (f : ℕ → List ℕ) (old now : List ℕ) (n : ℕ) → now ≡ old ++ flat_map f (numbers n) → now ++ f n ≡ old ++ flat_map f (numbers (n + 1))
one_more f old now n e =
    ap (λ xs. xs ++ f n) e ∙ flat_map_more f old (numbers n) n ∙ ap (λ xs. old ++ flat_map f xs) (sym (range_next n))

-- so many nets have their part, and their words are drawn
pub record IsWritten (seed : ℕ) (f : ℕ → List ℕ) (old now : List ℕ) (generator : Lcg) (n : ℕ) : Type 0 where
  pub text : now ≡ old ++ flat_map f (numbers n)
  pub drawn : generator ≡ generator_after seed (2 * n)

pub none_written : (seed : ℕ) (f : ℕ → List ℕ) (old : List ℕ) (generator : Lcg) → generator ≡ generator_after seed 0 → IsWritten seed f old old generator 0
none_written seed f old generator e = record { text = sym (append-nil old); drawn = e }

pub one_written : (seed : ℕ) (f : ℕ → List ℕ) (old now new : List ℕ) (g h : Lcg) (n : ℕ) → IsWritten seed f old now g n → new ≡ now ++ f n → h ≡ generator_after seed (2 * (n + 1)) → IsWritten seed f old new h (n + 1)
one_written seed f old now new g h n is e drawn = record { text = e ∙ one_more f old now n is.text; drawn = drawn }
