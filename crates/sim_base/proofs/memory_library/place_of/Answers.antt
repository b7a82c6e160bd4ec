use Rattle.std.proofs.Common.{◌≡◌, ◌<◌, ◌∙◌, sym, ap, ℕ, List, ◌∷◌, true, nat_eq, length, drop, get_or, drop-cons, Some, slice_get, suc, refl}
use Rattle.std.proofs.lemmas.Option.{slice_get_read}
use Rattle.std.specs.Cmp.Lexicographic.{pointwise}
use Rattle.sim_base.specs.Outside.{first_file}
use Rattle.sim_base.proofs.memory_library.place_of.Goals as goal

-- the file that stands here has the name, and none before it
first_here : (files : List (List ℕ × List ℕ)) (name : List ℕ) (place : ℕ) (file : List ℕ × List ℕ) → place < length files → file ≡ get_or files place file
    → pointwise nat_eq file.0 name ≡ true → first_file files name ≡ first_file (drop place files) name
    → (found : List ℕ × List ℕ) × (slice_get files place ≡ Some found) × (first_file files name ≡ Some found.1)
first_here files name place file within is same none =
    let here : slice_get files place ≡ Some file = slice_get_read files (length files) place file refl within is in
    let split : drop place files ≡ file ∷ drop (suc place) files = drop-cons files place file within ∙ ap (λ (f : List ℕ × List ℕ). f ∷ drop (suc place) files) (sym is) in
    let first : first_file (file ∷ drop (suc place) files) name ≡ Some file.1 = rw same refl in
    (file, here, none ∙ (ap (λ (fs : List (List ℕ × List ℕ)). first_file fs name) split ∙ first))

pub returns-then-eq-clause-found : goal.returns-then-eq-clause-found
returns-then-eq-clause-found c =
    let same : pointwise nat_eq c.index-files-place.result.0 c.args.name.now ≡ true = cc (c.as_bytes.ensures, c.eq.ensures, c.if-eq.true) in
    first_here _ _ _ c.index-files-place.result c.loop-place-test.true c.index-files-place.is same c.loop-place.invariant
