-- Equality of trees is an equivalence.
use Rattle.std.specs.Prelude.{◌≡◌, Bool, true, false, ◌&&◌, refl}
use Rattle.std.proofs.Common.{◌∙◌, ap}
use Rattle.std.specs.Cmp.{IsEquivalence, IsPartialEquivalence, partial_equiv_from_equiv, equiv}
use Rattle.std.proofs.lemmas.Cmp.{nat_list_eq_equiv}
use Rattle.dml_tree.specs.Attributes.{Attributes, none, plain, list}
use Rattle.dml_tree.specs.SameTree.{same_tree, same_text}

texts : IsPartialEquivalence same_text
texts = partial_equiv_from_equiv nat_list_eq_equiv

both3 : (a b c d e f : Bool) → a ≡ d → b ≡ e → c ≡ f → (a && b && c) ≡ (d && e && f)
both3 a b c d e f p q r = ap (λ x. x && b && c) p ∙ ap (λ x. d && x && c) q ∙ ap (λ x. d && e && x) r

all3 : (a b c : Bool) → a ≡ true → b ≡ true → c ≡ true → (a && b && c) ≡ true
all3 a b c p q r = both3 a b c true true true p q r

first_of : (a b : Bool) → (a && b) ≡ true → a ≡ true
first_of true b e = refl
first_of false b e = e

last_of : (a b : Bool) → (a && b) ≡ true → b ≡ true
last_of true b e = e
last_of false true e = refl
last_of false false e = e

same-refl : (t : Attributes) → same_tree t t ≡ true
same-refl none = refl
same-refl (plain key place text rest) = all3 (same_text key key) (same_text text text) (same_tree rest rest) (nat_list_eq_equiv.refl key) (nat_list_eq_equiv.refl text) (same-refl rest)
same-refl (list key place inner rest) = all3 (same_text key key) (same_tree inner inner) (same_tree rest rest) (nat_list_eq_equiv.refl key) (same-refl inner) (same-refl rest)

same-symm : (t u : Attributes) → same_tree t u ≡ same_tree u t
same-symm none none = refl
same-symm none (plain key place text rest) = refl
same-symm none (list key place inner rest) = refl
same-symm (plain key place text rest) none = refl
same-symm (plain key place text rest) (plain key' place' text' rest') = both3 (same_text key key') (same_text text text') (same_tree rest rest') (same_text key' key) (same_text text' text) (same_tree rest' rest) (texts.symm key key') (texts.symm text text') (same-symm rest rest')
same-symm (plain key place text rest) (list key' place' inner' rest') = refl
same-symm (list key place inner rest) none = refl
same-symm (list key place inner rest) (plain key' place' text' rest') = refl
same-symm (list key place inner rest) (list key' place' inner' rest') = both3 (same_text key key') (same_tree inner inner') (same_tree rest rest') (same_text key' key) (same_tree inner' inner) (same_tree rest' rest) (texts.symm key key') (same-symm inner inner') (same-symm rest rest')

same-trans : (t u v : Attributes) → same_tree t u ≡ true → same_tree u v ≡ true → same_tree t v ≡ true
same-trans none none v p q = q
same-trans none (plain key place text rest) v p q = absurd (let e : false ≡ true = p in cc)
same-trans none (list key place inner rest) v p q = absurd (let e : false ≡ true = p in cc)
same-trans (plain key place text rest) none v p q = absurd (let e : false ≡ true = p in cc)
same-trans (plain key place text rest) (list key' place' inner' rest') v p q = absurd (let e : false ≡ true = p in cc)
same-trans (list key place inner rest) none v p q = absurd (let e : false ≡ true = p in cc)
same-trans (list key place inner rest) (plain key' place' text' rest') v p q = absurd (let e : false ≡ true = p in cc)
same-trans (plain key place text rest) (plain key' place' text' rest') none p q = q
same-trans (plain key place text rest) (plain key' place' text' rest') (list key'' place'' inner'' rest'') p q = q
same-trans (list key place inner rest) (list key' place' inner' rest') none p q = q
same-trans (list key place inner rest) (list key' place' inner' rest') (plain key'' place'' text'' rest'') p q = q
same-trans (plain key place text rest) (plain key' place' text' rest') (plain key'' place'' text'' rest'') p q =
    let p2 = first_of (same_text key key' && same_text text text') (same_tree rest rest') p in
    let q2 = first_of (same_text key' key'' && same_text text' text'') (same_tree rest' rest'') q in
    all3 (same_text key key'') (same_text text text'') (same_tree rest rest'')
    (texts.trans key key' key'' (first_of (same_text key key') (same_text text text') p2) (first_of (same_text key' key'') (same_text text' text'') q2))
    (texts.trans text text' text'' (last_of (same_text key key') (same_text text text') p2) (last_of (same_text key' key'') (same_text text' text'') q2))
    (same-trans rest rest' rest'' (last_of (same_text key key' && same_text text text') (same_tree rest rest') p) (last_of (same_text key' key'' && same_text text' text'') (same_tree rest' rest'') q))
same-trans (list key place inner rest) (list key' place' inner' rest') (list key'' place'' inner'' rest'') p q =
    let p2 = first_of (same_text key key' && same_tree inner inner') (same_tree rest rest') p in
    let q2 = first_of (same_text key' key'' && same_tree inner' inner'') (same_tree rest' rest'') q in
    all3 (same_text key key'') (same_tree inner inner'') (same_tree rest rest'')
    (texts.trans key key' key'' (first_of (same_text key key') (same_tree inner inner') p2) (first_of (same_text key' key'') (same_tree inner' inner'') q2))
    (same-trans inner inner' inner'' (last_of (same_text key key') (same_tree inner inner') p2) (last_of (same_text key' key'') (same_tree inner' inner'') q2))
    (same-trans rest rest' rest'' (last_of (same_text key key' && same_tree inner inner') (same_tree rest rest') p) (last_of (same_text key' key'' && same_tree inner' inner'') (same_tree rest' rest'') q))

pub same_tree_partial : IsPartialEquivalence same_tree
same_tree_partial = record { symm = same-symm; trans = same-trans }

pub same_tree_equivalence : IsEquivalence same_tree
same_tree_equivalence = equiv same_tree_partial same-refl
