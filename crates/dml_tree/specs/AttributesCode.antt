-- A code of trees, by which a proof tells them apart: each attribute as a mark, and a list before what follows it.
use Rattle.std.specs.Prelude.{ℕ, ◌≡◌, List, [], ◌∷◌, ◌++◌, Option, Some, None, refl}
use Rattle.std.specs.Coded.{Coded, code_by, coded×, coded_ℕ, coded_list, coded_option}
use Rattle.std.proofs.Common.{◌∙◌, ap, sym, append_assoc}
use Rattle.dml_tree.specs.declared.tree.Place.{Place}
use Rattle.dml_tree.specs.Attributes.{Attributes, none, plain, list}

-- the parts of an attribute that are no list, a value of None standing for one; None is the end of a list
abbrev Mark : Type 0
Mark = Option (List ℕ × (ℕ × (ℕ × Option (List ℕ))))

abbrev coded_mark : Coded Mark
coded_mark = coded_option (coded× (coded_list coded_ℕ) (coded× coded_ℕ (coded× coded_ℕ (coded_option (coded_list coded_ℕ)))))

abbrev mark : List ℕ → Place → Option (List ℕ) → Mark
mark key place value = Some (key, (place.file, (place.at, value)))

abbrev marks : Attributes → List Mark
marks none = None ∷ []
marks (plain key place text rest) = mark key place (Some text) ∷ marks rest
marks (list key place inner rest) = mark key place None ∷ (marks inner ++ marks rest)

abbrev plain_on : List ℕ → Place → List ℕ → List Attributes → List Attributes
plain_on key place text [] = []
plain_on key place text (rest ∷ more) = plain key place text rest ∷ more

abbrev list_on : List ℕ → Place → List Attributes → List Attributes
list_on key place [] = []
list_on key place (inner ∷ []) = []
list_on key place (inner ∷ (rest ∷ more)) = list key place inner rest ∷ more

abbrev value_on : List ℕ → Place → Option (List ℕ) → List Attributes → List Attributes
value_on key place None more = list_on key place more
value_on key place (Some text) more = plain_on key place text more

abbrev mark_on : Mark → List Attributes → List Attributes
mark_on None more = none ∷ more
mark_on (Some m) more = value_on m.0 (record { file = m.1.0; at = m.1.1.0 }) m.1.1.1 more

abbrev lists : List Mark → List Attributes
lists [] = []
lists (m ∷ ms) = mark_on m (lists ms)

abbrev first_of : List Attributes → Attributes
first_of [] = none
first_of (x ∷ more) = x

lists-marks : (x : Attributes) (ms : List Mark) → lists (marks x ++ ms) ≡ x ∷ lists ms
lists-marks none ms = refl
lists-marks (plain key place text rest) ms = ap (plain_on key place text) (lists-marks rest ms)
lists-marks (list key place inner rest) ms =
    ap (λ l. list_on key place (lists l)) (append_assoc (marks inner) (marks rest) ms)
    ∙ (ap (list_on key place) (lists-marks inner (marks rest ++ ms))
    ∙ ap (λ l. list_on key place (inner ∷ l)) (lists-marks rest ms))

append_none : (l : List Mark) → l ++ [] ≡ l
append_none [] = refl
append_none (x ∷ l) = ap (λ m. x ∷ m) (append_none l)

pub first_of-marks : (x : Attributes) → first_of (lists (marks x)) ≡ x
first_of-marks x = ap (λ l. first_of (lists l)) (sym (append_none (marks x))) ∙ ap first_of (lists-marks x [])

abbrev pub coded_attributes : Coded Attributes
coded_attributes = code_by (List Mark) (coded_list coded_mark) marks (λ ms. first_of (lists ms)) first_of-marks
