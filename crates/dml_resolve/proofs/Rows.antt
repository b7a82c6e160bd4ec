-- Worked rows of the definition, by computation.
use Rattle.std.proofs.Common.{◌≡◌, ℕ, refl}
use Rattle.std.specs.Prelude.{codes, Ok, Err}
use Rattle.dml_tree.specs.declared.tree.Place.{Place}
use Rattle.dml_tree.specs.Attributes.{none, plain, list}
use Rattle.dml_resolve.specs.declared.resolving.PathFault.TheVariants as fault
use Rattle.dml_resolve.specs.Resolving.{resolved, below}

abbrev at : ℕ → Place
at n = record { file = 0; at = n }

-- a [ _find b ]
bad_path : resolved (list (codes "a") (at 0) (plain (codes "_find") (at 4) (codes "b") none) none) ≡ Err (fault.BadPath (at 4))
unfolding resolved below
bad_path = refl

-- a [ _find .b ]
unknown_path : resolved (list (codes "a") (at 0) (plain (codes "_find") (at 4) (codes ".b") none) none) ≡ Err (fault.UnknownPath (at 4))
unfolding resolved below
unknown_path = refl

-- b 1 a [ _extends .b ]
not_a_list : resolved (plain (codes "b") (at 0) (codes "1") (list (codes "a") (at 4) (plain (codes "_extends") (at 8) (codes ".b") none) none)) ≡ Err (fault.NotAList (at 8))
unfolding resolved below
not_a_list = refl

-- b [ x 1 y 2 ] a [ _extends .b x 9 ]
written_stays : resolved (list (codes "b") (at 0) (plain (codes "x") (at 4) (codes "1") (plain (codes "y") (at 8) (codes "2") none)) (list (codes "a") (at 14) (plain (codes "_extends") (at 18) (codes ".b") (plain (codes "x") (at 30) (codes "9") none)) none)) ≡ Ok (list (codes "b") (at 0) (plain (codes "x") (at 4) (codes "1") (plain (codes "y") (at 8) (codes "2") none)) (list (codes "a") (at 14) (plain (codes "y") (at 8) (codes "2") (plain (codes "x") (at 30) (codes "9") none)) none))
unfolding resolved below
written_stays = refl

-- d [ p 1 p "2 3" ] a [ _find .d.p ]
all_of_a_key : resolved (list (codes "d") (at 0) (plain (codes "p") (at 4) (codes "1") (plain (codes "p") (at 8) (codes "2 3") none)) (list (codes "a") (at 18) (plain (codes "_find") (at 22) (codes ".d.p") none) none)) ≡ Ok (list (codes "d") (at 0) (plain (codes "p") (at 4) (codes "1") (plain (codes "p") (at 8) (codes "2 3") none)) (list (codes "a") (at 18) (plain (codes "p") (at 4) (codes "1") (plain (codes "p") (at 8) (codes "2 3") none)) none))
unfolding resolved below
all_of_a_key = refl

-- a [ _extends .a ]
pub too_deep : resolved (list (codes "a") (at 0) (plain (codes "_extends") (at 4) (codes ".a") none) none) ≡ Err (fault.TooDeep (at 4))
unfolding resolved below
too_deep = refl
