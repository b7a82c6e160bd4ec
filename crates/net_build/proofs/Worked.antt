-- The ring of worked trees.
use Rattle.std.specs.Prelude.{◌≡◌, ℕ, List, [], ◌∷◌, Ok, Err, codes}
use Rattle.std.proofs.Common.{refl}
use Rattle.dml_tree.specs.declared.tree.Place.{Place}
use Rattle.dml_tree.specs.Attributes.{Attributes, none, plain, list}
use Rattle.dml_tree.specs.TreeView.{attributes}
use Rattle.net_graph.specs.declared.fault.ShapeFault.TheVariants.{NoModel, BadNumber, Missing, DelayTooLong}
use Rattle.net_build.specs.RingModel.{ring_of, ring_plan_of}

abbrev somewhere : Place
somewhere = record { file = 0; at = 0 }

abbrev key_of : List ℕ → List ℕ → Attributes → Attributes
key_of key text rest = plain key somewhere text rest

abbrev hop : List ℕ → List ℕ → List ℕ → Attributes → Attributes
hop from to delay rest = list (codes "hop") somewhere (key_of (codes "from") from (key_of (codes "to") to (key_of (codes "delay") delay none))) rest

abbrev ring : Attributes → Attributes
ring keys = list (codes "ring") somewhere keys none

two_nodes : ring_of (attributes (ring (key_of (codes "nodes") (codes "2") (key_of (codes "token") (codes "0") (hop (codes "0") (codes "1") (codes "5") (hop (codes "1") (codes "0") (codes "3") none)))))) ≡
    Ok (record { nodes = 2; tokens = 0 ∷ []; hops = record { from = 0; to = 1; delay = 5; priority = 0 } ∷ record { from = 1; to = 0; delay = 3; priority = 0 } ∷ [] })
two_nodes = refl

no_model : ring_plan_of (attributes (key_of (codes "a") (codes "1") none)) ≡ Err NoModel
no_model = refl

no_nodes : ring_plan_of (attributes (ring none)) ≡ Err (Missing (codes "nodes"))
no_nodes = refl

nodes_before_tokens : ring_plan_of (attributes (ring (key_of (codes "token") (codes "9") (key_of (codes "nodes") (codes "65537") none)))) ≡ Err (BadNumber (codes "nodes"))
nodes_before_tokens = refl

long_delay : ring_plan_of (attributes (ring (key_of (codes "nodes") (codes "2") (hop (codes "0") (codes "1") (codes "1000000000000001") none)))) ≡ Err DelayTooLong
long_delay = refl

priority_256 : ring_plan_of (attributes (ring (key_of (codes "nodes") (codes "1") (list (codes "hop") somewhere
    (key_of (codes "from") (codes "0") (key_of (codes "to") (codes "0") (key_of (codes "delay") (codes "1000000000000001") (key_of (codes "priority") (codes "256") none)))) none)))) ≡
    Err (BadNumber (codes "priority"))
priority_256 = refl
