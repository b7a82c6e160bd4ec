-- The definitions on worked texts.
use Rattle.std.specs.Prelude.{◌≡◌, ℕ, List, [], ◌∷◌, Some, None, Ok, Err, codes}
use Rattle.std.proofs.Common.{refl}
use Rattle.nhi_address.specs.Number.{number_of}
use Rattle.dml_tree.specs.declared.tree.Place.{Place}
use Rattle.dml_tree.specs.Attributes.{Attributes, none, plain, list}
use Rattle.dml_tree.specs.TreeView.{attributes}
use Rattle.net_graph.specs.declared.fault.ShapeFault.TheVariants.{BadNumber, Missing, UnknownSession, TooMany}
use Rattle.net_graph.specs.declared.list_keys.SessionKeys.TheVariants as session
use Rattle.net_graph.specs.Readers.{seconds_of}
use Rattle.net_graph.specs.ListKeys.{ids_at, interface_keys, link_keys, session_keys, gateway_of}

a_millisecond : seconds_of 1000000000 (codes "0.001") ≡ Some 1000000
a_millisecond = refl

rounded_down : seconds_of 3 (codes ".5") ≡ Some 1
rounded_down = refl

no_decimals : seconds_of 3 (codes "5.") ≡ Some 15
no_decimals = refl

only_a_point : seconds_of 3 (codes ".") ≡ None
only_a_point = refl

two_points : seconds_of 3 (codes "1.2.3") ≡ None
two_points = refl

nineteen_digits : seconds_of 3 (codes "0000000000000000000") ≡ None
nineteen_digits = refl

longest : seconds_of 1000000000000 (codes "1000000") ≡ Some 1000000000000000000
longest = refl

too_long : seconds_of 1000000000000 (codes "1000000.000000000001") ≡ None
too_long = refl

in_range : number_of 18 0 7 (codes "007") ≡ Some 7
in_range = refl

below_range : number_of 18 8 9 (codes "007") ≡ None
below_range = refl

abbrev somewhere : Place
somewhere = record { file = 0; at = 0 }

-- an attribute with a text, before others
abbrev key_of : List ℕ → List ℕ → Attributes → Attributes
key_of key text rest = plain key somewhere text rest

defaults : interface_keys 1000000000 [] ≡ Ok (record { bitrate = 10000000; latency = 0; buffer = 1000000; cost = 1 })
defaults = refl

latency_first : interface_keys 3 (attributes (key_of (codes "cost") (codes "0") (key_of (codes "latency") (codes "x") none))) ≡ Err (BadNumber (codes "latency"))
latency_first = refl

one_id : ids_at (attributes (list (codes "idrange") somewhere none (key_of (codes "id") (codes "7") none))) ≡ Ok (record { from = 7; to = 7 })
one_id = refl

falling_range : ids_at (attributes (list (codes "idrange") somewhere (key_of (codes "from") (codes "3") (key_of (codes "to") (codes "1") none)) none)) ≡ Err (BadNumber (codes "idrange"))
falling_range = refl

no_end : ids_at (attributes (list (codes "idrange") somewhere (key_of (codes "from") (codes "x") none) none)) ≡ Err (Missing (codes "to"))
no_end = refl

-- a link with an attachment and a time in which it is down
abbrev downed : List ℕ → Attributes
downed to = key_of (codes "attach") (codes "1:2(0)") (list (codes "down") somewhere (key_of (codes "from") (codes "1") (key_of (codes "to") to none)) none)

one_down : link_keys 10 63 (attributes (downed (codes "1.5"))) ≡
    Ok (record { attached = record { ids = 1 ∷ 2 ∷ []; interface = Some 0 } ∷ []; delay = 0; priority = 0; downs = record { from = 10; to = 15 } ∷ [] })
one_down = refl

too_many_downs : link_keys 10 64 (attributes (downed (codes "1.5"))) ≡ Err (TooMany (codes "downs"))
too_many_downs = refl

within_a_tick : link_keys 10 64 (attributes (downed (codes "1.01"))) ≡ Err (BadNumber (codes "down"))
within_a_tick = refl

nothing_attached : link_keys 10 0 (attributes (key_of (codes "delay") (codes "x") none)) ≡ Err (Missing (codes "attach"))
nothing_attached = refl

unknown_name : session_keys 10 (attributes (key_of (codes "name") (codes "bgp") none)) ≡ Err (UnknownSession (codes "bgp"))
unknown_name = refl

settings_of_tcpinit : session_keys 10 (attributes (key_of (codes "name") (codes "tcp") (key_of (codes "MSS") (codes "x") (list (codes "tcpinit") somewhere (key_of (codes "MSS") (codes "9") none) none)))) ≡
    Ok (session.Tcp (record { iss = 0; mss = 9; receive = 32; send = 32; tries = 12; msl = 600; frequency = 10 }))
settings_of_tcpinit = refl

-- a route with this destination, before others
abbrev route : List ℕ → Attributes → Attributes → Attributes
route dest keys rest = list (codes "route") somewhere (key_of (codes "dest") dest keys) rest

default_route : gateway_of (attributes (route (codes "1") none (route (codes "default") (key_of (codes "interface") (codes "2") none) (list (codes "nhi_route") somewhere (list (codes "dest") somewhere none none) none)))) ≡
    Ok (Some (record { interface = 2; next = None }))
default_route = refl

list_before_default : gateway_of (attributes (list (codes "nhi_route") somewhere (list (codes "dest") somewhere none none) (route (codes "default") none none))) ≡ Err (BadNumber (codes "dest"))
list_before_default = refl
