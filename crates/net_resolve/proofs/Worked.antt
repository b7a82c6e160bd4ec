-- The networks of worked trees.
use Rattle.std.specs.Prelude.{◌≡◌, ℕ, true, false, List, [], ◌∷◌, Some, None, Ok, Err, codes}
use Rattle.std.proofs.Common.{refl}
use Rattle.dml_tree.specs.declared.tree.Place.{Place}
use Rattle.dml_tree.specs.Attributes.{Attributes, none, plain, list}
use Rattle.dml_tree.specs.TreeView.{attributes}
use Rattle.net_graph.specs.declared.fault.ShapeFault.TheVariants.{NoModel, BadNhi, Missing, DoubleId, UnknownNhi, AttachedTwice}
use Rattle.net_graph.specs.declared.rows.SessionKind.TheVariants as kind
use Rattle.net_graph.specs.NetworkOf.{network_of}
use Rattle.net_graph.specs.ListKeys.{default_tcp}

abbrev somewhere : Place
somewhere = record { file = 0; at = 0 }

abbrev k : List ℕ → List ℕ → Attributes → Attributes
k key text rest = plain key somewhere text rest

abbrev l : List ℕ → Attributes → Attributes → Attributes
l key inner rest = list key somewhere inner rest

abbrev model : Attributes → Attributes
model parts = l (codes "Net") parts none

no_model : network_of (attributes (k (codes "a") (codes "1") none)) ≡ Err NoModel
no_model = refl

no_id : network_of (attributes (model (l (codes "host") none none))) ≡ Err (Missing (codes "id"))
no_id = refl

double : network_of (attributes (model (l (codes "host") (k (codes "id") (codes "1") none) (l (codes "router") (k (codes "id") (codes "1") none) none)))) ≡ Err (DoubleId (record { ids = 1 ∷ []; interface = None }))
double = refl

not_attached : network_of (attributes (model (l (codes "link") (k (codes "attach") (codes "0(0)") none) none))) ≡ Err (UnknownNhi (record { ids = 0 ∷ []; interface = Some 0 }))
not_attached = refl

-- a host with an interface
abbrev host0 : Attributes → Attributes
host0 rest = l (codes "host") (k (codes "id") (codes "0") (l (codes "interface") (k (codes "id") (codes "0") none) none)) rest

abbrev link0 : Attributes → Attributes
link0 rest = l (codes "link") (k (codes "attach") (codes "0(0)") none) rest

twice : network_of (attributes (model (host0 (link0 (link0 none))))) ≡ Err (AttachedTwice (record { ids = 0 ∷ []; interface = Some 0 }))
twice = refl

-- the walk comes before links
walk_first : network_of (attributes (model (link0 (l (codes "host") none none)))) ≡ Err (Missing (codes "id"))
walk_first = refl

bad_nhi : network_of (attributes (model (l (codes "link") (k (codes "attach") (codes "x") none) none))) ≡ Err (BadNhi (codes "x"))
bad_nhi = refl

-- two copies of a Net, each with a host and a link
abbrev two_nets : Attributes
two_nets = model (l (codes "Net") (l (codes "idrange") (k (codes "from") (codes "3") (k (codes "to") (codes "4") none)) (host0 (link0 none))) none)

copies : network_of (attributes two_nets) ≡ Ok (record {
  frequency = 1000000000;
  patterns = 0;
  nets = record { parent = None; order = 0; ids = [] } ∷ record { parent = Some 0; order = 0; ids = 3 ∷ [] } ∷ record { parent = Some 0; order = 1; ids = 4 ∷ [] } ∷ [];
  hosts = record { net = 1; id = 0; router = false; ospf = false; gateway = None; tcp = default_tcp 1000000000 } ∷ record { net = 2; id = 0; router = false; ospf = false; gateway = None; tcp = default_tcp 1000000000 } ∷ [];
  interfaces = record { host = 0; id = 0; bitrate = 10000000; latency = 0; buffer = 1000000; cost = 1; link = Some (0, 0) } ∷ record { host = 1; id = 0; bitrate = 10000000; latency = 0; buffer = 1000000; cost = 1; link = Some (1, 0) } ∷ [];
  links = record { net = 1; order = 0; delay = 0; attached = 0 ∷ []; priority = 0; downs = [] } ∷ record { net = 2; order = 0; delay = 0; attached = 1 ∷ []; priority = 0; downs = [] } ∷ [];
  sessions = [];
  servers = [];
})
copies = refl

-- a session with this name, before others
abbrev session : List ℕ → Attributes → Attributes → Attributes
session name keys rest = l (codes "ProtocolSession") (k (codes "name") name keys) rest

-- a host with a gateway over its own interface, two sessions of TCP and one of OSPF, and a pattern that names it twice
abbrev one_host : Attributes
one_host = model (l (codes "router") (k (codes "id") (codes "5")
    (l (codes "graph") (session (codes "tcp") (k (codes "MSS") (codes "9") none) (session (codes "ospf") none (session (codes "tcp") none none)))
    (l (codes "interface") (k (codes "id") (codes "8") none)
    (l (codes "route") (k (codes "dest") (codes "default") (k (codes "interface") (codes "8") (k (codes "next_hop") (codes "5(8)") none))) none))))
    (l (codes "link") (k (codes "attach") (codes "5(8)") none)
    (l (codes "traffic") (l (codes "pattern") (k (codes "client") (codes "5")
    (l (codes "servers") (k (codes "nhi") (codes "5") (k (codes "port") (codes "7") none)) (l (codes "servers") (k (codes "nhi") (codes "5(8)") (k (codes "port") (codes "6") none)) none))) none) none)))

whole_host : network_of (attributes one_host) ≡ Ok (record {
  frequency = 1000000000;
  patterns = 2;
  nets = record { parent = None; order = 0; ids = [] } ∷ [];
  hosts = record {
    net = 0;
    id = 5;
    router = true;
    ospf = true;
    gateway = Some (record { interface = 0; next = Some 0 });
    tcp = record { iss = 0; mss = 9; receive = 32; send = 32; tries = 12; msl = 60000000000; frequency = 1000000000 };
  } ∷ [];
  interfaces = record { host = 0; id = 8; bitrate = 10000000; latency = 0; buffer = 1000000; cost = 1; link = Some (0, 0) } ∷ [];
  links = record { net = 0; order = 0; delay = 0; attached = 0 ∷ []; priority = 0; downs = [] } ∷ [];
  sessions = record { host = 0; kind = kind.Tcp } ∷ record { host = 0; kind = kind.Ospf } ∷ record { host = 0; kind = kind.Tcp } ∷ [];
  servers = record { client = 0; interface = 0; port = 7 } ∷ record { client = 0; interface = 0; port = 6 } ∷ [];
})
whole_host = refl
