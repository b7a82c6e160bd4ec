-- The campus of a seed and a size: its tree, and its text, which is the canonical printing of the tree. Each net has a
-- router and two hosts. Where there are two nets or more, links join their routers in a ring. The first host of each
-- net is the client of a server on the second host of some net.
use Prim.Native.String.{String}
use Rattle.std.specs.Prelude.{ℕ, ◌+◌, ◌%◌, nat_lt, if◌then◌else◌, List, [], ◌∷◌, ◌++◌, map, decimal, codes}
use Rattle.std.specs.List.{range_with_len}
use Rattle.dml_tree.specs.declared.tree.Place.{Place}
use Rattle.dml_tree.specs.declared.tree.Attribute.{Attribute}
use Rattle.dml_tree.specs.declared.tree.Value.TheVariants as value
use Rattle.dml_tree.specs.TreeView.{tree_of}
use Rattle.dml_tree.specs.Printing.{printing}
use Rattle.model_gen.specs.Draws.{delay, server_net}

-- ---- attributes

-- no printing tells the place of an attribute
abbrev pub nowhere : Place
nowhere = record { file = 0; at = 0 }

-- a key with a text
abbrev pub text : String → List ℕ → Attribute
text key bytes = record { key = codes key; place = nowhere; value = value.Plain bytes }

-- a key with a text that is written here
abbrev pub word : String → String → Attribute
word key bytes = text key (codes bytes)

-- a key with a list
abbrev pub list : String → List Attribute → Attribute
list key inner = record { key = codes key; place = nowhere; value = value.List (tree_of inner) }

-- the lines of an attribute that stands after so many blanks
unfoldable pub lines : ℕ → Attribute → List ℕ
lines indent attribute = printing indent (tree_of (attribute ∷ []))

-- the numbers below n
abbrev pub numbers : ℕ → List ℕ
numbers n = range_with_len 0 n

-- ---- a net

-- a session of a host: its name, and then its other keys
abbrev pub session : String → List Attribute → Attribute
session name keys = list "ProtocolSession" (word "name" name ∷ keys)

unfoldable pub router : Attribute
router = list "router" (
    word "id" "0"
    ∷ list "interface" (list "idrange" (word "from" "0" ∷ word "to" "3" ∷ []) ∷ word "bitrate" "100000000" ∷ [])
    ∷ list "graph" (session "ip" [] ∷ session "OSPF" [] ∷ [])
    ∷ [])

-- the sessions of a host
abbrev pub host_graph : Attribute
host_graph = list "graph" (
    session "client" (word "start_time" "0.001" ∷ word "file_size" "20000" ∷ [])
    ∷ session "server" (word "port" "10" ∷ [])
    ∷ session "tcp" []
    ∷ session "ip" []
    ∷ [])

unfoldable pub hosts : Attribute
hosts = list "host" (
    list "idrange" (word "from" "1" ∷ word "to" "2" ∷ [])
    ∷ list "interface" (word "id" "0" ∷ word "bitrate" "10000000" ∷ [])
    ∷ list "nhi_route" (word "dest" "default" ∷ word "interface" "0" ∷ [])
    ∷ host_graph
    ∷ [])

-- a link of two attachments
abbrev pub link : List ℕ → List ℕ → List ℕ → Attribute
link a b delay = list "link" (text "attach" a ∷ text "attach" b ∷ text "delay" delay ∷ [])

-- the links from the router to each host
unfoldable pub first_link : Attribute
first_link = link (codes "0(0)") (codes "1(0)") (codes "0.00001")

unfoldable pub second_link : Attribute
second_link = link (codes "0(1)") (codes "2(0)") (codes "0.00001")

unfoldable pub net_of : ℕ → Attribute
net_of i = list "Net" (text "id" (decimal i) ∷ router ∷ hosts ∷ first_link ∷ second_link ∷ [])

-- ---- between nets

-- a delay in seconds: three digits of millionths
abbrev pub delay_text : ℕ → List ℕ
delay_text millionths = codes "0.000" ++ decimal millionths

-- the net after a net, round the ring
abbrev pub next_net : ℕ → ℕ → ℕ
next_net size i = (i + 1) % size

-- the link between their routers
unfoldable pub ring_link : ℕ → ℕ → ℕ → Attribute
ring_link size i delay = link (decimal i ++ codes ":0(2)") (decimal (next_net size i) ++ codes ":0(3)") (delay_text delay)

abbrev pub ring_links : ℕ → ℕ → List Attribute
ring_links seed size = if nat_lt size 2 then [] else map (λ i. ring_link size i (delay seed i)) (numbers size)

-- the client in a net, and its server in another or the same
unfoldable pub pattern_of : ℕ → ℕ → Attribute
pattern_of i server = list "pattern" (
    text "client" (decimal i ++ codes ":1")
    ∷ list "servers" (text "nhi" (decimal server ++ codes ":2(0)") ∷ word "port" "10" ∷ [])
    ∷ [])

unfoldable pub traffic : ℕ → ℕ → Attribute
traffic seed size = list "traffic" (map (λ i. pattern_of i (server_net seed size i)) (numbers size))

-- ---- the campus

unfoldable pub campus_tree : ℕ → ℕ → List Attribute
campus_tree seed size = list "Net" (word "frequency" "1000000000" ∷ (map net_of (numbers size) ++ ring_links seed size ++ traffic seed size ∷ [])) ∷ []

unfoldable pub campus_text : ℕ → ℕ → List ℕ
campus_text seed size = printing 0 (tree_of (campus_tree seed size))
