-- The lines that `check` writes: how many parts a network or a ring has.
use Rattle.std.specs.Prelude.{ℕ, not, List, [], ◌∷◌, ◌++◌, length, count_by, codes, decimal}
use Rattle.trace_writer.specs.Fields.{line_of}
use Rattle.net_graph.specs.declared.rows.Network.{Network}
use Rattle.net_graph.specs.declared.rows.HostRow.{HostRow}
use Rattle.net_build.specs.declared.ring.RingCounts.{RingCounts}

-- a word and a number, with a space between them
unfoldable pub counted : List ℕ → ℕ → List ℕ
counted word count = word ++ 32 ∷ decimal count

-- the hosts that are routers, and the others
abbrev pub routers_of : Network → ℕ
routers_of network = count_by (λ (h : HostRow). h.router) network.hosts

abbrev pub hosts_of : Network → ℕ
hosts_of network = count_by (λ (h : HostRow). not h.router) network.hosts

unfoldable pub network_line : Network → List ℕ
network_line network = line_of (
    counted (codes "nets") (length network.nets)
    ∷ counted (codes "hosts") (hosts_of network)
    ∷ counted (codes "routers") (routers_of network)
    ∷ counted (codes "interfaces") (length network.interfaces)
    ∷ counted (codes "links") (length network.links)
    ∷ counted (codes "sessions") (length network.sessions)
    ∷ counted (codes "patterns") (length network.servers)
    ∷ counted (codes "frequency") network.frequency
    ∷ [])

unfoldable pub ring_line : RingCounts → List ℕ
ring_line ring = line_of (counted (codes "ring nodes") ring.nodes ∷ counted (codes "tokens") ring.tokens ∷ counted (codes "hops") ring.hops ∷ [])
