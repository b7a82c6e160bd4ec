-- The ends of sessions.
use Rattle.std.proofs.Common.{◌≡◌, ℕ, Bool, true, false, ◌&&◌, nat_eq, refl}
use Rattle.std.proofs.lemmas.Bool.{eqb-true}
use Rattle.host_rules.specs.declared.sockets.Sockets.{Sockets}
use Rattle.host_rules.specs.Entries.{same_sockets}

and_true : (a b : Bool) → (a && b) ≡ true → (a ≡ true) × (b ≡ true)
and_true true b e = (refl, e)
and_true false b e = absurd (cc)

abbrev between : ℕ → ℕ → ℕ → ℕ → Sockets
between own own_port peer peer_port = record { own = own; own_port = own_port; peer = peer; peer_port = peer_port }

between_same : (own own2 port port2 peer peer2 other other2 : ℕ) → own ≡ own2 → port ≡ port2 → peer ≡ peer2 → other ≡ other2 → between own port peer other ≡ between own2 port2 peer2 other2
between_same own own2 port port2 peer peer2 other other2 e f g h = cc

pub sockets_same : (a b : Sockets) → same_sockets a b ≡ true → a ≡ b
sockets_same a b e =
    let own = and_true (nat_eq a.own b.own) _ e in
    let port = and_true (nat_eq a.own_port b.own_port) _ own.1 in
    let peer = and_true (nat_eq a.peer b.peer) _ port.1 in
    between_same a.own b.own a.own_port b.own_port a.peer b.peer a.peer_port b.peer_port (eqb-true a.own b.own own.0) (eqb-true a.own_port b.own_port port.0)
    (eqb-true a.peer b.peer peer.0) (eqb-true a.peer_port b.peer_port peer.1)
