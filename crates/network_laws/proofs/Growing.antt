-- What all that was met keeps visit by visit.
use Rattle.std.proofs.Common.{◌≡◌, ◌≢◌, ℕ, zero, suc, ◌+◌, ◌<◌, ◌≤◌, Bool, true, false, nat_le, List, [], ◌∷◌, ◌++◌, length, get_or, Option, Some, None, Ok, Err, IfOk, refl, ap, sym, ◌∙◌, arith, append_assoc, append-nil, length-append, subst, codes}
use Rattle.std.specs.Prelude.{All}
use Rattle.std.specs.List.{list_any}
use Rattle.std.proofs.lemmas.Bool.Decides.{nat_tests}
use Rattle.std.proofs.lemmas.List.Elements.{All-nil, All-cons}
use Rattle.std.proofs.lemmas.List.Sorted.{IsNonDecreasingBy-short}
use Rattle.nhi_address.specs.NhiFields.{NhiFields}
use Rattle.net_graph.specs.declared.fault.ShapeFault.{ShapeFault}
use Rattle.net_graph.specs.declared.fault.ShapeFault.TheVariants.{DoubleId, TooMany}
use Rattle.net_graph.specs.declared.rows.NetRow.{NetRow}
use Rattle.net_graph.specs.declared.rows.InterfaceRow.{InterfaceRow}
use Rattle.net_graph.specs.declared.list_keys.GatewayKeys.{GatewayKeys}
use Rattle.net_graph.specs.declared.list_keys.InterfaceKeys.{InterfaceKeys}
use Rattle.net_graph.specs.declared.list_keys.LinkKeys.{LinkKeys}
use Rattle.net_graph.specs.declared.list_keys.ServerKeys.{ServerKeys}
use Rattle.net_graph.specs.declared.list_keys.SessionKeys.{SessionKeys}
use Rattle.net_graph.specs.declared.seen.HostSeen.{HostSeen}
use Rattle.net_graph.specs.declared.seen.LinkSeen.{LinkSeen}
use Rattle.net_graph.specs.declared.seen.SessionSeen.{SessionSeen}
use Rattle.net_graph.specs.declared.seen.Seen.{Seen}
use Rattle.net_graph.specs.Names.{same}
use Rattle.net_graph.specs.Reads.{Read}
use Rattle.net_graph.specs.SeenRows.{top_row, nested_row, number_in, many, double_or_many, first_some, fault_if, link_fault}
use Rattle.net_graph.specs.Steps.{empty, with_top, with_net, with_host, with_interface, with_session, with_link, with_pattern, with_server, net_fault, host_fault, interface_fault, session_fault, link_many, server_fault}
use Rattle.net_graph.specs.Networks.{IsId, no_net}
use Rattle.network_laws.proofs.Ranges.{IsInterfaceKeys, IsLinkKeys, IsSessionKeys}
use Rattle.network_laws.proofs.Names.{IsAt, number_is, at_append}
use Rattle.network_laws.proofs.Places.{net_spot, IsBelow, IsFrom, HasParent, AreBelow, NetsMet, met_net, met_link, below_net, below_link, below_more, below_new}
use Rattle.network_laws.proofs.Hosts.{HostsMet, InterfacesMet, IsRanged, IsLast, hosts_grown, met_host, interfaces_grown, met_interface}
use Rattle.network_laws.proofs.Parts.{LinksMet, SessionsMet, TrafficMet, HasPort, met_keys, sessions_grown, met_session, met_pattern, met_server}

pub record IsMet (frequency : ℕ) (w : Seen) : Type 0 where
  pub nets : NetsMet w.nets w.net_names w.links
  pub hosts : HostsMet w.hosts w.host_names (length w.net_names)
  pub interfaces : InterfacesMet w.interfaces w.interface_names w.host_names
  pub links : LinksMet w.links w.downs
  pub sessions : SessionsMet frequency w.sessions (length w.host_names)
  pub traffic : TrafficMet w.traffic w.servers

-- faults that are not met

not_many : (b : Bool) (kind : List ℕ) → fault_if b (TooMany kind) ≡ None → b ≡ false
not_many true kind e = cc
not_many false kind e = refl

pub fewer : (count most : ℕ) (kind : List ℕ) → many count most kind ≡ None → count < most
fewer count most kind e = let no : nat_le most count ≡ false = not_many (nat_le most count) kind e in grind (arith, nat_tests)

new_by : (b : Bool) (address : NhiFields) (rest : Option ShapeFault) → first_some (fault_if b (DoubleId address)) rest ≡ None → (b ≡ false) × (rest ≡ None)
new_by true address rest e = cc
new_by false address rest e = (refl, e)

pub new_name : (names : List (List ℕ)) (ids : List ℕ) (address : NhiFields) (most : ℕ) (kind : List ℕ) → double_or_many names ids address most kind ≡ None → (list_any (same ids) names ≡ false) × (length names < most)
new_name names ids address most kind e =
    let both = new_by (list_any (same ids) names) address (many (length names) most kind) e in
    (both.0, fewer (length names) most kind both.1)

-- the top Net alone

first_alone : (i : ℕ) → i < 1 → HasParent i (get_or (top_row ∷ []) i no_net)
first_alone zero lt = refl
first_alone (suc i) lt = absurd (omega arith)

pub met_top : (frequency : ℕ) → IsMet frequency (with_top empty)
met_top frequency = record {
  nets = record {
    few = omega arith;
    same_length = refl;
    parents = λ i lt. first_alone i lt;
    ids = All-cons (λ (net : NetRow). All IsId net.ids) top_row [] (All-nil IsId) (All-nil (λ (net : NetRow). All IsId net.ids));
    within = All-nil (λ (link : LinkSeen). link.net < 1);
    spots_within = All-cons (IsFrom 1) (net_spot top_row) [] tt (All-nil (IsFrom 1));
    apart = λ i j d lt less. absurd (omega arith);
    few_links = omega arith;
  };
  hosts = record {
    few = omega arith;
    names_are = refl;
    within = All-nil (λ (h : HostSeen). h.net < 1);
    ids = All-nil (λ (h : HostSeen). IsId h.id);
    apart = λ i j d lt less. absurd (omega arith);
  };
  interfaces = record {
    few = omega arith;
    own = tt;
    ranged = All-nil IsRanged;
    rise = IsNonDecreasingBy-short (λ (i : InterfaceRow). i.host) [] (omega arith);
  };
  links = record { keys = All-nil (λ (link : LinkSeen). IsLinkKeys link.keys); count = refl; few = omega arith };
  sessions = record { few = omega arith; within = All-nil (λ (s : SessionSeen). s.host < 0); keys = All-nil (λ (s : SessionSeen). IsSessionKeys frequency s.keys) };
  traffic = record { few = omega arith; count = refl; ports = All-nil HasPort; headed = tt };
}

no_parent : IsBelow 0 0 (net_spot top_row)
no_parent e = let no : ⊥ = cc in absurd no

pub below_top : AreBelow 0 0 (with_top empty).nets (with_top empty).links
below_top = record { all = All-cons (IsBelow 0 0) (net_spot top_row) [] no_parent (All-nil (IsBelow 0 0)) }

-- one visit more

pub met_with_net : (frequency : ℕ) (w : Seen) (parent : List ℕ) (n id order : ℕ) → IsMet frequency w → IsAt parent n w.net_names → AreBelow n order w.nets w.links → All IsId parent → IsId id → net_fault w parent id ≡ None → IsMet frequency (with_net w parent id order)
met_with_net frequency w parent n id order met at below ids is_id e =
    let new = new_name w.net_names (parent ++ id ∷ []) (record { ids = parent ++ id ∷ []; interface = None }) 65536 (codes "nets") e in
    let longer : length (w.net_names ++ (parent ++ id ∷ []) ∷ []) ≡ length w.net_names + 1 = length-append w.net_names ((parent ++ id ∷ []) ∷ []) in
    record {
      nets = met_net w.nets w.net_names w.links parent n id order met.nets at below new.1 ids is_id;
      hosts = hosts_grown w.hosts w.host_names (length w.net_names) (length (w.net_names ++ (parent ++ id ∷ []) ∷ [])) (omega arith) met.hosts;
      interfaces = met.interfaces;
      links = met.links;
      sessions = met.sessions;
      traffic = met.traffic;
    }

pub met_with_host : (frequency : ℕ) (w : Seen) (net : List ℕ) (id : ℕ) (router : Bool) (gateway : Option GatewayKeys) → IsMet frequency w → 0 < length w.net_names → IsId id → host_fault w net id ≡ None → IsMet frequency (with_host w net id router gateway)
met_with_host frequency w net id router gateway met some is_id e =
    let new = new_name w.host_names (net ++ id ∷ []) (record { ids = net ++ id ∷ []; interface = None }) 65536 (codes "hosts") e in
    let longer : length (w.host_names ++ (net ++ id ∷ []) ∷ []) ≡ length w.host_names + 1 = length-append w.host_names ((net ++ id ∷ []) ∷ []) in
    record {
      nets = met.nets;
      hosts = met_host w.hosts w.host_names w.net_names net id router gateway met.hosts some new.0 new.1 is_id;
      interfaces = interfaces_grown w.interfaces w.interface_names w.host_names (net ++ id ∷ []) met.interfaces;
      links = met.links;
      sessions = sessions_grown frequency w.sessions (length w.host_names) (length (w.host_names ++ (net ++ id ∷ []) ∷ [])) (omega arith) met.sessions;
      traffic = met.traffic;
    }

pub met_with_interface : (frequency : ℕ) (w : Seen) (h : List ℕ) (id : ℕ) (keys : InterfaceKeys) → IsMet frequency w → IsLast h w.host_names → IsId id → IsInterfaceKeys keys → interface_fault w h id ≡ None → IsMet frequency (with_interface w h id keys)
met_with_interface frequency w h id keys met last is_id is_keys e =
    let new = new_name w.interface_names (h ++ id ∷ []) (record { ids = h; interface = Some id }) 131072 (codes "interfaces") e in
    record {
      nets = met.nets;
      hosts = met.hosts;
      interfaces = met_interface w.interfaces w.interface_names w.host_names h id keys met.interfaces last new.1 is_id is_keys;
      links = met.links;
      sessions = met.sessions;
      traffic = met.traffic;
    }

pub met_with_session : (frequency : ℕ) (w : Seen) (h : List ℕ) (keys : SessionKeys) → IsMet frequency w → IsLast h w.host_names → IsSessionKeys frequency keys → session_fault w ≡ None → IsMet frequency (with_session w keys)
met_with_session frequency w h keys met last is_keys e = record {
  nets = met.nets;
  hosts = met.hosts;
  interfaces = met.interfaces;
  links = met.links;
  sessions = met_session frequency w.sessions w.host_names h keys met.sessions last (fewer (length w.sessions) 262144 (codes "sessions") e) is_keys;
  traffic = met.traffic;
}

pub met_with_pattern : (frequency : ℕ) (w : Seen) (net : List ℕ) (client : NhiFields) → IsMet frequency w → IsMet frequency (with_pattern w net client)
met_with_pattern frequency w net client met = record {
  nets = met.nets;
  hosts = met.hosts;
  interfaces = met.interfaces;
  links = met.links;
  sessions = met.sessions;
  traffic = met_pattern w.traffic w.servers (record { path = net; client = client }) met.traffic;
}

pub met_with_server : (frequency : ℕ) (w : Seen) (net : List ℕ) (keys : ServerKeys) → IsMet frequency w → 0 < length w.traffic → 1 ≤ keys.port → server_fault w ≡ None → IsMet frequency (with_server w net keys)
met_with_server frequency w net keys met some port e = record {
  nets = met.nets;
  hosts = met.hosts;
  interfaces = met.interfaces;
  links = met.links;
  sessions = met.sessions;
  traffic = met_server w.traffic w.servers (record { path = net; keys = keys }) met.traffic some (fewer w.servers 65536 (codes "patterns") e) port;
}

-- a link's keys, where so many times in which a link is down came before
abbrev pub AreKeys : ℕ → LinkKeys → Type 0
AreKeys before keys = IsLinkKeys keys × (before ≤ 64 → before + length keys.downs ≤ 64)

pub met_with_link : (frequency : ℕ) (w : Seen) (net : List ℕ) (n order : ℕ) (r : Read LinkKeys) → IsMet frequency w → IsAt net n w.net_names → AreBelow n order w.nets w.links → IfOk r (AreKeys w.downs) → link_fault r (link_many w) ≡ None → IsMet frequency (with_link w net order r)
met_with_link frequency w net n order (Err fault) met at below keys e = cc
met_with_link frequency w net n order (Ok k) met at below keys e =
    let link : LinkSeen = record { net = number_in w.net_names net; path = net; order = order; keys = k } in
    record {
      nets = met_link w.nets w.net_names w.links link n order met.nets at.within (number_is net n w.net_names at) refl below (fewer (length w.links) 65536 (codes "links") e);
      hosts = met.hosts;
      interfaces = met.interfaces;
      links = met_keys w.links w.downs link met.links keys.0 keys.1;
      sessions = met.sessions;
      traffic = met.traffic;
    }

-- what parts of a Net keep of the others: their names, and bounds of the orders in them
pub record Kept (m : ℕ) (w w' : Seen) : Type 0 where
  pub more : List (List ℕ)
  pub names_are : w'.net_names ≡ w.net_names ++ more
  pub others : (n k : ℕ) → n < length w.net_names → n ≢ m → AreBelow n k w.nets w.links → AreBelow n k w'.nets w'.links

pub kept_then : (m : ℕ) (w u v : Seen) → Kept m w u → Kept m u v → Kept m w v
kept_then m w u v first second =
    let longer : length (w.net_names ++ first.more) ≡ length w.net_names + length first.more = length-append w.net_names first.more in
    let long : length u.net_names ≡ length (w.net_names ++ first.more) = ap (λ (l : List (List ℕ)). length l) first.names_are in
    record {
      more = first.more ++ second.more;
      names_are = second.names_are ∙ (ap (λ (l : List (List ℕ)). l ++ second.more) first.names_are ∙ append_assoc w.net_names first.more second.more);
      others = λ n k lt other below. second.others n k (omega arith) other (first.others n k lt other below);
    }

pub kept_all : (m : ℕ) (w : Seen) → Kept m w w
kept_all m w = record { more = []; names_are = sym (append-nil w.net_names); others = λ n k lt other below. below }

pub kept_at : (ids : List ℕ) (n m : ℕ) (w v : Seen) → Kept m w v → IsAt ids n w.net_names → IsAt ids n v.net_names
kept_at ids n m w v kept at = subst (λ (names : List (List ℕ)). IsAt ids n names) (sym kept.names_are) (at_append ids n w.net_names kept.more at)

pub kept_long : (m : ℕ) (w v : Seen) → Kept m w v → length w.net_names ≤ length v.net_names
kept_long m w v kept =
    let longer : length (w.net_names ++ kept.more) ≡ length w.net_names + length kept.more = length-append w.net_names kept.more in
    let long : length v.net_names ≡ length (w.net_names ++ kept.more) = ap (λ (l : List (List ℕ)). length l) kept.names_are in
    omega arith

-- a new spot in Net m
elsewhere : (n m k order : ℕ) → n ≢ m → IsBelow n k (Some m, order)
elsewhere n m k order other e = let same : n ≡ m = cc in absurd (other same)

here_below : (m order : ℕ) → IsBelow m (order + 1) (Some m, order)
here_below m order e = omega arith

at_spot : (n k a m order : ℕ) → a ≡ m → IsBelow n k (Some m, order) → IsBelow n k (Some a, order)
at_spot n k a m order e h = rw e h

pub kept_net : (w : Seen) (parent : List ℕ) (n id order : ℕ) → IsAt parent n w.net_names → Kept n w (with_net w parent id order)
kept_net w parent n id order at = record {
  more = (parent ++ id ∷ []) ∷ [];
  names_are = refl;
  others = λ j k lt other below. below_net j k w.nets w.links (nested_row w.net_names parent id order) below (at_spot j k (number_in w.net_names parent) n order (number_is parent n w.net_names at) (elsewhere j n k order other));
}

pub below_with_net : (w : Seen) (parent : List ℕ) (n id order : ℕ) → IsAt parent n w.net_names → AreBelow n order w.nets w.links → AreBelow n (order + 1) (with_net w parent id order).nets (with_net w parent id order).links
below_with_net w parent n id order at below =
    below_net n (order + 1) w.nets w.links (nested_row w.net_names parent id order) (below_more n order (order + 1) w.nets w.links (omega arith) below)
    (at_spot n (order + 1) (number_in w.net_names parent) n order (number_is parent n w.net_names at) (here_below n order))

pub kept_link : (w : Seen) (net : List ℕ) (n order : ℕ) (r : Read LinkKeys) → IsAt net n w.net_names → Kept n w (with_link w net order r)
kept_link w net n order (Err fault) at = record { more = []; names_are = sym (append-nil w.net_names); others = λ j k lt other below. below }
kept_link w net n order (Ok keys) at = record {
  more = [];
  names_are = sym (append-nil w.net_names);
  others = λ j k lt other below. below_link j k w.nets w.links (record { net = number_in w.net_names net; path = net; order = order; keys = keys }) below (at_spot j k (number_in w.net_names net) n order (number_is net n w.net_names at) (elsewhere j n k order other));
}

pub below_with_link : (w : Seen) (net : List ℕ) (n order : ℕ) (r : Read LinkKeys) → IsAt net n w.net_names → AreBelow n order w.nets w.links → AreBelow n (order + 1) (with_link w net order r).nets (with_link w net order r).links
below_with_link w net n order (Err fault) at below = below_more n order (order + 1) w.nets w.links (omega arith) below
below_with_link w net n order (Ok keys) at below =
    below_link n (order + 1) w.nets w.links (record { net = number_in w.net_names net; path = net; order = order; keys = keys }) (below_more n order (order + 1) w.nets w.links (omega arith) below)
    (at_spot n (order + 1) (number_in w.net_names net) n order (number_is net n w.net_names at) (here_below n order))

-- the new Net has no parts yet
pub below_inner : (frequency : ℕ) (w : Seen) (parent : List ℕ) (n id order : ℕ) → IsMet frequency w → IsAt parent n w.net_names → AreBelow (length w.net_names) 0 (with_net w parent id order).nets (with_net w parent id order).links
below_inner frequency w parent n id order met at =
    let lt = at.within in
    below_net (length w.net_names) 0 w.nets w.links (nested_row w.net_names parent id order) (below_new (length w.net_names) w.nets w.net_names w.links met.nets (omega arith))
    (at_spot (length w.net_names) 0 (number_in w.net_names parent) n order (number_is parent n w.net_names at) (elsewhere (length w.net_names) n 0 order (λ e. omega arith)))

-- parts of a Net that was not there before
pub kept_inner : (m q : ℕ) (w u v : Seen) → Kept m w u → Kept q u v → length w.net_names ≤ q → Kept m w v
kept_inner m q w u v first second le =
    let long = kept_long m w u first in
    record {
      more = first.more ++ second.more;
      names_are = second.names_are ∙ (ap (λ (l : List (List ℕ)). l ++ second.more) first.names_are ∙ append_assoc w.net_names first.more second.more);
      others = λ n k lt other below. second.others n k (omega arith) (λ e. omega arith) (first.others n k lt other below);
    }
