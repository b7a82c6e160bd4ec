-- Hosts whose default routes were looked up: each leaves by an interface of the host, to one on the same link.
use Rattle.std.proofs.Common.{◌≡◌, ℕ, suc, ◌+◌, ◌<◌, Bool, true, false, nat_eq, List, [], ◌∷◌, ◌++◌, length, get_or, Option, Some, None, Ok, Err, IfOk, refl, ap, sym, ◌∙◌, arith, length-append, subst}
use Rattle.std.specs.Prelude.{All, if◌then◌else◌, position, IsSome}
use Rattle.std.specs.Option.{ForSome, option_map}
use Rattle.std.proofs.lemmas.Bool.{eqb-true}
use Rattle.std.proofs.lemmas.List.Elements.{All-head, All-tail}
use Rattle.nhi_address.specs.NhiFields.{NhiFields}
use Rattle.sim_base.specs.declared.records.TcpConfig.{TcpConfig}
use Rattle.net_graph.specs.declared.fault.ShapeFault.TheVariants.{UnknownNhi}
use Rattle.net_graph.specs.declared.rows.HostRow.{HostRow}
use Rattle.net_graph.specs.declared.rows.Gateway.{Gateway}
use Rattle.net_graph.specs.declared.list_keys.GatewayKeys.{GatewayKeys}
use Rattle.net_graph.specs.declared.list_keys.SessionKeys.{SessionKeys}
use Rattle.net_graph.specs.declared.list_keys.SessionKeys.TheVariants as keys
use Rattle.net_graph.specs.declared.seen.HostSeen.{HostSeen}
use Rattle.net_graph.specs.declared.seen.SessionSeen.{SessionSeen}
use Rattle.net_graph.specs.declared.seen.Seen.{Seen}
use Rattle.net_graph.specs.Names.{same}
use Rattle.sim_base.specs.Traffic.{IsTcp}
use Rattle.net_graph.specs.Networks.{IsId, no_interface}
use Rattle.net_graph.specs.NetworkOf.{Attachment, full, interface_by_nhi, attached_at, same_link, next_at, gateway_next, own_address, gateway_on, gateway_row, tcp_or, tcp_in, host_rows}
use Rattle.network_laws.proofs.Ranges.{then_if, IsFrequency, IsSessionKeys, default_tcp_is}
use Rattle.network_laws.proofs.Names.{found, same_place}
use Rattle.network_laws.proofs.Hosts.{host_name, interface_at_name, as_many}
use Rattle.network_laws.proofs.Growing.{IsMet}
use Rattle.network_laws.proofs.Attached.{interface_within}
use Rattle.network_laws.proofs.Numbered.{EachFrom}

-- an interface of a host is found by the host's name

front_same : (xs ys : List ℕ) (a b : ℕ) → xs ++ a ∷ [] ≡ ys ++ b ∷ [] → xs ≡ ys
front_same [] [] a b e = refl
front_same [] (y ∷ ys) a b e =
    let long : length (a ∷ []) ≡ length (y ∷ (ys ++ b ∷ [])) = ap (λ (l : List ℕ). length l) e in
    let more : length (ys ++ b ∷ []) ≡ length ys + 1 = length-append ys (b ∷ []) in
    let fewer : 1 ≡ suc (length (ys ++ b ∷ [])) = long in
    absurd (omega arith)
front_same (x ∷ xs) [] a b e =
    let long : length (x ∷ (xs ++ a ∷ [])) ≡ length (b ∷ []) = ap (λ (l : List ℕ). length l) e in
    let more : length (xs ++ a ∷ []) ≡ length xs + 1 = length-append xs (a ∷ []) in
    let fewer : suc (length (xs ++ a ∷ [])) ≡ 1 = long in
    absurd (omega arith)
front_same (x ∷ xs) (y ∷ ys) a b e =
    let first : x ≡ y = cc in
    let rest : xs ++ a ∷ [] ≡ ys ++ b ∷ [] = cc in
    let same_rest : xs ≡ ys = front_same xs ys a b rest in
    cc

own_host : (f : ℕ) (seen : Seen) (name : List ℕ) (number id i : ℕ) → IsMet f seen → number < length seen.host_names → get_or seen.host_names number [] ≡ name → position (same (name ++ id ∷ [])) seen.interface_names ≡ Some i →
    (get_or seen.interfaces i no_interface).host ≡ number
own_host f seen name number id i met lt named e =
    let at = found (name ++ id ∷ []) seen.interface_names i e in
    let row = get_or seen.interfaces i no_interface in
    let own = interface_at_name seen.interfaces seen.interface_names seen.host_names i no_interface met.interfaces at.0 in
    let names : name ≡ get_or seen.host_names row.host [] = front_same name (get_or seen.host_names row.host []) id row.id (at.1 [] ∙ own.1) in
    same_place seen.host_names row.host number met.hosts.apart own.0 lt (sym (named ∙ names))

-- a default route

pub record IsOut (seen : Seen) (all : List Attachment) (number : ℕ) (g : Gateway) : Type 0 where
  pub there : g.interface < length seen.interfaces
  pub own : (get_or seen.interfaces g.interface no_interface).host ≡ number
  pub next_there : ForSome g.next (λ n. n < length seen.interfaces)
  pub next_attached : ForSome g.next (λ n. IsSome (attached_at all n))
  pub next_on_link : ForSome g.next (λ n. option_map (λ (at : ℕ × ℕ). at.0) (attached_at all n) ≡ option_map (λ (at : ℕ × ℕ). at.0) (attached_at all g.interface))

on_same : (a b : Option (ℕ × ℕ)) → same_link a b ≡ true → IsSome b × (option_map (λ (at : ℕ × ℕ). at.0) b ≡ option_map (λ (at : ℕ × ℕ). at.0) a)
on_same None b e = cc
on_same (Some a) None e = cc
on_same (Some a) (Some b) e = (refl, ap Some (sym (eqb-true a.0 b.0 e)))

next_by : (seen : Seen) (all : List Attachment) (number interface next : ℕ) (nhi : NhiFields) (b : Bool) → same_link (attached_at all interface) (attached_at all next) ≡ b → interface < length seen.interfaces → (get_or seen.interfaces interface no_interface).host ≡ number → next < length seen.interfaces →
    IfOk (if b then Ok (record { interface = interface; next = Some next }) else Err (UnknownNhi nhi)) (IsOut seen all number)
next_by seen all number interface next nhi true e lt own less =
    let on = on_same (attached_at all interface) (attached_at all next) e in
    record {
      there = lt;
      own = own;
      next_there = λ n is. (let same : next ≡ n = cc in omega arith);
      next_attached = λ n is. (let same : next ≡ n = cc in subst (λ (m : ℕ). IsSome (attached_at all m)) same on.0);
      next_on_link = λ n is. (let same : next ≡ n = cc in subst (λ (m : ℕ). option_map (λ (at : ℕ × ℕ). at.0) (attached_at all m) ≡ option_map (λ (at : ℕ × ℕ). at.0) (attached_at all interface)) same on.1);
    }
next_by seen all number interface next nhi false e lt own less = tt

next_if : (seen : Seen) (all : List Attachment) (number interface : ℕ) (nhi : NhiFields) (o : Option ℕ) → interface < length seen.interfaces → (get_or seen.interfaces interface no_interface).host ≡ number → ForSome o (λ n. n < length seen.interfaces) →
    IfOk (next_at all nhi interface o) (IsOut seen all number)
next_if seen all number interface nhi None lt own there = tt
next_if seen all number interface nhi (Some next) lt own there = next_by seen all number interface next nhi (same_link (attached_at all interface) (attached_at all next)) refl lt own (there next refl)

gateway_next_if : (seen : Seen) (all : List Attachment) (path : List ℕ) (number interface : ℕ) (o : Option NhiFields) → length seen.interfaces ≡ length seen.interface_names → interface < length seen.interfaces → (get_or seen.interfaces interface no_interface).host ≡ number →
    IfOk (gateway_next seen all path interface o) (IsOut seen all number)
gateway_next_if seen all path number interface None long lt own = record {
  there = lt;
  own = own;
  next_there = λ n is. (let no : ⊥ = cc in absurd no);
  next_attached = λ n is. (let no : ⊥ = cc in absurd no);
  next_on_link = λ n is. (let no : ⊥ = cc in absurd no);
}
gateway_next_if seen all path number interface (Some nhi) long lt own =
    next_if seen all number interface (full path nhi) (interface_by_nhi seen (full path nhi) nhi.interface) lt own (λ n e. interface_within seen (full path nhi) nhi.interface n long e)

gateway_on_if : (f : ℕ) (seen : Seen) (all : List Attachment) (h : HostSeen) (number : ℕ) (k : GatewayKeys) (o : Option ℕ) → interface_by_nhi seen (own_address h k.interface) (Some k.interface) ≡ o → IsMet f seen → number < length seen.host_names → get_or seen.host_names number [] ≡ host_name h →
    IfOk (gateway_on seen all h k o) (IsOut seen all number)
gateway_on_if f seen all h number k None e met lt named = tt
gateway_on_if f seen all h number k (Some interface) e met lt named =
    let long = as_many seen.interfaces seen.interface_names seen.host_names met.interfaces in
    gateway_next_if seen all h.path number interface k.next long (interface_within seen (own_address h k.interface) (Some k.interface) interface long e) (own_host f seen (host_name h) number k.interface interface met lt named e)

gateway_row_if : (f : ℕ) (seen : Seen) (all : List Attachment) (h : HostSeen) (number : ℕ) (o : Option GatewayKeys) → IsMet f seen → number < length seen.host_names → get_or seen.host_names number [] ≡ host_name h →
    IfOk (gateway_row seen all h o) (λ g. ForSome g (IsOut seen all number))
gateway_row_if f seen all h number None met lt named = λ g e. (let no : ⊥ = cc in absurd no)
gateway_row_if f seen all h number (Some k) met lt named =
    then_if (IsOut seen all number) (λ g. ForSome g (IsOut seen all number)) (gateway_on seen all h k (interface_by_nhi seen (own_address h k.interface) (Some k.interface))) (λ g. Ok (Some g))
    (gateway_on_if f seen all h number k (interface_by_nhi seen (own_address h k.interface) (Some k.interface)) refl met lt named)
    (λ g out other e. (let same : g ≡ other = cc in subst (IsOut seen all number) same out))

-- the settings of TCP

tcp_or_is : (f : ℕ) (k : SessionKeys) (rest : TcpConfig) → IsSessionKeys f k → IsTcp f rest → IsTcp f (tcp_or k rest)
tcp_or_is f keys.Silent rest is other = other
tcp_or_is f keys.Ospf rest is other = other
tcp_or_is f (keys.Tcp settings) rest is other = is
tcp_or_is f (keys.Client row) rest is other = other
tcp_or_is f (keys.Server port) rest is other = other

either_tcp : (f : ℕ) (b : Bool) (a rest : TcpConfig) → IsTcp f a → IsTcp f rest → IsTcp f (if b then a else rest)
either_tcp f true a rest is other = is
either_tcp f false a rest is other = other

tcp_in_is : (f h : ℕ) (ss : List SessionSeen) → IsFrequency f → All (λ (s : SessionSeen). IsSessionKeys f s.keys) ss → IsTcp f (tcp_in f h ss)
tcp_in_is f h [] is all = default_tcp_is f is
tcp_in_is f h (s ∷ ss) is all =
    let rest = tcp_in_is f h ss is (All-tail (λ (t : SessionSeen). IsSessionKeys f t.keys) s ss all) in
    either_tcp f (nat_eq s.host h) (tcp_or s.keys (tcp_in f h ss)) (tcp_in f h ss) (tcp_or_is f s.keys (tcp_in f h ss) (All-head (λ (t : SessionSeen). IsSessionKeys f t.keys) s ss all) rest) rest

-- hosts

pub record IsLooked (f : ℕ) (seen : Seen) (all : List Attachment) (number : ℕ) (row : HostRow) : Type 0 where
  pub net : row.net < length seen.net_names
  pub id : IsId row.id
  pub gateway : ForSome row.gateway (IsOut seen all number)
  pub tcp : IsTcp f row.tcp

pub record IsNumbered (seen : Seen) (number : ℕ) (h : HostSeen) : Type 0 where
  pub net : h.net < length seen.net_names
  pub id : IsId h.id
  pub within : number < length seen.host_names
  pub named : get_or seen.host_names number [] ≡ host_name h

abbrev pub HostsLooked : ℕ → Seen → List Attachment → ℕ → List HostSeen → List HostRow → Type 0
HostsLooked f seen all number hs rows = (length rows ≡ length hs) × EachFrom (IsLooked f seen all) number rows

pub host_rows_if : (f : ℕ) (seen : Seen) (all : List Attachment) (number : ℕ) (hs : List HostSeen) → IsFrequency f → IsMet f seen → EachFrom (IsNumbered seen) number hs → IfOk (host_rows f seen all number hs) (HostsLooked f seen all number hs)
host_rows_if f seen all number [] is met numbered = (refl, tt)
host_rows_if f seen all number (h ∷ hs) is met numbered =
    let here = numbered.0 in
    then_if (λ g. ForSome g (IsOut seen all number)) (HostsLooked f seen all number (h ∷ hs)) (gateway_row seen all h h.gateway) _ (gateway_row_if f seen all h number h.gateway met here.within here.named) (λ gateway out.
    then_if (HostsLooked f seen all (number + 1) hs) (HostsLooked f seen all number (h ∷ hs)) (host_rows f seen all (number + 1) hs) _ (host_rows_if f seen all (number + 1) hs is met numbered.1) (λ rows looked.
    (ap (λ (n : ℕ). suc n) looked.0, (record { net = here.net; id = here.id; gateway = out; tcp = tcp_in_is f number seen.sessions is met.sessions.keys }, looked.1))))
