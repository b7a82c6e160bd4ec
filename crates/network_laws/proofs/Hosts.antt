-- Hosts and interfaces that were met: an interface is named by its host, and they stand host by host.
use Rattle.std.proofs.Common.{◌≡◌, ◌≢◌, ℕ, zero, suc, ◌+◌, ◌-◌, ◌<◌, ◌≤◌, Bool, false, List, [], ◌∷◌, ◌++◌, length, map, get_or, Option, refl, ap, sym, ◌∙◌, arith, length-append}
use Rattle.std.specs.Prelude.{All}
use Rattle.std.specs.List.{AllPairs, AllZip, list_any}
use Rattle.std.specs.List.Sorted.{IsNonDecreasingBy}
use Rattle.std.proofs.lemmas.List.{get_or_append_left, map-append}
use Rattle.std.proofs.lemmas.List.Sorted.{IsNonDecreasingBy-push}
use Rattle.std.proofs.Math.Seq.{get_or-append_seam}
use Rattle.std.proofs.lemmas.List.Elements.{All-nil, All-cons, All-push, All-weaker}
use Rattle.net_graph.specs.declared.rows.InterfaceRow.{InterfaceRow}
use Rattle.net_graph.specs.declared.list_keys.GatewayKeys.{GatewayKeys}
use Rattle.net_graph.specs.declared.list_keys.InterfaceKeys.{InterfaceKeys}
use Rattle.net_graph.specs.declared.seen.HostSeen.{HostSeen}
use Rattle.net_graph.specs.Names.{same}
use Rattle.net_graph.specs.SeenRows.{last_number, host_in, interface_in}
use Rattle.net_graph.specs.Networks.{IsId}
use Rattle.network_laws.proofs.Ranges.{InRange, IsTime, IsInterfaceKeys}
use Rattle.network_laws.proofs.Names.{number_within, apart_push}

-- two lists side by side

both_push : {A B : Type 0} (R : A → B → Type 0) (xs : List A) (ys : List B) (x : A) (y : B) → AllZip R xs ys → R x y → AllZip R (xs ++ x ∷ []) (ys ++ y ∷ [])
both_push R [] [] x y all here = (here, tt)
both_push R [] (z ∷ ys) x y all here = absurd all
both_push R (w ∷ xs) [] x y all here = absurd all
both_push R (w ∷ xs) (z ∷ ys) x y all here = (all.0, both_push R xs ys x y all.1 here)

both_weaker : {A B : Type 0} (R Q : A → B → Type 0) (xs : List A) (ys : List B) → ((x : A) (y : B) → R x y → Q x y) → AllZip R xs ys → AllZip Q xs ys
both_weaker R Q [] [] h all = tt
both_weaker R Q [] (z ∷ ys) h all = absurd all
both_weaker R Q (w ∷ xs) [] h all = absurd all
both_weaker R Q (w ∷ xs) (z ∷ ys) h all = (h w z all.0, both_weaker R Q xs ys h all.1)

both_left : {A B : Type 0} (R : A → B → Type 0) (P : A → Type 0) (xs : List A) (ys : List B) → ((x : A) (y : B) → R x y → P x) → AllZip R xs ys → All P xs
both_left R P [] [] h all = All-nil P
both_left R P [] (z ∷ ys) h all = absurd all
both_left R P (w ∷ xs) [] h all = absurd all
both_left R P (w ∷ xs) (z ∷ ys) h all = All-cons P w xs (h w z all.0) (both_left R P xs ys h all.1)

both_long : {A B : Type 0} (R : A → B → Type 0) (xs : List A) (ys : List B) → AllZip R xs ys → length xs ≡ length ys
both_long R [] [] all = refl
both_long R [] (z ∷ ys) all = absurd all
both_long R (w ∷ xs) [] all = absurd all
both_long R (w ∷ xs) (z ∷ ys) all = ap (λ (n : ℕ). suc n) (both_long R xs ys all.1)

both_at : {A B : Type 0} (R : A → B → Type 0) (xs : List A) (ys : List B) (i : ℕ) (d : A) (e : B) → AllZip R xs ys → i < length ys → R (get_or xs i d) (get_or ys i e)
both_at R [] [] i d e all lt = absurd (omega arith)
both_at R [] (z ∷ ys) i d e all lt = absurd all
both_at R (w ∷ xs) [] i d e all lt = absurd all
both_at R (w ∷ xs) (z ∷ ys) zero d e all lt = all.0
both_at R (w ∷ xs) (z ∷ ys) (suc i) d e all lt = both_at R xs ys i d e all.1 (omega arith)

-- hosts

abbrev pub host_name : HostSeen → List ℕ
host_name h = h.path ++ h.id ∷ []

pub record HostsMet (hosts : List HostSeen) (names : List (List ℕ)) (nets : ℕ) : Type 0 where
  pub few : length names ≤ 65536
  pub names_are : names ≡ map host_name hosts
  pub within : All (λ (h : HostSeen). h.net < nets) hosts
  pub ids : All (λ (h : HostSeen). IsId h.id) hosts
  pub apart : AllPairs (λ a b. a ≢ b) names

pub hosts_grown : (hosts : List HostSeen) (names : List (List ℕ)) (nets more : ℕ) → nets ≤ more → HostsMet hosts names nets → HostsMet hosts names more
hosts_grown hosts names nets more le met = record {
  few = met.few;
  names_are = met.names_are;
  within = All-weaker (λ (h : HostSeen). h.net < nets) (λ (h : HostSeen). h.net < more) (λ h lt. omega arith) hosts met.within;
  ids = met.ids;
  apart = met.apart;
}

pub met_host : (hosts : List HostSeen) (names nets : List (List ℕ)) (net : List ℕ) (id : ℕ) (router : Bool) (gateway : Option GatewayKeys) → HostsMet hosts names (length nets) → 0 < length nets →
    list_any (same (net ++ id ∷ [])) names ≡ false → length names < 65536 → IsId id → HostsMet (hosts ++ host_in nets net id router gateway ∷ []) (names ++ (net ++ id ∷ []) ∷ []) (length nets)
met_host hosts names nets net id router gateway met some new few is_id =
    let row = host_in nets net id router gateway in
    let longer : length (names ++ (net ++ id ∷ []) ∷ []) ≡ length names + 1 = length-append names ((net ++ id ∷ []) ∷ []) in
    record {
      few = omega arith;
      names_are = ap (λ (l : List (List ℕ)). l ++ (net ++ id ∷ []) ∷ []) met.names_are ∙ sym (map-append host_name hosts (row ∷ []));
      within = All-push (λ (h : HostSeen). h.net < length nets) hosts row met.within (number_within nets net some);
      ids = All-push (λ (h : HostSeen). IsId h.id) hosts row met.ids is_id;
      apart = apart_push names (net ++ id ∷ []) met.apart new;
    }

-- interfaces

-- an interface of a host is named by it
abbrev pub IsOwn : List (List ℕ) → InterfaceRow → List ℕ → Type 0
IsOwn hosts i name = (i.host < length hosts) × (name ≡ get_or hosts i.host [] ++ i.id ∷ [])

pub record IsRanged (i : InterfaceRow) : Type 0 where
  pub id : IsId i.id
  pub bitrate : InRange 1 1000000000001 i.bitrate
  pub latency : IsTime i.latency
  pub buffer : InRange 1 2147483649 i.buffer
  pub cost : InRange 1 65536 i.cost

pub record InterfacesMet (rows : List InterfaceRow) (names hosts : List (List ℕ)) : Type 0 where
  pub few : length names ≤ 131072
  pub own : AllZip (IsOwn hosts) rows names
  pub ranged : All IsRanged rows
  pub rise : IsNonDecreasingBy (λ (i : InterfaceRow). i.host) rows

pub interfaces_grown : (rows : List InterfaceRow) (names hosts : List (List ℕ)) (new : List ℕ) → InterfacesMet rows names hosts → InterfacesMet rows names (hosts ++ new ∷ [])
interfaces_grown rows names hosts new met =
    let longer : length (hosts ++ new ∷ []) ≡ length hosts + 1 = length-append hosts (new ∷ []) in
    record {
      few = met.few;
      own = both_weaker (IsOwn hosts) (IsOwn (hosts ++ new ∷ [])) rows names
          (λ i name own. let lt = own.0 in (omega arith, own.1 ∙ ap (λ (h : List ℕ). h ++ i.id ∷ []) (sym (get_or_append_left hosts (new ∷ []) [] i.host own.0)))) met.own;
      ranged = met.ranged;
      rise = met.rise;
    }

-- this host was met last
pub record IsLast (h : List ℕ) (hosts : List (List ℕ)) : Type 0 where
  pub before : List (List ℕ)
  pub hosts_are : hosts ≡ before ++ h ∷ []

pub last_is : (h : List ℕ) (hosts : List (List ℕ)) → IsLast h hosts → (last_number hosts < length hosts) × (h ≡ get_or hosts (last_number hosts) [])
last_is h hosts last =
    let longer : length (last.before ++ h ∷ []) ≡ length last.before + 1 = length-append last.before (h ∷ []) in
    let long : length hosts ≡ length last.before + 1 = ap (λ (l : List (List ℕ)). length l) last.hosts_are ∙ longer in
    let number : last_number hosts ≡ length last.before = omega arith in
    (omega arith, sym (ap (λ (n : ℕ). get_or hosts n []) number ∙ (ap (λ (l : List (List ℕ)). get_or l (length last.before) []) last.hosts_are ∙ get_or-append_seam last.before h [] [])))

pub met_interface : (rows : List InterfaceRow) (names hosts : List (List ℕ)) (h : List ℕ) (id : ℕ) (keys : InterfaceKeys) → InterfacesMet rows names hosts → IsLast h hosts → length names < 131072 → IsId id → IsInterfaceKeys keys →
    InterfacesMet (rows ++ interface_in hosts id keys ∷ []) (names ++ (h ++ id ∷ []) ∷ []) hosts
met_interface rows names hosts h id keys met last few is_id is_keys =
    let row = interface_in hosts id keys in
    let longer : length (names ++ (h ++ id ∷ []) ∷ []) ≡ length names + 1 = length-append names ((h ++ id ∷ []) ∷ []) in
    let at = last_is h hosts last in
    let within : All (λ (i : InterfaceRow). i.host < length hosts) rows = both_left (IsOwn hosts) (λ (i : InterfaceRow). i.host < length hosts) rows names (λ i name own. own.0) met.own in
    record {
      few = omega arith;
      own = both_push (IsOwn hosts) rows names row (h ++ id ∷ []) met.own (at.0, ap (λ (l : List ℕ). l ++ id ∷ []) at.1);
      ranged = All-push IsRanged rows row met.ranged (record { id = is_id; bitrate = is_keys.bitrate; latency = is_keys.latency; buffer = is_keys.buffer; cost = is_keys.cost });
      rise = IsNonDecreasingBy-push (λ (i : InterfaceRow). i.host) rows row met.rise (λ d some. let lt : (get_or rows (length rows - 1) d).host < length hosts = within (length rows - 1) d (omega arith) in omega arith);
    }

pub interface_at_name : (rows : List InterfaceRow) (names hosts : List (List ℕ)) (i : ℕ) (d : InterfaceRow) → InterfacesMet rows names hosts → i < length names → IsOwn hosts (get_or rows i d) (get_or names i [])
interface_at_name rows names hosts i d met lt = both_at (IsOwn hosts) rows names i d [] met.own lt

pub as_many : (rows : List InterfaceRow) (names hosts : List (List ℕ)) → InterfacesMet rows names hosts → length rows ≡ length names
as_many rows names hosts met = both_long (IsOwn hosts) rows names met.own
