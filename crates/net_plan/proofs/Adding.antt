-- How the plan of a network is made, call by call.
use Rattle.std.proofs.Common.{◌≡◌, ◌⊎◌, ◌∙◌, ℕ, zero, suc, ◌+◌, ◌<◌, ◌≤◌, List, [], ◌∷◌, ◌++◌, length, map, take, get_or, slice_get, replicate, Bool, true, false, Option, Some, None, refl, sym, ap, subst, inl, inr, arith, add-one, length-set, length-append, ◌&&◌, ◌==◌, ◌^◌}
use Rattle.std.specs.Iterator.{Yields}
use Rattle.std.specs.declared.vec.IntoIter.{IntoIter}
use Rattle.std.specs.Vec.Iter.{into_iter_items, into_iter_len, into_iter_steps}
use Rattle.std.proofs.lemmas.List.{length-map, length-replicate}
use Rattle.std.proofs.lemmas.List.Sums.{count_by-le-length}
use Rattle.std.proofs.lemmas.List.FromFn.{length-range_with_len, length-map-range_with_len, get_or-map-range_with_len}
use Rattle.std.proofs.lemmas.Option.{slice_get-get_or, slice_get_within, get_or_from_slice_get}
use Rattle.spf_routes.specs.declared.graph.Period.{Period}
use Rattle.ip_layer.specs.Packets.{PacketFields}
use Rattle.ssf_model.specs.Reaction.{Each}
use Rattle.ssf_model.specs.declared.plan.Plan.{Plan}
use Rattle.ssf_model.specs.declared.builder.BuildFault.{BuildFault}
use Rattle.ssf_model.specs.declared.builder.BuildFault.TheVariants.{Memory}
use Rattle.ssf_model.specs.declared.builder.DraftEntity.{DraftEntity}
use Rattle.ssf_model.specs.Drafts.{Draft, empty_draft, changed_to, changed_at, add_in, with_in_channel, with_entity, entity_refusal, in_channel_refusal, out_channel_refusal, mapping_refusal, planned, first_entities, timers, IsValidDraft}
use Rattle.net_graph.specs.declared.rows.Network.{Network}
use Rattle.net_graph.specs.declared.rows.SessionRow.{SessionRow}
use Rattle.net_graph.specs.Networks.{IsNetwork, numbers}
use Rattle.net_layout.specs.declared.wiring.Wire.{Wire}
use Rattle.net_layout.specs.Wiring.{wires_of, is_client}
use Rattle.net_layout.specs.Arms.{first_interface}
use Rattle.net_layout.specs.Ports.{port_count, ports_of}
use Rattle.net_layout.specs.Limits.{KeepsLimits}
use Rattle.net_layout.specs.HostRoutes.{AreTables}
use Rattle.net_layout.specs.Sessions.{timed_of, client_count}
use Rattle.net_layout.proofs.HostPorts.{first_most}
use Rattle.net_layout.proofs.HostSessions.{length-clients_of}
use Rattle.net_layout.proofs.HostTables.{tables_one}
use Rattle.host_rules.specs.declared.rows.HostRows.{HostRows}
use Rattle.host_rules.specs.Hosts.{HostFields, first_host}
use Rattle.host_rules.specs.Limits.{AreRows, IsHost}
use Rattle.host_stack.specs.declared.host.Host.{Host}
use Rattle.net_hosts.specs.HostRowsOf.{host_rows_of, port_row, AreHostRows}
use Rattle.net_hosts.proofs.Ranges.{in_range}
use Rattle.net_build.specs.PlanText.{host_text}
use Rattle.net_plan.specs.NetDraft.{draft_of, net_draft, IsNetBuilt, host_entity, with_ins, with_host, with_wire, with_out}
use Rattle.net_plan.specs.NetPlan.{AreRowsOf, IsSoFar, names_of}
use Rattle.net_plan.proofs.Owning.{owned}
use Rattle.net_plan.proofs.Making.{nothing_made, host_made, wire_made}
use Rattle.net_plan.proofs.Refusing.{host_fits, in_fits, out_fits, mapping_fits, valid_hosts}

length_changed : {S : Type 0} (f : DraftEntity S → DraftEntity S) (es : List (DraftEntity S)) (place : ℕ) (o : Option (DraftEntity S)) → length (changed_to f es place o) ≡ length es
length_changed f es place None = refl
length_changed f es place (Some e) = length-set es place (f e)

pub ins_entities : {B S : Type 0} (d : Draft B S) (entity n : ℕ) → length (with_ins d entity n).entities ≡ length d.entities
ins_entities d entity zero = refl
ins_entities {B} {S} d entity (suc n) =
    let before : Draft B S = with_ins d entity n in
    length_changed (add_in (length before.in_owners)) before.entities entity (slice_get before.entities entity) ∙ ins_entities d entity n

pub ins_next : {B S : Type 0} (d now next : Draft B S) (entity n : ℕ) → now ≡ with_ins d entity n → next ≡ with_in_channel now entity → next ≡ with_ins d entity (n + 1)
ins_next {B} {S} d now next entity n before step =
    step ∙ ap (λ (x : Draft B S). with_in_channel x entity) before ∙ ap (with_ins d entity) (sym (add-one n))

-- a call that is not refused fails for want of memory alone
pub memory_alone : (refusal : Option BuildFault) (fault : BuildFault) → refusal ≡ None → (fault ≡ Memory) ⊎ (refusal ≡ Some fault) → fault ≡ Memory
memory_alone refusal fault none cause = elim cause [ inl memory ↦ memory | inr refused ↦ (let no : None ≡ Some fault = sym none ∙ refused in cc) ]

-- nothing was made
pub none_yet : (network : Network) (rows : List HostRows) (d : Draft Host HostFields) → AreHostRows network rows → d ≡ empty_draft (record {}) → IsSoFar network 0 0 d
none_yet network rows d are none = record { tables = are.tables; routes = are.routes; draft = none ∙ sym (nothing_made (record {}) network are.tables) }

-- which processes of a host are timed, by its rows
pub flags_are : (network : Network) (h : ℕ) (rows : HostRows) → AreRowsOf network h rows → replicate (length rows.ports) false ++ true ∷ replicate (length rows.clients) true ≡ timed_of network h
flags_are network h rows are =
    let ports : length rows.ports ≡ port_count network h =
    ap (λ (r : HostRows). length r.ports) are.own ∙ length-map (ports_of network h) (port_row network) ∙ length-range_with_len (first_interface network h) (port_count network h) in
    let clients : length rows.clients ≡ client_count network h = ap (λ (r : HostRows). length r.clients) are.own ∙ length-clients_of network h in
    ap (λ n. replicate n false ++ true ∷ replicate (length rows.clients) true) ports ∙ ap (λ n. replicate (port_count network h) false ++ true ∷ replicate n true) clients

pub ports_are : (network : Network) (h : ℕ) (rows : HostRows) → AreRowsOf network h rows → length rows.ports ≡ port_count network h
ports_are network h rows are =
    ap (λ (r : HostRows). length r.ports) are.own ∙ length-map (ports_of network h) (port_row network) ∙ length-range_with_len (first_interface network h) (port_count network h)

-- the next host, in its first state
module _ (network : Network) (h : ℕ) (rows : HostRows) (before : Draft Host HostFields) (is : IsNetwork network) (r : AreRowsOf network h rows) (s : IsSoFar network h 0 before) where
  host_begun : with_entity before (first_host rows) (timed_of network h) ≡ with_host (draft_of (record {}) network s.tables h []) network s.tables h
  host_begun =
      let same : r.tables ≡ s.tables = tables_one network r.tables s.tables r.routes s.routes in
      let own : rows ≡ host_rows_of network s.tables h = r.own ∙ ap (λ (ts : List (List Period)). host_rows_of network ts h) same in
      ap (λ (row : HostRows). with_entity before (first_host row) (timed_of network h)) own
      ∙ ap (λ (d : Draft Host HostFields). with_host d network s.tables h) s.draft

  pub entity_fits : KeepsLimits network → h < length network.hosts → entity_refusal before (timed_of network h) ≡ None
  entity_fits keeps lt = ap (λ (d : Draft Host HostFields). entity_refusal d (timed_of network h)) s.draft ∙ host_fits network s.tables {B = Host} (record {}) h is keeps lt

  pub ins_fit : (n : ℕ) → h < length network.hosts → n ≤ port_count network h → in_channel_refusal (with_ins (with_entity before (first_host rows) (timed_of network h)) h n) ≡ None
  ins_fit n lt le = ap (λ (d : Draft Host HostFields). in_channel_refusal (with_ins d h n)) host_begun ∙ in_fits network s.tables {B = Host} (record {}) h n is lt le

  pub host_next : (after : Draft Host HostFields) → after ≡ with_ins (with_entity before (first_host rows) (timed_of network h)) h (port_count network h + 1) → IsSoFar network (h + 1) 0 after
  host_next after step = record {
    tables = s.tables;
    routes = s.routes;
    draft = step ∙ ap (λ (d : Draft Host HostFields). with_ins d h (port_count network h + 1)) host_begun ∙ host_made (record {}) network s.tables h is;
  }

-- the next wire
module _ (network : Network) (n : ℕ) (wire : Wire) (before : Draft Host HostFields) (is : IsNetwork network) (keeps : KeepsLimits network) (at : slice_get (wires_of network) n ≡ Some wire)
    (s : IsSoFar network (length network.hosts) n before) where
  pub out_may : out_channel_refusal before wire.latency ≡ None
  out_may = ap (λ (d : Draft Host HostFields). out_channel_refusal d wire.latency) s.draft ∙ out_fits network s.tables {B = Host} (record {}) n wire keeps at

  pub mapping_may : mapping_refusal (with_out before wire) n wire.in_channel wire.delay ≡ None
  mapping_may = ap (λ (d : Draft Host HostFields). mapping_refusal (with_out d wire) n wire.in_channel wire.delay) s.draft ∙ mapping_fits network s.tables {B = Host} (record {}) n wire keeps at is

  pub sender_there : wire.from < length before.entities
  sender_there =
      let own = owned network is n wire at in
      let all : length before.entities ≡ length network.hosts = ap (λ (d : Draft Host HostFields). length d.entities) s.draft ∙ length-map-range_with_len (host_entity network s.tables (take n (wires_of network))) 0 (length network.hosts) in
      omega (arith, own.from, all)

  pub wire_next : (after : Draft Host HostFields) → after ≡ with_wire before n wire → IsSoFar network (length network.hosts) (n + 1) after
  wire_next after step = record { tables = s.tables; routes = s.routes; draft = step ∙ ap (λ (d : Draft Host HostFields). with_wire d n wire) s.draft ∙ wire_made (record {}) network s.tables n wire is at }

-- a host has few processes
pub flags_few : (network : Network) (h : ℕ) → IsNetwork network → length (timed_of network h) < 2 ^ 32
flags_few network h is =
    let ports = port_most network is h in
    let clients = count_by-le-length (λ (s : SessionRow). is_client s && s.host == h) network.sessions in
    let most = is.small in
    let all : length (timed_of network h) ≡ port_count network h + (1 + client_count network h) =
    length-append (replicate (port_count network h) false) (true ∷ replicate (client_count network h) true)
    ∙ ap (λ n. n + length (true ∷ replicate (client_count network h) true)) (length-replicate (port_count network h) false)
    ∙ ap (λ n. port_count network h + n) (let one = length-replicate (client_count network h) true in omega (arith, one)) in
    omega (arith, all, ports, clients, most.interfaces, most.sessions)
  where
    port_most : (network : Network) → IsNetwork network → (h : ℕ) → port_count network h ≤ length network.interfaces
    port_most network is h = let most = first_most network is (h + 1) in omega (arith, most)

pub rows_lawful : (network : Network) (h : ℕ) (rows : HostRows) → IsNetwork network → KeepsLimits network → h < length network.hosts → AreRowsOf network h rows → AreRows rows
rows_lawful network h rows is keeps lt are = subst AreRows (sym are.own) (in_range network is keeps h lt are.tables)

-- of all hosts so far
pub hosts_count : (network : Network) (h n : ℕ) (d : Draft Host HostFields) → IsSoFar network h n d → length d.entities ≡ h
hosts_count network h n d s = ap (λ (x : Draft Host HostFields). length x.entities) s.draft ∙ length-map-range_with_len (host_entity network s.tables (take n (wires_of network))) 0 h

-- all hosts and wires
pub whole_plan : (network : Network) (d : Draft Host HostFields) (plan : Plan Host HostFields PacketFields) → IsSoFar network (length network.hosts) (length (wires_of network)) d → plan ≡ planned d → IsNetBuilt (record {}) network plan
unfolding net_draft
whole_plan network d plan s is = record {
  tables = s.tables;
  routes = s.routes;
  plan_is = is ∙ ap planned (s.draft ∙ ap (λ (ws : List Wire). draft_of (record {}) network s.tables (length network.hosts) ws) (take-all (wires_of network)));
}
  where
    take-all : (ws : List Wire) → take (length ws) ws ≡ ws
    take-all [] = refl
    take-all (w ∷ ws) = ap (λ (xs : List Wire). w ∷ xs) (take-all ws)

pub whole_valid : (network : Network) (d : Draft Host HostFields) → IsNetwork network → KeepsLimits network → IsSoFar network (length network.hosts) (length (wires_of network)) d → Each (IsValidDraft IsHost) d.entities
unfolding net_draft
whole_valid network d is keeps s =
    let all : d ≡ net_draft (record {}) network s.tables = s.draft ∙ ap (λ (ws : List Wire). draft_of (record {}) network s.tables (length network.hosts) ws) (take-all (wires_of network)) in
    subst (λ (x : Draft Host HostFields). Each (IsValidDraft IsHost) x.entities) (sym all) (valid_hosts network s.tables {B = Host} (record {}) is keeps)
  where
    take-all : (ws : List Wire) → take (length ws) ws ≡ ws
    take-all [] = refl
    take-all (w ∷ ws) = ap (λ (xs : List Wire). w ∷ xs) (take-all ws)

-- the rows of the host of this number
pub row_of : (network : Network) (rows : List HostRows) (h : ℕ) (row : HostRows) → AreHostRows network rows → slice_get rows h ≡ Some row → AreRowsOf network h row
row_of network rows h row are at =
    let here : slice_get (map (host_rows_of network are.tables) (numbers (length network.hosts))) h ≡ Some row = ap (λ (rs : List HostRows). slice_get rs h) (sym are.each) ∙ at in
    let within = slice_get_within (map (host_rows_of network are.tables) (numbers (length network.hosts))) h row here in
    let count = length-map-range_with_len (host_rows_of network are.tables) 0 (length network.hosts) in
    let lt : h < length network.hosts = omega (arith, within, count) in
    let made : get_or (map (host_rows_of network are.tables) (numbers (length network.hosts))) h row ≡ host_rows_of network are.tables h =
    get_or-map-range_with_len (host_rows_of network are.tables) 0 (length network.hosts) h h row lt (omega arith) in
    record { tables = are.tables; routes = are.routes; own = sym (get_or_from_slice_get (map (host_rows_of network are.tables) (numbers (length network.hosts))) h row row here) ∙ made }

pub rows_count : (network : Network) (rows : List HostRows) → AreHostRows network rows → length rows ≡ length network.hosts
rows_count network rows are = ap length are.each ∙ length-map-range_with_len (host_rows_of network are.tables) 0 (length network.hosts)

-- names and entities are as many as hosts
pub entities_as_hosts : (network : Network) (plan : Plan Host HostFields PacketFields) → IsNetBuilt (record {}) network plan → length plan.entities ≡ length network.hosts
unfolding net_draft planned
entities_as_hosts network plan built =
    ap (λ (p : Plan Host HostFields PacketFields). length p.entities) built.plan_is
    ∙ length-first (length (map (host_entity network built.tables (wires_of network)) (numbers (length network.hosts)))) (map (host_entity network built.tables (wires_of network)) (numbers (length network.hosts)))
    ∙ length-map-range_with_len (host_entity network built.tables (wires_of network)) 0 (length network.hosts)
  where
    length-first : (n : ℕ) (ds : List (DraftEntity HostFields)) → length (first_entities {B = Host} {S = HostFields} {P = PacketFields} n ds) ≡ length ds
    length-first n [] = refl
    length-first n (d ∷ ds) = ap (λ k. suc k) (length-first (n + timers d.timed) ds)

pub names_as_hosts : (network : Network) → length (names_of network) ≡ length network.hosts
names_as_hosts network = length-map-range_with_len (host_text network) 0 (length network.hosts)

pub nothing_before : (network : Network) (plan : Plan Host HostFields PacketFields) → IsNetBuilt (record {}) network plan → plan.before ≡ 0
unfolding planned
nothing_before network plan built = ap (λ (p : Plan Host HostFields PacketFields). p.before) built.plan_is

-- items that were taken one by one
pub get_middle : {T : Type 0} (taken rest : List T) (x : T) → slice_get (taken ++ x ∷ rest) (length taken) ≡ Some x
get_middle [] rest x = refl
get_middle (y ∷ taken) rest x = get_middle taken rest x

-- what the iterator of a vector has given is a front of its items
pub taken_front : {X A : Type 0} (s : IntoIter X A) (xs : List X) (t : IntoIter X A) → Yields into_iter_steps s xs t → into_iter_items s ≡ xs ++ into_iter_items t
taken_front s [] t y = ap into_iter_items y
taken_front s (x ∷ xs) t y = y.1.0 ∙ ap (λ ys. x ∷ ys) (taken_front y.0 xs t y.2)

pub taken_count : {X A : Type 0} (s : IntoIter X A) (xs : List X) (t : IntoIter X A) → Yields into_iter_steps s xs t → into_iter_len s ≡ length xs + into_iter_len t
taken_count s [] t y = let same : into_iter_len s ≡ into_iter_len t = ap into_iter_len y in omega (arith, same)
taken_count s (x ∷ xs) t y = let rest = taken_count y.0 xs t y.2 in let step = y.1.1 in omega (arith, rest, step)
