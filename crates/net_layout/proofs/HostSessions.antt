-- The sessions and servers of each host, and its timers.
use Rattle.std.proofs.Common.{◌≡◌, ℕ, zero, suc, ◌+◌, ◌<◌, Bool, true, false, cond, ◌&&◌, ◌==◌, ltb, List, [], ◌∷◌, length, get_or, take, replicate, Option, Some, None, refl, sym, ap, ◌∙◌, inl, inr, add-one, arith, if◌then◌else◌}
use Rattle.std.specs.List.{filter, filter_map, cons_option, sum_by, count_by, All}
use Rattle.std.specs.Option.{option_to_list}
use Rattle.std.proofs.lemmas.List.Elements.{filter-append, filter_map-append, All-head, All-tail, All-weaker}
use Rattle.std.proofs.lemmas.List.Sums.{sum_by-cons, sum_by-append, sum_by_push, length-filter}
use Rattle.std.proofs.lemmas.List.Folds.{sum_by-replicate}
use Rattle.std.proofs.lemmas.Bool.{cases_order, eq-eqb, ne_eqb, lt-ltb, le-ltb}
use Rattle.sim_base.specs.declared.records.ServerRow.{ServerRow}
use Rattle.sim_base.specs.declared.records.ClientRow.{ClientRow}
use Rattle.ssf_model.specs.Drafts.{timers}
use Rattle.net_graph.specs.declared.rows.Network.{Network}
use Rattle.net_graph.specs.declared.rows.SessionRow.{SessionRow}
use Rattle.net_graph.specs.declared.rows.SessionKind.{SessionKind}
use Rattle.net_graph.specs.declared.rows.SessionKind.TheVariants.{Silent, Ospf, Tcp, Client, Server}
use Rattle.net_graph.specs.Networks.{IsNetwork, IsSession, numbers}
use Rattle.net_layout.specs.Gathered.{appended_at, AreGathered}
use Rattle.net_layout.specs.Wiring.{is_client, first_channel}
use Rattle.net_layout.specs.Sessions.{client_in, client_of, clients_of, servers_of, client_count, server_count, timer_count, first_timer, timed_of}
use Rattle.net_layout.specs.Ports.{port_count}
use Rattle.net_layout.proofs.Numbered.{range_next}
use Rattle.net_layout.proofs.Gathering.{gathered_more}

one_of : {T : Type 0} (o : Option T) → cons_option o [] ≡ option_to_list o
one_of None = refl
one_of (Some x) = refl

-- what the sessions of a host have
abbrev pub of_host : {T : Type 0} → (SessionKind → Option T) → ℕ → List SessionRow → List T
of_host f h sessions = filter_map (λ (s : SessionRow). if s.host == h then f s.kind else None) sessions

pub sessions_more : {T : Type 0} (f : SessionKind → Option T) (n : ℕ) (xs : List SessionRow) (lists : List (List T)) (i : ℕ) (d : SessionRow) → i < length xs → (get_or xs i d).host < n → AreGathered (of_host f) n (take i xs) lists → AreGathered (of_host f) n (take (i + 1) xs) (appended_at lists (get_or xs i d).host (f (get_or xs i d).kind))
sessions_more f n xs lists i d lt there is =
    let s : SessionRow = get_or xs i d in
    gathered_more (of_host f) n (λ h ys zs. filter_map-append (λ (s : SessionRow). if s.host == h then f s.kind else None) ys zs) xs lists i d lt is s.host (f s.kind) there
    (ap (λ (b : Bool). cons_option (if b then f s.kind else None) []) (eq-eqb s.host s.host refl) ∙ one_of (f s.kind))
    (λ h ne. ap (λ (b : Bool). cons_option (if b then f s.kind else None) []) (ne_eqb s.host h (λ e. ne (sym e))))

abbrev pub servers_in : ℕ → List ServerRow → List ServerRow
servers_in h servers = filter (λ (s : ServerRow). s.client == h) servers

pub servers_more : (n : ℕ) (xs : List ServerRow) (lists : List (List ServerRow)) (i : ℕ) (d : ServerRow) → i < length xs → (get_or xs i d).client < n → AreGathered servers_in n (take i xs) lists → AreGathered servers_in n (take (i + 1) xs) (appended_at lists (get_or xs i d).client (Some (get_or xs i d)))
servers_more n xs lists i d lt there is =
    let s : ServerRow = get_or xs i d in
    gathered_more servers_in n (λ h ys zs. filter-append (λ (s : ServerRow). s.client == h) ys zs) xs lists i d lt is s.client (Some s) there
    (ap (λ (b : Bool). cond b (s ∷ []) []) (eq-eqb s.client s.client refl))
    (λ h ne. ap (λ (b : Bool). cond b (s ∷ []) []) (ne_eqb s.client h (λ e. ne (sym e))))

-- how many there are

one_client : (kind : SessionKind) (same : Bool) (rest : List ClientRow) → length (cons_option (cond same (client_in kind) None) rest) ≡ cond (is_client (record { host = 0; kind = kind }) && same) 1 0 + length rest
one_client Silent true rest = omega arith
one_client Silent false rest = omega arith
one_client Ospf true rest = omega arith
one_client Ospf false rest = omega arith
one_client Tcp true rest = omega arith
one_client Tcp false rest = omega arith
one_client (Client row) true rest = omega arith
one_client (Client row) false rest = omega arith
one_client (Server port) true rest = omega arith
one_client (Server port) false rest = omega arith

length_clients : (h : ℕ) (xs : List SessionRow) → length (filter_map (client_of h) xs) ≡ count_by (λ (s : SessionRow). is_client s && s.host == h) xs
length_clients h [] = refl
length_clients h (s ∷ ss) =
    one_client s.kind (s.host == h) (filter_map (client_of h) ss)
    ∙ ap (λ n. cond (is_client s && s.host == h) 1 0 + n) (length_clients h ss)
    ∙ sym (sum_by-cons (λ (s : SessionRow). cond (is_client s && s.host == h) 1 0) s ss)

pub length-clients_of : (network : Network) (h : ℕ) → length (clients_of network h) ≡ client_count network h
unfolding clients_of
length-clients_of network h = length_clients h network.sessions

pub length-servers_of : (network : Network) (h : ℕ) → length (servers_of network h) ≡ server_count network h
unfolding servers_of
length-servers_of network h = length-filter (λ (s : ServerRow). s.client == h) network.servers

-- timers

one_more : (p : Bool) (host n : ℕ) → cond (p && ltb host (n + 1)) 1 0 ≡ cond (p && ltb host n) 1 0 + cond (p && host == n) 1 0
one_more false host n = refl
one_more true host n = elim (cases_order host n) [
  | inl same ↦ rw (lt-ltb host (n + 1) (omega arith), le-ltb host n (omega arith), eq-eqb host n same) refl
  | inr (inl less) ↦ rw (lt-ltb host (n + 1) (omega arith), lt-ltb host n less, ne_eqb host n (λ e. omega arith)) refl
  | inr (inr more) ↦ rw (le-ltb host (n + 1) (omega arith), le-ltb host n (omega arith), ne_eqb host n (λ e. omega arith)) refl
]

abbrev clients_below : ℕ → List SessionRow → ℕ
clients_below n xs = count_by (λ (s : SessionRow). is_client s && ltb s.host n) xs

clients_more : (n : ℕ) (xs : List SessionRow) → clients_below (n + 1) xs ≡ clients_below n xs + count_by (λ (s : SessionRow). is_client s && s.host == n) xs
clients_more n [] = refl
clients_more n (s ∷ ss) =
    let all = sum_by-cons (λ (s : SessionRow). cond (is_client s && ltb s.host (n + 1)) 1 0) s ss in
    let low = sum_by-cons (λ (s : SessionRow). cond (is_client s && ltb s.host n) 1 0) s ss in
    let own = sum_by-cons (λ (s : SessionRow). cond (is_client s && s.host == n) 1 0) s ss in
    let here = one_more (is_client s) s.host n in
    let rest = clients_more n ss in
    omega arith

none_below : (p : Bool) (host : ℕ) → ◌≡◌ {A = ℕ} (cond (p && ltb host 0) 1 0) 0
none_below false host = refl
none_below true host = rw (le-ltb host 0 (omega arith)) refl

clients_none : (xs : List SessionRow) → clients_below 0 xs ≡ 0
clients_none [] = refl
clients_none (s ∷ ss) =
    let all = sum_by-cons (λ (s : SessionRow). cond (is_client s && ltb s.host 0) 1 0) s ss in
    let here = none_below (is_client s) s.host in
    let rest = clients_none ss in
    omega arith

passes : (p q : Bool) → q ≡ true → ◌≡◌ {A = ℕ} (cond (p && q) 1 0) (cond p 1 0)
passes true true e = refl
passes true false e = cc
passes false q e = refl

clients_all : (n : ℕ) (xs : List SessionRow) → All (λ (s : SessionRow). s.host < n) xs → clients_below n xs ≡ count_by is_client xs
clients_all n [] h = refl
clients_all n (s ∷ ss) h =
    let all = sum_by-cons (λ (s : SessionRow). cond (is_client s && ltb s.host n) 1 0) s ss in
    let plain = sum_by-cons (λ (s : SessionRow). cond (is_client s) 1 0) s ss in
    let here = passes (is_client s) (ltb s.host n) (lt-ltb s.host n (All-head (λ (s : SessionRow). s.host < n) s ss h)) in
    let rest = clients_all n ss (All-tail (λ (s : SessionRow). s.host < n) s ss h) in
    omega arith

-- the timer channels of the hosts below a number stand behind the start channels
timers_before : (network : Network) (n : ℕ) → sum_by (timer_count network) (numbers n) ≡ n + clients_below n network.sessions
timers_before network zero = let none = clients_none network.sessions in let sum : sum_by (timer_count network) (numbers 0) ≡ 0 = refl in omega arith
timers_before network (suc n) =
    let joined : sum_by (timer_count network) (numbers (suc n)) ≡ sum_by (timer_count network) (numbers n) + timer_count network n =
    ap (λ m. sum_by (timer_count network) (numbers m)) (sym (add-one n)) ∙ ap (sum_by (timer_count network)) (range_next n) ∙ sum_by_push (timer_count network) (numbers n) n in
    let before = timers_before network n in
    let more = clients_more n network.sessions in
    let same : clients_below (n + 1) network.sessions ≡ clients_below (suc n) network.sessions = ap (λ m. clients_below m network.sessions) (add-one n) in
    omega arith

pub first_timer-last : (network : Network) → IsNetwork network → first_timer network (length network.hosts) ≡ first_channel network
unfolding first_timer first_channel
first_timer-last network is =
    let before = timers_before network (length network.hosts) in
    let all = clients_all (length network.hosts) network.sessions (All-weaker (IsSession network) (λ (s : SessionRow). s.host < length network.hosts) (λ s session. session.host) network.sessions is.sessions) in
    omega arith

pub first_timer-first : (network : Network) → first_timer network 0 ≡ length network.hosts
unfolding first_timer
first_timer-first network = let none : sum_by (timer_count network) (numbers 0) ≡ 0 = refl in omega arith

pub first_timer-next : (network : Network) (h : ℕ) → first_timer network (h + 1) ≡ first_timer network h + timer_count network h
unfolding first_timer
first_timer-next network h =
    let joined : sum_by (timer_count network) (numbers (h + 1)) ≡ sum_by (timer_count network) (numbers h) + timer_count network h =
    ap (sum_by (timer_count network)) (range_next h) ∙ sum_by_push (timer_count network) (numbers h) h in
    omega arith

-- how many of a host's processes are timed
pub timers-timed_of : (network : Network) (h : ℕ) → timers (timed_of network h) ≡ timer_count network h
timers-timed_of network h =
    let none = sum_by-replicate (λ (t : Bool). cond t 1 0) (port_count network h) false in
    let all = sum_by-replicate (λ (t : Bool). cond t 1 0) (client_count network h) true in
    let clock = sum_by-cons (λ (t : Bool). cond t 1 0) true (replicate (client_count network h) true) in
    sum_by-append (λ (t : Bool). cond t 1 0) (replicate (port_count network h) false) (true ∷ replicate (client_count network h) true) ∙ omega arith
