-- What a host keeps stays in range when a client session is given its next server.
use Rattle.std.proofs.Common.{◌≡◌, ℕ, ◌+◌, ◌*◌, ◌<◌, ◌≤◌, Bool, true, false, ◌&&◌, ◌||◌, cond, Option, Some, None, List, [], ◌∷◌, ◌++◌, length, nat_eq, nat_lt, refl, ap, subst, sym, arith, if◌then◌else◌}
use Rattle.std.specs.Prelude.{slice_set, slice_index}
use Rattle.std.specs.List.{count_by, sum}
use Rattle.std.proofs.lemmas.Bool.{eqb-true, lt-ltb}
use Rattle.std.proofs.lemmas.List.{length-append, length-set}
use Rattle.std.proofs.lemmas.List.Sums.{sum_by-append, sum_by-set, sum_by-le}
use Rattle.std.proofs.lemmas.Option.{slice_get_within}
use Rattle.sim_base.specs.declared.records.ServerRow.{ServerRow}
use Rattle.ip_layer.specs.Forwarding.{has_address}
use Rattle.tcp_rules.specs.Sessions.{End, state_of}
use Rattle.tcp_rules.specs.Limits.{IsEnd}
use Rattle.traffic.specs.Progress.{Progress, IsProgress, next_server, after_next}
use Rattle.traffic.proofs.Giving.{giving_keeps}
use Rattle.host_rules.specs.declared.rows.HostRows.{HostRows}
use Rattle.host_rules.specs.Hosts.{Sockets, EntryFields, Stack}
use Rattle.host_rules.specs.Sending.{own_addresses}
use Rattle.host_rules.specs.Entries.{same_sockets, is_accepted, is_closed}
use Rattle.host_rules.specs.Hearing.{entry_of, with_transfer}
use Rattle.host_rules.specs.Reacting.{left_of, with_left, refilled_by, refilled}
use Rattle.host_rules.specs.Limits.{AreRows, IsKindOf, IsEntry, IsEarlier, IsStack}
use Rattle.host_rules.proofs.Listing.{if_case, each_append, each_more, pairs_append}
use Rattle.host_rules.proofs.Tables.{entry_later}

-- Of a session that is given a server.
record IsGiven (p : Progress) (after : Progress) : Type 0 where
  servers : after.servers ≡ p.servers
  progress : IsProgress after
  given : length after.given ≡ length p.given
  more : sum after.given ≡ sum p.given + 1

given_is : (p : Progress) (client : ℕ) (server : ServerRow) → IsProgress p → client < length p.given → next_server p client ≡ Some server → IsGiven p (after_next p client)
unfolding next_server after_next
given_is p client server is below next =
    let g = slice_index p.given client in
    let room : nat_lt g (length p.servers) ≡ true = lt-ltb g (length p.servers) (slice_get_within p.servers g server next) in
    let as_given : Progress = record p { given = slice_set p.given client (g + 1) } in
    let same : (if nat_lt g (length p.servers) then as_given else p) ≡ as_given = ap (λ (b : Bool). if b then as_given else p) room in
    let kept = giving_keeps p client is in
    record {
      servers = ap (λ (q : Progress). q.servers) same;
      progress = kept;
      given = subst (λ (q : Progress). length q.given ≡ length p.given) (sym same) (length-set p.given client (g + 1));
      more = subst (λ (q : Progress). sum q.given ≡ sum p.given + 1) (sym same)
          (let e = sum_by-set (λ (x : ℕ). x) p.given client (g + 1) 0 below in omega (arith, e));
    }

-- A transfer is opened.
earlier_transfer : (rows : HostRows) (s : Stack) (sockets : Sockets) (new x : EntryFields) (client : Option ℕ) → x.client ≡ client → IsEntry rows s.opened s.made x
    → new.number ≡ s.made → new.sockets ≡ sockets → is_accepted new ≡ false → sockets.own_port ≡ 10000 + s.opened → IsEarlier x new
earlier_transfer rows s sockets new x None e is number at opened port =
    let below = is.number in
    record { number = omega (arith, below, number); ends = λ same. (cc, opened) }
earlier_transfer rows s sockets new x (Some client) e is number at opened port =
    let below = is.number in
    let own = is.own_port client e in
    record { number = omega (arith, below, number); ends = λ same. absurd (ports_differ x.sockets new.sockets same (λ f. let g = ap (λ (z : Sockets). z.own_port) at in omega (arith, own, port, f, g))) }
  where
    ports_differ : (a b : Sockets) → same_sockets a b ≡ true → (a.own_port ≡ b.own_port → ⊥) → ⊥
    ports_differ a b same differs = ports_at (nat_eq a.own b.own) (nat_eq a.own_port b.own_port) (nat_eq a.peer b.peer && nat_eq a.peer_port b.peer_port) same (λ e. differs (eqb-true a.own_port b.own_port e))
      where
        ports_at : (p q r : Bool) → (p && (q && r)) ≡ true → (q ≡ true → ⊥) → ⊥
        ports_at true true r e f = f refl
        ports_at true false r e f = absurd (cc)
        ports_at false q r e f = absurd (cc)

pub transfer_stack : (rows : HostRows) (s : Stack) (sockets : Sockets) (client : ℕ) (server : ServerRow) (session : End) → IsStack rows s → client < length rows.clients
    → next_server s.apps client ≡ Some server → IsEnd session → is_closed (state_of session) ≡ false → IsKindOf (Some client) session
    → (nat_eq sockets.own 0 || has_address (own_addresses rows) sockets.own) ≡ true → sockets.own_port ≡ 10000 + s.opened
    → IsStack rows (with_transfer sockets client session s)
transfer_stack rows s sockets client server session is below next end running kind own port =
    let new = entry_of sockets (Some client) session s in
    let long = is.given in
    let apps = given_is s.apps client server is.progress (omega (arith, below, long)) next in
    let accepted = is.accepted in
    let few = is.few in
    let opened = is.opened in
    let more = apps.more in
    let given = apps.given in
    let servers = apps.servers in
    let servers_are = is.servers in
    let count : count_by is_accepted (s.sessions ++ new ∷ []) ≡ count_by is_accepted s.sessions + 0 = sum_by-append (λ (x : EntryFields). cond (is_accepted x) 1 0) s.sessions (new ∷ []) in
    record {
      interfaces = is.interfaces;
      servers = cc;
      progress = apps.progress;
      given = cc;
      left = is.left;
      opened = omega (arith, opened, more);
      entries = each_append (IsEntry rows (s.opened + 1) (s.made + 1)) s.sessions (new ∷ [])
          (each_more (IsEntry rows s.opened s.made) (IsEntry rows (s.opened + 1) (s.made + 1)) s.sessions (entry_later rows s.opened (s.opened + 1) s.made (s.made + 1) (omega arith) (omega arith)) is.entries) (
            record {
              number = omega arith;
              ranges = end;
              running = running;
              kind = kind;
              own = own;
              client = λ c e. let same : client ≡ c = cc in omega (arith, same, below);
              own_port = λ c e. omega (arith, port);
            },
            tt,
          );
      order = pairs_append IsEarlier s.sessions new is.order
          (each_more (IsEntry rows s.opened s.made) (λ (x : EntryFields). IsEarlier x new) s.sessions
          (λ x h. earlier_transfer rows s sockets new x x.client refl h refl refl refl port) is.entries);
      accepted = omega (arith, count, accepted);
      few = omega (arith, count, few, length-append s.sessions (new ∷ []));
    }

-- A client session over UDP goes to its next server.
with_left_stack : (rows : HostRows) (s : Stack) (client bytes : ℕ) → IsStack rows s → IsStack rows (with_left client bytes s)
with_left_stack rows s client bytes is =
    let left = is.left in
    record {
      interfaces = is.interfaces;
      servers = is.servers;
      progress = is.progress;
      given = is.given;
      left = omega (arith, left, length-set s.left client bytes);
      opened = is.opened;
      entries = is.entries;
      order = is.order;
      accepted = is.accepted;
      few = is.few;
    }

pub left_stack : (rows : HostRows) (s : Stack) (client bytes : ℕ) → IsStack rows s → IsStack rows (with_left client bytes s)
left_stack rows s client bytes is = with_left_stack rows s client bytes is

refilled_by_stack : (rows : HostRows) (s : Stack) (client file : ℕ) (next : Option ServerRow) → next_server s.apps client ≡ next → IsStack rows s → client < length rows.clients
    → IsStack rows (refilled_by client file next s)
refilled_by_stack rows s client file None e is below = is
refilled_by_stack rows s client file (Some server) e is below =
    let long = is.given in
    let apps = given_is s.apps client server is.progress (omega (arith, below, long)) e in
    let opened = is.opened in
    let more = apps.more in
    let given = apps.given in
    let servers = apps.servers in
    let servers_are = is.servers in
    let left = is.left in
    record {
      interfaces = is.interfaces;
      servers = cc;
      progress = apps.progress;
      given = cc;
      left = omega (arith, left, length-set s.left client file);
      opened = omega (arith, opened, more);
      entries = is.entries;
      order = is.order;
      accepted = is.accepted;
      few = is.few;
    }

pub refilled_stack : (rows : HostRows) (s : Stack) (client file : ℕ) → IsStack rows s → client < length rows.clients → IsStack rows (refilled client file s)
unfolding refilled
refilled_stack rows s client file is below =
    if_case (λ (t : Stack). IsStack rows t) (nat_eq (left_of client s) 0 && nat_lt 0 file)
    (λ e. refilled_by_stack rows s client file (next_server s.apps client) refl is below) (λ e. is)

-- the sessions are few
sum_most : (p : Progress) → IsProgress p → sum p.given ≤ length p.given * length p.servers
sum_most p is = sum_by-le (λ (x : ℕ). x) (length p.servers) p.given is.given

few_sessions : (clients servers given giving total opened accepted all : ℕ) → clients * servers ≤ 50000 → given ≡ clients → giving ≡ servers → total ≤ given * giving → opened ≤ total → accepted ≤ 1000000 → all ≤ accepted + opened → all ≤ 1050000
few_sessions clients servers given giving total opened accepted all most e f within below some few =
    let product : given * giving ≡ clients * servers = cc in omega (arith, most, product, within, below, some, few)

pub sessions_few : (rows : HostRows) (s : Stack) → AreRows rows → IsStack rows s → length s.sessions ≤ 1050000
sessions_few rows s ranges is =
    few_sessions (length rows.clients) (length rows.servers) (length s.apps.given) (length s.apps.servers) (sum s.apps.given) s.opened (count_by is_accepted s.sessions) (length s.sessions)
    ranges.transfers is.given (ap (λ (xs : List ServerRow). length xs) is.servers) (sum_most s.apps is.progress) is.opened is.accepted is.few
