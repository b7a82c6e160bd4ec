-- Transfers and datagrams of client sessions.
use Rattle.std.proofs.Common.{◌≡◌, ◌∙◌, ℕ, ◌+◌, ◌-◌, ◌≤◌, Bool, true, false, ◌&&◌, cond, nat_eq, nat_lt, length, Option, Some, None, refl, sym, ap, subst}
use Rattle.std.specs.Prelude.{slice_get, slice_index, slice_set, is_some, List}
use Rattle.std.proofs.lemmas.Bool.{le-ltb}
use Rattle.sim_base.specs.declared.records.ClientRow.{ClientRow}
use Rattle.sim_base.specs.declared.records.ServerRow.{ServerRow}
use Rattle.ssf_model.specs.Reaction.{LatestTime}
use Rattle.ip_layer.specs.Packets.{PacketFields}
use Rattle.traffic.specs.Progress.{Progress, next_server, after_next}
use Rattle.host_rules.specs.declared.rows.HostRows.{HostRows}
use Rattle.host_rules.specs.Hosts.{Stack}
use Rattle.host_rules.specs.Sending.{source_to}
use Rattle.host_rules.specs.Hearing.{server_address}
use Rattle.host_rules.specs.Reacting.{datagram, datagram_to, left_of, with_left, refilled, refilled_by}
use Rattle.host_rules.specs.Limits.{AreRows, IsStack}
use Rattle.host_rules.proofs.Giving.{left_stack, refilled_stack}
use Rattle.host_sending.proofs.Reaching.{sending_keeps}
use Rattle.host_stack.proofs.Valid.{row_within}

-- Transfers.
pub next_server_is : (rows : HostRows) (s : Stack) (client given : ℕ) (o : Option ServerRow) → IsStack rows s → given ≡ slice_index s.apps.given client → o ≡ slice_get rows.servers given → next_server s.apps client ≡ o
unfolding next_server
next_server_is rows s client given o is e f =
    ap (λ (servers : List ServerRow). slice_get servers (slice_index s.apps.given client)) is.servers
    ∙ ap (λ (g : ℕ). slice_get rows.servers g) (sym e) ∙ sym f

-- Datagrams.
pub datagram_of : (rows : HostRows) (now bytes : ℕ) (server : ServerRow) (s : Stack) (peer source : ℕ) (packet : PacketFields) → peer ≡ server_address rows server → source ≡ source_to rows s now peer
    → packet ≡ record { src = source; dst = peer; tcp = false; ttl = 64; src_port = 0; dst_port = server.port; bytes = 28 + bytes; segment = None } → packet ≡ datagram rows now bytes server s
datagram_of rows now bytes server s peer source packet e f g =
    g ∙ ap (λ (a : ℕ). record { src = a; dst = peer; tcp = false; ttl = 64; src_port = 0; dst_port = server.port; bytes = 28 + bytes; segment = None }) f
    ∙ ap (λ (p : ℕ). record { src = source_to rows s now p; dst = p; tcp = false; ttl = 64; src_port = 0; dst_port = server.port; bytes = 28 + bytes; segment = None }) e

pub sent_keeps : (rows : HostRows) (now client bytes : ℕ) (server : ServerRow) (s : Stack) → AreRows rows → now ≤ LatestTime → IsStack rows s → IsStack rows (datagram_to rows now client bytes (Some server) s).stack
sent_keeps rows now client bytes server s ranges early is =
    sending_keeps rows now (datagram rows now bytes server s) (with_left client (left_of client s - bytes) s) ranges early (left_stack rows s client (left_of client s - bytes) is)

-- a client session that was given all servers is given no other
none_given : (p : Progress) (client : ℕ) → length p.servers ≤ slice_index p.given client → after_next p client ≡ p
unfolding after_next
none_given p client past =
    ap (λ (b : Bool). cond b (record p { given = slice_set p.given client (slice_index p.given client + 1) }) p) (le-ltb (slice_index p.given client) (length p.servers) past)

none_of : (o : Option ServerRow) → is_some o ≡ false → o ≡ None
none_of None e = refl
none_of (Some server) e = absurd (cc)

same_case : (b : Bool) (s : Stack) → cond b s s ≡ s
same_case true s = refl
same_case false s = refl

pub none_refills : (client file : ℕ) (s : Stack) (apps : Progress) (o : Option ServerRow) → o ≡ next_server s.apps client → is_some o ≡ false → apps ≡ after_next s.apps client
    → length s.apps.servers ≤ slice_index s.apps.given client → record s { apps = apps } ≡ refilled client file s
unfolding refilled
none_refills client file s apps o next none after past =
    ap (λ (p : Progress). record s { apps = p }) (after ∙ none_given s.apps client past)
    ∙ sym (ap (λ (q : Option ServerRow). cond (nat_eq (left_of client s) 0 && nat_lt 0 file) (refilled_by client file q s) s) (sym next ∙ none_of o none) ∙ same_case (nat_eq (left_of client s) 0 && nat_lt 0 file) s)

pub refill_keeps : (rows : HostRows) (s s' : Stack) (client file : ℕ) (row : ClientRow) → IsStack rows s → slice_get rows.clients client ≡ Some row → s' ≡ refilled client file s → IsStack rows s'
refill_keeps rows s s' client file row is at e = subst (λ (t : Stack). IsStack rows t) (sym e) (refilled_stack rows s client file is (row_within rows client row at))
