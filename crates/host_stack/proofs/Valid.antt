-- What a host keeps stays in range.
use Rattle.std.proofs.Common.{◌≡◌, ℕ, ◌<◌, false, List, length, nat_eq, Option, Some, None, refl, sym, subst, arith}
use Rattle.std.specs.Prelude.{slice_get}
use Rattle.std.specs.List.{count_by}
use Rattle.std.specs.Option.{ForSome}
use Rattle.std.proofs.lemmas.Option.{slice_get_within}
use Rattle.event_order.specs.Pending.{Among}
use Rattle.sim_base.specs.declared.records.ClientRow.{ClientRow}
use Rattle.sim_base.specs.declared.records.ServerRow.{ServerRow}
use Rattle.sim_base.specs.SegmentFields.{SegmentFields, IsSegment}
use Rattle.tcp_rules.specs.Clients.{opened}
use Rattle.tcp_rules.specs.Servers.{listened}
use Rattle.tcp_rules.specs.Sessions.{End, Client, Server, connecting, accepting, at_segment, at_timeout, state_of}
use Rattle.tcp_rules.proofs.Sessions.{connecting_orderly, accepting_orderly, segment_orderly, timeout_orderly}
use Rattle.traffic.specs.Progress.{next_server}
use Rattle.host_rules.specs.declared.rows.HostRows.{HostRows}
use Rattle.host_rules.specs.declared.sockets.Sockets.{Sockets}
use Rattle.host_rules.specs.Hosts.{EntryFields, Stack}
use Rattle.host_rules.specs.Entries.{found, numbered, is_accepted, is_closed, without, is_other, settled}
use Rattle.host_rules.specs.Hearing.{MostAccepted, with_entry, with_transfer, transfer_sockets, server_address}
use Rattle.host_rules.specs.Sources.{IsOwnAddress}
use Rattle.host_rules.specs.Limits.{AreRows, IsTimedClient, IsEarlier, IsEntry, IsKindOf, IsStack}
use Rattle.host_rules.proofs.Listing.{each_at, each_filter, pairs_filter, count_filter, lost_filter, found_among, each_among}
use Rattle.host_rules.proofs.Tables.{settled_stack, accepted_stack}
use Rattle.host_rules.proofs.Giving.{transfer_stack}
use Rattle.host_sessions.specs.declared.sessions.Turned.{Turned}
use Rattle.host_sessions.specs.Tabled.{turned_of}
use Rattle.host_sessions.proofs.Entering.{numbered_has}
use Rattle.host_rules.proofs.Lawful.{source_own}

-- Sessions.
without_keeps : (rows : HostRows) (s : Stack) (n : ℕ) → IsStack rows s → IsStack rows (record s { sessions = without n s.sessions })
without_keeps rows s n is =
    let accepted = is.accepted in
    let few = is.few in
    record {
      interfaces = is.interfaces;
      servers = is.servers;
      progress = is.progress;
      given = is.given;
      left = is.left;
      opened = is.opened;
      entries = each_filter (IsEntry rows s.opened s.made) (is_other n) s.sessions is.entries;
      order = pairs_filter IsEarlier (is_other n) s.sessions is.order;
      accepted = omega (arith, accepted, count_filter is_accepted (is_other n) s.sessions);
      few = omega (arith, few, lost_filter is_accepted (is_other n) s.sessions);
    }

segment_kind : (client : Option ℕ) (e : End) (g : SegmentFields) (now : ℕ) → IsKindOf client e → IsKindOf client (at_segment e g now).after
segment_kind None (Client c) g now kind = kind
segment_kind None (Server s) g now kind = kind
segment_kind (Some k) (Client c) g now kind = kind
segment_kind (Some k) (Server s) g now kind = kind

timeout_kind : (client : Option ℕ) (e : End) (now : ℕ) → IsKindOf client e → IsKindOf client (at_timeout e now).after
timeout_kind None (Client c) now kind = kind
timeout_kind None (Server s) now kind = kind
timeout_kind (Some k) (Client c) now kind = kind
timeout_kind (Some k) (Server s) now kind = kind

among_of : (n : ℕ) (xs : List EntryFields) (x : EntryFields) → numbered n xs ≡ Some x → Among x xs
unfolding numbered
among_of n xs x at = found_among (λ (y : EntryFields). nat_eq y.number n) xs x at

pub entry_of_number : (rows : HostRows) (s : Stack) (n : ℕ) (x : EntryFields) → IsStack rows s → numbered n s.sessions ≡ Some x → IsEntry rows s.opened s.made x
entry_of_number rows s n x is at = each_among (IsEntry rows s.opened s.made) s.sessions x is.entries (among_of n s.sessions x at)

has_number : (n : ℕ) (xs : List EntryFields) (x : EntryFields) → numbered n xs ≡ Some x → x.number ≡ n
has_number n xs x at = numbered_has n x xs at

segment_keeps : (rows : HostRows) (s : Stack) (n : ℕ) (x : EntryFields) (g : SegmentFields) (now : ℕ) → IsStack rows s → numbered n s.sessions ≡ Some x → IsSegment g
    → IsStack rows (record s { sessions = settled n (at_segment x.session g now).after s.sessions })
segment_keeps rows s n x g now is at ranged =
    let entry = entry_of_number rows s n x is at in
    let orderly = segment_orderly x.session g now entry.ranges ranged in
    let after = (at_segment x.session g now).after in
    subst (λ (k : ℕ). IsStack rows (record s { sessions = settled k after s.sessions })) (has_number n s.sessions x at)
    (settled_stack rows s x after is (among_of n s.sessions x at) orderly.session (segment_kind x.client x.session g now entry.kind))

timeout_keeps : (rows : HostRows) (s : Stack) (n : ℕ) (x : EntryFields) (now : ℕ) → IsStack rows s → numbered n s.sessions ≡ Some x
    → IsStack rows (record s { sessions = settled n (at_timeout x.session now).after s.sessions })
timeout_keeps rows s n x now is at =
    let entry = entry_of_number rows s n x is at in
    let orderly = timeout_orderly x.session now entry.ranges in
    let after = (at_timeout x.session now).after in
    subst (λ (k : ℕ). IsStack rows (record s { sessions = settled k after s.sessions })) (has_number n s.sessions x at)
    (settled_stack rows s x after is (among_of n s.sessions x at) orderly.session (timeout_kind x.client x.session now entry.kind))

pub lost_valid : (rows : HostRows) (s : Stack) (n : ℕ) (xs : List EntryFields) → IsStack rows s → xs ≡ without n s.sessions → IsStack rows (record s { sessions = xs })
lost_valid rows s n xs is e = subst (λ (ys : List EntryFields). IsStack rows (record s { sessions = ys })) (sym e) (without_keeps rows s n is)

pub segment_valid : (rows : HostRows) (s : Stack) (n : ℕ) (x : EntryFields) (g : SegmentFields) (now : ℕ) (xs : List EntryFields) → IsStack rows s → numbered n s.sessions ≡ Some x → IsSegment g
    → xs ≡ settled n (at_segment x.session g now).after s.sessions → IsStack rows (record s { sessions = xs })
segment_valid rows s n x g now xs is at ranged e = subst (λ (ys : List EntryFields). IsStack rows (record s { sessions = ys })) (sym e) (segment_keeps rows s n x g now is at ranged)

pub timeout_valid : (rows : HostRows) (s : Stack) (n : ℕ) (x : EntryFields) (now : ℕ) (xs : List EntryFields) → IsStack rows s → numbered n s.sessions ≡ Some x
    → xs ≡ settled n (at_timeout x.session now).after s.sessions → IsStack rows (record s { sessions = xs })
timeout_valid rows s n x now xs is at e = subst (λ (ys : List EntryFields). IsStack rows (record s { sessions = ys })) (sym e) (timeout_keeps rows s n x now is at)

-- the client session of a session that had its turn is one of the host's
pub turned_client : (rows : HostRows) (s : Stack) (n : ℕ) (x : EntryFields) (after : End) (told : Turned) → IsStack rows s → numbered n s.sessions ≡ Some x → told ≡ turned_of x after
    → ForSome told.client (λ client. client < length rows.clients)
turned_client rows s n x after told is at e = subst (λ (t : Turned). ForSome t.client (λ client. client < length rows.clients)) (sym e) (entry_of_number rows s n x is at).client

-- New sessions.
accepting_open : (rows : HostRows) (syn : SegmentFields) (now : ℕ) → is_closed (state_of (accepting rows.tcp syn now).after) ≡ false
unfolding accepting listened
accepting_open rows syn now = refl

accepting_kind : (rows : HostRows) (syn : SegmentFields) (now : ℕ) → IsKindOf None (accepting rows.tcp syn now).after
unfolding accepting
accepting_kind rows syn now = tt

accepted_keeps : (rows : HostRows) (s : Stack) (sockets : Sockets) (syn : SegmentFields) (now : ℕ) → AreRows rows → IsStack rows s → IsSegment syn → IsOwnAddress rows sockets.own
    → found sockets s.sessions ≡ None → count_by is_accepted s.sessions < MostAccepted → IsStack rows (with_entry sockets None (accepting rows.tcp syn now).after s)
accepted_keeps rows s sockets syn now ranges is ranged own none room =
    let orderly = accepting_orderly rows.tcp syn now ranges.tcp ranged in
    accepted_stack rows s sockets (accepting rows.tcp syn now).after is orderly.session (accepting_open rows syn now) (accepting_kind rows syn now) own none room

pub accepts_valid : (rows : HostRows) (s : Stack) (sockets : Sockets) (syn : SegmentFields) (now : ℕ) (session : End) → AreRows rows → IsStack rows s → IsSegment syn → IsOwnAddress rows sockets.own
    → found sockets s.sessions ≡ None → count_by is_accepted s.sessions < MostAccepted → session ≡ (accepting rows.tcp syn now).after → IsStack rows (with_entry sockets None session s)
accepts_valid rows s sockets syn now session ranges is ranged own none room e =
    subst (λ (x : End). IsStack rows (with_entry sockets None x s)) (sym e) (accepted_keeps rows s sockets syn now ranges is ranged own none room)

connecting_open : (rows : HostRows) (bytes now : ℕ) → is_closed (state_of (connecting rows.tcp bytes now).after) ≡ false
unfolding connecting opened
connecting_open rows bytes now = refl

connecting_kind : (client : ℕ) (rows : HostRows) (bytes now : ℕ) → IsKindOf (Some client) (connecting rows.tcp bytes now).after
unfolding connecting
connecting_kind client rows bytes now = tt

pub row_ranges : (rows : HostRows) (client : ℕ) (row : ClientRow) → AreRows rows → slice_get rows.clients client ≡ Some row → IsTimedClient row
row_ranges rows client row ranges at = each_at IsTimedClient rows.clients client row ranges.clients at

pub row_within : (rows : HostRows) (client : ℕ) (row : ClientRow) → slice_get rows.clients client ≡ Some row → client < length rows.clients
row_within rows client row at = slice_get_within rows.clients client row at

transfer_keeps : (rows : HostRows) (s : Stack) (client : ℕ) (row : ClientRow) (server : ServerRow) (now : ℕ) → AreRows rows → IsStack rows s → slice_get rows.clients client ≡ Some row
    → next_server s.apps client ≡ Some server → IsStack rows (with_transfer (transfer_sockets rows now server s) client (connecting rows.tcp row.file now).after s)
unfolding transfer_sockets
transfer_keeps rows s client row server now ranges is at next =
    let timed = row_ranges rows client row ranges at in
    let orderly = connecting_orderly rows.tcp row.file now ranges.tcp timed.ranges.file in
    let sockets = transfer_sockets rows now server s in
    transfer_stack rows s sockets client server (connecting rows.tcp row.file now).after is (row_within rows client row at) next orderly.session (connecting_open rows row.file now)
    (connecting_kind client rows row.file now) (source_own rows s now (server_address rows server)) refl

pub opens_valid : (rows : HostRows) (s : Stack) (client : ℕ) (row : ClientRow) (server : ServerRow) (now : ℕ) (sockets : Sockets) (session : End) → AreRows rows → IsStack rows s → slice_get rows.clients client ≡ Some row
    → next_server s.apps client ≡ Some server → sockets ≡ transfer_sockets rows now server s → session ≡ (connecting rows.tcp row.file now).after → IsStack rows (with_transfer sockets client session s)
opens_valid rows s client row server now sockets session ranges is at next e f =
    subst (λ (q : Sockets). IsStack rows (with_transfer q client session s)) (sym e)
    (subst (λ (x : End). IsStack rows (with_transfer (transfer_sockets rows now server s) client x s)) (sym f) (transfer_keeps rows s client row server now ranges is at next))

-- the servers that a client session was given are within the host's list
pub given_length : (rows : HostRows) (s : Stack) (client : ℕ) (row : ClientRow) → IsStack rows s → slice_get rows.clients client ≡ Some row → client < length s.apps.given
given_length rows s client row is at = let within = row_within rows client row at in let given = is.given in omega (arith, within, given)

pub left_length : (rows : HostRows) (s : Stack) (client : ℕ) (row : ClientRow) → IsStack rows s → slice_get rows.clients client ≡ Some row → client < length s.left
left_length rows s client row is at = let within = row_within rows client row at in let left = is.left in omega (arith, within, left)
