-- Packets that come, and deadlines: what is done by cases is what the rules say. Each lemma is of any fact P of an effect.
use Rattle.std.proofs.Common.{◌≡◌, ℕ, Bool, true, false, cond, List, [], Option, Some, None, refl, sym, ap, subst}
use Rattle.std.specs.Prelude.{IsSome}
use Rattle.std.specs.Option.{option_map}
use Rattle.sim_base.specs.SegmentFields.{SegmentFields}
use Rattle.sim_base.specs.declared.records.Reason.TheVariants.{Port}
use Rattle.spf_routes.specs.declared.graph.Route.{Route}
use Rattle.ip_layer.specs.Packets.{PacketFields}
use Rattle.ip_layer.specs.Forwarding.{passed_on, received}
use Rattle.ip_layer.specs.declared.verdict.Verdict.{Verdict}
use Rattle.ip_layer.specs.declared.verdict.Verdict.TheVariants.{Local, Forward, Dropped}
use Rattle.tcp_rules.specs.declared.records.Act.{Act}
use Rattle.tcp_rules.specs.Segments.{Turn}
use Rattle.tcp_rules.specs.Sessions.{End, at_segment, at_timeout}
use Rattle.host_rules.specs.declared.rows.HostRows.{HostRows}
use Rattle.host_rules.specs.declared.sockets.Sockets.{Sockets}
use Rattle.host_rules.specs.Hosts.{EntryFields, Stack}
use Rattle.host_rules.specs.Effects.{Effect, quiet, dropped}
use Rattle.host_rules.specs.Sending.{routes_among, routes_at, own_addresses, by_verdict}
use Rattle.host_rules.specs.Entries.{found, numbered, settled}
use Rattle.host_rules.specs.Hearing.{turned, next_after, sockets_of, may_accept, opened_by, tcp_arrived_at, tcp_arrived, at_verdict, arrived, timed_out, timed_out_at}
use Rattle.host_rules.specs.Limits.{EachPair, IsEarlier}
use Rattle.host_sessions.specs.declared.sessions.Turned.{Turned}
use Rattle.host_sessions.specs.Tabled.{turned_of, is_due_at}
use Rattle.host_stack.specs.Keeping.{after_turn}
use Rattle.host_sessions.proofs.Entering.{numbered_has, found_numbered}

-- Turns.
-- there is a session of this number
pub with_numbered : (P : Type 0) (o : Option EntryFields) → IsSome o → ((x : EntryFields) → o ≡ Some x → P) → P
with_numbered P None is h = absurd (cc)
with_numbered P (Some x) is h = h x refl

turned_as : (rows : HostRows) (now n : ℕ) (x : EntryFields) (turn : Turn End) (s : Stack) → x.number ≡ n
    → after_turn rows now (turned_of x turn.after) turn.acts (record s { sessions = settled n turn.after s.sessions }) ≡ turned rows now x turn s
unfolding turned next_after
turned_as rows now n x turn s e = ap (λ (k : ℕ). after_turn rows now (turned_of x turn.after) turn.acts (record s { sessions = settled k turn.after s.sessions })) (sym e)

-- a session's turn is what follows it once the session is back
pub turn_done : (P : Effect → Type 0) (rows : HostRows) (now n : ℕ) (x : EntryFields) (turn : Turn End) (s : Stack) (told : Turned) (acts : List Act) (xs : List EntryFields)
    → numbered n s.sessions ≡ Some x → told ≡ turned_of x turn.after → acts ≡ turn.acts → xs ≡ settled n turn.after s.sessions
    → P (after_turn rows now told acts (record s { sessions = xs })) → P (turned rows now x turn s)
turn_done P rows now n x turn s told acts xs at e f g h =
    subst P (turned_as rows now n x turn s (numbered_has n x s.sessions at))
    (subst (λ (ys : List EntryFields). P (after_turn rows now (turned_of x turn.after) turn.acts (record s { sessions = ys }))) g
    (subst (λ (acs : List Act). P (after_turn rows now (turned_of x turn.after) acs (record s { sessions = xs }))) f
    (subst (λ (t : Turned). P (after_turn rows now t acts (record s { sessions = xs }))) e h)))

-- Segments.
abbrev number_of : Option EntryFields → Option ℕ
number_of o = option_map (λ (x : EntryFields). x.number) o

there_at : (q : Sockets) (xs : List EntryFields) (n : ℕ) (o : Option EntryFields) → EachPair IsEarlier xs → found q xs ≡ o → Some n ≡ number_of o → IsSome (numbered n xs)
there_at q xs n None order at e = absurd (cc)
there_at q xs n (Some x) order at e = let same : x.number ≡ n = cc in let here = found_numbered q x xs order at in subst (λ (k : ℕ). IsSome (numbered k xs)) same (subst (λ (p : Option EntryFields). IsSome p) (sym here) refl)

pub there : (q : Sockets) (xs : List EntryFields) (n : ℕ) → EachPair IsEarlier xs → Some n ≡ number_of (found q xs) → IsSome (numbered n xs)
there q xs n order e = there_at q xs n (found q xs) order refl e

segment_at : (P : Effect → Type 0) (rows : HostRows) (now n : ℕ) (packet : PacketFields) (g : SegmentFields) (s : Stack) (o : Option EntryFields) → EachPair IsEarlier s.sessions
    → found (sockets_of packet) s.sessions ≡ o → Some n ≡ number_of o
    → ((x : EntryFields) → numbered n s.sessions ≡ Some x → P (turned rows now x (at_segment x.session g now) s)) → P (tcp_arrived_at rows now packet g o s)
segment_at P rows now n packet g s None order at e h = absurd (cc)
segment_at P rows now n packet g s (Some x) order at e h =
    let same : x.number ≡ n = cc in
    h x (subst (λ (k : ℕ). numbered k s.sessions ≡ Some x) same (found_numbered (sockets_of packet) x s.sessions order at))

-- a segment goes to the session that is found
pub segment_goes : (P : Effect → Type 0) (rows : HostRows) (now n : ℕ) (packet : PacketFields) (g : SegmentFields) (s : Stack) (q : Sockets) → EachPair IsEarlier s.sessions
    → q ≡ sockets_of packet → Some n ≡ number_of (found q s.sessions)
    → ((x : EntryFields) → numbered n s.sessions ≡ Some x → P (turned rows now x (at_segment x.session g now) s)) → P (tcp_arrived rows now packet g s)
unfolding tcp_arrived
segment_goes P rows now n packet g s q order e f h =
    segment_at P rows now n packet g s (found (sockets_of packet) s.sessions) order refl (subst (λ (p : Sockets). Some n ≡ number_of (found p s.sessions)) e f) h

none_at : (o : Option EntryFields) → None ≡ number_of o → o ≡ None
none_at None e = refl
none_at (Some x) e = absurd (cc)

pub none_found_of : (q : Sockets) (xs : List EntryFields) → None ≡ number_of (found q xs) → found q xs ≡ None
none_found_of q xs e = none_at (found q xs) e

without_session : (P : Effect → Type 0) (rows : HostRows) (now : ℕ) (packet : PacketFields) (g : SegmentFields) (s : Stack) → found (sockets_of packet) s.sessions ≡ None
    → P (tcp_arrived_at rows now packet g None s) → P (tcp_arrived rows now packet g s)
unfolding tcp_arrived
without_session P rows now packet g s e h = subst (λ (o : Option EntryFields). P (tcp_arrived_at rows now packet g o s)) (sym e) h

-- one without a session is dropped, or opens one
pub refuses : (P : Effect → Type 0) (rows : HostRows) (now : ℕ) (packet : PacketFields) (g : SegmentFields) (s : Stack) (q : Sockets) → q ≡ sockets_of packet → None ≡ number_of (found q s.sessions)
    → may_accept rows packet g s ≡ false → P (dropped Port packet s) → P (tcp_arrived rows now packet g s)
refuses P rows now packet g s q e f t h =
    without_session P rows now packet g s (subst (λ (p : Sockets). found p s.sessions ≡ None) e (none_found_of q s.sessions f))
    (subst (λ (b : Bool). P (cond b (opened_by rows now (sockets_of packet) g s) (dropped Port packet s))) (sym t) h)

pub accepts : (P : Effect → Type 0) (rows : HostRows) (now : ℕ) (packet : PacketFields) (g : SegmentFields) (s : Stack) (q : Sockets) → q ≡ sockets_of packet → None ≡ number_of (found q s.sessions)
    → may_accept rows packet g s ≡ true → P (opened_by rows now q g s) → P (tcp_arrived rows now packet g s)
accepts P rows now packet g s q e f t h =
    without_session P rows now packet g s (subst (λ (p : Sockets). found p s.sessions ≡ None) e (none_found_of q s.sessions f))
    (subst (λ (b : Bool). P (cond b (opened_by rows now (sockets_of packet) g s) (dropped Port packet s))) (sym t)
    (subst (λ (p : Sockets). P (opened_by rows now p g s)) e h))

-- Packets.
pub arrives : (P : Effect → Type 0) (rows : HostRows) (now : ℕ) (packet : PacketFields) (s : Stack) (routes : List Route) (v : Verdict) → routes ≡ routes_among [] rows.routes now
    → v ≡ received (own_addresses rows) routes packet → P (at_verdict rows routes now packet v s) → P (arrived rows now packet s)
unfolding arrived routes_at
arrives P rows now packet s routes v e f h =
    subst (λ (rs : List Route). P (at_verdict rows rs now packet (received (own_addresses rows) rs packet) s)) e
    (subst (λ (w : Verdict). P (at_verdict rows routes now packet w s)) f h)

follows : (P : Effect → Type 0) (rows : HostRows) (routes : List Route) (now : ℕ) (packet : PacketFields) (s : Stack) (v : Verdict) → (v ≡ Local → ⊥) → P (by_verdict rows routes now (passed_on packet) v s)
    → P (at_verdict rows routes now packet v s)
follows P rows routes now packet s Local other h = absurd (other refl)
follows P rows routes now packet s (Forward place) other h = h
follows P rows routes now packet s (Dropped reason) other h = h

-- one that is not for the host goes on, or is dropped
pub passes : (P : Effect → Type 0) (rows : HostRows) (now : ℕ) (packet : PacketFields) (s : Stack) (routes : List Route) (v : Verdict) (onward : PacketFields) → routes ≡ routes_among [] rows.routes now
    → v ≡ received (own_addresses rows) routes packet → (v ≡ Local → ⊥) → onward ≡ passed_on packet → P (by_verdict rows routes now onward v s) → P (arrived rows now packet s)
passes P rows now packet s routes v onward e f other g h =
    arrives P rows now packet s routes v e f (follows P rows routes now packet s v other (subst (λ (p : PacketFields). P (by_verdict rows routes now p v s)) g h))

-- Deadlines.
pub due_there : (now : ℕ) (o : Option EntryFields) → is_due_at now o ≡ true → IsSome o
due_there now None due = absurd (cc)
due_there now (Some x) due = refl

timed_at : (P : Effect → Type 0) (rows : HostRows) (now : ℕ) (s : Stack) (o : Option EntryFields) → is_due_at now o ≡ true
    → ((x : EntryFields) → o ≡ Some x → P (turned rows now x (at_timeout x.session now) s)) → P (timed_out_at rows now o s)
timed_at P rows now s None due h = absurd (cc)
timed_at P rows now s (Some x) due h =
    subst (λ (b : Bool). P (cond b (turned rows now x (at_timeout x.session now) s) (quiet s))) (sym due) (h x refl)

pub times_out : (P : Effect → Type 0) (rows : HostRows) (now n : ℕ) (s : Stack) → is_due_at now (numbered n s.sessions) ≡ true
    → ((x : EntryFields) → numbered n s.sessions ≡ Some x → P (turned rows now x (at_timeout x.session now) s)) → P (timed_out rows now n s)
unfolding timed_out
times_out P rows now n s due h = timed_at P rows now s (numbered n s.sessions) due h

not_timed_at : (P : Effect → Type 0) (rows : HostRows) (now : ℕ) (s : Stack) (o : Option EntryFields) → is_due_at now o ≡ false → P (quiet s) → P (timed_out_at rows now o s)
not_timed_at P rows now s None due h = h
not_timed_at P rows now s (Some x) due h = subst (λ (b : Bool). P (cond b (turned rows now x (at_timeout x.session now) s) (quiet s))) (sym due) h

pub waits_on : (P : Effect → Type 0) (rows : HostRows) (now n : ℕ) (s : Stack) → is_due_at now (numbered n s.sessions) ≡ false → P (quiet s) → P (timed_out rows now n s)
unfolding timed_out
waits_on P rows now n s due h = not_timed_at P rows now s (numbered n s.sessions) due h
