-- What a host keeps stays in range when its table of sessions changes.
use Rattle.std.proofs.Common.{◌≡◌, ℕ, ◌+◌, ◌<◌, ◌≤◌, Bool, true, false, ◌||◌, cond, None, List, [], ◌∷◌, ◌++◌, map, nat_eq, refl, ap, subst, sym, inl, inr, arith, if◌then◌else◌}
use Rattle.std.specs.List.{count_by}
use Rattle.std.proofs.lemmas.Bool.{eq-eqb}
use Rattle.std.proofs.lemmas.Bool.Decides.{eqb_tells}
use Rattle.std.proofs.lemmas.List.{length-append, length-map}
use Rattle.std.proofs.lemmas.List.Sums.{sum_by-append}
use Rattle.event_order.specs.Pending.{Among}
use Rattle.ssf_model.specs.Reaction.{Each}
use Rattle.ip_layer.specs.Forwarding.{has_address}
use Rattle.tcp_rules.specs.Sessions.{End, state_of}
use Rattle.tcp_rules.specs.Limits.{IsEnd}
use Rattle.host_rules.specs.declared.rows.HostRows.{HostRows}
use Rattle.host_rules.specs.Hosts.{Sockets, EntryFields, Stack}
use Rattle.host_rules.specs.Sending.{own_addresses}
use Rattle.host_rules.specs.Entries.{same_sockets, found, is_accepted, changed, with_session, is_other, without, is_closed, settled}
use Rattle.host_rules.specs.Hearing.{MostAccepted, entry_of, with_entry}
use Rattle.host_rules.specs.Limits.{EachPair, IsKindOf, IsEntry, IsEarlier, IsStack}
use Rattle.host_rules.proofs.Listing.{if_case, each_append, each_more, each_filter, each_among, each_both, pairs_append, pairs_map, pairs_filter, pairs_more, none_found, count_map, count_filter, lost_filter}

pub not_eq : (a b : ℕ) → (a ≡ b → ⊥) → nat_eq a b ≡ false
not_eq a b differs = elim (eqb_tells a b) [ inl e ↦ absurd (differs e.1) | inr e ↦ e.0 ]

-- One session changes.
abbrev pub set_if : Bool → End → EntryFields → EntryFields
set_if b session x = record x { session = (if b then session else x.session) }

pub changed_same : (n : ℕ) (session : End) (x : EntryFields) → nat_eq x.number n ≡ true → changed n session x ≡ record x { session = session }
changed_same n session x e = ap (λ (b : Bool). set_if b session x) e

pub changed_other : (n : ℕ) (session : End) (x : EntryFields) → (x.number ≡ n → ⊥) → changed n session x ≡ x
changed_other n session x differs = ap (λ (b : Bool). set_if b session x) (not_eq x.number n differs)

pub later_kept : (P : EntryFields → Type 0) (n : ℕ) (session : End) (xs : List EntryFields) → Each (λ (x : EntryFields). n < x.number) xs → Each P xs
    → Each P (map (changed n session) xs)
later_kept P n session [] late h = tt
later_kept P n session (x ∷ xs) late h =
    let above : n < x.number = late.0 in
    (subst P (sym (changed_other n session x (λ e. omega (arith, e, above)))) h.0, later_kept P n session xs late.1 h.1)

-- numbers rise
abbrev pub Rises : EntryFields → EntryFields → Type 0
Rises x y = x.number < y.number

pub changed_each : (P : EntryFields → Type 0) (x : EntryFields) (session : End) (xs : List EntryFields) → EachPair Rises xs → Each P xs → Among x xs
    → P (record x { session = session }) → Each P (map (changed x.number session) xs)
changed_each P x session [] order h m k = absurd m
changed_each P x session (y ∷ ys) order h (inl e) k =
    let first : P (changed x.number session x) = subst P (sym (changed_same x.number session x (eq-eqb x.number x.number refl))) k in
    let number : x.number ≡ y.number = ap (λ (z : EntryFields). z.number) e in (
      subst (λ (z : EntryFields). P (changed x.number session z)) e first,
      later_kept P x.number session ys (each_more (Rises y) (λ (z : EntryFields). x.number < z.number) ys (λ z below. omega (arith, number, below)) order.0) h.1,
    )
changed_each P x session (y ∷ ys) order h (inr m) k =
    let below : y.number < x.number = each_among (Rises y) ys x order.0 m in
    (subst P (sym (changed_other x.number session y (λ e. omega (arith, e, below)))) h.0, changed_each P x session ys order.1 h.1 m k)

earlier_changed : (n : ℕ) (session : End) (x y : EntryFields) → IsEarlier x y → IsEarlier (changed n session x) (changed n session y)
earlier_changed n session x y before = record { number = before.number; ends = before.ends }

changed_stack : (rows : HostRows) (s : Stack) (x : EntryFields) (session : End) → IsStack rows s → Among x s.sessions → IsEnd session → IsKindOf x.client session
    → is_closed (state_of session) ≡ false → IsStack rows (record s { sessions = with_session x.number session s.sessions })
changed_stack rows s x session is m end kind running =
    let was = each_among (IsEntry rows s.opened s.made) s.sessions x is.entries m in
    let count = count_map is_accepted (changed x.number session) s.sessions (λ y. refl) in
    let accepted = is.accepted in
    let few = is.few in
    record {
      interfaces = is.interfaces;
      servers = is.servers;
      progress = is.progress;
      given = is.given;
      left = is.left;
      opened = is.opened;
      entries = changed_each (IsEntry rows s.opened s.made) x session s.sessions (pairs_more IsEarlier Rises s.sessions (λ y z before. before.number) is.order) is.entries m
          (record { number = was.number; ranges = end; running = running; kind = kind; own = was.own; client = was.client; own_port = was.own_port });
      order = pairs_map IsEarlier (changed x.number session) s.sessions (earlier_changed x.number session) is.order;
      accepted = omega (arith, count, accepted);
      few = omega (arith, count, few, length-map s.sessions (changed x.number session));
    }

-- One session is removed.
without_stack : (rows : HostRows) (s : Stack) (n : ℕ) → IsStack rows s → IsStack rows (record s { sessions = without n s.sessions })
without_stack rows s n is =
    let accepted = is.accepted in
    let few = is.few in
    record {
      interfaces = is.interfaces;
      servers = is.servers;
      progress = is.progress;
      given = is.given;
      left = is.left;
      opened = is.opened;
      entries = each_filter (IsEntry rows s.opened s.made) (is_other n) s.sessions is.entries;
      order = pairs_filter IsEarlier (is_other n) s.sessions is.order;
      accepted = omega (arith, accepted, count_filter is_accepted (is_other n) s.sessions);
      few = omega (arith, few, lost_filter is_accepted (is_other n) s.sessions);
    }

pub settled_stack : (rows : HostRows) (s : Stack) (x : EntryFields) (session : End) → IsStack rows s → Among x s.sessions → IsEnd session → IsKindOf x.client session
    → IsStack rows (record s { sessions = settled x.number session s.sessions })
unfolding settled
settled_stack rows s x session is m end kind =
    if_case (λ (xs : List EntryFields). IsStack rows (record s { sessions = xs })) (is_closed (state_of session))
    (λ e. without_stack rows s x.number is) (λ e. changed_stack rows s x session is m end kind e)

-- One session more, which was accepted.

pub entry_later : (rows : HostRows) (opened opened' made made' : ℕ) → opened ≤ opened' → made ≤ made' → (x : EntryFields) → IsEntry rows opened made x → IsEntry rows opened' made' x
entry_later rows opened opened' made made' more_opened more_made x is =
    let number = is.number in
    record {
      number = omega (arith, number, more_made);
      ranges = is.ranges;
      running = is.running;
      kind = is.kind;
      own = is.own;
      client = is.client;
      own_port = λ client e. let below = is.own_port client e in omega (arith, below, more_opened);
    }

pub accepted_stack : (rows : HostRows) (s : Stack) (sockets : Sockets) (session : End) → IsStack rows s → IsEnd session → is_closed (state_of session) ≡ false
    → IsKindOf None session → (nat_eq sockets.own 0 || has_address (own_addresses rows) sockets.own) ≡ true
    → found sockets s.sessions ≡ None → count_by is_accepted s.sessions < MostAccepted → IsStack rows (with_entry sockets None session s)
unfolding found
accepted_stack rows s sockets session is end running kind own none room =
    let new = entry_of sockets None session s in
    let fresh = none_found (λ (x : EntryFields). same_sockets x.sockets sockets) s.sessions none in
    let all = each_both (IsEntry rows s.opened s.made) (λ (x : EntryFields). same_sockets x.sockets sockets ≡ false) s.sessions is.entries fresh in
    let few = is.few in
    let count : count_by is_accepted (s.sessions ++ new ∷ []) ≡ count_by is_accepted s.sessions + 1 = sum_by-append (λ (x : EntryFields). cond (is_accepted x) 1 0) s.sessions (new ∷ []) in
    record {
      interfaces = is.interfaces;
      servers = is.servers;
      progress = is.progress;
      given = is.given;
      left = is.left;
      opened = is.opened;
      entries = each_append (IsEntry rows s.opened (s.made + 1)) s.sessions (new ∷ [])
          (each_more (IsEntry rows s.opened s.made) (IsEntry rows s.opened (s.made + 1)) s.sessions (entry_later rows s.opened s.opened s.made (s.made + 1) (omega arith) (omega arith)) is.entries)
          (record { number = omega arith; ranges = end; running = running; kind = kind; own = own; client = λ c e. absurd (cc); own_port = λ c e. absurd (cc) }, tt);
      order = pairs_append IsEarlier s.sessions new is.order
          (each_more (λ (x : EntryFields). IsEntry rows s.opened s.made x × (same_sockets x.sockets sockets ≡ false)) (λ (x : EntryFields). IsEarlier x new) s.sessions
          (λ x h. record { number = h.0.number; ends = λ same. absurd (cc) }) all);
      accepted = omega (arith, count, room);
      few = omega (arith, count, few, length-append s.sessions (new ∷ []));
    }
