-- The first session between two ends is the one that was accepted, where there is one, and else the one that was opened.
use Rattle.std.proofs.Common.{◌≡◌, ℕ, ◌*◌, ◌≤◌, Bool, true, false, ◌&&◌, not, cond, Option, Some, None, List, [], ◌∷◌, length, nat_eq, refl, ap, sym, arith}
use Rattle.std.specs.List.{find, sum}
use Rattle.std.specs.Option.{option_or}
use Rattle.std.proofs.lemmas.Bool.{eqb-true, eq-eqb}
use Rattle.std.proofs.lemmas.List.Sums.{sum_by-le}
use Rattle.ssf_model.specs.Reaction.{Each}
use Rattle.host_rules.specs.declared.rows.HostRows.{HostRows}
use Rattle.host_rules.specs.Hosts.{Sockets, EntryFields, Stack}
use Rattle.host_rules.specs.Entries.{same_sockets, found, is_accepted}
use Rattle.host_rules.specs.Between.{is_accepted_between, accepted_between, opened_between}
use Rattle.host_rules.specs.Limits.{EachPair, AreRows, MostTransfers, IsEarlier, IsStack}

and_left : (a b : Bool) → (a && b) ≡ true → a ≡ true
and_left true b e = refl
and_left false b e = e

and_right : (a b : Bool) → (a && b) ≡ true → b ≡ true
and_right true b e = e
and_right false b e = absurd (cc)

and_both : (a b : Bool) → a ≡ true → b ≡ true → (a && b) ≡ true
and_both true b e f = f
and_both false b e f = absurd (cc)

tied : (a b c : ℕ) → nat_eq a c ≡ true → nat_eq b c ≡ true → nat_eq a b ≡ true
tied a b c e f =
    let first = eqb-true a c e in
    let second = eqb-true b c f in
    eq-eqb a b (omega (arith, first, second))

same_through : (a b c : Sockets) → same_sockets a c ≡ true → same_sockets b c ≡ true → same_sockets a b ≡ true
same_through a b c e f =
    let e2 = and_right (nat_eq a.own c.own) _ e in
    let e3 = and_right (nat_eq a.own_port c.own_port) _ e2 in
    let f2 = and_right (nat_eq b.own c.own) _ f in
    let f3 = and_right (nat_eq b.own_port c.own_port) _ f2 in
    and_both _ _ (tied a.own b.own c.own (and_left _ _ e) (and_left _ _ f))
    (and_both _ _ (tied a.own_port b.own_port c.own_port (and_left _ _ e2) (and_left _ _ f2))
    (and_both _ _ (tied a.peer b.peer c.peer (and_left _ _ e3) (and_left _ _ f3))
    (tied a.peer_port b.peer_port c.peer_port (and_right (nat_eq a.peer c.peer) _ e3) (and_right (nat_eq b.peer c.peer) _ f3))))

-- behind a session that was opened none between the same ends was accepted
none_behind : (sockets : Sockets) (x : EntryFields) (xs : List EntryFields) → same_sockets x.sockets sockets ≡ true → is_accepted x ≡ false → Each (IsEarlier x) xs
    → accepted_between sockets xs ≡ None
none_behind sockets x [] e opened later = refl
none_behind sockets x (y ∷ ys) e opened later = behind_case (is_accepted_between sockets y) refl (none_behind sockets x ys e opened later.1)
  where
    behind_case : (b : Bool) → is_accepted_between sockets y ≡ b → accepted_between sockets ys ≡ None → cond b (Some y) (accepted_between sockets ys) ≡ None
    behind_case true f rest =
        let both = later.0.ends (same_through x.sockets y.sockets sockets e (and_left (same_sockets y.sockets sockets) (is_accepted y) f)) in
        absurd (differ (is_accepted x) both.0 opened)
      where
        differ : (b : Bool) → b ≡ true → b ≡ false → ⊥
        differ b e f = cc
    behind_case false f rest = rest

pub found_first : (sockets : Sockets) (xs : List EntryFields) → EachPair IsEarlier xs → found sockets xs ≡ option_or (accepted_between sockets xs) (opened_between sockets xs)
unfolding found
found_first sockets [] order = refl
found_first sockets (x ∷ xs) order = first_case (same_sockets x.sockets sockets) (is_accepted x) refl refl (found_first sockets xs order.1)
  where
    first_case : (b a : Bool) → same_sockets x.sockets sockets ≡ b → is_accepted x ≡ a
        → find (λ (y : EntryFields). same_sockets y.sockets sockets) xs ≡ option_or (accepted_between sockets xs) (opened_between sockets xs)
        → cond b (Some x) (find (λ (y : EntryFields). same_sockets y.sockets sockets) xs)
        ≡ option_or (cond (b && a) (Some x) (accepted_between sockets xs)) (cond (b && not a) (Some x) (opened_between sockets xs))
    first_case true true e f rest = refl
    first_case true false e f rest =
        let none = none_behind sockets x xs e f order.0 in
        ap (λ (o : Option EntryFields). option_or o (Some x)) (sym none)
    first_case false a e f rest = rest

-- a host opens at most as many transfers as its client sessions and servers allow
most_opened : (clients servers given giving total opened : ℕ) → clients * servers ≤ 50000 → given ≡ clients → giving ≡ servers → total ≤ given * giving → opened ≤ total → opened ≤ 50000
most_opened clients servers given giving total opened most e f within below =
    let product : given * giving ≡ clients * servers = cc in omega (arith, most, product, within, below)

pub opened_few : (rows : HostRows) (s : Stack) → AreRows rows → IsStack rows s → s.opened ≤ MostTransfers
opened_few rows s ranges is =
    most_opened (length rows.clients) (length rows.servers) (length s.apps.given) (length s.apps.servers) (sum s.apps.given) s.opened
    ranges.transfers is.given (ap (λ xs. length xs) is.servers) (sum_by-le (λ (x : ℕ). x) (length s.apps.servers) s.apps.given is.progress.given) is.opened
