-- The table of sessions as a list of a host's sessions.
use Rattle.std.proofs.Common.{◌≡◌, ◌∙◌, ℕ, ◌+◌, ◌-◌, ◌≤◌, Bool, true, false, not, ◌&&◌, cond, eqb, ltb, List, [], ◌∷◌, ◌++◌, map, Option, Some, None, refl, sym, ap, subst, inl, inr, arith}
use Rattle.std.specs.List.{filter, find, count_by}
use Rattle.std.specs.Option.{option_map, option_or}
use Rattle.std.specs.Prelude.{is_none, IsSome}
use Rattle.std.proofs.lemmas.Bool.{cases_eq, eq-eqb, ne_eqb}
use Rattle.ssf_model.specs.Reaction.{Each}
use Rattle.tcp_rules.specs.Sessions.{End, deadline_of}
use Rattle.session_table.specs.declared.entry.Entry.{Entry}
use Rattle.session_table.specs.declared.entry.Sockets.{Sockets as TableSockets}
use Rattle.session_table.specs.Entries as table
use Rattle.host_rules.specs.declared.sockets.Sockets.{Sockets}
use Rattle.host_rules.specs.Hosts.{EntryFields}
use Rattle.host_rules.specs.Entries.{same_sockets, is_accepted, found, numbered, least, due, earlier, has_passed, is_due, without}
use Rattle.host_rules.specs.Between.{accepted_between, opened_between, is_accepted_between, is_opened_between}
use Rattle.host_rules.specs.Limits.{EachPair, IsEarlier}
use Rattle.host_rules.proofs.Finding.{found_first}
use Rattle.host_rules.proofs.Listing.{each_filter}
use Rattle.host_sessions.specs.Tabled.{entry_view, entries_of, table_sockets, put_in, is_due_at, IsFresh, IsTabled}
use Rattle.host_sessions.proofs.Entering.{find_none, each_view, count_put, count_without, fresh_last}

-- the same question either way round
same_number : (a b : ℕ) → eqb a b ≡ eqb b a
same_number a b = elim (cases_eq a b) [ inl e ↦ eq-eqb a b e ∙ sym (eq-eqb b a (sym e)) | inr differ ↦ ne_eqb a b differ ∙ sym (ne_eqb b a (λ e. differ (sym e))) ]

both_same : {a b c d : Bool} → a ≡ c → b ≡ d → (a && b) ≡ (c && d)
both_same {a} {b} {c} {d} p q = ap (λ (x : Bool). x && b) p ∙ ap (λ (y : Bool). c && y) q

pub same_ends : (q : Sockets) (x : Entry End) → table.same_sockets (table_sockets q) x.sockets ≡ same_sockets (entry_view x).sockets q
same_ends q x = both_same (same_number q.own x.sockets.own) (both_same (same_number q.own_port x.sockets.own_port) (both_same (same_number q.peer x.sockets.peer) (same_number q.peer_port x.sockets.peer_port)))

-- Finding.
-- the same test finds the same session
find_case : (a b : Bool) (x : Entry End) (o : Option (Entry End)) (p : Option EntryFields) → a ≡ b → option_map entry_view o ≡ p → option_map entry_view (cond a (Some x) o) ≡ cond b (Some (entry_view x)) p
find_case true true x o p e r = refl
find_case false false x o p e r = r
find_case true false x o p e r = cc
find_case false true x o p e r = cc

pub find_view : (test : Entry End → Bool) (view_test : EntryFields → Bool) → ((x : Entry End) → test x ≡ view_test (entry_view x)) → (xs : List (Entry End))
    → option_map entry_view (find test xs) ≡ find view_test (entries_of xs)
find_view test view_test same [] = refl
find_view test view_test same (x ∷ xs) = find_case (test x) (view_test (entry_view x)) x (find test xs) (find view_test (entries_of xs)) (same x) (find_view test view_test same xs)

pub numbered_view : (n : ℕ) (xs : List (Entry End)) → option_map entry_view (table.numbered n xs) ≡ numbered n (entries_of xs)
unfolding numbered
numbered_view n xs = find_view (table.is_numbered n) (λ (x : EntryFields). eqb x.number n) (λ x. refl) xs

number_of : (o : Option (Entry End)) → option_map (λ (x : Entry End). x.number) o ≡ option_map (λ (x : EntryFields). x.number) (option_map entry_view o)
number_of None = refl
number_of (Some x) = refl

number_or : (a b : Option EntryFields) → option_or (option_map (λ (x : EntryFields). x.number) a) (option_map (λ (x : EntryFields). x.number) b) ≡ option_map (λ (x : EntryFields). x.number) (option_or a b)
number_or None b = refl
number_or (Some x) b = refl

number_at : (test : Entry End → Bool) (view_test : EntryFields → Bool) → ((x : Entry End) → test x ≡ view_test (entry_view x)) → (xs : List (Entry End))
    → table.number_at test xs ≡ option_map (λ (x : EntryFields). x.number) (find view_test (entries_of xs))
number_at test view_test same xs = number_of (find test xs) ∙ ap (option_map (λ (x : EntryFields). x.number)) (find_view test view_test same xs)

pub found_view : (q : Sockets) (xs : List (Entry End)) → EachPair IsEarlier (entries_of xs) → table.found (table_sockets q) xs ≡ option_map (λ (x : EntryFields). x.number) (found q (entries_of xs))
found_view q xs order =
    let a : table.number_at (table.accepts_at (table_sockets q)) xs ≡ option_map (λ (x : EntryFields). x.number) (accepted_between q (entries_of xs)) =
    number_at (table.accepts_at (table_sockets q)) (is_accepted_between q) (λ x. ap (λ (b : Bool). b && is_none x.client) (same_ends q x)) xs in
    let b : table.number_at (table.opens_at (table_sockets q)) xs ≡ option_map (λ (x : EntryFields). x.number) (opened_between q (entries_of xs)) =
    number_at (table.opens_at (table_sockets q)) (is_opened_between q) (λ x. ap (λ (b : Bool). b && not (is_none x.client)) (same_ends q x)) xs in
    ap (λ (o : Option ℕ). option_or o (table.number_at (table.opens_at (table_sockets q)) xs)) a
    ∙ ap (λ (o : Option ℕ). option_or (option_map (λ (x : EntryFields). x.number) (accepted_between q (entries_of xs))) o) b
    ∙ number_or (accepted_between q (entries_of xs)) (opened_between q (entries_of xs))
    ∙ ap (option_map (λ (x : EntryFields). x.number)) (sym (found_first q (entries_of xs) order))

-- Deadlines.
abbrev pub AreTimed : List (Entry End) → Type 0
AreTimed xs = Each (λ (e : Entry End). e.deadline ≡ deadline_of e.session) xs

earlier_same : (a b : Option ℕ) → table.earlier a b ≡ earlier a b
earlier_same None b = refl
earlier_same (Some a) None = refl
earlier_same (Some a) (Some b) = refl

pub least_view : (xs : List (Entry End)) → AreTimed xs → table.least xs ≡ least (entries_of xs)
unfolding least
least_view [] timed = refl
least_view (x ∷ xs) timed =
    earlier_same x.deadline (table.least xs) ∙ ap (λ (o : Option ℕ). earlier o (table.least xs)) timed.0 ∙ ap (earlier (deadline_of x.session)) (least_view xs timed.1)

passed_same : (now : ℕ) (o : Option ℕ) → table.has_passed now o ≡ has_passed now o
passed_same now None = refl
passed_same now (Some d) = refl

due_case : (a b : Bool) (n : ℕ) (xs : List (Entry End)) (ys : List EntryFields) (x : Entry End) → a ≡ b → map (λ (z : Entry End). z.number) xs ≡ map (λ (z : EntryFields). z.number) ys
    → map (λ (z : Entry End). z.number) (cond a (x ∷ xs) xs) ≡ map (λ (z : EntryFields). z.number) (cond b (entry_view x ∷ ys) ys)
due_case true true n xs ys x e r = ap (λ (ns : List ℕ). x.number ∷ ns) r
due_case false false n xs ys x e r = r
due_case true false n xs ys x e r = cc
due_case false true n xs ys x e r = cc

due_is : (now : ℕ) (xs : List (Entry End)) → AreTimed xs → table.due now xs ≡ map (λ (z : EntryFields). z.number) (filter (is_due now) (entries_of xs))
due_is now [] timed = refl
due_is now (x ∷ xs) timed =
    due_case (table.has_passed now x.deadline) (is_due now (entry_view x)) now (filter (λ (z : Entry End). table.has_passed now z.deadline) xs) (filter (is_due now) (entries_of xs)) x
    (passed_same now x.deadline ∙ ap (has_passed now) timed.0) (due_is now xs timed.1)

pub due_view : (now : ℕ) (xs : List (Entry End)) → AreTimed xs → table.due now xs ≡ due now (entries_of xs)
unfolding due
due_view now xs timed = due_is now xs timed

-- Taking out.
keep_case : (b : Bool) (x : Entry End) (xs : List (Entry End)) (ys : List EntryFields) → entries_of xs ≡ ys → entries_of (cond b (x ∷ xs) xs) ≡ cond b (entry_view x ∷ ys) ys
keep_case true x xs ys e = ap (λ (zs : List EntryFields). entry_view x ∷ zs) e
keep_case false x xs ys e = e

pub without_view : (n : ℕ) (xs : List (Entry End)) → entries_of (table.without n xs) ≡ without n (entries_of xs)
without_view n [] = refl
without_view n (x ∷ xs) = keep_case (not (eqb x.number n)) x (table.without n xs) (without n (entries_of xs)) (without_view n xs)

-- Putting in.
put_case : (b : Bool) (x y : Entry End) (ys zs : List (Entry End)) (us vs : List EntryFields) → entries_of ys ≡ us → entries_of zs ≡ vs
    → entries_of (cond b (x ∷ y ∷ ys) (y ∷ zs)) ≡ cond b (entry_view x ∷ entry_view y ∷ us) (entry_view y ∷ vs)
put_case true x y ys zs us vs e f = ap (λ (ws : List EntryFields). entry_view x ∷ entry_view y ∷ ws) e
put_case false x y ys zs us vs e f = ap (λ (ws : List EntryFields). entry_view y ∷ ws) f

pub placed_view : (x : Entry End) (xs : List (Entry End)) → entries_of (table.placed x xs) ≡ put_in (entry_view x) (entries_of xs)
placed_view x [] = refl
placed_view x (y ∷ ys) = put_case (ltb x.number y.number) x y ys (table.placed x ys) (entries_of ys) (put_in (entry_view x) (entries_of ys)) refl (placed_view x ys)

placed_case : (P : Entry End → Type 0) (b : Bool) (xs ys : List (Entry End)) → Each P xs → Each P ys → Each P (cond b xs ys)
placed_case P true xs ys p q = p
placed_case P false xs ys p q = q

pub each_placed : (P : Entry End → Type 0) (x : Entry End) (xs : List (Entry End)) → P x → Each P xs → Each P (table.placed x xs)
each_placed P x [] p each = (p, tt)
each_placed P x (y ∷ ys) p each = placed_case P (ltb x.number y.number) (x ∷ y ∷ ys) (y ∷ table.placed x ys) (p, each) (each.0, each_placed P x ys p each.1)

-- a session that is fresh is new to the table
ends_of : (a b : Bool) → (a && b) ≡ false → a ≡ true → b ≡ true → ⊥
ends_of true true e p q = cc
ends_of true false e p q = cc
ends_of false b e p q = cc

and_false : (a b : Bool) → (a ≡ true → b ≡ true → ⊥) → (a && b) ≡ false
and_false true true h = absurd (h refl refl)
and_false true false h = refl
and_false false b h = refl

view_sockets : (x y : Entry End) → table.same_sockets x.sockets y.sockets ≡ same_sockets (entry_view y).sockets (entry_view x).sockets
view_sockets x y = both_same (same_number x.sockets.own y.sockets.own) (both_same (same_number x.sockets.own_port y.sockets.own_port) (both_same (same_number x.sockets.peer y.sockets.peer) (same_number x.sockets.peer_port y.sockets.peer_port)))

pub fresh_is_new : (x : Entry End) (xs : List (Entry End)) → IsFresh (entry_view x) (entries_of xs) → table.IsNew x xs
fresh_is_new x xs fresh = record {
  number = find_none (table.is_numbered x.number) xs (each_view (λ (y : EntryFields). y.number ≡ x.number → ⊥) (λ (y : Entry End). eqb y.number x.number ≡ false) (λ y differ. ne_eqb y.number x.number differ) xs fresh.number);
  accepted = λ kind. find_none (table.accepts_at x.sockets) xs
      (each_view (λ (y : EntryFields). same_sockets y.sockets (entry_view x).sockets ≡ true → is_accepted y ≡ is_accepted (entry_view x) → ⊥) (λ (y : Entry End). table.accepts_at x.sockets y ≡ false)
      (λ y apart. and_false (table.same_sockets x.sockets y.sockets) (is_none y.client) (λ p q. apart (sym (view_sockets x y) ∙ p) (q ∙ sym kind))) xs fresh.apart);
  opened = λ kind. find_none (table.opens_at x.sockets) xs
      (each_view (λ (y : EntryFields). same_sockets y.sockets (entry_view x).sockets ≡ true → is_accepted y ≡ is_accepted (entry_view x) → ⊥) (λ (y : Entry End). table.opens_at x.sockets y ≡ false)
      (λ y apart. and_false (table.same_sockets x.sockets y.sockets) (not (is_none y.client)) (λ p q. apart (sym (view_sockets x y) ∙ p) (not_true (is_none y.client) q ∙ sym kind))) xs fresh.apart);
}
  where
    not_true : (b : Bool) → not b ≡ true → b ≡ false
    not_true true e = cc
    not_true false e = refl

-- The session of a number.
pub view_of : (n : ℕ) (xs : List (Entry End)) (x : Entry End) → table.numbered n xs ≡ Some x → numbered n (entries_of xs) ≡ Some (entry_view x)
view_of n xs x at = sym (numbered_view n xs) ∙ ap (option_map entry_view) at

some_view : (o : Option (Entry End)) (p : Option EntryFields) → option_map entry_view o ≡ p → IsSome p → IsSome o
some_view None None e there = there
some_view None (Some y) e there = cc
some_view (Some x) p e there = refl

pub is_there : (n : ℕ) (xs : List (Entry End)) → IsSome (numbered n (entries_of xs)) → IsSome (table.numbered n xs)
is_there n xs there = some_view (table.numbered n xs) (numbered n (entries_of xs)) (numbered_view n xs) there

pub due_at_some : (now n : ℕ) (xs : List (Entry End)) (x : Entry End) → table.numbered n xs ≡ Some x → is_due_at now (numbered n (entries_of xs)) ≡ has_passed now (deadline_of x.session)
due_at_some now n xs x at = ap (is_due_at now) (view_of n xs x at)

pub due_at_none : (now n : ℕ) (xs : List (Entry End)) → table.numbered n xs ≡ None → is_due_at now (numbered n (entries_of xs)) ≡ false
due_at_none now n xs at = ap (is_due_at now) (sym (numbered_view n xs) ∙ ap (option_map entry_view) at)

-- What is kept of the table.
pub tabled_put : (x : Entry End) (xs : List (Entry End)) (accepted more : ℕ) → IsTabled xs accepted → x.deadline ≡ deadline_of x.session → more ≡ cond (is_none x.client) 1 0
    → IsTabled (table.placed x xs) (accepted + more)
tabled_put x xs accepted more tabled timed bit = record {
  deadlines = each_placed (λ (e : Entry End). e.deadline ≡ deadline_of e.session) x xs timed tabled.deadlines;
  accepted_is =
      let was = tabled.accepted_is in
      let put = count_put (entry_view x) (entries_of xs) in
      let same = ap (count_by is_accepted) (placed_view x xs) in
      omega (arith, was, put, same, bit);
}

pub tabled_take : (n : ℕ) (x : Entry End) (xs : List (Entry End)) (accepted less : ℕ) → EachPair IsEarlier (entries_of xs) → table.numbered n xs ≡ Some x → IsTabled xs accepted
    → less ≡ cond (is_none x.client) 1 0 → (less ≤ accepted) × IsTabled (table.without n xs) (accepted - less)
tabled_take n x xs accepted less order at tabled bit =
    let was = tabled.accepted_is in
    let out = count_without n (entry_view x) (entries_of xs) order (view_of n xs x at) in
    let same = ap (count_by is_accepted) (without_view n xs) in (
      omega (arith, was, out, bit),
      record {
        deadlines = each_filter (λ (e : Entry End). e.deadline ≡ deadline_of e.session) (λ (e : Entry End). not (table.is_numbered n e)) xs tabled.deadlines;
        accepted_is = omega (arith, was, out, same, bit);
      },
    )

-- the newest session is fresh
pub fresh_added : (number : ℕ) (q : Sockets) (client deadline : Option ℕ) (session : End) (ends : TableSockets) (xs : List EntryFields) → ends ≡ table_sockets q
    → EachPair IsEarlier (xs ++ record { number = number; sockets = q; client = client; session = session } ∷ [])
    → IsFresh (entry_view (record { number = number; sockets = ends; client = client; deadline = deadline; session = session })) xs
fresh_added number q client deadline session ends xs same order =
    subst (λ (t : TableSockets). IsFresh (entry_view (record { number = number; sockets = t; client = client; deadline = deadline; session = session })) xs) (sym same)
    (fresh_last (record { number = number; sockets = q; client = client; session = session }) xs order)
