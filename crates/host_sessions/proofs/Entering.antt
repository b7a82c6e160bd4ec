-- Sessions that go out of a host's list and come back.
use Rattle.std.proofs.Common.{◌≡◌, ◌∙◌, ℕ, ◌+◌, ◌<◌, ◌≤◌, ◌⊎◌, Bool, true, false, not, cond, eqb, ltb, List, [], ◌∷◌, ◌++◌, Some, None, refl, sym, ap, subst, inl, inr, arith}
use Rattle.std.specs.Prelude.{Result, Ok, Err, OnOk}
use Rattle.std.specs.List.{filter, find, count_by}
use Rattle.std.proofs.lemmas.Bool.{cases_eq, cases_Bool, eq-eqb, ne_eqb, eqb-true, lt-ltb, le-ltb, not_from_true, not_from_false, not-true}
use Rattle.ssf_model.specs.Reaction.{Each}
use Rattle.session_table.specs.declared.entry.Entry.{Entry}
use Rattle.tcp_rules.specs.Sessions.{End, state_of}
use Rattle.host_rules.specs.declared.sockets.Sockets.{Sockets}
use Rattle.host_rules.specs.Hosts.{EntryFields}
use Rattle.host_rules.specs.Entries.{same_sockets, is_accepted, found, numbered, changed, with_session, without, is_other, is_closed, settled}
use Rattle.host_rules.specs.Limits.{EachPair, IsEarlier}
use Rattle.host_rules.proofs.Listing.{each_more, each_filter, each_both, count_cons, count_filter}
use Rattle.host_sessions.specs.Tabled.{entry_view, entries_of, put_in, back_in, IsFresh, IsApart}

-- Lists.
pub find_none : {A : Type 0} (test : A → Bool) (xs : List A) → Each (λ (x : A). test x ≡ false) xs → find test xs ≡ None
find_none test [] none = refl
find_none {A} test (x ∷ xs) none = ap (λ (b : Bool). cond b (Some x) (find test xs)) none.0 ∙ find_none test xs none.1

pub each_view : (P : EntryFields → Type 0) (Q : Entry End → Type 0) → ((y : Entry End) → P (entry_view y) → Q y) → (xs : List (Entry End)) → Each P (entries_of xs) → Each Q xs
each_view P Q f [] h = tt
each_view P Q f (x ∷ xs) h = (f x h.0, each_view P Q f xs h.1)

passes_case : {A : Type 0} (test : A → Bool) (b : Bool) (x : A) (xs : List A) → test x ≡ b → Each (λ (y : A). test y ≡ true) xs → Each (λ (y : A). test y ≡ true) (cond b (x ∷ xs) xs)
passes_case test true x xs e h = (e, h)
passes_case test false x xs e h = h

filter_passes : {A : Type 0} (test : A → Bool) (xs : List A) → Each (λ (y : A). test y ≡ true) (filter test xs)
filter_passes test [] = tt
filter_passes test (x ∷ xs) = passes_case test (test x) x (filter test xs) refl (filter_passes test xs)

-- The session of a number.
pub numbered_has : (n : ℕ) (x : EntryFields) (xs : List EntryFields) → numbered n xs ≡ Some x → x.number ≡ n
unfolding numbered
numbered_has n x [] at = absurd (cc)
numbered_has n x (y ∷ ys) at =
    elim (cases_Bool (eqb y.number n)) [
      | inl t ↦ let here : cond (eqb y.number n) (Some y) (numbered n ys) ≡ Some y = ap (λ (b : Bool). cond b (Some y) (numbered n ys)) t in let same : y ≡ x = cc in ap (λ (z : EntryFields). z.number) (sym same) ∙ eqb-true y.number n t
      | inr f ↦ let here : cond (eqb y.number n) (Some y) (numbered n ys) ≡ numbered n ys = ap (λ (b : Bool). cond b (Some y) (numbered n ys)) f in numbered_has n x ys (sym here ∙ at)
    ]

head_is : (n : ℕ) (y x : EntryFields) (ys : List EntryFields) → y.number ≡ n → numbered n (y ∷ ys) ≡ Some x → y ≡ x
unfolding numbered
head_is n y x ys e at =
    let here : cond (eqb y.number n) (Some y) (numbered n ys) ≡ Some y = ap (λ (b : Bool). cond b (Some y) (numbered n ys)) (eq-eqb y.number n e) in
    cc

tail_is : (n : ℕ) (y x : EntryFields) (ys : List EntryFields) → (y.number ≡ n → ⊥) → numbered n (y ∷ ys) ≡ Some x → numbered n ys ≡ Some x
unfolding numbered
tail_is n y x ys differ at =
    let here : cond (eqb y.number n) (Some y) (numbered n ys) ≡ numbered n ys = ap (λ (b : Bool). cond b (Some y) (numbered n ys)) (ne_eqb y.number n differ) in
    sym here ∙ at

-- what each has that the list has, the session of a number has
pub numbered_each : (P : EntryFields → Type 0) (n : ℕ) (x : EntryFields) (xs : List EntryFields) → numbered n xs ≡ Some x → Each P xs → P x
unfolding numbered
numbered_each P n x [] at h = absurd (cc)
numbered_each P n x (y ∷ ys) at h =
    elim (cases_eq y.number n) [
      | inl e ↦ subst P (head_is n y x ys e at) h.0
      | inr differ ↦ numbered_each P n x ys (tail_is n y x ys differ at) h.1
    ]

above : (y : EntryFields) (ys : List EntryFields) → Each (IsEarlier y) ys → Each (λ (z : EntryFields). y.number < z.number) ys
above y ys before = each_more (IsEarlier y) (λ (z : EntryFields). y.number < z.number) ys (λ z b. b.number) before

-- Going out.
gone_behind : (n : ℕ) (xs : List EntryFields) → Each (λ (y : EntryFields). n < y.number) xs → without n xs ≡ xs
gone_behind n [] late = refl
gone_behind n (y ∷ ys) late =
    let more : n < y.number = late.0 in
    let other : not (eqb y.number n) ≡ true = not_from_false (eqb y.number n) (ne_eqb y.number n (λ e. omega (arith, e, more))) in
    ap (λ (b : Bool). cond b (y ∷ without n ys) (without n ys)) other ∙ ap (λ (zs : List EntryFields). y ∷ zs) (gone_behind n ys late.1)

goes_out : (n : ℕ) (y : EntryFields) (ys : List EntryFields) → y.number ≡ n → Each (IsEarlier y) ys → without n (y ∷ ys) ≡ ys
goes_out n y ys e before =
    let out : not (eqb y.number n) ≡ false = not_from_true (eqb y.number n) (eq-eqb y.number n e) in
    ap (λ (b : Bool). cond b (y ∷ without n ys) (without n ys)) out ∙ gone_behind n ys (subst (λ (k : ℕ). Each (λ (w : EntryFields). k < w.number) ys) e (above y ys before))

stays_in : (n : ℕ) (y : EntryFields) (ys : List EntryFields) → (y.number ≡ n → ⊥) → without n (y ∷ ys) ≡ y ∷ without n ys
stays_in n y ys differ =
    let stays : not (eqb y.number n) ≡ true = not_from_false (eqb y.number n) (ne_eqb y.number n differ) in
    ap (λ (b : Bool). cond b (y ∷ without n ys) (without n ys)) stays

pub count_without : (n : ℕ) (x : EntryFields) (xs : List EntryFields) → EachPair IsEarlier xs → numbered n xs ≡ Some x
    → count_by is_accepted xs ≡ count_by is_accepted (without n xs) + cond (is_accepted x) 1 0
unfolding numbered
count_without n x [] order at = absurd (cc)
count_without n x (y ∷ ys) order at =
    elim (cases_eq y.number n) [
      | inl e ↦
          let here : y ≡ x = head_is n y x ys e at in
          let gone : count_by is_accepted (without n (y ∷ ys)) ≡ count_by is_accepted ys = ap (count_by is_accepted) (goes_out n y ys e order.0) in
          let bit : ◌≡◌ {A = ℕ} (cond (is_accepted y) 1 0) (cond (is_accepted x) 1 0) = ap (λ (z : EntryFields). cond (is_accepted z) 1 0) here in
          omega (arith, count_cons is_accepted y ys, gone, bit)
      | inr differ ↦
          let kept : count_by is_accepted (without n (y ∷ ys)) ≡ count_by is_accepted (y ∷ without n ys) = ap (count_by is_accepted) (stays_in n y ys differ) in
          let rest = count_without n x ys order.1 (tail_is n y x ys differ at) in
          omega (arith, count_cons is_accepted y ys, count_cons is_accepted y (without n ys), kept, rest)
    ]

-- Coming in.
count_case : (b : Bool) (x y : EntryFields) (ys zs : List EntryFields) → count_by is_accepted zs ≡ count_by is_accepted ys + cond (is_accepted x) 1 0
    → count_by is_accepted (cond b (x ∷ y ∷ ys) (y ∷ zs)) ≡ count_by is_accepted (y ∷ ys) + cond (is_accepted x) 1 0
count_case true x y ys zs e = omega (arith, count_cons is_accepted x (y ∷ ys))
count_case false x y ys zs e = omega (arith, count_cons is_accepted y zs, count_cons is_accepted y ys, e)

pub count_put : (x : EntryFields) (xs : List EntryFields) → count_by is_accepted (put_in x xs) ≡ count_by is_accepted xs + cond (is_accepted x) 1 0
count_put x [] = omega (arith, count_cons is_accepted x [])
count_put x (y ∷ ys) = count_case (ltb x.number y.number) x y ys (put_in x ys) (count_put x ys)

-- a session with the greatest number stands last
pub put_last : (x : EntryFields) (xs : List EntryFields) → Each (λ (y : EntryFields). y.number < x.number) xs → put_in x xs ≡ xs ++ x ∷ []
put_last x [] below = refl
put_last x (y ∷ ys) below =
    let low : y.number < x.number = below.0 in
    let late : ltb x.number y.number ≡ false = le-ltb x.number y.number (omega (arith, low)) in
    ap (λ (b : Bool). cond b (x ∷ y ∷ ys) (y ∷ put_in x ys)) late ∙ ap (λ (zs : List EntryFields). y ∷ zs) (put_last x ys below.1)

put_first : (x : EntryFields) (xs : List EntryFields) → Each (λ (y : EntryFields). x.number < y.number) xs → put_in x xs ≡ x ∷ xs
put_first x [] late = refl
put_first x (y ∷ ys) late = ap (λ (b : Bool). cond b (x ∷ y ∷ ys) (y ∷ put_in x ys)) (lt-ltb x.number y.number late.0)

changed_here : (n : ℕ) (session : End) (y : EntryFields) → y.number ≡ n → changed n session y ≡ record y { session = session }
changed_here n session y e = ap (λ (b : Bool). record y { session = cond b session y.session }) (eq-eqb y.number n e)

changed_there : (n : ℕ) (session : End) (y : EntryFields) → (y.number ≡ n → ⊥) → changed n session y ≡ y
changed_there n session y differ = ap (λ (b : Bool). record y { session = cond b session y.session }) (ne_eqb y.number n differ)

same_behind : (n : ℕ) (session : End) (xs : List EntryFields) → Each (λ (y : EntryFields). n < y.number) xs → with_session n session xs ≡ xs
same_behind n session [] late = refl
same_behind n session (y ∷ ys) late =
    let more : n < y.number = late.0 in
    ap (λ (z : EntryFields). z ∷ with_session n session ys) (changed_there n session y (λ e. omega (arith, e, more))) ∙ ap (λ (zs : List EntryFields). y ∷ zs) (same_behind n session ys late.1)

numbered_above : (m n : ℕ) (x : EntryFields) (ys : List EntryFields) → Each (λ (z : EntryFields). m < z.number) ys → numbered n ys ≡ Some x → m < n
numbered_above m n x ys late at = let low = numbered_each (λ (z : EntryFields). m < z.number) n x ys at late in let has = numbered_has n x ys at in omega (arith, low, has)

-- a session that went out and comes back stands where it stood
pub put_back : (n : ℕ) (x : EntryFields) (session : End) (xs : List EntryFields) → EachPair IsEarlier xs → numbered n xs ≡ Some x
    → put_in (record x { session = session }) (without n xs) ≡ with_session n session xs
unfolding numbered
put_back n x session [] order at = absurd (cc)
put_back n x session (y ∷ ys) order at =
    let back : EntryFields = record x { session = session } in
    let has : x.number ≡ n = numbered_has n x (y ∷ ys) at in
    elim (cases_eq y.number n) [
      | inl e ↦
          let late : Each (λ (w : EntryFields). x.number < w.number) ys = subst (λ (k : ℕ). Each (λ (w : EntryFields). k < w.number) ys) (e ∙ sym has) (above y ys order.0) in
          let behind : Each (λ (w : EntryFields). n < w.number) ys = subst (λ (k : ℕ). Each (λ (w : EntryFields). k < w.number) ys) e (above y ys order.0) in
          let first : back ≡ changed n session y = ap (λ (z : EntryFields). record z { session = session }) (sym (head_is n y x ys e at)) ∙ sym (changed_here n session y e) in
          ap (put_in back) (goes_out n y ys e order.0) ∙ put_first back ys late ∙ ap (λ (z : EntryFields). z ∷ ys) first
          ∙ ap (λ (zs : List EntryFields). changed n session y ∷ zs) (sym (same_behind n session ys behind))
      | inr differ ↦
          let later = tail_is n y x ys differ at in
          let low : y.number < n = numbered_above y.number n x ys (above y ys order.0) later in
          let late : ltb x.number y.number ≡ false = le-ltb x.number y.number (omega (arith, low, has)) in
          ap (put_in back) (stays_in n y ys differ)
          ∙ ap (λ (b : Bool). cond b (back ∷ y ∷ without n ys) (y ∷ put_in back (without n ys))) late
          ∙ ap (λ (zs : List EntryFields). y ∷ zs) (put_back n x session ys order.1 later)
          ∙ ap (λ (z : EntryFields). z ∷ with_session n session ys) (sym (changed_there n session y differ))
    ]

settled_case : (b : Bool) (n : ℕ) (x : EntryFields) (session : End) (xs : List EntryFields) → put_in (record x { session = session }) (without n xs) ≡ with_session n session xs
    → cond b (without n xs) (put_in (record x { session = session }) (without n xs)) ≡ cond b (without n xs) (with_session n session xs)
settled_case true n x session xs e = refl
settled_case false n x session xs e = e

pub settled_is : (n : ℕ) (x : EntryFields) (session : End) (xs : List EntryFields) → EachPair IsEarlier xs → numbered n xs ≡ Some x
    → back_in (record x { session = session }) (without n xs) ≡ settled n session xs
unfolding settled
settled_is n x session xs order at = settled_case (is_closed (state_of session)) n x session xs (put_back n x session xs order at)

-- Sessions that are apart.
round : (a b : ℕ) → eqb a b ≡ eqb b a
round a b = elim (cases_eq a b) [ inl e ↦ eq-eqb a b e ∙ sym (eq-eqb b a (sym e)) | inr differ ↦ ne_eqb a b differ ∙ sym (ne_eqb b a (λ e. differ (sym e))) ]

turned_round : (p q : Sockets) → same_sockets p q ≡ true → same_sockets q p ≡ true
turned_round p q same = rw (round q.own p.own, round q.own_port p.own_port, round q.peer p.peer, round q.peer_port p.peer_port) same

apart_before : (y x : EntryFields) → IsEarlier y x → IsApart x y
apart_before y x before = λ same kind. let ends = before.ends same in let first = ends.0 in let next = ends.1 in absurd (cc)

apart_behind : (x z : EntryFields) → IsEarlier x z → IsApart x z
apart_behind x z before = λ same kind. let ends = before.ends (turned_round z.sockets x.sockets same) in let first = ends.0 in let next = ends.1 in absurd (cc)

each_back : (n : ℕ) (x : EntryFields) (xs : List EntryFields) → EachPair IsEarlier xs → numbered n xs ≡ Some x → Each (λ (y : EntryFields). (y.number ≡ n) ⊎ IsApart x y) xs
unfolding numbered
each_back n x [] order at = absurd (cc)
each_back n x (y ∷ ys) order at =
    elim (cases_eq y.number n) [
      | inl e ↦
          let here = head_is n y x ys e at in
          (inl e, each_more (IsEarlier y) (λ (z : EntryFields). (z.number ≡ n) ⊎ IsApart x z) ys (λ z b. inr (apart_behind x z (subst (λ (w : EntryFields). IsEarlier w z) here b))) order.0)
      | inr differ ↦
          let later = tail_is n y x ys differ at in
          (inr (apart_before y x (numbered_each (IsEarlier y) n x ys later order.0)), each_back n x ys order.1 later)
    ]

-- a session that went out may come back
pub fresh_back : (n : ℕ) (x : EntryFields) (session : End) (xs : List EntryFields) → EachPair IsEarlier xs → numbered n xs ≡ Some x → IsFresh (record x { session = session }) (without n xs)
fresh_back n x session xs order at =
    let has : x.number ≡ n = numbered_has n x xs at in
    let others = filter_passes (is_other n) xs in
    let apart = each_both (λ (y : EntryFields). is_other n y ≡ true) (λ (y : EntryFields). (y.number ≡ n) ⊎ IsApart x y) (without n xs) others
    (each_filter (λ (y : EntryFields). (y.number ≡ n) ⊎ IsApart x y) (is_other n) xs (each_back n x xs order at)) in
    record {
      number = each_more (λ (y : EntryFields). is_other n y ≡ true) (λ (y : EntryFields). y.number ≡ x.number → ⊥) (without n xs) (λ y t e. is_not n y t (e ∙ has)) others;
      apart = each_more (λ (y : EntryFields). (is_other n y ≡ true) × ((y.number ≡ n) ⊎ IsApart x y)) (IsApart x) (without n xs) (λ y h. elim h.1 [ inl e ↦ absurd (is_not n y h.0 e) | inr a ↦ a ]) apart;
    }
  where
    is_not : (n : ℕ) (y : EntryFields) → is_other n y ≡ true → y.number ≡ n → ⊥
    is_not n y t e = let same = eq-eqb y.number n e in let off : eqb y.number n ≡ false = not-true (eqb y.number n) t in cc

each_before : (R : EntryFields → EntryFields → Type 0) (xs : List EntryFields) (y : EntryFields) → EachPair R (xs ++ y ∷ []) → Each (λ (x : EntryFields). R x y) xs
each_before R [] y order = tt
each_before R (x ∷ xs) y order = (last_of (R x) xs order.0, each_before R xs y order.1)
  where
    last_of : (P : EntryFields → Type 0) (ys : List EntryFields) → Each P (ys ++ y ∷ []) → P y
    last_of P [] h = h.0
    last_of P (z ∷ zs) h = last_of P zs h.1

-- the newest session is fresh
pub fresh_last : (x : EntryFields) (xs : List EntryFields) → EachPair IsEarlier (xs ++ x ∷ []) → IsFresh x xs
fresh_last x xs order =
    let before = each_before IsEarlier xs x order in
    record {
      number = each_more (λ (y : EntryFields). IsEarlier y x) (λ (y : EntryFields). y.number ≡ x.number → ⊥) xs (λ y b e. let low = b.number in omega (arith, low, e)) before;
      apart = each_more (λ (y : EntryFields). IsEarlier y x) (IsApart x) xs (λ y b. apart_before y x b) before;
    }

pub added_last : (x : EntryFields) (xs : List EntryFields) → EachPair IsEarlier (xs ++ x ∷ []) → put_in x xs ≡ xs ++ x ∷ []
added_last x xs order =
    put_last x xs (each_more (λ (y : EntryFields). IsEarlier y x) (λ (y : EntryFields). y.number < x.number) xs (λ y b. b.number) (each_before IsEarlier xs x order))

-- the first session between two ends is the one of its number
pub found_numbered : (q : Sockets) (x : EntryFields) (xs : List EntryFields) → EachPair IsEarlier xs → found q xs ≡ Some x → numbered x.number xs ≡ Some x
unfolding found numbered
found_numbered q x [] order at = absurd (cc)
found_numbered q x (y ∷ ys) order at =
    elim (cases_Bool (same_sockets y.sockets q)) [
      | inl t ↦
          let here : cond (same_sockets y.sockets q) (Some y) (found q ys) ≡ Some y = ap (λ (b : Bool). cond b (Some y) (found q ys)) t in
          let same : y ≡ x = cc in
          ap (λ (b : Bool). cond b (Some y) (numbered x.number ys)) (eq-eqb y.number x.number (ap (λ (z : EntryFields). z.number) same)) ∙ ap Some same
      | inr f ↦
          let here : cond (same_sockets y.sockets q) (Some y) (found q ys) ≡ found q ys = ap (λ (b : Bool). cond b (Some y) (found q ys)) f in
          let later = found_numbered q x ys order.1 (sym here ∙ at) in
          let low : y.number < x.number = numbered_above y.number x.number x ys (above y ys order.0) later in
          ap (λ (b : Bool). cond b (Some y) (numbered x.number ys)) (ne_eqb y.number x.number (λ e. omega (arith, e, low))) ∙ later
    ]

-- A session's turn: it went out, and comes back with this, unless it is closed.
pub fresh_turned : (n : ℕ) (x : EntryFields) (session : End) (xs ys : List EntryFields) → EachPair IsEarlier xs → numbered n xs ≡ Some x → ys ≡ without n xs → IsFresh (record x { session = session }) ys
fresh_turned n x session xs ys order at out = subst (λ (zs : List EntryFields). IsFresh (record x { session = session }) zs) (sym out) (fresh_back n x session xs order at)

pub few_without : (n : ℕ) (xs ys : List EntryFields) (most : ℕ) → count_by is_accepted xs ≤ most → ys ≡ without n xs → count_by is_accepted ys ≤ most
few_without n xs ys most few out =
    let less = count_filter is_accepted (is_other n) xs in
    subst (λ (zs : List EntryFields). count_by is_accepted zs ≤ most) (sym out) (omega (arith, few, less))

pub same_found : (n : ℕ) (x y : EntryFields) (xs : List EntryFields) → numbered n xs ≡ Some x → numbered n xs ≡ Some y → x ≡ y
same_found n x y xs first second = let e : Some x ≡ Some y = sym first ∙ second in cc

pub settled_turned : (n : ℕ) (x y : EntryFields) (session after : End) (xs ys zs : List EntryFields) → EachPair IsEarlier xs → numbered n xs ≡ Some y → x ≡ y → ys ≡ without n xs → session ≡ after
    → zs ≡ back_in (record x { session = session }) ys → zs ≡ settled n after xs
settled_turned n x y session after xs ys zs order at same out turned back =
    back ∙ ap (λ (s : End). back_in (record x { session = s }) ys) turned ∙ ap (λ (z : EntryFields). back_in (record z { session = after }) ys) same
    ∙ ap (back_in (record y { session = after })) out ∙ settled_is n y after xs order at

pub ok_more : {T E : Type 0} (r : Result T E) (P Q : Type 0) → (P → Q) → OnOk r P → OnOk r Q
ok_more (Ok x) P Q f p = f p
ok_more (Err e) P Q f p = tt
