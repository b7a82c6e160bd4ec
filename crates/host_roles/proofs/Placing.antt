-- Whether a host fits its entity, found out one by one.
use Rattle.std.proofs.Common.{◌≡◌, ◌∙◌, ℕ, suc, ◌+◌, ◌<◌, ◌≤◌, ◌↔◌, Bool, true, false, List, [], ◌∷◌, ◌++◌, map, length, drop, get_or, drop-cons, add-one, Some, refl, sym, ap, subst, arith}
use Rattle.std.specs.Prelude.{slice_get, IsTrue}
use Rattle.std.proofs.lemmas.List.{length-map, drop_all}
use Rattle.std.proofs.lemmas.Option.{slice_get-get_or, get_or_from_slice_get}
use Rattle.ssf_model.specs.declared.wait.Wait.{Wait}
use Rattle.ssf_model.specs.declared.process.Process.{Process}
use Rattle.ssf_model.specs.Reaction.{Each, is_timed}
use Rattle.host_rules.specs.declared.rows.HostRows.{HostRows}
use Rattle.host_rules.specs.declared.rows.HostPort.{HostPort}
use Rattle.host_rules.specs.Reacting.{Role, roles, is_timed_role}
use Rattle.host_rules.specs.Limits.{EachPair, IsWaitOf, AreWaits}
use Rattle.host_roles.proofs.Numbering.{has_at, roles_length}

-- Lists, one by one.
ahead : {T : Type 0} (xs : List T) (i : ℕ) (x : T) → i < length xs → x ≡ get_or xs i x → drop i xs ≡ x ∷ drop (i + 1) xs
ahead xs i x h e = let d = drop-cons xs i x h in rw (add-one, d, ← e) refl

pub each_next : {T : Type 0} (P : T → Type 0) (xs : List T) (All : Type 0) (i : ℕ) (x : T) → i < length xs → x ≡ get_or xs i x → P x → (All ↔ Each P (drop i xs)) → (All ↔ Each P (drop (i + 1) xs))
each_next {T} P xs All i x below at p left =
    let d = ahead xs i x below at in (
      (λ all. let f = subst (λ (ys : List T). Each P ys) d (left.0 all) in f.1),
      (λ rest. left.1 (subst (λ (ys : List T). Each P ys) (sym d) (p, rest))),
    )

-- Channels.
abbrev channel_of : HostPort → ℕ
channel_of port = port.in_channel

abbrev pub InsAre : List HostPort → ℕ → List ℕ → Type 0
InsAre ports poke ins = ins ≡ map channel_of ports ++ poke ∷ []

-- Rising numbers.
abbrev pub RiseFrom : ℕ → List ℕ → Type 0
RiseFrom least numbers = Each (λ x. least ≤ x) numbers × EachPair (λ (a b : ℕ). a < b) numbers

rise_more : (a : ℕ) (xs : List ℕ) → Each (λ x. a < x) xs → Each (λ x. a + 1 ≤ x) xs
rise_more a [] h = tt
rise_more a (x ∷ xs) h = (let low = h.0 in omega (arith, low), rise_more a xs h.1)

rise_less : (a : ℕ) (xs : List ℕ) → Each (λ x. a + 1 ≤ x) xs → Each (λ x. a < x) xs
rise_less a [] h = tt
rise_less a (x ∷ xs) h = (let low = h.0 in omega (arith, low), rise_less a xs h.1)

rise_low : (a b : ℕ) (xs : List ℕ) → b ≤ a → Each (λ x. a + 1 ≤ x) xs → Each (λ x. b ≤ x) xs
rise_low a b [] le h = tt
rise_low a b (x ∷ xs) le h = (let low = h.0 in omega (arith, low, le), rise_low a b xs le h.1)

any_default : (xs : List ℕ) (i a b : ℕ) → i < length xs → get_or xs i a ≡ get_or xs i b
any_default xs i a b below = let e : Some (get_or xs i a) ≡ Some (get_or xs i b) = sym (slice_get-get_or xs i a below) ∙ slice_get-get_or xs i b below in cc

pub rise_next : (numbers : List ℕ) (All : Type 0) (i number least : ℕ) → i < length numbers → number ≡ get_or numbers i 0 → least ≤ number
    → (All ↔ RiseFrom least (drop i numbers)) → (All ↔ RiseFrom (number + 1) (drop (i + 1) numbers))
rise_next numbers All i number least below at le left =
    let d = ahead numbers i number below (at ∙ any_default numbers i 0 number below) in (
      (λ all. let f = subst (λ (xs : List ℕ). RiseFrom least xs) d (left.0 all) in (rise_more number (drop (i + 1) numbers) f.1.0, f.1.1)),
      (λ rest. left.1 (subst (λ (xs : List ℕ). RiseFrom least xs) (sym d) ((le, rise_low number least (drop (i + 1) numbers) le rest.0), (rise_less number (drop (i + 1) numbers) rest.0, rest.1)))),
    )

-- Processes.
abbrev pub AreAll : HostRows → List Role → List Process → List Wait → Type 0
AreAll rows processes ps waits = (map is_timed ps ≡ map is_timed_role processes) × AreWaits rows processes waits

pub all_next : (rows : HostRows) (processes : List Role) (ps : List Process) (waits : List Wait) (All : Type 0) (i : ℕ) (role : Role) (p : Process) (w : Wait)
    → i < length processes → role ≡ get_or processes i role → i < length ps → p ≡ get_or ps i p → i < length waits → w ≡ get_or waits i w
    → (is_timed p ≡ is_timed_role role) × IsWaitOf rows role w
    → (All ↔ AreAll rows (drop i processes) (drop i ps) (drop i waits)) → (All ↔ AreAll rows (drop (i + 1) processes) (drop (i + 1) ps) (drop (i + 1) waits))
all_next rows processes ps waits All i role p w b1 e1 b2 e2 b3 e3 fits left =
    let d1 = ahead processes i role b1 e1 in
    let d2 = ahead ps i p b2 e2 in
    let d3 = ahead waits i w b3 e3 in (
      (λ all.
          let f = subst (λ (ws : List Wait). AreAll rows (role ∷ drop (i + 1) processes) (p ∷ drop (i + 1) ps) ws) d3
          (subst (λ (qs : List Process). AreAll rows (role ∷ drop (i + 1) processes) qs (drop i waits)) d2 (subst (λ (rs : List Role). AreAll rows rs (drop i ps) (drop i waits)) d1 (left.0 all))) in
          let g = f.0 in (cc, f.1.1)),
      (λ rest.
          let g : map is_timed (p ∷ drop (i + 1) ps) ≡ map is_timed_role (role ∷ drop (i + 1) processes) = let a = fits.0 in let b = rest.0 in cc in
          left.1 (subst (λ (rs : List Role). AreAll rows rs (drop i ps) (drop i waits)) (sym d1) (subst (λ (qs : List Process). AreAll rows (role ∷ drop (i + 1) processes) qs (drop i waits)) (sym d2)
          (subst (λ (ws : List Wait). AreAll rows (role ∷ drop (i + 1) processes) (p ∷ drop (i + 1) ps) ws) (sym d3) (g, (fits.1, rest.1)))))),
    )

pub all_stops : (rows : HostRows) (processes : List Role) (ps : List Process) (waits : List Wait) (All : Type 0) (i : ℕ) (role : Role) (p : Process) (w : Wait)
    → i < length processes → role ≡ get_or processes i role → i < length ps → p ≡ get_or ps i p → i < length waits → w ≡ get_or waits i w
    → ((is_timed p ≡ is_timed_role role) × IsWaitOf rows role w → ⊥)
    → (All ↔ AreAll rows (drop i processes) (drop i ps) (drop i waits)) → All → ⊥
all_stops rows processes ps waits All i role p w b1 e1 b2 e2 b3 e3 never left all =
    let d1 = ahead processes i role b1 e1 in
    let d2 = ahead ps i p b2 e2 in
    let d3 = ahead waits i w b3 e3 in
    let f = subst (λ (ws : List Wait). AreAll rows (role ∷ drop (i + 1) processes) (p ∷ drop (i + 1) ps) ws) d3
    (subst (λ (qs : List Process). AreAll rows (role ∷ drop (i + 1) processes) qs (drop i waits)) d2 (subst (λ (rs : List Role). AreAll rows rs (drop i ps) (drop i waits)) d1 (left.0 all))) in
    let g = f.0 in never (cc, f.1.0)

pub all_ends : (rows : HostRows) (processes : List Role) (ps : List Process) (waits : List Wait) (All : Type 0) (i : ℕ) → length processes ≤ i → length ps ≤ i → length waits ≤ i
    → (All ↔ AreAll rows (drop i processes) (drop i ps) (drop i waits)) → All
all_ends rows processes ps waits All i b1 b2 b3 left =
    left.1 (subst (λ (rs : List Role). AreAll rows rs (drop i ps) (drop i waits)) (sym (drop_all i processes b1)) (subst (λ (qs : List Process). AreAll rows [] qs (drop i waits)) (sym (drop_all i ps b2))
    (subst (λ (ws : List Wait). AreAll rows [] [] ws) (sym (drop_all i waits b3)) (refl, tt))))

timed_length : (processes : List Role) (ps : List Process) → map is_timed ps ≡ map is_timed_role processes → length ps ≡ length processes
timed_length processes ps e = let l = ap length e in omega (arith, l, length-map ps is_timed, length-map processes is_timed_role)

waits_length : (rows : HostRows) (processes : List Role) (waits : List Wait) → AreWaits rows processes waits → length waits ≡ length processes
waits_length rows [] [] are = refl
waits_length rows [] (w ∷ ws) are = absurd are
waits_length rows (r ∷ rs) [] are = absurd are
waits_length rows (r ∷ rs) (w ∷ ws) are = ap suc (waits_length rows rs ws are.1)

pub all_long : (rows : HostRows) (ps : List Process) (waits : List Wait) → AreAll rows (roles rows) ps waits → (length ps ≡ length rows.ports + 1 + length rows.clients) × (length waits ≡ length rows.ports + 1 + length rows.clients)
all_long rows ps waits all = (timed_length (roles rows) ps all.0 ∙ roles_length rows, waits_length rows (roles rows) waits all.1 ∙ roles_length rows)

-- the process of a number fits, or does not
abbrev pub Tells : HostRows → ℕ → Process → Wait → Bool → Type 0
Tells rows i p w fits = (role : Role) → slice_get (roles rows) i ≡ Some role → IsTrue fits ↔ ((is_timed p ≡ is_timed_role role) × IsWaitOf rows role w)

pub process_next : (rows : HostRows) (ps : List Process) (waits : List Wait) (All : Type 0) (i : ℕ) (p : Process) (w : Wait) (fits : Bool) → length ps ≡ length rows.ports + 1 + length rows.clients
    → i < length ps → p ≡ get_or ps i p → i < length waits → w ≡ get_or waits i w → Tells rows i p w fits → fits ≡ true
    → (All ↔ AreAll rows (drop i (roles rows)) (drop i ps) (drop i waits)) → (All ↔ AreAll rows (drop (i + 1) (roles rows)) (drop (i + 1) ps) (drop (i + 1) waits))
process_next rows ps waits All i p w fits long b2 e2 b3 e3 tells does left =
    let b1 : i < length (roles rows) = omega (arith, roles_length rows, long, b2) in
    let r = has_at (roles rows) i b1 in
    all_next rows (roles rows) ps waits All i r.0 p w b1 (sym (get_or_from_slice_get (roles rows) i r.0 r.0 r.1)) b2 e2 b3 e3 ((tells r.0 r.1).0 does) left

pub process_stops : (rows : HostRows) (ps : List Process) (waits : List Wait) (All : Type 0) (i : ℕ) (p : Process) (w : Wait) (fits : Bool) → length ps ≡ length rows.ports + 1 + length rows.clients
    → i < length ps → p ≡ get_or ps i p → i < length waits → w ≡ get_or waits i w → Tells rows i p w fits → fits ≡ false
    → (All ↔ AreAll rows (drop i (roles rows)) (drop i ps) (drop i waits)) → All → ⊥
process_stops rows ps waits All i p w fits long b2 e2 b3 e3 tells does left all =
    let b1 : i < length (roles rows) = omega (arith, roles_length rows, long, b2) in
    let r = has_at (roles rows) i b1 in
    all_stops rows (roles rows) ps waits All i r.0 p w b1 (sym (get_or_from_slice_get (roles rows) i r.0 r.0 r.1)) b2 e2 b3 e3 (λ is. let yes = (tells r.0 r.1).1 is in cc) left all
