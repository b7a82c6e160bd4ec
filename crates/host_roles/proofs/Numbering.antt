-- The role of a process by its number.
use Rattle.std.proofs.Common.{◌≡◌, ◌∙◌, ℕ, suc, zero, ◌+◌, ◌-◌, ◌<◌, ◌≤◌, Bool, true, false, not, List, [], ◌∷◌, ◌++◌, map, length, get_or, Option, Some, None, refl, sym, ap, subst, inl, inr, arith}
use Rattle.std.specs.Prelude.{slice_get}
use Rattle.std.proofs.lemmas.List.{length-map, length-append}
use Rattle.std.proofs.lemmas.Bool.{cases_eq}
use Rattle.std.proofs.lemmas.Option.{slice_get-get_or, slice_get_past}
use Rattle.sim_base.specs.declared.records.ClientRow.{ClientRow}
use Rattle.host_rules.specs.declared.rows.HostRows.{HostRows}
use Rattle.host_rules.specs.declared.rows.HostPort.{HostPort}
use Rattle.host_rules.specs.Reacting.{Role, Receiver as ReceiverRole, Clock as ClockRole, Client as ClientRole, roles, clients_from, is_timed_role}
use Rattle.host_roles.specs.declared.roles.Process.TheVariants.{Receiver, Clock, Client}
use Rattle.host_roles.specs.Processes.{IsRoleOf}

-- Lists.
pub has_at : {X : Type 0} (xs : List X) (i : ℕ) → i < length xs → (x : X) × (slice_get xs i ≡ Some x)
has_at [] i below = absurd (omega (arith, below))
has_at (x ∷ xs) zero below = (x, refl)
has_at (x ∷ xs) (suc i) below = has_at xs i (omega (arith, below))

first_at : {X Y : Type 0} (f : X → Y) (xs : List X) (ys : List Y) (i : ℕ) (x : X) → slice_get xs i ≡ Some x → slice_get (map f xs ++ ys) i ≡ Some (f x)
first_at f [] ys i x at = absurd (cc)
first_at {X} f (y ∷ xs) ys zero x at = let e : y ≡ x = cc in ap (λ (z : X). Some (f z)) e
first_at f (y ∷ xs) ys (suc i) x at = first_at f xs ys i x at

behind_at : {X Y : Type 0} (f : X → Y) (xs : List X) (ys : List Y) (i k : ℕ) → i ≡ length xs + k → slice_get (map f xs ++ ys) i ≡ slice_get ys k
behind_at f [] ys i k e = let n : i ≡ k = omega (arith, e) in ap (slice_get ys) n
behind_at f (x ∷ xs) ys zero k e = absurd (omega (arith, e))
behind_at f (x ∷ xs) ys (suc i) k e = behind_at f xs ys i k (omega (arith, e))

client_from : (first : ℕ) (rows : List ClientRow) (k : ℕ) (row : ClientRow) → slice_get rows k ≡ Some row → slice_get (clients_from first rows) k ≡ Some (ClientRole (first + k) row)
client_from first [] k row at = absurd (cc)
client_from first (other ∷ rows) zero row at =
    let e : other ≡ row = cc in
    let n : first ≡ first + 0 = omega arith in
    ap (λ (r : ClientRow). Some (ClientRole first r)) e ∙ ap (λ (m : ℕ). Some (ClientRole m row)) n
client_from first (other ∷ rows) (suc k) row at =
    let n : (first + 1) + k ≡ first + suc k = omega arith in
    client_from (first + 1) rows k row at ∙ ap (λ (m : ℕ). Some (ClientRole m row)) n

clients_length : (first : ℕ) (rows : List ClientRow) → length (clients_from first rows) ≡ length rows
clients_length first [] = refl
clients_length first (row ∷ rows) = ap suc (clients_length (first + 1) rows)

-- Roles by their numbers.
pub roles_length : (rows : HostRows) → length (roles rows) ≡ length rows.ports + 1 + length rows.clients
roles_length rows =
    omega (arith, length-append (map ReceiverRole rows.ports) (ClockRole ∷ clients_from 0 rows.clients), length-map rows.ports ReceiverRole, clients_length 0 rows.clients)

pub at_port : (rows : HostRows) (i : ℕ) (port : HostPort) → slice_get rows.ports i ≡ Some port → slice_get (roles rows) i ≡ Some (ReceiverRole port)
at_port rows i port at = first_at ReceiverRole rows.ports (ClockRole ∷ clients_from 0 rows.clients) i port at

pub at_clock : (rows : HostRows) (i : ℕ) → i ≡ length rows.ports → slice_get (roles rows) i ≡ Some ClockRole
at_clock rows i e = behind_at ReceiverRole rows.ports (ClockRole ∷ clients_from 0 rows.clients) i 0 (omega (arith, e))

pub at_client : (rows : HostRows) (i k : ℕ) (row : ClientRow) → i ≡ length rows.ports + suc k → slice_get rows.clients k ≡ Some row → slice_get (roles rows) i ≡ Some (ClientRole k row)
at_client rows i k row e at =
    let n : 0 + k ≡ k = omega arith in
    behind_at ReceiverRole rows.ports (ClockRole ∷ clients_from 0 rows.clients) i (suc k) e ∙ client_from 0 rows.clients k row at ∙ ap (λ (m : ℕ). Some (ClientRole m row)) n

-- Processes by their numbers.
pub role_of_port : (rows : HostRows) (i : ℕ) → i < length rows.ports → IsRoleOf rows (Some (Receiver i)) (slice_get (roles rows) i)
role_of_port rows i below =
    let p = has_at rows.ports i below in
    subst (λ (o : Option Role). IsRoleOf rows (Some (Receiver i)) o) (sym (at_port rows i p.0 p.1)) p.1

pub role_of_clock : (rows : HostRows) (i : ℕ) → i ≡ length rows.ports → IsRoleOf rows (Some Clock) (slice_get (roles rows) i)
role_of_clock rows i e = subst (λ (o : Option Role). IsRoleOf rows (Some Clock) o) (sym (at_clock rows i e)) tt

pub role_of_client : (rows : HostRows) (i k : ℕ) → i ≡ length rows.ports + 1 + k → k < length rows.clients → IsRoleOf rows (Some (Client k)) (slice_get (roles rows) i)
role_of_client rows i k e below =
    let c = has_at rows.clients k below in
    let n : i ≡ length rows.ports + suc k = omega (arith, e) in
    subst (λ (o : Option Role). IsRoleOf rows (Some (Client k)) o) (sym (at_client rows i k c.0 n c.1)) (refl, c.1)

pub role_of_none : (rows : HostRows) (i : ℕ) → length rows.ports + 1 + length rows.clients ≤ i → IsRoleOf rows None (slice_get (roles rows) i)
role_of_none rows i past = subst (λ (o : Option Role). IsRoleOf rows None o) (sym (slice_get_past (roles rows) i (omega (arith, roles_length rows, past)))) tt

-- The role of a number that a process has.
pub true_of : (b : Bool) → not b ≡ false → b ≡ true
true_of true e = refl
true_of false e = cc

pub port_role : (rows : HostRows) (i : ℕ) (port : HostPort) (role : Role) → i < length rows.ports → port ≡ get_or rows.ports i port → slice_get (roles rows) i ≡ Some role → role ≡ ReceiverRole port
port_role rows i port role below here at =
    let there : slice_get rows.ports i ≡ Some port = slice_get-get_or rows.ports i port below ∙ ap Some (sym here) in
    let same : Some role ≡ Some (ReceiverRole port) = sym at ∙ at_port rows i port there in
    cc

pub clock_role : (rows : HostRows) (i : ℕ) (role : Role) → i ≡ length rows.ports → slice_get (roles rows) i ≡ Some role → role ≡ ClockRole
clock_role rows i role e at = let same : Some role ≡ Some ClockRole = sym at ∙ at_clock rows i e in cc

pub record IsClientOf (role : Role) : Type 0 where
  pub client : ℕ
  pub row : ClientRow
  pub is : role ≡ ClientRole client row

client_of : (first : ℕ) (rows : List ClientRow) (k : ℕ) (role : Role) → slice_get (clients_from first rows) k ≡ Some role → IsClientOf role
client_of first [] k role at = absurd (cc)
client_of first (row ∷ rows) zero role at = record { client = first; row = row; is = let e : ClientRole first row ≡ role = cc in sym e }
client_of first (row ∷ rows) (suc k) role at = client_of (first + 1) rows k role at

pub client_role : (rows : HostRows) (i : ℕ) (role : Role) → length rows.ports < i → slice_get (roles rows) i ≡ Some role → IsClientOf role
client_role rows i role past at =
    let k = i - (length rows.ports + 1) in
    let e : i ≡ length rows.ports + suc k = omega (arith, past) in
    client_of 0 rows.clients k role (sym (behind_at ReceiverRole rows.ports (ClockRole ∷ clients_from 0 rows.clients) i (suc k) e) ∙ at)

pub timed_below : (rows : HostRows) (i : ℕ) (role : Role) → i < length rows.ports → slice_get (roles rows) i ≡ Some role → is_timed_role role ≡ false
timed_below rows i role below at =
    let p = has_at rows.ports i below in
    let same : Some role ≡ Some (ReceiverRole p.0) = sym at ∙ at_port rows i p.0 p.1 in
    let e : role ≡ ReceiverRole p.0 = cc in
    ap is_timed_role e

pub timed_past : (rows : HostRows) (i : ℕ) (role : Role) → length rows.ports ≤ i → slice_get (roles rows) i ≡ Some role → is_timed_role role ≡ true
timed_past rows i role past at =
    elim (cases_eq i (length rows.ports)) [
      | inl e ↦ ap is_timed_role (clock_role rows i role e at)
      | inr differ ↦ let c = client_role rows i role (omega (arith, past, differ)) at in ap is_timed_role c.is
    ]
