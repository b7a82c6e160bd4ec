-- A host is valid before its first event.
use Rattle.std.proofs.Common.{ℕ, zero, suc, ◌+◌, ◌-◌, ◌*◌, ◌/◌, ◌%◌, ◌^◌, ◌<◌, ◌≤◌, Bool, List, [], ◌∷◌, length, map, replicate, nat_eq, refl, subst, sym, arith}
use Rattle.std.specs.Prelude.{slice_index_or}
use Rattle.std.specs.Int.{w32, rotate_right}
use Rattle.std.proofs.lemmas.Nat.{or_of_32}
use Rattle.std.proofs.lemmas.List.{length-map, length-replicate}
use Rattle.std.proofs.Math.Nat.{div-le_self, mod-lt, mul-le-mul_right}
use Rattle.sim_base.specs.declared.records.ClientRow.{ClientRow}
use Rattle.rand_pcg.specs.Lcg.{Lcg}
use Rattle.rand_pcg.specs.Pcg.{pcg32, pcg32_of_seed}
use Rattle.rand_core.specs.Pcg32Seed.{pcg32_seed}
use Rattle.traffic.specs.Progress.{at_first}
use Rattle.traffic.specs.Starts.{start_of, drawn_start}
use Rattle.ssf_model.specs.declared.wait.Wait.{Wait}
use Rattle.ssf_model.specs.declared.wait.Wait.TheVariants.{Forever}
use Rattle.ssf_model.specs.Reaction.{Each, LongestDelay}
use Rattle.host_rules.specs.declared.rows.HostRows.{HostRows}
use Rattle.host_rules.specs.declared.rows.HostPort.{HostPort}
use Rattle.host_rules.specs.Hosts.{starts_from, starts_of, idle_interface, first_stack, first_host}
use Rattle.host_rules.specs.Reacting.{Role, Receiver, Clock, Client, roles, is_timed_role}
use Rattle.host_rules.specs.Limits.{AreRows, IsTimedClient, AreWaits, IsPlaced, AreInterfaces, IsStack, IsHost}
use Rattle.host_rules.proofs.Listing.{if_case}

-- Random starts lie in their windows.
rotated_low : (n by : ℕ) → n < 2 ^ 32 → rotate_right w32 n by < 2 ^ 32
rotated_low n by low =
    let moved = n * 2 ^ ((32 - by % 32) % 32) in
    let some : 0 < 2 ^ 32 = omega arith in
    let front = div-le_self n (2 ^ (by % 32)) in
    or_of_32 (n / 2 ^ (by % 32)) (moved % 2 ^ 32) (omega (arith, front, low)) (mod-lt moved some)

word_low : (generator : Lcg) → (pcg32 generator).0 < 2 ^ 32
word_low generator =
    let some : 0 < 2 ^ 32 = omega arith in
    rotated_low _ (generator.state / 2 ^ 59) (mod-lt _ some)

start_low : (start window word : ℕ) → word < 2 ^ 32 → start_of start window word ≤ start + window
start_low start window word low =
    let product : word * (window + 1) ≤ 4294967295 * (window + 1) = mul-le-mul_right (window + 1) (omega (arith, low)) in omega (arith, product)

drawn_low : (generator : Lcg) (start window : ℕ) → (drawn_start generator start window).0 ≤ start + window
unfolding drawn_start
drawn_low generator start window =
    if_case (λ (p : ℕ × Lcg). p.0 ≤ start + window) (nat_eq window 0) (λ e. omega arith)
    (λ e. start_low start window (pcg32 generator).0 (word_low generator))

starts_low : (generator : Lcg) (clients : List ClientRow) → Each IsTimedClient clients → Each (λ start. start ≤ LongestDelay) (starts_from generator clients)
starts_low generator [] are = tt
starts_low generator (client ∷ clients) are =
    let within = are.0.start in
    let drawn = drawn_low generator client.start client.window in
    (omega (arith, within, drawn), starts_low (drawn_start generator client.start client.window).1 clients are.1)

starts_of_low : (rows : HostRows) → AreRows rows → Each (λ start. start ≤ LongestDelay) (starts_of rows)
unfolding starts_of
starts_of_low rows ranges = starts_low (pcg32_of_seed (pcg32_seed 16 rows.number)) rows.clients ranges.clients

-- What a host keeps is in range.
idle_are : (frequency : ℕ) (ports : List HostPort) → AreInterfaces frequency ports (map (idle_interface frequency) ports)
idle_are frequency [] = tt
idle_are frequency (port ∷ ports) = (record { bitrate = refl; frequency_is = refl; buffer = refl; soon = omega arith }, idle_are frequency ports)

none_given : (n servers : ℕ) (k d : ℕ) → k < length {A = ℕ} (replicate n 0) → slice_index_or {A = ℕ} (replicate n 0) k d ≤ servers
none_given zero servers k d below = absurd (omega (arith, below))
none_given (suc n) servers zero d below = omega arith
none_given (suc n) servers (suc k) d below = none_given n servers k d (omega (arith, below))

first_stack_is : (rows : HostRows) → IsStack rows (first_stack rows)
unfolding at_first
first_stack_is rows = record {
  interfaces = idle_are rows.tcp.frequency rows.ports;
  servers = refl;
  progress = record { given = λ k d below. none_given (length rows.clients) (length rows.servers) k d below };
  given = length-replicate (length rows.clients) 0;
  left = length-replicate (length rows.clients) 0;
  opened = omega arith;
  entries = tt;
  order = tt;
  accepted = omega arith;
  few = omega arith;
}

pub first_valid : (rows : HostRows) (ins outs : List ℕ) (timed : List Bool) (waits : List Wait) → AreRows rows → IsPlaced rows ins outs timed waits → IsHost (first_host rows) ins outs timed waits
first_valid rows ins outs timed waits ranges placed =
    record { rows = ranges; placed = placed; starts = starts_of_low rows ranges; stack = first_stack_is rows }

-- Waits for nothing are those of any processes.
all_forever : (rows : HostRows) (processes : List Role) → AreWaits rows processes (replicate (length processes) Forever)
all_forever rows [] = tt
all_forever rows (Receiver port ∷ others) = (tt, all_forever rows others)
all_forever rows (Clock ∷ others) = (tt, all_forever rows others)
all_forever rows (Client client row ∷ others) = (tt, all_forever rows others)

pub forever_are : (rows : HostRows) → AreWaits rows (roles rows) (replicate (length (map is_timed_role (roles rows))) Forever)
forever_are rows = subst (λ (n : ℕ). AreWaits rows (roles rows) (replicate n Forever)) (sym (length-map (roles rows) is_timed_role)) (all_forever rows (roles rows))
