use Rattle.std.proofs.Common.{◌≡◌, ◌+◌, ◌<◌, ◌≤◌, true, false, length, refl, ap, arith}
use Rattle.host_rules.specs.Reacting.{roles}
use Rattle.host_roles.proofs.Numbering.{roles_length}
use Rattle.host_roles.proofs.Placing.{AreAll, process_next, process_stops, all_ends, all_long}
use Rattle.host_roles.proofs.placed.are_processes.Goals.{then-processes-count-via-then-processes-count, then-processes-count-via-else-processes-count+then-waits-count}
use Rattle.host_roles.proofs.placed.are_processes.Goals as goal

pub returns-then-processes-count : goal.returns-then-processes-count
returns-then-processes-count c =
    let p = ap length c.as_slice.ensures in
    let q = ap length c.as_slice-2.ensures in (
      (λ h. absurd (cc)),
      (λ all.
          let long = all_long c.args.rows.now c.args.processes.now c.args.waits.now all in
          let first = long.0 in
          let second = long.1 in
          elim c.then-processes-count.branch [
            | then-processes-count-via-then-processes-count w ↦ absurd (omega (arith, p, q, first, w.if-processes-count))
            | then-processes-count-via-else-processes-count+then-waits-count w ↦ absurd (omega (arith, p, q, second, w.if-waits-count))
          ]),
    )

pub returns-then-not-is_process : goal.returns-then-not-is_process
returns-then-not-is_process c =
    let p = ap length c.as_slice.ensures in
    let q = ap length c.as_slice-2.ensures in
    let long : length c.args.processes.now ≡ length c.args.rows.now.ports + 1 + length c.args.rows.now.clients = omega (arith, p, q) in
    let within : c.loop-index.index < length c.args.waits.now = omega (arith, p, q) in
    let off : c.is_process.result ≡ false = cc in (
      (λ h. absurd (cc)),
      (λ all. absurd (process_stops c.args.rows.now c.args.processes.now c.args.waits.now (AreAll c.args.rows.now (roles c.args.rows.now) c.args.processes.now c.args.waits.now) c.loop-index.index
          c.index-processes-index.result c.index-waits-index.result c.is_process.result long c.loop-index-test.true c.index-processes-index.is within c.index-waits-index.is c.is_process.ensures off c.loop-index.invariant all)),
    )

pub loop-index-preserved : goal.loop-index-preserved
loop-index-preserved c =
    let p = ap length c.as_slice.ensures in
    let q = ap length c.as_slice-2.ensures in
    let long : length c.args.processes.now ≡ length c.args.rows.now.ports + 1 + length c.args.rows.now.clients = omega (arith, p, q) in
    let within : c.loop-index.index < length c.args.waits.now = omega (arith, p, q) in
    let on : c.is_process.result ≡ true = cc in
    process_next c.args.rows.now c.args.processes.now c.args.waits.now (AreAll c.args.rows.now (roles c.args.rows.now) c.args.processes.now c.args.waits.now) c.loop-index.index
    c.index-processes-index.result c.index-waits-index.result c.is_process.result long c.loop-index-test.true c.index-processes-index.is within c.index-waits-index.is c.is_process.ensures on c.loop-index.invariant

pub returns : goal.returns
returns c =
    let p = ap length c.as_slice.ensures in
    let q = ap length c.as_slice-2.ensures in
    let all = roles_length c.args.rows.now in
    let past : length c.args.processes.now ≤ c.loop-index.index = c.loop-index-test.false in (
      (λ _. all_ends c.args.rows.now (roles c.args.rows.now) c.args.processes.now c.args.waits.now (AreAll c.args.rows.now (roles c.args.rows.now) c.args.processes.now c.args.waits.now) c.loop-index.index
          (omega (arith, p, q, all)) past (omega (arith, p, q)) c.loop-index.invariant),
      (λ _. refl),
    )
