use Rattle.std.proofs.Common.{◌≡◌, ◌≤◌, [], length, replicate, refl, ap, ◌∙◌, arith}
use Rattle.std.specs.List.{flat_map, enumerate_from}
use Rattle.std.proofs.lemmas.List.FromFn.{length-enumerate_from}
use Rattle.net_layout.specs.Wiring.{wires_of}
use Rattle.net_layout.specs.Ports.{outs_of, out_by}
use Rattle.net_layout.proofs.Gathering.{gathered_none, gathered_all, lists_are}
use Rattle.net_layout.proofs.host_ports.outs.Goals as goal

pub loop-number-init : goal.loop-number-init
loop-number-init c =
    gathered_none (λ i. flat_map (out_by c.args.network.now i)) (length c.args.network.now.interfaces) c.in_ok-outs.outs.items (λ h. refl) (c.in_ok-outs.ensures ∙ ap (λ n. replicate n []) c.len.ensures)

pub returns : goal.returns
unfolding outs_of
returns c =
    let all : ◌≡◌ {A = _} c.in_ok-joined.joined.items (wires_of c.args.network.now) = c.in_ok-joined.ensures.wires in
    let end : length (enumerate_from 0 (wires_of c.args.network.now)) ≤ c.loop-number.number = omega (arith, length-enumerate_from 0 (wires_of c.args.network.now), ap length all) in
    lists_are (λ i. flat_map (out_by c.args.network.now i)) (length c.args.network.now.interfaces) (enumerate_from 0 (wires_of c.args.network.now)) c.loop-number.outs.items
    (gathered_all (λ i. flat_map (out_by c.args.network.now i)) (length c.args.network.now.interfaces) (enumerate_from 0 (wires_of c.args.network.now)) c.loop-number.outs.items c.loop-number.number end c.loop-number.invariant)
