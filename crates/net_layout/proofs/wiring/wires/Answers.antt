use Rattle.std.proofs.Common.{◌≡◌, ◌∙◌, ◌++◌, ap, map, length, arith}
use Rattle.std.specs.List.{flat_map}
use Rattle.std.proofs.lemmas.List.Elements.{All-same}
use Rattle.net_graph.specs.Networks.{numbers}
use Rattle.net_layout.specs.Wiring.{poke_wire, wires_of_link, wires_of, IsShortWire}
use Rattle.net_layout.proofs.Numbered.{flat_map_next}
use Rattle.net_layout.proofs.Joining.{wires_short}
use Rattle.net_layout.proofs.wiring.wires.Goals as goal

pub loop-link-preserved : goal.loop-link-preserved
loop-link-preserved c =
    c.in_ok-push_link.ensures
    ∙ flat_map_next (wires_of_link c.args.network.now) (map (poke_wire c.args.network.now) (numbers (length c.args.network.now.hosts))) c.loop-link.wires.items c.loop-link.link c.loop-link.invariant

pub returns-clause-short : goal.returns-clause-short
unfolding wires_of
returns-clause-short c =
    let end : c.loop-link.link ≡ length c.args.network.now.links = omega arith in
    let all : c.loop-link.wires.items ≡ wires_of c.args.network.now =
    c.loop-link.invariant ∙ ap (λ n. map (poke_wire c.args.network.now) (numbers (length c.args.network.now.hosts)) ++ flat_map (wires_of_link c.args.network.now) (numbers n)) end in
    All-same IsShortWire c.loop-link.wires.items (wires_of c.args.network.now) all (wires_short c.args.network.now c.requires)
