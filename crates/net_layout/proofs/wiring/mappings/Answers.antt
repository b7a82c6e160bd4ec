use Rattle.std.proofs.Common.{◌≡◌, ◌∙◌, ap, length}
use Rattle.std.proofs.lemmas.List.Elements.{All-same}
use Rattle.net_layout.proofs.Ends.{Maps, mappings_map}
use Rattle.net_layout.specs.Wiring.{mappings_from, mappings_of, wires_of}
use Rattle.net_layout.proofs.Joining.{no_wire, mapped_more, mapped_all}
use Rattle.net_layout.proofs.wiring.mappings.Goals as goal

pub loop-number-init : goal.loop-number-init
loop-number-init c = rw c.new-mappings.ensures.items

pub loop-number-preserved : goal.loop-number-preserved
loop-number-preserved c =
    rw (c.in_ok-push.ensures.items, c.mapping.ensures)
    (mapped_more c.first_channel-first.result c.as_slice-rows.result.now c.loop-number.number c.loop-number.mappings.items no_wire c.loop-number-test.true c.loop-number.invariant)

pub returns-clause-mappings : goal.returns-clause-mappings
unfolding mappings_of
returns-clause-mappings c =
    mapped_all c.first_channel-first.result c.as_slice-rows.result.now c.loop-number.number c.loop-number.mappings.items c.loop-number-test.false c.loop-number.invariant
    ∙ ap (λ ws. mappings_from c.first_channel-first.result 0 ws) (c.as_slice-rows.ensures.value ∙ c.in_ok-joined.ensures.wires)
    ∙ ap (λ n. mappings_from n 0 (wires_of c.args.network.now)) c.first_channel-first.ensures.first

pub returns-clause-ends : goal.returns-clause-ends
unfolding mappings_of
returns-clause-ends c =
    let all : c.loop-number.mappings.items ≡ mappings_of c.args.network.now =
    mapped_all c.first_channel-first.result c.as_slice-rows.result.now c.loop-number.number c.loop-number.mappings.items c.loop-number-test.false c.loop-number.invariant
    ∙ ap (λ ws. mappings_from c.first_channel-first.result 0 ws) (c.as_slice-rows.ensures.value ∙ c.in_ok-joined.ensures.wires)
    ∙ ap (λ n. mappings_from n 0 (wires_of c.args.network.now)) c.first_channel-first.ensures.first in
    All-same (Maps (length c.args.network.now.hosts)) c.loop-number.mappings.items (mappings_of c.args.network.now) all (mappings_map c.args.network.now c.requires.network)
