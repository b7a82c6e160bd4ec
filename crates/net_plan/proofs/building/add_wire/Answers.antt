use Rattle.std.proofs.Common.{◌≡◌, ◌∙◌, ap}
use Rattle.ssf_model.specs.Drafts.{Draft, out_channel_refusal, mapping_refusal, with_mapping}
use Rattle.host_rules.specs.Hosts.{HostFields}
use Rattle.host_stack.specs.declared.host.Host.{Host}
use Rattle.net_plan.proofs.Adding.{out_may, mapping_may, sender_there, wire_next, memory_alone}
use Rattle.net_plan.proofs.building.add_wire.Goals as goal

pub out_channel-requires-after_bounds : goal.out_channel-requires-after_bounds
out_channel-requires-after_bounds c κs =
    sender_there c.args.network.now c.args.number c.args.wire c.args.builder.now c.requires.network c.requires.limits c.requires.wire c.requires.before

pub want_of_memory-requires : goal.want_of_memory-requires
want_of_memory-requires c =
    memory_alone (out_channel_refusal c.args.builder.now c.args.wire.latency) c.in-Err.fault
    (out_may c.args.network.now c.args.number c.args.wire c.args.builder.now c.requires.network c.requires.limits c.requires.wire c.requires.before) c.in-Err.ensures.cause

pub want_of_memory-requires-in-Err-mapto_at : goal.want_of_memory-requires-in-Err-mapto_at
want_of_memory-requires-in-Err-mapto_at c =
    memory_alone (mapping_refusal c.out_channel.new.self c.args.number c.args.wire.in_channel c.args.wire.delay) c.in-Err-mapto_at.fault
    (ap (λ (d : Draft Host HostFields). mapping_refusal d c.args.number c.args.wire.in_channel c.args.wire.delay) c.in-Ok.ensures.made.2
    ∙ mapping_may c.args.network.now c.args.number c.args.wire c.args.builder.now c.requires.network c.requires.limits c.requires.wire c.requires.before) c.in-Err-mapto_at.ensures.cause

pub returns-in-Ok-mapto_at : goal.returns-in-Ok-mapto_at
returns-in-Ok-mapto_at c =
    wire_next c.args.network.now c.args.number c.args.wire c.args.builder.now c.requires.network c.requires.limits c.requires.wire c.requires.before c.mapto_at.new.self
    (c.in-Ok-mapto_at.ensures.made.2 ∙ ap (λ (d : Draft Host HostFields). with_mapping d c.args.number c.args.wire.in_channel c.args.wire.delay c.args.wire.priority) c.in-Ok.ensures.made.2)
