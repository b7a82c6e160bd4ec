use Rattle.std.proofs.Common.{◌≡◌, ◌∙◌, length, ap, arith}
use Rattle.ssf_model.specs.Drafts.{Draft, in_channel_refusal}
use Rattle.host_rules.specs.Hosts.{HostFields}
use Rattle.host_stack.specs.declared.host.Host.{Host}
use Rattle.net_plan.proofs.Adding.{ins_entities, ins_next, memory_alone}
use Rattle.net_plan.proofs.building.add_ins.Goals as goal

pub in_channel-requires-after_bounds : goal.in_channel-requires-after_bounds
in_channel-requires-after_bounds c κs =
    let same : length c.loop-channel.builder.entities ≡ length c.args.builder.now.entities =
    ap (λ (d : Draft Host HostFields). length d.entities) c.loop-channel.invariant ∙ ins_entities c.args.builder.now c.args.host c.loop-channel._channel in
    omega (arith, same, c.requires.host)

pub want_of_memory-requires : goal.want_of_memory-requires
want_of_memory-requires c =
    memory_alone (in_channel_refusal c.loop-channel.builder) c.in-Err.fault
    (ap (λ (d : Draft Host HostFields). in_channel_refusal d) c.loop-channel.invariant ∙ c.requires.fits c.loop-channel._channel c.loop-channel-test.true) c.in-Err.ensures.cause
