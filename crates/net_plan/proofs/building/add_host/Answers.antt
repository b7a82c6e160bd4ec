use Rattle.std.proofs.Common.{◌≡◌, ◌∙◌, ◌+◌, ◌<◌, ◌≤◌, ◌++◌, ◌∷◌, [], replicate, true, false, Bool, List, length, ap, subst, sym, arith, length-append}
use Rattle.std.proofs.lemmas.Result.{IfOk-weaker}
use Rattle.ssf_model.specs.declared.builder.DraftEntity.{DraftEntity}
use Rattle.ssf_model.specs.Drafts.{Draft, entity_refusal, in_channel_refusal, with_entity}
use Rattle.host_rules.specs.declared.rows.HostRows.{HostRows}
use Rattle.host_rules.specs.Hosts.{HostFields, first_host}
use Rattle.host_stack.specs.declared.host.Host.{Host}
use Rattle.net_layout.specs.Ports.{port_count}
use Rattle.net_layout.specs.Sessions.{timed_of}
use Rattle.net_plan.specs.NetDraft.{with_ins}
use Rattle.net_plan.proofs.Adding.{flags_are, flags_few, ports_are, rows_lawful, hosts_count, entity_fits, ins_fit, host_next, memory_alone}
use Rattle.net_plan.proofs.building.add_host.Goals as goal

pub new-requires : goal.new-requires
new-requires c = rows_lawful c.args.network.now c.args.host c.args.rows c.requires.network c.requires.limits c.requires.host c.requires.rows

pub entity-requires-after_bounds : goal.entity-requires-after_bounds
entity-requires-after_bounds c κs =
    let flags : c.as_slice.result.now ≡ timed_of c.args.network.now c.args.host =
    c.as_slice.ensures.value ∙ c.in_ok-timed.ensures ∙ ap (λ n. replicate n false ++ true ∷ replicate c.len.result true) c.len-ports.ensures
    ∙ ap (λ n. replicate (length c.args.rows.ports) false ++ true ∷ replicate n true) c.len.ensures ∙ flags_are c.args.network.now c.args.host c.args.rows c.requires.rows in
    subst (λ (ts : List Bool). length ts < 4294967296) (sym flags) (let few = flags_few c.args.network.now c.args.host c.requires.network in omega (arith, few))

pub want_of_memory-requires : goal.want_of_memory-requires
want_of_memory-requires c =
    let flags : c.as_slice.result.now ≡ timed_of c.args.network.now c.args.host =
    c.as_slice.ensures.value ∙ c.in_ok-timed.ensures ∙ ap (λ n. replicate n false ++ true ∷ replicate c.len.result true) c.len-ports.ensures
    ∙ ap (λ n. replicate (length c.args.rows.ports) false ++ true ∷ replicate n true) c.len.ensures ∙ flags_are c.args.network.now c.args.host c.args.rows c.requires.rows in
    memory_alone (entity_refusal c.args.builder.now c.as_slice.result.now) c.in-Err.fault
    (ap (λ (ts : List Bool). entity_refusal c.args.builder.now ts) flags ∙ entity_fits c.args.network.now c.args.host c.args.rows c.args.builder.now c.requires.network c.requires.rows c.requires.before c.requires.limits c.requires.host)
    c.in-Err.ensures.cause

pub add_ins-requires-clause-host : goal.add_ins-requires-clause-host
add_ins-requires-clause-host c =
    let made : length c.entity.new.self.entities ≡ length (with_entity c.args.builder.now c.in_ok-state.state c.as_slice.result.now).entities = ap (λ (d : Draft Host HostFields). length d.entities) c.in-Ok.ensures.made.2 in
    let before = hosts_count c.args.network.now c.args.host 0 c.args.builder.now c.requires.before in
    let more = length-append c.args.builder.now.entities ((let e : DraftEntity HostFields = record { state = c.in_ok-state.state; timed = c.as_slice.result.now; in_channels = []; out_channels = [] } in e) ∷ []) in
    omega (arith, made, before, more)

pub add_ins-requires-clause-fits : goal.add_ins-requires-clause-fits
add_ins-requires-clause-fits c = λ n lt.
    let ports = ports_are c.args.network.now c.args.host c.args.rows c.requires.rows in
    let few : n ≤ port_count c.args.network.now c.args.host = omega (arith, lt, ports, c.len-ports.ensures) in
    ap (λ (d : Draft Host HostFields). in_channel_refusal (with_ins d c.args.host n)) (c.in-Ok.ensures.made.2 ∙ ap (λ (s : HostFields). with_entity c.args.builder.now s c.as_slice.result.now) c.in_ok-state.ensures ∙ ap (λ (ts : List Bool). with_entity c.args.builder.now (first_host c.args.rows) ts) (c.as_slice.ensures.value ∙ c.in_ok-timed.ensures ∙ ap (λ n. replicate n false ++ true ∷ replicate c.len.result true) c.len-ports.ensures ∙ ap (λ n. replicate (length c.args.rows.ports) false ++ true ∷ replicate n true) c.len.ensures ∙ flags_are c.args.network.now c.args.host c.args.rows c.requires.rows)) ∙ ins_fit c.args.network.now c.args.host c.args.rows c.args.builder.now c.requires.network c.requires.rows c.requires.before n c.requires.host few

pub returns : goal.returns
returns c =
    let ports = ports_are c.args.network.now c.args.host c.args.rows c.requires.rows in
    let count : c.len-ports.result + 1 ≡ port_count c.args.network.now c.args.host + 1 = omega (arith, ports, c.len-ports.ensures) in
    IfOk-weaker c.add_ins.result _ _ (λ _ made. host_next c.args.network.now c.args.host c.args.rows c.args.builder.now c.requires.network c.requires.rows c.requires.before c.add_ins.new.builder
    (made ∙ ap (λ (d : Draft Host HostFields). with_ins d c.args.host (c.len-ports.result + 1)) (c.in-Ok.ensures.made.2 ∙ ap (λ (s : HostFields). with_entity c.args.builder.now s c.as_slice.result.now) c.in_ok-state.ensures ∙ ap (λ (ts : List Bool). with_entity c.args.builder.now (first_host c.args.rows) ts) (c.as_slice.ensures.value ∙ c.in_ok-timed.ensures ∙ ap (λ n. replicate n false ++ true ∷ replicate c.len.result true) c.len-ports.ensures ∙ ap (λ n. replicate (length c.args.rows.ports) false ++ true ∷ replicate n true) c.len.ensures ∙ flags_are c.args.network.now c.args.host c.args.rows c.requires.rows)) ∙ ap (λ n. with_ins (with_entity c.args.builder.now (first_host c.args.rows) (timed_of c.args.network.now c.args.host)) c.args.host n) count)) c.add_ins.ensures
