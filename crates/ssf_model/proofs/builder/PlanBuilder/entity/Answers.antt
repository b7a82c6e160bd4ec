use Rattle.std.proofs.Common.{◌≡◌, ◌+◌, ◌-◌, ◌≤◌, ◌∙◌, sym, ap, arith}
use Rattle.ssf_model.specs.Drafts.{Draft, MostChannels, channels_of, timers}
use Rattle.ssf_model.proofs.Owning.{kept_entity}
use Rattle.ssf_model.proofs.builder.PlanBuilder.entity.Goals as goal

pub invariant_of-self : goal.invariant_of-self
invariant_of-self g c =
    let d : Draft _ _ = record {
      behaviour = c.self.inside.behaviour;
      entities = c.self.inside.entities.items;
      in_owners = c.self.inside.in_owners.items;
      outs = c.self.inside.outs.items;
      mappings = c.self.inside.mappings.items;
    } in
    let count : c.channels.result ≡ channels_of d = c.channels.ensures.count ∙ ap (λ (x : Draft _ _). channels_of x) (sym c.self.view_is) in
    let new_timers : c.count_timed-new_timers.result ≡ timers c.args.timed.now = c.count_timed-new_timers.ensures in
    let room : c.count_timed-new_timers.result + 1 ≤ MostChannels - c.channels.result = omega arith in
    kept_entity c.self.inside.timers (c.self.inside.timers + c.count_timed-new_timers.result) d c.args.state c.args.timed.now c.from_vec.result c.new.result c.new-2.result c.push.new.self.items
    (omega arith) (omega arith) (omega arith) (c.from_vec.ensures ∙ c.in-Ok.ensures.items) c.new.ensures c.new-2.ensures c.in-Ok-push.ensures.items c.self.invariant
