use Rattle.std.proofs.Common.{◌≡◌, List, [], ◌∷◌, sym, ap, ◌∙◌, subst, map}
use Rattle.std.specs.List.{flat_map}
use Rattle.std.specs.Result.{OnOk}
use Rattle.std.proofs.lemmas.List.Concat.{flat_map_single}
use Rattle.ssf_model.specs.declared.plan.Mapping.{Mapping}
use Rattle.ssf_model.specs.declared.process.Process.{Process}
use Rattle.ssf_model.specs.declared.out.Written.{Written}
use Rattle.ssf_model.specs.declared.out.Written.TheVariants.{Channel}
use Rattle.ssf_model.specs.Channels.{Sent, message, sent}
use Rattle.global_list.specs.Posting.{MayPost, IsPosted}
use Rattle.global_list.specs.FanOut.{mappings_on}
use Rattle.global_list.proofs.agenda.Agenda.post.Goals as goal
use Rattle.std.proofs.Common.{ℕ}

-- what goes on each mapping of the out-channel is what the write sends
on_each : {P : Type 0} (ms on : List Mapping) (entity : ℕ) (ps : List Process) (w : Written P) (channel delay : ℕ) (payload : P) →
    w ≡ Channel channel delay payload → on ≡ mappings_on channel ms → flat_map (λ m. message delay payload m ∷ []) on ≡ sent ms entity ps w
on_each ms on entity ps w channel delay payload is e =
    flat_map_single (message delay payload) on ∙ (ap (λ xs. map (message delay payload) xs) e ∙ sym (ap (sent ms entity ps) is))

pub post_on_each-requires : goal.post_on_each-requires
post_on_each-requires g c =
    subst (λ (ss : List (Sent g.row.P.Denot)). MayPost c.args.parent.now ss c.args.self.now.counts.items c.args.self.now.pending)
    (sym (on_each c.args.fan_out.now c.on.result.now c.args.entity c.args.processes.now c.args.written c.in-Channel.channel c.in-Channel.delay c.in-Channel.payload c.in-Channel.is c.on.ensures)) c.requires

pub returns-in-Channel : goal.returns-in-Channel
returns-in-Channel g c =
    subst (λ (ss : List (Sent g.row.P.Denot)). OnOk c.post_on_each.result (IsPosted c.args.parent.now ss c.args.self.now.counts.items c.args.self.now.pending c.post_on_each.new.self.counts.items c.post_on_each.new.self.pending))
    (on_each c.args.fan_out.now c.on.result.now c.args.entity c.args.processes.now c.args.written c.in-Channel.channel c.in-Channel.delay c.in-Channel.payload c.in-Channel.is c.on.ensures) c.post_on_each.ensures
