use Rattle.std.proofs.Common.{◌≡◌, ℕ, List, [], ◌∷◌, sym, ap, ◌∙◌, subst, map}
use Rattle.std.specs.List.{flat_map}
use Rattle.std.specs.Result.{OnOk}
use Rattle.std.proofs.lemmas.List.Concat.{flat_map_single}
use Rattle.ssf_model.specs.declared.plan.Mapping.{Mapping}
use Rattle.ssf_model.specs.declared.process.Process.{Process}
use Rattle.ssf_model.specs.declared.out.Written.{Written}
use Rattle.ssf_model.specs.declared.out.Written.TheVariants.{Channel}
use Rattle.ssf_model.specs.Channels.{Sent, message}
use Rattle.timeline_parts.specs.RouteMap.{route}
use Rattle.timeline_parts.specs.Sending.{MaySend, IsSent, sent_on}
use Rattle.timeline_parts.proofs.desk.Desk.send.Goals as goal

-- what goes on each mapping of the out-channel is what the write sends
on_each : {P : Type 0} (routes : ℕ → List Mapping) (on : List Mapping) (entity : ℕ) (ps : List Process) (w : Written P) (channel delay : ℕ) (payload : P) →
    w ≡ Channel channel delay payload → on ≡ routes channel → flat_map (λ m. message delay payload m ∷ []) on ≡ sent_on routes entity ps w
on_each routes on entity ps w channel delay payload is e =
    flat_map_single (message delay payload) on ∙ (ap (λ xs. map (message delay payload) xs) e ∙ sym (ap (sent_on routes entity ps) is))

pub send_on_each-requires : goal.send_on_each-requires
send_on_each-requires g c =
    subst (λ (ss : List (Sent g.row.P.Denot)). MaySend c.args.parent.now ss c.args.self.now.counts.items c.args.self.now.ends.items)
    (sym (on_each (route c.args.routes.now.by_out) c.on.result.now c.args.entity c.args.processes.now c.args.write c.in-Channel.channel c.in-Channel.delay c.in-Channel.payload c.in-Channel.is c.on.ensures)) c.requires

pub returns-in-Channel-clause-sent : goal.returns-in-Channel-clause-sent
returns-in-Channel-clause-sent g c =
    subst (λ (ss : List (Sent g.row.P.Denot)). OnOk c.send_on_each.result (IsSent c.args.parent.now ss c.args.self.now.counts.items c.args.self.now.ends.items c.args.self.now.written.items c.send_on_each.new.self.counts.items c.send_on_each.new.self.ends.items c.send_on_each.new.self.written.items))
    (on_each (route c.args.routes.now.by_out) c.on.result.now c.args.entity c.args.processes.now c.args.write c.in-Channel.channel c.in-Channel.delay c.in-Channel.payload c.in-Channel.is c.on.ensures) c.send_on_each.ensures.sent
