use Rattle.std.proofs.Common.{◌≡◌, ◌<◌, ℕ, List, [], ◌∷◌, length, get_or, arith}
use Rattle.std.proofs.lemmas.List.{get_or_default}
use Rattle.ssf_model.specs.declared.plan.Mapping.{Mapping}
use Rattle.ssf_model.specs.Channels.{message}
use Rattle.timeline_parts.proofs.Sending.{on_err_of}
use Rattle.timeline_parts.proofs.Sent.{partway_next, partway_part}
use Rattle.timeline_parts.proofs.desk.Desk.send_on_each.Goals as goal

none : Mapping
none = record { channel = 0; out_channel = 0; in_channel = 0; from = 0; to = 0; delay = 0; priority = 0 }

here : (ms : List Mapping) (i : ℕ) → i < length ms → get_or ms i (get_or ms i none) ≡ get_or ms i none
here ms i h = get_or_default ms i (get_or ms i none) none h

pub returns-in_err-send_message-clause-in_part : goal.returns-in_err-send_message-clause-in_part
returns-in_err-send_message-clause-in_part g c =
    on_err_of c.from_residual.result
    (partway_part c.args.parent.now (λ m. message c.args.delay c.args.payload m ∷ []) c.args.mappings.now c.loop-mapping.mapping-index
    c.args.self.now.counts.items c.loop-mapping.self.counts.items c.send_message.new.self.counts.items
    c.args.self.now.ends.items c.loop-mapping.self.ends.items c.send_message.new.self.ends.items
    c.args.self.now.written.items c.loop-mapping.self.written.items c.send_message.new.self.written.items
    c.loop-mapping.invariant c.in_err-send_message.ensures.in_part)

pub loop-mapping-preserved : goal.loop-mapping-preserved
unfolding none
loop-mapping-preserved g c =
    partway_next c.args.parent.now (λ m. message c.args.delay c.args.payload m ∷ []) c.args.mappings.now c.loop-mapping.mapping-index
    c.args.self.now.counts.items c.loop-mapping.self.counts.items c.send_message.new.self.counts.items
    c.args.self.now.ends.items c.loop-mapping.self.ends.items c.send_message.new.self.ends.items
    c.args.self.now.written.items c.loop-mapping.self.written.items c.send_message.new.self.written.items
    (get_or c.args.mappings.now c.loop-mapping.mapping-index none) c.loop-mapping-test.true (here c.args.mappings.now c.loop-mapping.mapping-index c.loop-mapping-test.true)
    c.loop-mapping.invariant c.in_ok-send_message.ensures.sent
