use Rattle.std.proofs.Common.{◌≡◌, ◌<◌, ℕ, List, [], ◌∷◌, length, get_or, arith}
use Rattle.std.proofs.lemmas.List.{get_or_default}
use Rattle.ssf_model.specs.declared.plan.Mapping.{Mapping}
use Rattle.ssf_model.specs.Channels.{message}
use Rattle.global_list.proofs.Posts.{partway_first, partway_may, partway_next, partway_done}
use Rattle.global_list.proofs.agenda.Agenda.post_on_each.Goals as goal

none : Mapping
none = record { channel = 0; out_channel = 0; in_channel = 0; from = 0; to = 0; delay = 0; priority = 0 }

here : (ms : List Mapping) (i : ℕ) → i < length ms → get_or ms i (get_or ms i none) ≡ get_or ms i none
here ms i h = get_or_default ms i (get_or ms i none) none h

pub loop-mapping-init : goal.loop-mapping-init
loop-mapping-init g c =
    partway_first c.args.parent.now (λ m. message c.args.delay c.args.payload m ∷ []) c.args.mappings.now c.args.self.now.counts.items c.args.self.now.pending c.requires

pub post_message-requires : goal.post_message-requires
unfolding none
post_message-requires g c =
    partway_may c.args.parent.now (λ m. message c.args.delay c.args.payload m ∷ []) c.args.mappings.now c.loop-mapping.mapping-index
    c.args.self.now.counts.items c.loop-mapping.self.counts.items c.args.self.now.pending c.loop-mapping.self.pending
    (get_or c.args.mappings.now c.loop-mapping.mapping-index none) c.loop-mapping-test.true (here c.args.mappings.now c.loop-mapping.mapping-index c.loop-mapping-test.true)
    c.loop-mapping.invariant

pub loop-mapping-preserved : goal.loop-mapping-preserved
unfolding none
loop-mapping-preserved g c =
    partway_next c.args.parent.now (λ m. message c.args.delay c.args.payload m ∷ []) c.args.mappings.now c.loop-mapping.mapping-index
    c.args.self.now.counts.items c.loop-mapping.self.counts.items c.post_message.new.self.counts.items
    c.args.self.now.pending c.loop-mapping.self.pending c.post_message.new.self.pending
    (get_or c.args.mappings.now c.loop-mapping.mapping-index none) c.loop-mapping-test.true (here c.args.mappings.now c.loop-mapping.mapping-index c.loop-mapping-test.true)
    c.loop-mapping.invariant c.in_ok-post_message.ensures

pub returns : goal.returns
returns g c =
    partway_done c.args.parent.now (λ m. message c.args.delay c.args.payload m ∷ []) c.args.mappings.now c.loop-mapping.mapping-index
    c.args.self.now.counts.items c.loop-mapping.self.counts.items c.args.self.now.pending c.loop-mapping.self.pending
    (omega arith) c.loop-mapping.invariant
