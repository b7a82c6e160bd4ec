use Rattle.std.proofs.Common.{◌≡◌, ◌∙◌, ◌<◌, ap, length, arith, inl, inr, sym, false, [], ◌∷◌}
use Rattle.std.proofs.lemmas.List.{get_or_read}
use Rattle.ssf_model.specs.Drafts.{Draft, entity_refusal}
use Rattle.ring_model.specs.declared.ring.Ring.{Ring}
use Rattle.ring_model.specs.declared.ring.RingState.{RingState}
use Rattle.ring_model.specs.Rings.{ring_draft, tokens_of, node_of, with_node}
use Rattle.ring_model.proofs.Counting.{ring_empty, ring_entities, ring_ins, ring_outs, ring_mappings, ring_next, no_room, has_room}
use Rattle.ring_model.proofs.ring.add_nodes.Goals as goal

pub loop-node-init : goal.loop-node-init
loop-node-init c = (c.in_ok-builder.ensures ∙ ring_empty (record {}) c.args.tokens.now, omega arith)

pub add_node-requires-clause-entities : goal.add_node-requires-clause-entities
add_node-requires-clause-entities c =
    ap (λ (d : Draft Ring RingState). length d.entities) c.loop-node.invariant.0 ∙ ring_entities (record {}) c.loop-node.node c.args.tokens.now

pub add_node-requires-clause-ins : goal.add_node-requires-clause-ins
add_node-requires-clause-ins c =
    ap (λ (d : Draft Ring RingState). length d.in_owners) c.loop-node.invariant.0 ∙ ring_ins (record {}) c.loop-node.node c.args.tokens.now

pub add_node-requires-clause-outs : goal.add_node-requires-clause-outs
add_node-requires-clause-outs c =
    ap (λ (d : Draft Ring RingState). length d.outs) c.loop-node.invariant.0 ∙ ring_outs (record {}) c.loop-node.node c.args.tokens.now

pub add_node-requires-clause-mappings : goal.add_node-requires-clause-mappings
add_node-requires-clause-mappings c =
    ap (λ (d : Draft Ring RingState). d.mappings) c.loop-node.invariant.0 ∙ ring_mappings (record {}) c.loop-node.node c.args.tokens.now

pub returns-in-Err-clause-cause : goal.returns-in-Err-clause-cause
returns-in-Err-clause-cause c =
    elim c.in-Err.ensures.cause [
      | inl memory ↦ inl memory
      | inr refused ↦
          let e = sym (ap (λ (d : Draft Ring RingState). entity_refusal d (false ∷ [])) c.loop-node.invariant.0) ∙ refused in
          let r = no_room (record {}) c.loop-node.node c.args.tokens.now c.in-Err.fault e in
          inr (r.0, omega (arith, r.1, c.loop-node-test.true))
    ]

pub loop-node-preserved : goal.loop-node-preserved
loop-node-preserved c =
    let n = c.loop-node.node in
    let tokens = c.args.tokens.now in
    let within : n < length c.in_ok-counts.counts.items = omega (arith, c.in_ok-counts.ensures.size, c.loop-node-test.true) in
    let k : c.index.result.now ≡ tokens_of tokens n =
    get_or_read c.in_ok-counts.counts.items n c.index.result.now within c.index.ensures 0 ∙ c.in_ok-counts.ensures.counts n c.loop-node-test.true in
    let none = sym (ap (λ (d : Draft Ring RingState). entity_refusal d (false ∷ [])) c.loop-node.invariant.0) ∙ c.in-Ok.ensures.room in (
      c.in-Ok.ensures.made
          ∙ (ap (λ (d : Draft Ring RingState). with_node d (node_of n c.index.result.now)) c.loop-node.invariant.0
          ∙ (ap (λ j. with_node (ring_draft (record {}) n tokens) (node_of n j)) k ∙ ring_next (record {}) n tokens)),
      has_room (record {}) n tokens none,
    )
