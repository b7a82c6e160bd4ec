-- Rings of nodes as drafts of plans.
use Rattle.std.specs.Prelude.{ℕ, false, nat_eq, nat_lt, List, [], ◌∷◌, ◌++◌, map, Option, Some, None}
use Rattle.std.specs.List.{count_by, range_with_len}
use Rattle.ssf_model.specs.declared.builder.BuildFault.{BuildFault}
use Rattle.ssf_model.specs.declared.builder.BuildFault.TheVariants.{TooManyChannels}
use Rattle.ssf_model.specs.declared.builder.DraftEntity.{DraftEntity}
use Rattle.ssf_model.specs.declared.builder.OutChannel.{OutChannel}
use Rattle.ssf_model.specs.Drafts.{Draft, MostChannels, refuse_if, mapping_refusal, with_mapping}
use Rattle.ring_model.specs.declared.ring.Ring.{Ring}
use Rattle.ring_model.specs.declared.ring.RingState.{RingState}
use Rattle.ring_model.specs.declared.ring.Hop.{Hop}

-- how many of these tokens name the node
abbrev pub tokens_of : List ℕ → ℕ → ℕ
tokens_of tokens node = count_by (λ t. nat_eq t node) tokens

-- a node: one process that is not timed, one in-channel and one out-channel of its number
abbrev pub node_of : ℕ → ℕ → DraftEntity RingState
node_of node tokens = record { state = record { node = node; tokens = tokens }; timed = false ∷ []; in_channels = node ∷ []; out_channels = node ∷ [] }

abbrev pub free_out : ℕ → OutChannel
free_out node = record { entity = node; delay = 0 }

abbrev pub with_node : Draft Ring RingState → DraftEntity RingState → Draft Ring RingState
with_node d node = record d {
  entities = d.entities ++ node ∷ [];
  in_owners = d.in_owners ++ node.state.node ∷ [];
  outs = d.outs ++ free_out node.state.node ∷ [];
}

-- the nodes of a ring, with as many tokens each as name it, before any hop
unfoldable pub ring_draft : Ring → ℕ → List ℕ → Draft Ring RingState
ring_draft ring nodes tokens =
    let numbers = range_with_len 0 nodes in
    record { behaviour = ring; entities = map (λ n. node_of n (tokens_of tokens n)) numbers; in_owners = numbers; outs = map free_out numbers; mappings = [] }

abbrev pub with_hops : Draft Ring RingState → List Hop → Draft Ring RingState
with_hops d [] = d
with_hops d (hop ∷ hops) = with_hops (with_mapping d hop.from hop.to hop.delay hop.priority) hops

-- the first refusal of these hops, one after another
abbrev pub first_of : Option BuildFault → Option BuildFault → Option BuildFault
first_of (Some fault) others = Some fault
first_of None others = others

abbrev pub hops_refusal : Draft Ring RingState → List Hop → Option BuildFault
hops_refusal d [] = None
hops_refusal d (hop ∷ hops) =
    first_of (mapping_refusal d hop.from hop.to hop.delay) (hops_refusal (with_mapping d hop.from hop.to hop.delay hop.priority) hops)

-- the first refusal of a ring: too many nodes, and then its hops
abbrev pub ring_refusal : Ring → ℕ → List ℕ → List Hop → Option BuildFault
ring_refusal ring nodes tokens hops = refuse_if (nat_lt MostChannels nodes) TooManyChannels (hops_refusal (ring_draft ring nodes tokens) hops)
