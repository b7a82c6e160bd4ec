-- The ring that a tree describes, and its plan.
use Rattle.std.specs.Prelude.{ℕ, Bool, ◌+◌, ◌≤◌, nat_lt, List, [], ◌∷◌, map, length, replicate, Option, Some, None, IfSome, Ok, Err, codes, decimal, if◌then◌else◌}
use Rattle.std.specs.List.{list_any, range_with_len}
use Rattle.dml_tree.specs.declared.tree.Attribute.{Attribute}
use Rattle.dml_tree.specs.declared.tree.Value.{Value}
use Rattle.dml_tree.specs.Attributes.{Attributes}
use Rattle.dml_tree.specs.TreeView.{attributes}
use Rattle.net_graph.specs.declared.fault.ShapeFault.TheVariants.{NoModel, Missing, DelayTooLong, TooManyChannels}
use Rattle.net_graph.specs.Keys.{values_of, lists_of, first_of, number_of_value}
use Rattle.ssf_model.specs.Deliver.{MostWrites}
use Rattle.ssf_model.specs.Reaction.{LongestDelay}
use Rattle.ssf_model.specs.Drafts.{MostChannels, planned}
use Rattle.ring_model.specs.declared.ring.Ring.{Ring}
use Rattle.ring_model.specs.declared.ring.RingState.{RingState}
use Rattle.ring_model.specs.declared.ring.RingPayload.{RingPayload}
use Rattle.ring_model.specs.declared.ring.Hop.{Hop}
use Rattle.ring_model.specs.Rings.{ring_draft, with_hops}
use Rattle.net_build.specs.declared.built.Built.{Built}
use Rattle.net_build.specs.declared.ring.RingCounts.{RingCounts}
pub use Rattle.net_graph.specs.Reads.{Read, then_read, read_each}

-- the number below `end` of the first of these values, and what stands for none
abbrev pub first_number : List ℕ → ℕ → Read ℕ → List Value → Read ℕ
first_number key end absent [] = absent
first_number key end absent (v ∷ vs) = number_of_value key 0 end v

-- a default, and without one the fault of a key that has to stand
abbrev pub absent_number : List ℕ → Option ℕ → Read ℕ
absent_number key None = Err (Missing key)
absent_number key (Some default) = Ok default

-- the number of a key that has to stand
abbrev pub needed : List ℕ → ℕ → List Attribute → Read ℕ
needed key end xs = first_number key end (Err (Missing key)) (values_of key xs)

-- the number of a key that is 0 where it does not stand
abbrev pub optional : List ℕ → ℕ → List Attribute → Read ℕ
optional key end xs = first_number key end (Ok 0) (values_of key xs)

-- the nodes, the nodes that have a token at the start, one for each token, and the hops
pub record RingKeys : Type 0 where
  pub nodes : ℕ
  pub tokens : List ℕ
  pub hops : List Hop

abbrev pub hop_of : ℕ → List Attribute → Read Hop
hop_of nodes xs =
    then_read (needed (codes "from") nodes xs) (λ from.
    then_read (needed (codes "to") nodes xs) (λ to.
    then_read (needed (codes "delay") 1000000000000000000 xs) (λ delay.
    then_read (optional (codes "priority") 256 xs) (λ priority.
    Ok (record { from = from; to = to; delay = delay; priority = priority })))))

abbrev pub tokens_in : ℕ → List Attribute → Read (List ℕ)
tokens_in nodes xs = read_each (number_of_value (codes "token") 0 nodes) (values_of (codes "token") xs)

abbrev pub hops_in : ℕ → List Attribute → Read (List Hop)
hops_in nodes xs = read_each (λ hop. hop_of nodes (attributes hop)) (lists_of (codes "hop") xs)

-- the keys of a ring: at most 65,536 nodes, then the tokens, and then the hops
abbrev pub keys_of : List Attribute → Read RingKeys
keys_of xs =
    then_read (needed (codes "nodes") 65537 xs) (λ nodes.
    then_read (tokens_in nodes xs) (λ tokens.
    then_read (hops_in nodes xs) (λ hops.
    Ok (record { nodes = nodes; tokens = tokens; hops = hops }))))

abbrev pub keys_where : Option Attributes → Read RingKeys
keys_where None = Err NoModel
keys_where (Some ring) = keys_of (attributes ring)

-- the ring of a tree: its first list `ring`
abbrev pub ring_of : List Attribute → Read RingKeys
ring_of root = keys_where (first_of (lists_of (codes "ring") root))

-- the plan of a ring, with the decimal numbers of its nodes as their names, and Net 0 for each
abbrev pub built_of : RingKeys → Built Ring RingState RingPayload
built_of ring = record {
  plan = planned (with_hops (ring_draft (record {}) ring.nodes ring.tokens) ring.hops);
  names = record { names = map decimal (range_with_len 0 ring.nodes) };
  nets = replicate ring.nodes 0;
}

-- a delay above 10^15 ticks
abbrev pub is_long : Hop → Bool
is_long hop = nat_lt LongestDelay hop.delay

-- where no delay is too long, and there are few enough nodes and hops together
abbrev pub build : RingKeys → Read (Built Ring RingState RingPayload)
build ring =
    if list_any is_long ring.hops then Err DelayTooLong
    else if nat_lt MostChannels (ring.nodes + length ring.hops) then Err TooManyChannels
    else Ok (built_of ring)

-- the plan of the ring of a tree, or the first fault
abbrev pub ring_plan_of : List Attribute → Read (Built Ring RingState RingPayload)
ring_plan_of root = then_read (ring_of root) build

-- how many nodes, tokens and hops a ring has
abbrev pub counts_in : RingKeys → RingCounts
counts_in ring = record { nodes = ring.nodes; tokens = length ring.tokens; hops = length ring.hops }

-- those of the ring of a tree that has a plan, or the first fault
abbrev pub ring_counts_of : List Attribute → Read RingCounts
ring_counts_of root = then_read (ring_of root) (λ ring. then_read (build ring) (λ built. Ok (counts_in ring)))

-- the first list `ring` has at most 4,194,304 tokens
abbrev pub HasFewTokens : List Attribute → Type 0
HasFewTokens root = IfSome (first_of (lists_of (codes "ring") root)) (λ ring. length (values_of (codes "token") (attributes ring)) ≤ MostWrites)
