-- The blocks of a network's Nets and links, and the addresses of its interfaces.
use Rattle.std.specs.Prelude.{ℕ, ◌≡◌, length, Option}
use Rattle.std.specs.Option.{option_map}
use Rattle.net_graph.specs.declared.rows.Network.{Network}
use Rattle.ip_blocks.specs.Blocks.{BlockLists, blocks_of, top_size}
use Rattle.ip_blocks.specs.Apart.{address_of, HasRoom}
use Rattle.net_graph.specs.Networks.{link_sizes, net_parents, attachment_of}

unfoldable pub network_blocks : Network → BlockLists
network_blocks network = blocks_of (link_sizes network) (net_parents network)

-- the addresses that the top Net needs
unfoldable pub addresses_needed : Network → ℕ
addresses_needed network = top_size (link_sizes network) (net_parents network)

-- the address of an interface; without a link it has none
abbrev pub address_in : BlockLists → Network → ℕ → Option ℕ
address_in blocks network i = option_map (λ (at : ℕ × ℕ). address_of blocks at.0 at.1) (attachment_of network i)

abbrev pub interface_address : Network → ℕ → Option ℕ
interface_address network i = address_in (network_blocks network) network i

-- the blocks of a network, with an address for each attachment
pub record AreBlocks (network : Network) (blocks : BlockLists) : Type 0 where
  pub are : blocks ≡ network_blocks network
  pub nets : length blocks.nets ≡ length network.nets
  pub links : length blocks.links ≡ length network.links
  pub room : HasRoom (link_sizes network) blocks
