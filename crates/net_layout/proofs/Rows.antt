-- What indexing a row of a network gave.
use Rattle.std.proofs.Common.{◌≡◌, ℕ, ◌+◌, ◌-◌, ◌^◌, ◌<◌, length, get_or, ap, arith}
use Rattle.std.proofs.lemmas.List.{get_or_read, get_or-map, length-map}
use Rattle.net_graph.specs.declared.rows.Network.{Network}
use Rattle.net_graph.specs.declared.rows.LinkRow.{LinkRow}
use Rattle.net_graph.specs.declared.rows.NetRow.{NetRow}
use Rattle.net_graph.specs.Networks.{no_link, no_net, link_at, net_at, link_size, link_sizes}
use Rattle.net_layout.specs.Addresses.{AreBlocks}
use Rattle.ip_blocks.specs.declared.layout.LinkSize.{LinkSize}
use Rattle.ip_blocks.specs.Blocks.{BlockLists}
use Rattle.ip_blocks.specs.Apart.{link_block, attachments_of}

pub link_read : (network : Network) (l : ℕ) (row : LinkRow) → l < length network.links → row ≡ get_or network.links l row → row ≡ link_at network l
link_read network l row lt e = get_or_read network.links l row lt e no_link

pub net_read : (network : Network) (n : ℕ) (row : NetRow) → n < length network.nets → row ≡ get_or network.nets n row → row ≡ net_at network n
net_read network n row lt e = get_or_read network.nets n row lt e no_net

pub attachments_are : (network : Network) (l : ℕ) → l < length network.links → attachments_of (link_sizes network) l ≡ length (link_at network l).attached
attachments_are network l lt = ap (λ (s : LinkSize). s.attachments) (get_or-map link_size network.links l no_link (record { net = 0; order = 0; attachments = 0 }) lt)

-- each place of a link has an address
pub address_room : (network : Network) (blocks : BlockLists) (l place : ℕ) → AreBlocks network blocks → l < length network.links → place < length (link_at network l).attached → place + 1 < 2 ^ (32 - (link_block blocks l).bits)
address_room network blocks l place are lt there =
    let size = attachments_are network l lt in
    let room = are.room l (rw (length-map network.links link_size) lt) in
    omega (arith, room, size)
