-- What holds between the blocks of links and Nets, and between the addresses of attachments.
use Rattle.std.specs.Prelude.{ℕ, ◌≡◌, ◌+◌, ◌-◌, ◌^◌, ◌<◌, ◌≤◌, List, ◌++◌, length, slice_index_or, AllPairs, EachIndex, IfSome, ◌⊎◌}
use Rattle.std.specs.Option.{option_map_or}
use Rattle.ip_blocks.specs.declared.block.Block.{Block}
use Rattle.ip_blocks.specs.declared.layout.LinkSize.{LinkSize}
use Rattle.ip_blocks.specs.declared.layout.NetParent.{NetParent}
use Rattle.ip_blocks.specs.Blocks.{block_end, BlockLists, parts_of, link_part, offset_in, parent_of, top_base}
use Rattle.ip_blocks.specs.Tree.{at}

abbrev pub IsWithin : Block → Block → Type 0
IsWithin inner outer = (outer.base ≤ inner.base) × (block_end inner ≤ block_end outer)

-- no address lies in both
abbrev pub IsApart : Block → Block → Type 0
IsApart a b = (block_end a ≤ b.base) ⊎ (block_end b ≤ a.base)

abbrev pub IsNestedOrApart : Block → Block → Type 0
IsNestedOrApart a b = IsWithin a b ⊎ (IsWithin b a ⊎ IsApart a b)

-- what stands past the end of a list of blocks
abbrev pub no_block : Block
no_block = record { base = 0; bits = 0 }

abbrev pub link_block : BlockLists → ℕ → Block
link_block blocks k = slice_index_or blocks.links k no_block

-- the address of the attachment at a place of a link
abbrev pub address_of : BlockLists → ℕ → ℕ → ℕ
address_of blocks link place = (link_block blocks link).base + 1 + place

abbrev pub net_block : BlockLists → ℕ → Block
net_block blocks n = slice_index_or blocks.nets n no_block

abbrev pub no_link : LinkSize
no_link = record { net = 0; order = 0; attachments = 0 }

abbrev pub attachments_of : List LinkSize → ℕ → ℕ
attachments_of links k = (slice_index_or links k no_link).attachments

-- the Net in which a link lies
abbrev pub net_of : List LinkSize → ℕ → ℕ
net_of links k = (slice_index_or links k no_link).net

-- each link's block has an address for each attachment, and two more
abbrev pub HasRoom : List LinkSize → BlockLists → Type 0
HasRoom links blocks = EachIndex links (λ k. attachments_of links k + 2 ≤ 2 ^ (32 - (link_block blocks k).bits))

-- one address belongs to one place of one link
abbrev pub AddressesDiffer : List LinkSize → BlockLists → Type 0
AddressesDiffer links blocks =
    (j k place other : ℕ) → j < length links → k < length links → place < attachments_of links j → other < attachments_of links k
    → address_of blocks j place ≡ address_of blocks k other → (j ≡ k) × (place ≡ other)

-- the laws of the blocks that are assigned to these links
pub record IsPlaced (links : List LinkSize) (blocks : BlockLists) : Type 0 where
  pub nested_or_apart : AllPairs IsNestedOrApart (blocks.nets ++ blocks.links)
  pub links_apart : AllPairs IsApart blocks.links
  pub room : HasRoom links blocks
  pub addresses_differ : AddressesDiffer links blocks

-- each link and each nested Net lies within its own Net, behind the siblings that go before it; the
-- top Net begins at 10.0.0.0
pub record AreNested (links : List LinkSize) (nets : List NetParent) (blocks : BlockLists) : Type 0 where
  pub links_within : EachIndex links (λ k. IsWithin (link_block blocks k) (net_block blocks (net_of links k)))
  pub nets_within : EachIndex nets (λ i. IfSome (parent_of nets i) (λ p. IsWithin (net_block blocks i) (net_block blocks p)))
  pub link_bases : EachIndex links (λ k. (link_block blocks k).base ≡ (net_block blocks (net_of links k)).base + offset_in (net_of links k) (parts_of links nets) (link_part (slice_index_or links k no_link)))
  pub net_bases : EachIndex nets (λ i. (net_block blocks i).base ≡ option_map_or (λ p. (net_block blocks p).base + offset_in p (parts_of links nets) (at (parts_of links nets) i)) (parent_of nets i) top_base)
