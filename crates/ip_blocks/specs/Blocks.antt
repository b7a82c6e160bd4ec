-- The address blocks of Nets and links: sizes by recursion on the Nets, bases as sums over siblings.
-- Nets are numbered from 0, the top Net; a Net's nested Nets have larger numbers than it has.
use Rattle.std.specs.Prelude.{ℕ, zero, suc, ◌≡◌, ◌≢◌, ◌+◌, ◌-◌, ◌^◌, ◌<◌, ◌≤◌, nat_lt, nat_le, ◌==◌, Bool, false, ◌&&◌, ◌||◌, if◌then◌else◌, List, [], ◌∷◌, ◌++◌, length, map, take, drop, sum_by, filter, slice_index_or, All, AllPairs, EachIndex, Option, Some, None, MatchOption}
use Rattle.std.specs.Option.{option_map_or}
use Rattle.ip_blocks.specs.declared.block.Block.{Block}
use Rattle.ip_blocks.specs.declared.layout.LinkSize.{LinkSize}
use Rattle.ip_blocks.specs.declared.layout.NetParent.{NetParent}

-- the first address behind a block
abbrev pub block_end : Block → ℕ
block_end block = block.base + 2 ^ (32 - block.bits)

-- the address lies in the block
abbrev pub Holds : Block → ℕ → Type 0
Holds block address = (block.base ≤ address) × (address < block_end block)

-- the least exponent of two that gives at least n addresses
unfoldable pub exponent_of : ℕ → ℕ
exponent_of zero = 0
exponent_of (suc n) = if nat_le (suc n) (2 ^ exponent_of n) then exponent_of n else exponent_of n + 1

-- a Net or a link as a part of the Net in which it lies; the top Net lies in none
pub record Part : Type 0 where
  pub net : Option ℕ
  pub exponent : ℕ
  pub order : ℕ

abbrev pub size_of : Part → ℕ
size_of part = 2 ^ part.exponent

abbrev pub lies_in : ℕ → Part → Bool
lies_in n part = option_map_or (λ m. m == n) part.net false

-- the addresses that the parts of Net n have together
unfoldable pub sum_in : ℕ → List Part → ℕ
sum_in n parts = sum_by size_of (filter (lies_in n) parts)

-- a link has an address for each attachment, and two more
abbrev pub link_part : LinkSize → Part
link_part link = record { net = Some link.net; exponent = exponent_of (link.attachments + 2); order = link.order }

-- a Net has room for the parts that lie in it
abbrev pub net_part : ℕ → NetParent → List Part → Part
net_part n net parts = record { net = net.parent; exponent = exponent_of (sum_in n parts); order = net.order }

-- the Nets from number n on, and then the links
unfoldable pub parts_from : List LinkSize → ℕ → List NetParent → List Part
parts_from links n [] = map link_part links
parts_from links n (net ∷ nets) = let later = parts_from links (n + 1) nets in net_part n net later ∷ later

-- all Nets by number, and then all links by number
abbrev pub parts_of : List LinkSize → List NetParent → List Part
parts_of links nets = parts_from links 0 nets

-- larger parts go first, and equal ones by their order
abbrev pub goes_before : Part → Part → Bool
goes_before a b = nat_lt b.exponent a.exponent || (a.exponent == b.exponent && nat_lt a.order b.order)

-- the addresses of the siblings that go before a part of Net n
unfoldable pub offset_in : ℕ → List Part → Part → ℕ
offset_in n parts part = sum_by size_of (filter (λ sibling. lies_in n sibling && goes_before sibling part) parts)

-- 10.0.0.0
abbrev pub top_base : ℕ
top_base = 167772160

-- the base of a part that lies at most this many Nets deep
unfoldable pub base_within : List Part → ℕ → Part → ℕ
base_within parts zero part = top_base
base_within parts (suc depth) part =
    option_map_or (λ n. base_within parts depth (slice_index_or parts n part) + offset_in n parts part) part.net top_base

abbrev pub block_of : List Part → Part → Block
block_of parts part = record { base = base_within parts (length parts) part; bits = 32 - part.exponent }

-- the blocks of all Nets and of all links, each by number
pub record BlockLists : Type 0 where
  pub nets : List Block
  pub links : List Block

unfoldable pub blocks_of : List LinkSize → List NetParent → BlockLists
blocks_of links nets =
    let parts = parts_of links nets in
    record { nets = map (block_of parts) (take (length nets) parts); links = map (block_of parts) (drop (length nets) parts) }

-- the addresses that the top Net needs
unfoldable pub top_size : List LinkSize → List NetParent → ℕ
top_size links nets = 2 ^ exponent_of (sum_in 0 (parts_of links nets))

-- the Net and the order of each Net and each link
abbrev pub places : List LinkSize → List NetParent → List (Option ℕ × ℕ)
places links nets = map (λ (net : NetParent). (net.parent, net.order)) nets ++ map (λ (link : LinkSize). (Some link.net, link.order)) links

abbrev pub parent_of : List NetParent → ℕ → Option ℕ
parent_of nets i = (slice_index_or nets i (record { parent = None; order = 0 })).parent

-- Net 0 alone has no parent, each parent has a smaller number, each link's Net is there, and no two
-- parts of one Net have the same order
pub record IsLayout (links : List LinkSize) (nets : List NetParent) : Type 0 where
  pub parents : EachIndex nets (λ i. MatchOption (parent_of nets i) (i ≡ 0) (λ p. p < i))
  pub nets_there : All (λ (link : LinkSize). link.net < length nets) links
  pub orders_differ : AllPairs (λ a b. a ≢ b) (places links nets)
