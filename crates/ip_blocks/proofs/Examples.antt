-- Worked rows on the definition: links of two and of five attachments in one Net; a Net with a nested
-- Net and a link of the same size.
use Rattle.std.proofs.Common.{◌≡◌, ℕ, [], ◌∷◌, Option, Some, None, refl}
use Rattle.ip_blocks.specs.declared.block.Block.{Block}
use Rattle.ip_blocks.specs.declared.layout.LinkSize.{LinkSize}
use Rattle.ip_blocks.specs.declared.layout.NetParent.{NetParent}
use Rattle.ip_blocks.specs.Blocks.{blocks_of, parts_from, exponent_of, sum_in, offset_in, base_within, top_size}

abbrev net : Option ℕ → ℕ → NetParent
net parent order = record { parent = parent; order = order }

abbrev link : ℕ → ℕ → ℕ → LinkSize
link net order attachments = record { net = net; order = order; attachments = attachments }

abbrev block : ℕ → ℕ → Block
block base bits = record { base = base; bits = bits }

two_links : blocks_of (link 0 0 2 ∷ link 0 1 5 ∷ []) (net None 0 ∷ []) ≡ record { nets = block 167772160 28 ∷ []; links = block 167772168 30 ∷ block 167772160 29 ∷ [] }
unfolding blocks_of parts_from exponent_of sum_in offset_in base_within
two_links = refl

nested : blocks_of (link 1 0 2 ∷ link 0 0 2 ∷ []) (net None 0 ∷ net (Some 0) 1 ∷ []) ≡ record { nets = block 167772160 29 ∷ block 167772164 30 ∷ []; links = block 167772164 30 ∷ block 167772160 30 ∷ [] }
unfolding blocks_of parts_from exponent_of sum_in offset_in base_within
nested = refl

top : top_size (link 0 0 2 ∷ link 0 1 5 ∷ []) (net None 0 ∷ []) ≡ 16
unfolding top_size parts_from exponent_of sum_in
top = refl
