use Rattle.std.proofs.Common.{◌≡◌, ℕ, ◌+◌, ◌-◌, ◌^◌, ◌<◌, ◌≤◌, List, [], ◌∷◌, ◌++◌, length, get_or, slice_index, slice_index_or, map, take, Option, Some, None, refl, ap, sym, ◌∙◌, arith}
use Rattle.std.specs.Option.{option_map_or}
use Rattle.std.proofs.lemmas.List.{map_more, get_or-map, get_or-take, length-map, length-take}
use Rattle.ip_blocks.specs.declared.block.Block.{Block}
use Rattle.ip_blocks.specs.declared.members.Member.{Member}
use Rattle.ip_blocks.specs.Blocks.{Part, block_of, top_base}
use Rattle.ip_blocks.specs.Apart.{no_block}
use Rattle.ip_blocks.specs.Tree.{IsTree, at, no_part}
use Rattle.ip_blocks.specs.Members.{part_of, no_member, AreOffsets}
use Rattle.ip_blocks.proofs.Bases.{base_of, base_of-net, base_of-top, parent_at}
use Rattle.ip_blocks.proofs.Nested.{exponent_most}
use Rattle.ip_blocks.proofs.Placing.{end_most}
use Rattle.ip_blocks.proofs.placed.block_list.Goals as goal

module _ (members : List Member) (count : ℕ) (t : IsTree (map part_of members) count) (most : (at (map part_of members) 0).exponent ≤ 24) (offsets : List ℕ) (h : AreOffsets offsets members) (blocks : List Block) (i : ℕ) (there : i < length members) (so_far : blocks ≡ map (block_of (map part_of members)) (take i (map part_of members))) where
  part : at (map part_of members) i ≡ part_of (get_or members i no_member)
  part = get_or-map part_of members i no_member no_part there

  in_parts : i < length (map part_of members)
  in_parts = omega (arith, length-map members part_of)

  long : length blocks ≡ i
  long = ap length so_far ∙ length-map (take i (map part_of members)) (block_of (map part_of members)) ∙ omega (arith, length-take i (map part_of members), in_parts)

  net_at : (n : ℕ) → (get_or members i no_member).net ≡ Some n → (at (map part_of members) i).net ≡ Some n
  net_at n e = ap (λ (p : Part). p.net) part ∙ e

  low : (n : ℕ) → (get_or members i no_member).net ≡ Some n → n < i
  low n e = (parent_at (map part_of members) count t i n in_parts (net_at n e)).0

  block_at : (n : ℕ) → n < i → slice_index_or blocks n no_block ≡ block_of (map part_of members) (at (map part_of members) n)
  block_at n less =
      ap (λ bs. get_or bs n no_block) so_far
      ∙ get_or-map (block_of (map part_of members)) (take i (map part_of members)) n no_part no_block (omega (arith, length-take i (map part_of members), in_parts))
      ∙ ap (block_of (map part_of members)) (get_or-take i (map part_of members) n no_part less)

  sum_at : (n : ℕ) → (get_or members i no_member).net ≡ Some n → (slice_index_or blocks n no_block).base + slice_index offsets i ≡ base_of (map part_of members) i
  sum_at n e =
      let base = ap (λ (b : Block). b.base) (block_at n (low n e)) in
      let offset = h.1 i n there (net_at n e) in
      omega (arith, base_of-net (map part_of members) count t i n in_parts (net_at n e))

  room_at : (n : ℕ) → (get_or members i no_member).net ≡ Some n → (slice_index_or blocks n no_block).base + slice_index offsets i < 2 ^ 32
  room_at n e = omega (arith, sum_at n e, end_most (map part_of members) count t most i in_parts)

  bits_fit : (get_or members i no_member).exponent ≤ 24
  bits_fit = omega (arith, exponent_most (map part_of members) count t i in_parts, ap (λ (p : Part). p.exponent) part)

  base_at : (o : Option ℕ) → (get_or members i no_member).net ≡ o → option_map_or (λ n. (slice_index_or blocks n no_block).base + slice_index offsets i) o top_base ≡ base_of (map part_of members) i
  base_at None e = sym (base_of-top (map part_of members) count t i (ap (λ (p : Part). p.net) part ∙ e))
  base_at (Some n) e = sum_at n e

  more : (base bits : ℕ) → base ≡ option_map_or (λ n. (slice_index_or blocks n no_block).base + slice_index offsets i) (get_or members i no_member).net top_base → bits ≡ 32 - (get_or members i no_member).exponent → blocks ++ record { base = base; bits = bits } ∷ [] ≡ map (block_of (map part_of members)) (take (i + 1) (map part_of members))
  more base bits is_base is_bits =
      let b : base ≡ base_of (map part_of members) i = is_base ∙ base_at (get_or members i no_member).net refl in
      let w : bits ≡ 32 - (at (map part_of members) i).exponent = is_bits ∙ ap (λ (p : Part). 32 - p.exponent) (sym part) in
      let one : ◌≡◌ {A = Block} (record { base = base; bits = bits }) (block_of (map part_of members) (at (map part_of members) i)) = cc in
      ap (λ bs. bs ++ record { base = base; bits = bits } ∷ []) so_far
      ∙ ap (λ b. map (block_of (map part_of members)) (take i (map part_of members)) ++ b ∷ []) one
      ∙ sym (map_more (block_of (map part_of members)) (map part_of members) i no_part in_parts)

pub base-base-requires-clause-there : goal.base-base-requires-clause-there
base-base-requires-clause-there c = λ n e.
    omega (
      arith,
      low c.args.members.now c.args.nets c.requires.tree c.requires.fits c.args.offsets.now c.requires.offsets c.loop-member.blocks.items c.loop-member.member-index (omega arith) c.loop-member.invariant n e,
      long c.args.members.now c.args.nets c.requires.tree c.requires.fits c.args.offsets.now c.requires.offsets c.loop-member.blocks.items c.loop-member.member-index (omega arith) c.loop-member.invariant,
      ap length c.as_slice.ensures.value,
    )

pub base-base-requires-clause-room : goal.base-base-requires-clause-room
base-base-requires-clause-room c = λ n e. rw (c.requires.numbers c.loop-member.member-index (omega arith), c.as_slice.ensures.value) (room_at c.args.members.now c.args.nets c.requires.tree c.requires.fits c.args.offsets.now c.requires.offsets c.loop-member.blocks.items c.loop-member.member-index (omega arith) c.loop-member.invariant n e)

pub overflow_sub-bits : goal.overflow_sub-bits
overflow_sub-bits c = omega (arith, bits_fit c.args.members.now c.args.nets c.requires.tree c.requires.fits c.args.offsets.now c.requires.offsets c.loop-member.blocks.items c.loop-member.member-index (omega arith) c.loop-member.invariant)

pub loop-member-preserved : goal.loop-member-preserved
loop-member-preserved c =
    let is_base = rw (c.requires.numbers c.loop-member.member-index (omega arith), c.as_slice.ensures.value) at c.base-base.ensures in
    rw c.in_ok-push.ensures.items (more c.args.members.now c.args.nets c.requires.tree c.requires.fits c.args.offsets.now c.requires.offsets c.loop-member.blocks.items c.loop-member.member-index (omega arith) c.loop-member.invariant c.base-base.result _ is_base refl)
