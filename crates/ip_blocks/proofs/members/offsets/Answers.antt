use Rattle.std.proofs.Common.{◌≡◌, ℕ, ◌+◌, ◌^◌, ◌<◌, ◌≤◌, List, length, slice_index, slice_set, map, take, drop, Option, Some, None, IfSome, IfNone, refl, ap, subst, sym, ◌∙◌, arith, length-set}
use Rattle.std.proofs.lemmas.List.{get_or-replicate, take_at}
use Rattle.ip_blocks.specs.declared.members.Member.{Member}
use Rattle.ip_blocks.specs.Blocks.{sum_in, offset_in}
use Rattle.ip_blocks.specs.Tree.{IsTree}
use Rattle.ip_blocks.specs.Sums.{AllFit}
use Rattle.ip_blocks.specs.Members.{part_of, AreInTurn, AreNumbered}
use Rattle.ip_blocks.proofs.Adding.{sum_in-nil}
use Rattle.ip_blocks.proofs.Turns.{turn, Placed, turn_number, turn_fits, used_top, used_more, placed_top, placed_more, all_placed}
use Rattle.ip_blocks.proofs.members.offsets.Goals as goal

-- what is kept from one turn to the next
record Kept (members turns : List Member) (count k : ℕ) (used offsets : List ℕ) : Type 0 where
  used_long : length used ≡ count
  offsets_long : length offsets ≡ length members
  spent : (n : ℕ) → n < count → slice_index used n ≡ sum_in n (map part_of (take k turns))
  placed : (j n : ℕ) → j < k → (turn turns j).net ≡ Some n → slice_index offsets (turn turns j).number ≡ offset_in n (map part_of members) (part_of (turn turns j))

module _ (members turns : List Member) (count : ℕ) (t : IsTree (map part_of members) count) (numbers : AreNumbered members) (order : AreInTurn members turns) where
  more : (o : Option ℕ) (k : ℕ) (used offsets used' offsets' : List ℕ) → k < length turns → (turn turns k).net ≡ o → Kept members turns count k used offsets → IfNone o ((used' ≡ used) × (offsets' ≡ offsets)) → IfSome o (λ n. used' ≡ slice_set used n (slice_index used n + 2 ^ (turn turns k).exponent)) → IfSome o (λ n. offsets' ≡ slice_set offsets (turn turns k).number (slice_index used n)) → Kept members turns count (k + 1) used' offsets'
  more None k used offsets used' offsets' lt e kept same one two = record {
    used_long = ap length same.0 ∙ kept.used_long;
    offsets_long = ap length same.1 ∙ kept.offsets_long;
    spent = rw same.0 (used_top members turns count t numbers order used k lt e kept.spent);
    placed = rw same.1 (placed_top members turns count t numbers order offsets k e kept.placed);
  }
  more (Some n) k used offsets used' offsets' lt e kept same one two =
      let low : n < count = (turn_fits members turns count t numbers order k n lt e).0 in
      record {
        used_long = ap length one ∙ length-set used n (slice_index used n + 2 ^ (turn turns k).exponent) ∙ kept.used_long;
        offsets_long = ap length two ∙ length-set offsets (turn turns k).number (slice_index used n) ∙ kept.offsets_long;
        spent = rw one (used_more members turns count t numbers order used k n lt kept.used_long e kept.spent);
        placed = rw two (placed_more members turns count t numbers order used offsets k n lt low kept.offsets_long e kept.spent kept.placed);
      }

  room : (k n : ℕ) (used : List ℕ) → k < length turns → (turn turns k).net ≡ Some n → AllFit count (map part_of members) → ((m : ℕ) → m < count → slice_index used m ≡ sum_in m (map part_of (take k turns))) → slice_index used n + 2 ^ (turn turns k).exponent ≤ 2 ^ 24
  room k n used lt e fits h =
      let f = turn_fits members turns count t numbers order k n lt e in
      omega (arith, h n f.0, f.2, fits n f.0)

pub loop-member-init : goal.loop-member-init
loop-member-init c = record {
  used_long = omega (arith, c.in_ok-spent.ensures.len, c.as_mut_slice-used.ensures.len);
  offsets_long = omega (arith, c.in_ok-places.ensures.len, c.as_mut_slice-offsets.ensures.len);
  used = λ n lt. ap (λ xs. slice_index xs n) (c.as_mut_slice-used.ensures.value ∙ c.in_ok-spent.ensures.items_if_clones_equal (λ y e. e)) ∙ get_or-replicate c.args.nets n 0 0 lt ∙ sym (sum_in-nil n);
  placed = λ k n lt e. absurd (omega arith);
}

pub place-requires-clause-number : goal.place-requires-clause-number
place-requires-clause-number c =
    let order = rw (← c.deref-member-items.ensures.value) at c.in_ok-turns.ensures in
    omega (arith, turn_number c.args.members.now c.deref-member-items.result.now c.args.nets c.requires.tree c.requires.numbers order c.loop-member.member-index c.loop-member-test.true, c.loop-member.invariant.offsets_long)

pub place-requires-clause-net : goal.place-requires-clause-net
place-requires-clause-net c = λ n e.
    let order = rw (← c.deref-member-items.ensures.value) at c.in_ok-turns.ensures in
    omega (arith, (turn_fits c.args.members.now c.deref-member-items.result.now c.args.nets c.requires.tree c.requires.numbers order c.loop-member.member-index n c.loop-member-test.true e).0, c.loop-member.invariant.used_long)

pub place-requires-clause-room : goal.place-requires-clause-room
place-requires-clause-room c = λ n e.
    let order = rw (← c.deref-member-items.ensures.value) at c.in_ok-turns.ensures in
    room c.args.members.now c.deref-member-items.result.now c.args.nets c.requires.tree c.requires.numbers order c.loop-member.member-index n c.loop-member.used c.loop-member-test.true e c.requires.fits c.loop-member.invariant.used

pub loop-member-preserved : goal.loop-member-preserved
loop-member-preserved c =
    let order = rw (← c.deref-member-items.ensures.value) at c.in_ok-turns.ensures in
    let turns : List Member = c.deref-member-items.result.now in
    let i : ℕ = c.loop-member.member-index in
    let old = c.loop-member.invariant in
    let kept = more c.args.members.now turns c.args.nets c.requires.tree c.requires.numbers order (turn turns i).net i c.loop-member.used c.loop-member.offsets c.place.new.used c.place.new.offsets c.loop-member-test.true refl
    (record { used_long = old.used_long; offsets_long = old.offsets_long; spent = old.used; placed = old.placed }) c.place.ensures.top c.place.ensures.used c.place.ensures.offset in
    record { used_long = kept.used_long; offsets_long = kept.offsets_long; used = kept.spent; placed = kept.placed }

pub returns : goal.returns
returns c =
    let order = rw (← c.deref-member-items.ensures.value) at c.in_ok-turns.ensures in
    let turns : List Member = c.deref-member-items.result.now in
    let offsets : List ℕ = c.loop-member.offsets in
    let old = c.loop-member.invariant in
    let end : c.loop-member.member-index ≡ length turns = omega arith in
    let placed = all_placed c.args.members.now turns c.args.nets c.requires.tree c.requires.numbers order offsets (subst (Placed c.args.members.now turns c.args.nets c.requires.tree c.requires.numbers order offsets) end old.placed) in
    let given = take_at offsets (drop (length offsets) c.in_ok-places.places.items) c.in_ok-places.places.len (omega (arith, c.in_ok-places.ensures.len, c.in_ok-places.places.ok.0, old.offsets_long)) in
    rw given (old.offsets_long, placed)
