use Rattle.std.proofs.Common.{◌≡◌, ℕ, false, get_or, Ordering, arith, rules, nat_cmp, is_lt}
use Rattle.std.specs.Ordering.{ordering_then}
use Rattle.std.specs.Cmp.{IsTotalOrder}
use Rattle.std.specs.declared.cmp.Reverse.{Reverse}
use Rattle.std.proofs.lemmas.Cmp.{nat_cmp_total, on_total, then_total, back_total}
use Rattle.std.proofs.lemmas.List.Sorted.{sorted_far, ranks_by, answers_always}
use Rattle.std.proofs.lemmas.Bool.Decides.{nat_tests}
use Rattle.ip_blocks.specs.declared.members.Member.{Member}
use Rattle.ip_blocks.specs.Blocks.{Part, goes_before}
use Rattle.ip_blocks.specs.Members.{part_of}
use Rattle.ip_blocks.proofs.members.in_turn.Goals as goal

abbrev turn_of : Member → Reverse ℕ × ℕ
turn_of member = (record { 0 = member.exponent }, member.order)

abbrev turn_cmp : Reverse ℕ × ℕ → Reverse ℕ × ℕ → Ordering
turn_cmp x y = ordering_then (nat_cmp y.0.0 x.0.0) (nat_cmp x.1 y.1)

turn_total : IsTotalOrder turn_cmp
turn_total = then_total (back_total (on_total (λ (t : Reverse ℕ × ℕ). t.0.0) nat_cmp_total)) (on_total (λ (t : Reverse ℕ × ℕ). t.1) nat_cmp_total)

not_before : (a b : Part) → is_lt (ordering_then (nat_cmp b.exponent a.exponent) (nat_cmp a.order b.order)) ≡ false → goes_before a b ≡ false
not_before a b h = grind (arith, nat_tests)

pub returns : goal.returns
returns c =
    let sorted = c.in_ok-sort_by_key.ensures.sorted turn_of (answers_always _ _ _ (λ f a r g h. search rules)) in
    record {
      same = rw (← c.in_ok-turns.ensures.items) c.in_ok-sort_by_key.ensures.permutation;
      larger_first = λ i j d less lt. not_before (part_of (get_or c.sort_by_key.new.self.items j d)) (part_of (get_or c.sort_by_key.new.self.items i d))
          (sorted_far (λ (x y : Member). is_lt (turn_cmp (turn_of x) (turn_of y))) (ranks_by turn_total turn_of) c.sort_by_key.new.self.items sorted i j d (omega arith) lt);
    }
