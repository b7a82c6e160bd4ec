-- The best route by its definition is the one that `best` finds.
use Rattle.std.proofs.Common.{◌≡◌, ℕ, zero, suc, ◌+◌, ◌<◌, ◌≤◌, ◌⊎◌, inl, inr, Bool, true, false, cond, if◌then◌else◌, ◌&&◌, nat_lt, nat_le, List, [], ◌∷◌, length, Option, Some, None, refl, sym, subst, ◌∙◌, ap, arith}
use Rattle.std.specs.Prelude.{MatchOption, EachIndex, IfSome, IfNone}
use Rattle.std.proofs.lemmas.Grind.{common_steps}
use Rattle.std.proofs.lemmas.Bool.{ltb-true, cases_lt}
use Rattle.spf_routes.specs.declared.graph.Route.{Route}
use Rattle.spf_routes.specs.Best.{route_at, HoldsAt, IsBest, IsChoice}
use Rattle.ip_blocks.specs.declared.block.Block.{Block}
use Rattle.ip_blocks.specs.Blocks.{Holds, block_end}
use Rattle.ip_layer.specs.Forwarding.{is_in, better, best_route}

in_holds : (b : Block) (a : ℕ) → is_in b a ≡ true → Holds b a
in_holds b a h = (grind (arith, common_steps), grind (arith, common_steps))

out_holds : (b : Block) (a : ℕ) → is_in b a ≡ false → Holds b a → ⊥
out_holds b a h q = let l = q.0 in let r = q.1 in grind (arith, common_steps)

not_less : (a b : ℕ) → nat_lt a b ≡ false → b ≤ a
not_less a b h = grind (arith, common_steps)

module _ (route : Route) (rs : List Route) (a : ℕ) where
  -- no route behind holds the address, nor this one
  none_of : (Holds route.block a → ⊥) → ((k : ℕ) → k < length rs → HoldsAt rs a k → ⊥) → (k : ℕ) → k < suc (length rs) → HoldsAt (route ∷ rs) a k → ⊥
  none_of out none zero in_range h = out h
  none_of out none (suc k) in_range h = none k (omega arith) h

  -- the best behind stays the best where this one does not hold the address, or has a shorter block
  longest_at : (n : ℕ) → (Holds route.block a → route.block.bits < (route_at rs n).block.bits) → IsBest rs a (length rs) n
      → (k : ℕ) → k < suc (length rs) → HoldsAt (route ∷ rs) a k → (route_at (route ∷ rs) k).block.bits ≤ (route_at rs n).block.bits
  longest_at n first best zero in_range h = let less = first h in omega arith
  longest_at n first best (suc k) in_range h = best.longest k (omega arith) h

  first_at : (n : ℕ) → (Holds route.block a → route.block.bits < (route_at rs n).block.bits) → IsBest rs a (length rs) n
      → (k : ℕ) → k < suc n → HoldsAt (route ∷ rs) a k → (route_at (route ∷ rs) k).block.bits < (route_at rs n).block.bits
  first_at n first best zero in_range h = first h
  first_at n first best (suc k) in_range h = best.first k (omega arith) h

  later : (n : ℕ) → (Holds route.block a → route.block.bits < (route_at rs n).block.bits) → IsBest rs a (length rs) n → IsBest (route ∷ rs) a (suc (length rs)) (suc n)
  later n first best = record {
    there = let t = best.there in omega arith;
    holds = best.holds;
    longest = longest_at n first best;
    first = first_at n first best;
  }

  -- this one is the best where it holds the address and none behind has a longer block
  all_below : (bits : ℕ) → ((k : ℕ) → k < length rs → HoldsAt rs a k → (route_at rs k).block.bits ≤ route.block.bits)
      → (k : ℕ) → k < suc (length rs) → HoldsAt (route ∷ rs) a k → (route_at (route ∷ rs) k).block.bits ≤ route.block.bits
  all_below bits below zero in_range h = omega arith
  all_below bits below (suc k) in_range h = below k (omega arith) h

  here : Holds route.block a → ((k : ℕ) → k < length rs → HoldsAt rs a k → (route_at rs k).block.bits ≤ route.block.bits) → IsBest (route ∷ rs) a (suc (length rs)) 0
  here holds below = record {
    there = omega arith;
    holds = holds;
    longest = all_below 0 below;
    first = λ k in_range h. absurd (omega (arith, in_range));
  }

  either : (longer : Bool) (n : ℕ) → nat_lt route.block.bits (route_at rs n).block.bits ≡ longer → Holds route.block a → IsBest rs a (length rs) n
      → IsChoice (route ∷ rs) a (suc (length rs)) (if longer then Some (suc n) else Some 0)
  either true n test holds best = later n (λ h. ltb-true route.block.bits (route_at rs n).block.bits test) best
  either false n test holds best = here holds (λ k in_range h. let less = not_less route.block.bits (route_at rs n).block.bits test in let most = best.longest k in_range h in omega arith)

  choose : (inside : Bool) (best : Option ℕ) → is_in route.block a ≡ inside → IsChoice rs a (length rs) best → IsChoice (route ∷ rs) a (suc (length rs)) (better inside route rs best)
  choose false None test is = none_of (out_holds route.block a test) is
  choose false (Some n) test is = later n (λ h. absurd (out_holds route.block a test h)) is
  choose true None test is = here (in_holds route.block a test) (λ k in_range h. absurd (is k in_range h))
  choose true (Some n) test is = either (nat_lt route.block.bits (route_at rs n).block.bits) n refl (in_holds route.block a test) is

pub best_is : (routes : List Route) (a : ℕ) → IsChoice routes a (length routes) (best_route routes a)
unfolding best_route
best_is [] a = λ k in_range h. absurd (omega (arith, in_range))
best_is (route ∷ rs) a = choose route rs a (is_in route.block a) (best_route rs a) refl (best_is rs a)

-- there is one best route at most
one_best : (routes : List Route) (a k n : ℕ) → IsBest routes a (length routes) k → IsBest routes a (length routes) n → k ≡ n
one_best routes a k n best other =
    elim (cases_lt k n) [
      | inl less ↦ let f = other.first k less best.holds in let l = best.longest n other.there other.holds in absurd (omega (arith, f, l))
      | inr rest ↦ elim (cases_lt n k) [
        | inl more ↦ let f = best.first n more other.holds in let l = other.longest k best.there best.holds in absurd (omega (arith, f, l))
        | inr same ↦ omega arith
      ]
    ]

found_same : (routes : List Route) (a k : ℕ) (choice : Option ℕ) → IsChoice routes a (length routes) choice → IsBest routes a (length routes) k → choice ≡ Some k
found_same routes a k None is best = absurd (is k best.there best.holds)
found_same routes a k (Some n) is best = ap Some (one_best routes a n k is best)

none_same : (routes : List Route) (a : ℕ) (choice : Option ℕ) → IsChoice routes a (length routes) choice → ((k : ℕ) → k < length routes → HoldsAt routes a k → ⊥) → choice ≡ None
none_same routes a None is none = refl
none_same routes a (Some n) is none = absurd (none n is.there is.holds)

pub best_found : (routes : List Route) (a : ℕ) (result : Option ℕ) → IfSome result (λ k. IsBest routes a (length routes) k) → IfNone result (EachIndex routes (λ k. HoldsAt routes a k → ⊥)) → result ≡ best_route routes a
best_found routes a None found none = sym (none_same routes a (best_route routes a) (best_is routes a) none)
best_found routes a (Some k) found none = sym (found_same routes a k (best_route routes a) (best_is routes a) found)
