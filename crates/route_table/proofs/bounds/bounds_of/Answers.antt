use Rattle.std.proofs.Common.{◌≡◌, ◌^◌, ◌<◌, ℕ, length, subst, arith}
use Rattle.std.specs.List.{Contains}
use Rattle.std.proofs.Math.Dec.{eqb}
use Rattle.std.proofs.lemmas.List.Filters.{dedup_is}
use Rattle.std.proofs.lemmas.List.Kept.{Contains-dedup_nat}
use Rattle.std.proofs.lemmas.List.Sorted.{Contains-permutation}
use Rattle.std.proofs.lemmas.Map.Keys.{IsStrictlyIncreasing-dedup}
use Rattle.std.specs.List.Sorted.{IsStrictlyIncreasing}
use Rattle.ip_blocks.specs.declared.block.Block.{Block}
use Rattle.ip_blocks.specs.Blocks.{block_end}
use Rattle.route_table.specs.Tables.{HasBounds}
use Rattle.route_table.proofs.Bounding.{more_bounds, one_more}
use Rattle.route_table.proofs.bounds.bounds_of.Goals as goal

pub loop-place-preserved : goal.loop-place-preserved
loop-place-preserved c =
    let routes = c.args.routes.now in
    let count = c.loop-place.place in
    let after = c.push_bounds.new.bounds.items in
    let same = c.block_at.ensures in
    one_more routes count after (more_bounds routes count c.loop-place.bounds.items after c.in_ok-push_bounds.ensures.kept c.loop-place.invariant)
    (subst (λ (b : Block). Contains after b.base) same c.in_ok-push_bounds.ensures.begins)
    (subst (λ (b : Block). block_end b < 2 ^ 32 → Contains after (block_end b)) same c.in_ok-push_bounds.ensures.ends)

pub returns-clause-rising : goal.returns-clause-rising
returns-clause-rising c =
    let is = dedup_is eqb c.sort_unstable.new.self.items c.dedup.new.self.items c.dedup.ensures.filtered in
    let rises : IsStrictlyIncreasing c.dedup.new.self.items = rw is (IsStrictlyIncreasing-dedup c.sort_unstable.new.self.items c.sort_unstable.ensures.sorted) in
    rises

pub returns-clause-all : goal.returns-clause-all
returns-clause-all c =
    let sorted = c.sort_unstable.new.self.items in
    let is = dedup_is eqb sorted c.dedup.new.self.items c.dedup.ensures.filtered in
    let routes = c.args.routes.now in
    let same : c.loop-place.place ≡ length routes = omega arith in
    let has : HasBounds routes (length routes) c.loop-place.bounds.items = subst (λ (n : ℕ). HasBounds routes n c.loop-place.bounds.items) same c.loop-place.invariant in
    more_bounds routes (length routes) c.loop-place.bounds.items c.dedup.new.self.items
    (λ x h. rw is (Contains-dedup_nat sorted x (Contains-permutation c.loop-place.bounds.items sorted x c.sort_unstable.ensures.permutation h))) has
