use Rattle.std.proofs.Common.{◌≡◌, ◌<◌, ◌∙◌, ◌++◌, ap, arith, length, take}
use Rattle.std.specs.List.{filter, flat_map, enumerate_from}
use Rattle.core_rules.specs.Stepping.{is_enabled}
use Rattle.core_rules.proofs.Lists.{got_at}
use Rattle.sync_core.specs.Steps.{posts_of}
use Rattle.sync_core.proofs.Listing.{listed_more, posts_more, all_posts}
use Rattle.sync_core.proofs.core_parts.Core.add_posts.Goals as goal

pub loop-number-preserved : goal.loop-number-preserved
loop-number-preserved g c =
    let core = c.args.self.now in
    let n = c.loop-number.number in
    let there : n < length core.timelines = omega arith in
    let found = got_at core.timelines n there in
    listed_more (is_enabled core) c.args.steps.now.items c.loop-number.steps.items c.add_posts_of.new.steps.items (flat_map posts_of (take n (enumerate_from 0 core.timelines))) (posts_of (n, found.0)) _
    c.loop-number.invariant (c.in_ok-add_posts_of.ensures found.0 found.1) (posts_more core.timelines n found.0 found.1)

pub returns : goal.returns
returns g c =
    let core = c.args.self.now in
    let n = c.loop-number.number in
    let all : length core.timelines ≡ n = omega arith in
    c.loop-number.invariant ∙ ap (λ l. c.args.steps.now.items ++ filter (is_enabled core) l) (all_posts core.timelines n all)
