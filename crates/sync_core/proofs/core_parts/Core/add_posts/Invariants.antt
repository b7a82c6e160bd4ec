use Rattle.std.proofs.Common.{◌≡◌, ◌++◌, take}
use Rattle.std.specs.List.{filter, flat_map, enumerate_from}
use Rattle.core_rules.specs.Stepping.{is_enabled}
use Rattle.sync_core.specs.Steps.{posts_of}
use Rattle.sync_core.proofs.core_parts.Core.add_posts.Given as goal

abbrev pub invariant-loop-number : goal.invariant-loop-number
invariant-loop-number g l = l.steps.items ≡ l.initial.steps.items ++ filter (is_enabled l.self) (flat_map posts_of (take l.number (enumerate_from 0 l.self.timelines)))
