use Rattle.std.proofs.Common.{◌≡◌, [], map, take}
use Rattle.std.specs.List.{filter}
use Rattle.timeline_parts.specs.Parts.{channel_of}
use Rattle.sync_steps.specs.declared.steps.Step.TheVariants.{Post}
use Rattle.core_rules.specs.Stepping.{is_enabled}
use Rattle.sync_core.proofs.core_parts.Core.first_post.Given as goal

abbrev pub invariant-loop-cross : goal.invariant-loop-cross
invariant-loop-cross g l = filter (is_enabled l.self) (map (λ cross. Post l.number (channel_of cross)) (take l.cross-index l.outs)) ≡ []
