use Rattle.std.proofs.Common.{◌≡◌, ◌+◌, take}
use Rattle.ssf_model.specs.Drafts.{with_channels}
use Rattle.ssf_model.proofs.builder.numbered.Given as goal

abbrev pub invariant-loop-mapping : goal.invariant-loop-mapping
invariant-loop-mapping l = (l.numbered.items ≡ with_channels l.first (take l.mapping-index l.mappings)) × (l.channel ≡ l.first + l.mapping-index)
