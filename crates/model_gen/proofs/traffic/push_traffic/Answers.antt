use Rattle.std.proofs.Common.{ℕ, ◌∷◌, [], ◌++◌, sym, ◌∙◌}
use Rattle.std.specs.Prelude.{codes}
use Rattle.std.specs.List.{flat_map}
use Rattle.model_gen.specs.Draws.{server_net}
use Rattle.model_gen.specs.Campus.{lines, numbers, pattern_of}
use Rattle.model_gen.proofs.Texts.{onto, traffic_is}
use Rattle.model_gen.proofs.traffic.push_traffic.Goals as goal

pub returns : goal.returns
returns c =
    onto (codes "  ]" ++ 10 ∷ []) (onto (flat_map (λ (i : ℕ). lines 4 (pattern_of i (server_net c.args.seed c.args.size i))) (numbers c.args.size))
    c.in_ok-extend_from_slice.ensures.items
    c.in_ok-push_patterns.ensures)
    c.in_ok-extend_from_slice-2.ensures.items
    ∙ sym (traffic_is c.args.out.now.items c.args.seed c.args.size)
