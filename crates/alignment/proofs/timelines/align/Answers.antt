use Rattle.std.proofs.Common.{length, sym, ap, ◌∙◌, arith, inr}
use Rattle.std.proofs.lemmas.List.FromFn.{length-range_with_len}
use Rattle.alignment.specs.declared.timelines.AlignFault.TheVariants.{TooManyTimelines}
use Rattle.alignment.proofs.Numbering.{ends_within_all, aligned_in}
use Rattle.alignment.proofs.timelines.align.Goals as goal

pub join_labels-requires-clause-nets : goal.join_labels-requires-clause-nets
join_labels-requires-clause-nets g c = sym (ap length c.in_ok-groups.ensures ∙ length-range_with_len 0 (length c.args.nets.now))

pub join_labels-requires-clause-count : goal.join_labels-requires-clause-count
join_labels-requires-clause-count g c =
    let count = ap length c.in_ok-groups.ensures ∙ length-range_with_len 0 (length c.args.nets.now) in
    let most = c.requires.wired.most in
    omega arith

pub join_ends-requires : goal.join_ends-requires
join_ends-requires g c =
    let count = ap length c.in_ok-groups.ensures ∙ length-range_with_len 0 (length c.args.nets.now) in
    let labelled = c.in_ok-join_labels.ensures.count in
    ends_within_all c.args.plan.now c.mappings.result.now (length c.join_labels.new.self) c.requires.wired c.mappings.ensures (labelled ∙ (count ∙ c.requires.nets))

pub timelines-requires : goal.timelines-requires
timelines-requires g c =
    let count = ap length c.in_ok-groups.ensures ∙ length-range_with_len 0 (length c.args.nets.now) in
    let labelled = c.in_ok-join_labels.ensures.count in
    let joined = c.join_ends.ensures.count in
    let most = c.requires.wired.most in
    omega arith

pub returns-then-count-gt-MOST_TIMELINES-clause-cause : goal.returns-then-count-gt-MOST_TIMELINES-clause-cause
returns-then-count-gt-MOST_TIMELINES-clause-cause g c =
    let lines = c.in_ok-lines.lines.items in
    let found = c.in_ok-lines.ensures.lines in
    let count = c.in_ok-lines.ensures.count in
    let above = c.if-count-gt-MOST_TIMELINES.true in
    inr (
      lines,
      aligned_in c.args.plan.now c.args.nets.now c.args.mode c.in_ok-groups.groups c.join_labels.new.self c.join_ends.new.self c.mappings.result.now (length c.args.nets.now) lines
          c.requires.nets c.requires.nets c.mappings.ensures c.in_ok-groups.ensures c.in_ok-join_labels.ensures c.join_ends.ensures c.in_ok-lines.ensures.forest found.0 found.1,
      omega arith,
      ap (λ n. TooManyTimelines n) count,
    )

pub returns-clause-aligned : goal.returns-clause-aligned
returns-clause-aligned g c =
    let found = c.in_ok-lines.ensures.lines in
    aligned_in c.args.plan.now c.args.nets.now c.args.mode c.in_ok-groups.groups c.join_labels.new.self c.join_ends.new.self c.mappings.result.now (length c.args.nets.now) c.in_ok-lines.lines.items
    c.requires.nets c.requires.nets c.mappings.ensures c.in_ok-groups.ensures c.in_ok-join_labels.ensures c.join_ends.ensures c.in_ok-lines.ensures.forest found.0 found.1
