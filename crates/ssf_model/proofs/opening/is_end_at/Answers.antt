use Rattle.std.proofs.Common.{◌∙◌, ap, length, get_or, arith}
use Rattle.std.proofs.lemmas.Slice.Zip.{AllZip-long}
use Rattle.ssf_model.specs.Openings.{IsAsLong}
use Rattle.ssf_model.proofs.Reopened.{long_here, end_at_iff}
use Rattle.ssf_model.proofs.opening.is_end_at.Goals as goal

pub offset_bounds-as_slice-place-2 : goal.offset_bounds-as_slice-place-2
offset_bounds-as_slice-place-2 g c =
    let size = AllZip-long IsAsLong c.args.plan.now.entities c.args.opening.now.entities c.requires.shape.entities in
    let read = ap (λ os. length os) c.as_slice-2.ensures in
    let within = c.requires.entity in omega arith

pub bounds-as_slice-place-2 : goal.bounds-as_slice-place-2
bounds-as_slice-place-2 g c =
    let size = AllZip-long IsAsLong c.args.plan.now.entities c.args.opening.now.entities c.requires.shape.entities in
    let read = ap (λ os. length os) c.as_slice-2.ensures in
    let within = c.requires.entity in omega arith

pub is_end-requires-after_bounds : goal.is_end-requires-after_bounds
is_end-requires-after_bounds g c κs within =
    long_here c.args.plan.now.entities c.args.opening.now.entities c.args.entity c.index-as_slice-place.result c.index-as_slice-place-2.result c.requires.shape.entities c.requires.entity
    (c.index-as_slice-place.is ∙ ap (λ es. get_or es c.args.entity c.index-as_slice-place.result) c.as_slice.ensures)
    (c.index-as_slice-place-2.is ∙ ap (λ os. get_or os c.args.entity c.index-as_slice-place-2.result) c.as_slice-2.ensures)

pub returns-then-key-eq0 : goal.returns-then-key-eq0
returns-then-key-eq0 g c =
    end_at_iff c.args.plan.now.entities c.args.opening.now.entities c.args.entity c.index-as_slice-place.result c.index-as_slice-place-2.result c.args.key.now.priority c.args.process c.args.key.now.channel
    c.args.ticket c.is_end.result c.requires.shape.entities c.requires.entity
    (c.index-as_slice-place.is ∙ ap (λ es. get_or es c.args.entity c.index-as_slice-place.result) c.as_slice.ensures)
    (c.index-as_slice-place-2.is ∙ ap (λ os. get_or os c.args.entity c.index-as_slice-place-2.result) c.as_slice-2.ensures)
    c.if-key-eq0.true c.is_end.ensures
