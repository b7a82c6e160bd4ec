use Rattle.std.proofs.Common.{◌≡◌, ◌+◌, ◌<◌, sym, ap, subst, length, length-set, drop, drop-set-lt, set, ◌++◌, take, arith}
use Rattle.std.specs.List.{AllZip}
use Rattle.ssf_model.specs.Openings.{IsAsLong, reopened_entities, reopened_entity}
use Rattle.ssf_model.proofs.Reopened.{long_next, entities_next, entities_end}
use Rattle.ssf_model.proofs.opening.reopen_all.Goals as goal

pub reopen-requires-after_bounds : goal.reopen-requires-after_bounds
reopen-requires-after_bounds g c κs within =
    let left = c.loop-opened.invariant.4 in
    let steps = ap (λ os. length os) c.in-Some.ensures.steps.0 in
    let h : c.loop-opened.index < length c.loop-opened.entities.items = omega arith in
    (long_next c.loop-opened.entities.items c.loop-opened.index c.index_mut.result.now c.in-Some.opened c.next.new.self.rest.items c.loop-opened.opened-iterator.rest.items h
    c.index_mut.ensures.value c.in-Some.ensures.steps.0 c.loop-opened.invariant.3).0

pub loop-opened-preserved : goal.loop-opened-preserved
loop-opened-preserved g c =
    let left = c.loop-opened.invariant.4 in
    let steps = ap (λ os. length os) c.in-Some.ensures.steps.0 in
    let es = c.loop-opened.entities.items in
    let i = c.loop-opened.index in
    let h : i < length es = omega arith in
    let rest = long_next es i c.index_mut.result.now c.in-Some.opened c.next.new.self.rest.items c.loop-opened.opened-iterator.rest.items h
    c.index_mut.ensures.value c.in-Some.ensures.steps.0 c.loop-opened.invariant.3 in
    let is : set es i c.reopen.new.entity ≡ set es i (reopened_entity c.index_mut.result.now c.in-Some.opened) = ap (λ e. set es i e) c.reopen.ensures in
    let later : drop (i + 1) (set es i c.reopen.new.entity) ≡ drop (i + 1) es = drop-set-lt (i + 1) es i c.reopen.new.entity (omega arith) in
    let size = length-set es i c.reopen.new.entity in (
      tt,
      tt,
      entities_next (reopened_entities c.args.entities.items c.args.opened.items) es (set es i c.reopen.new.entity) c.in-Some.opened c.next.new.self.rest.items i c.index_mut.result.now h c.index_mut.ensures.value is
          (subst (λ os. take i es ++ reopened_entities (drop i es) os ≡ reopened_entities c.args.entities.items c.args.opened.items) c.in-Some.ensures.steps.0 c.loop-opened.invariant.2),
      subst (λ ds. AllZip IsAsLong ds c.next.new.self.rest.items) (sym later) rest.1,
      omega arith,
    )

pub returns : goal.returns
returns g c =
    let left = c.loop-opened.invariant.4 in
    let none = c.in-None.ensures.steps.0 in
    let items = c.loop-opened.opened-iterator.rest.ok.0 in
    entities_end (reopened_entities c.args.entities.items c.args.opened.items) c.loop-opened.entities.items c.loop-opened.opened-iterator.rest.items c.loop-opened.index (omega arith) c.loop-opened.invariant.2
