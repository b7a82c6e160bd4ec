use Rattle.std.proofs.Common.{◌∙◌, refl, ap, map}
use Rattle.sync_core.specs.Cores.{first_mail_of}
use Rattle.sync_core.proofs.Beginning.{rise_of, parts_of, lookahead_of, mails_rise, ordered_first, core_first}
use Rattle.sync_core.proofs.Running.{first_run}
use Rattle.sync_core.proofs.core_parts.Core.new.Goals as goal

pub barrier_of-requires-clause-rising : goal.barrier_of-requires-clause-rising
barrier_of-requires-clause-rising g c =
    let classes = c.requires.classes in
    rise_of c.args.plan c.requires.fits c.args.alignment.now classes.0 c.in_ok-shares.shares (c.in_ok-shares.ensures classes.0 classes.1) c.as_slice.result.now c.as_slice.ensures

pub barrier_of-requires-clause-lookahead : goal.barrier_of-requires-clause-lookahead
barrier_of-requires-clause-lookahead g c =
    let classes = c.requires.classes in
    lookahead_of c.args.plan c.requires.fits c.args.alignment.now classes.0 c.in_ok-shares.shares (c.in_ok-shares.ensures classes.0 classes.1)
    c.requires.aligned.0 c.requires.aligned.1 c.requires.aligned.2 c.args.classes.now c.least_windowed.result classes.1 c.least_windowed.ensures

pub timelines_of-requires-clause-parts : goal.timelines_of-requires-clause-parts
timelines_of-requires-clause-parts g c κs within =
    let classes = c.requires.classes in
    parts_of c.args.plan c.requires.fits c.args.alignment.now classes.0 c.in_ok-shares.shares (c.in_ok-shares.ensures classes.0 classes.1) c.into_vec.result.items c.into_vec.ensures

pub mails_of-requires-clause-rising : goal.mails_of-requires-clause-rising
mails_of-requires-clause-rising g c κs within =
    let classes = c.requires.classes in
    mails_rise c.args.plan c.requires.fits c.args.alignment.now classes.0 c.in_ok-shares.shares (c.in_ok-shares.ensures classes.0 classes.1)
    c.args.until c.args.budget c.into_vec.result.items c.into_vec.ensures c.in_ok-timelines.timelines.items c.in_ok-timelines.ensures c.as_slice-2.result.now c.as_slice-2.ensures.value

pub invariant_of-result : goal.invariant_of-result
invariant_of-result g c =
    let classes = c.requires.classes in
    ordered_first c.args.plan c.requires.fits c.args.alignment.now classes.0 c.in_ok-shares.shares (c.in_ok-shares.ensures classes.0 classes.1)
    c.args.until c.args.budget c.into_vec.result.items c.into_vec.ensures c.in_ok-timelines.timelines.items c.in_ok-timelines.ensures
    c.into_vec-2.result.items c.into_vec-2.ensures _ refl refl refl c.requires.until

pub returns-clause-first : goal.returns-clause-first
returns-clause-first g c = λ threshold is.
    core_first c.args.plan c.requires.fits c.args.alignment.now threshold c.in_ok-shares.shares (c.in_ok-shares.ensures threshold is)
    c.args.until c.args.budget c.into_vec.result.items c.into_vec.ensures c.in_ok-timelines.timelines.items c.in_ok-timelines.ensures
    c.into_vec-2.result.items c.into_vec-2.ensures _ refl refl refl
    refl refl refl refl (c.in_ok-mails.ensures ∙ ap (map first_mail_of) c.as_slice-2.ensures.value) c.args.classes.now c.as_slice.result.now c.count.result c.least_windowed.result is c.as_slice.ensures c.count.ensures c.least_windowed.ensures
    c.in_ok-barrier.ensures

pub returns-clause-run : goal.returns-clause-run
returns-clause-run g c =
    let threshold = c.requires.classes.0 in
    let is = c.requires.classes.1 in
    first_run g.B.Behaviour.reaction g.B.Behaviour.valid g.B.Behaviour.carried g.met.B.Behaviour.sound g.met.B.Behaviour.modest
    c.args.plan c.requires.aligned.0 c.requires.aligned.1 c.args.alignment.now threshold c.args.until c.args.budget _ c.requires.fits c.requires.aligned.2 c.requires.until c.requires.budget
    (core_first c.args.plan c.requires.fits c.args.alignment.now threshold c.in_ok-shares.shares (c.in_ok-shares.ensures threshold is)
    c.args.until c.args.budget c.into_vec.result.items c.into_vec.ensures c.in_ok-timelines.timelines.items c.in_ok-timelines.ensures
    c.into_vec-2.result.items c.into_vec-2.ensures _ refl refl refl
    refl refl refl refl (c.in_ok-mails.ensures ∙ ap (map first_mail_of) c.as_slice-2.ensures.value) c.args.classes.now c.as_slice.result.now c.count.result c.least_windowed.result is c.as_slice.ensures c.count.ensures c.least_windowed.ensures
    c.in_ok-barrier.ensures)
