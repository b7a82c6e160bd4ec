use Rattle.std.proofs.Common.{◌∙◌, inr, arith}
use Rattle.std.proofs.lemmas.Grind.{common_steps}
use Rattle.ssfnet_top.proofs.FaultPlaces.{files_placed}
use Rattle.ssfnet_top.proofs.FilesRead.{files_refused, files_next, files_last, file_of_files, reaches_next, reached_here}
use Rattle.ssfnet_top.proofs.files.read_files.Goals as goal

pub returns-in-Err-clause-files : goal.returns-in-Err-clause-files
returns-in-Err-clause-files g c =
    files_refused _ c.args.names.now c.loop-number.number c.index-names-number.result c.as_str.result.now c.as_str.ensures.value c.loop-number-test.true c.index-names-number.is
    (g.L.Library.files c.args.library.now) (g.L.Library.files c.loop-number.library) c.in-Err.refusal c.loop-number.root c.loop-number.invariant.same c.in-Err.ensures.file c.loop-number.invariant.told

pub returns-in-Err-clause-cause : goal.returns-in-Err-clause-cause
returns-in-Err-clause-cause g c =
    file_of_files ⊥ c.args.names.now c.loop-number.number c.index-names-number.result c.as_str.result.now c.as_str.ensures.value c.loop-number-test.true c.index-names-number.is
    c.in-Err.refusal c.in-Err.ensures.cause

pub returns-in-Err-clause-reached : goal.returns-in-Err-clause-reached
returns-in-Err-clause-reached g c =
    reached_here ⊥ c.args.names.now c.loop-number.number c.index-names-number.result c.as_str.result.now c.as_str.ensures.value c.loop-number-test.true c.index-names-number.is
    (g.L.Library.files c.args.library.now) c.in-Err.refusal c.in-Err.ensures.cause c.loop-number.invariant.reached

pub loop-number-preserved : goal.loop-number-preserved
loop-number-preserved g c = record {
  later = omega (arith, c.loop-number.invariant.later, c.read_tree.ensures.never_falls);
  same = c.read_tree.ensures.same_files ∙ c.loop-number.invariant.same;
  placed = files_placed c.args.names.now c.loop-number.number c.loop-number.root c.in-Ok.tree c.join.new.first c.loop-number-test.true (grind (arith, common_steps))
      c.loop-number.invariant.placed c.in-Ok.ensures.placed;
  told = files_next ⊥ c.args.names.now c.loop-number.number c.index-names-number.result c.as_str.result.now c.as_str.ensures.value c.loop-number-test.true c.index-names-number.is
      (g.L.Library.files c.args.library.now) (g.L.Library.files c.loop-number.library) c.in-Ok.tree c.loop-number.root c.join.new.first c.loop-number.invariant.same
      (grind (arith, common_steps)) c.in-Ok.ensures.file c.loop-number.invariant.told;
  reached = reaches_next ⊥ c.args.names.now c.loop-number.number c.index-names-number.result c.as_str.result.now c.as_str.ensures.value c.loop-number-test.true c.index-names-number.is
      (g.L.Library.files c.args.library.now) (g.L.Library.files c.loop-number.library) c.in-Ok.tree c.loop-number.invariant.same c.in-Ok.ensures.file c.loop-number.invariant.reached;
}

pub returns-clause-files : goal.returns-clause-files
returns-clause-files g c = inr (files_last (g.L.Library.files c.args.library.now) c.args.names.now c.loop-number.number c.loop-number.root (grind (arith, common_steps)) c.loop-number.invariant.told)
