use Rattle.std.proofs.Common.{map, string_bytes, rules}
use Rattle.ssfnet_top.proofs.FaultPlaces.{fault_in_files, path_of_model}
use Rattle.ssfnet_top.proofs.resolving.resolve_files.Goals as goal

pub path_refusal-requires : goal.path_refusal-requires
path_refusal-requires c = fault_in_files (map string_bytes c.args.names.now) c.args.tree.now c.requires c.in-Err.fault c.in-Err.ensures.cause

pub returns-in-Err-clause-refusal : goal.returns-in-Err-clause-refusal
returns-in-Err-clause-refusal c =
    let names = map string_bytes c.args.names.now in
    path_of_model names c.in-Err.fault c.path_refusal.result (fault_in_files names c.args.tree.now c.requires c.in-Err.fault c.in-Err.ensures.cause) (search rules) c.path_refusal.ensures
