use Rattle.std.proofs.Common.{arith}
use Rattle.std.proofs.lemmas.Grind.{common_steps}
use Rattle.sim_base.proofs.memory_library.MemoryLibraryLibrary.fetch.Goals as goal

pub returns-in-Some-clause-content : goal.returns-in-Some-clause-content
returns-in-Some-clause-content c =
    (c.in-Some.ensures.found.0.1, grind (arith, common_steps), grind (arith, common_steps))
