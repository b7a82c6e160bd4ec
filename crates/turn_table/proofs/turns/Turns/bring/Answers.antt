use Rattle.turn_table.proofs.Hands.{turn_within}
use Rattle.turn_table.proofs.turns.Turns.bring.Goals as goal

pub reach-value-requires-clause-words : goal.reach-value-requires-clause-words
reach-value-requires-clause-words g c = turn_within _ _ c.args.pass.now c.args.turn.place c.requires.pass c.requires.place
