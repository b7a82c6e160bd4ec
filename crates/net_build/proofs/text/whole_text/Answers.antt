use Rattle.net_layout.proofs.Limiting.{few_channels}
use Rattle.net_build.proofs.text.whole_text.Goals as goal

pub push_mappings-requires-clause-few : goal.push_mappings-requires-clause-few
push_mappings-requires-clause-few c = few_channels c.args.network.now c.requires.faultless
