use Rattle.channel_places.proofs.Places.{place_is, place_found}
use Rattle.channel_places.proofs.place_of.Goals as goal

pub unreachable-requires : goal.unreachable-requires
unreachable-requires c = place_found c.args.channels.now c.args.channel c.in-Err.field-0 c.requires.rising c.in-Err.ensures.position c.requires.among

pub returns : goal.returns
returns c = place_is c.args.channels.now c.args.channel c.in-Ok.place c.requires.rising c.in-Ok.ensures.position
