use Rattle.std.proofs.Common.{sym, arith}
use Rattle.net_resolve.proofs.Attaching.{taken_put}
use Rattle.net_resolve.proofs.links.attach_one.Goals as goal

pub bounds-places-interface : goal.bounds-places-interface
bounds-places-interface c = let below = c.in_ok-interface.ensures.there c.in-Some.interface c.in-Some.is in omega (arith, below, c.requires)

pub returns-in-None-clause-taken : goal.returns-in-None-clause-taken
returns-in-None-clause-taken c =
    let below = c.in_ok-interface.ensures.there c.in-Some.interface c.in-Some.is in
    taken_put c.args.places.now c.in-Some.interface (c.args.link, c.args.place) (omega (arith, below, c.requires)) (sym c.in-None.ensures)
