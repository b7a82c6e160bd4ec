use Rattle.std.proofs.Common.{length, refl, sym}
use Rattle.std.proofs.lemmas.Option.{slice_get_read}
use Rattle.share_turns.proofs.near.Near.of.Goals as goal

pub returns : goal.returns
returns c = (c.index.result.now, slice_get_read c.args.self.now.rows.items (length c.args.self.now.rows.items) c.args.timeline c.index.result.now refl c.requires c.index.ensures, sym c.as_slice.ensures.value)
