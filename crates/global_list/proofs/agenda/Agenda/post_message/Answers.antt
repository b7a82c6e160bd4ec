use Rattle.std.proofs.Common.{◌∷◌, []}
use Rattle.ssf_model.specs.Channels.{message}
use Rattle.global_list.proofs.Posts.{one_room}
use Rattle.global_list.proofs.agenda.Agenda.post_message.Goals as goal

pub next_key-key-requires-clause-number : goal.next_key-key-requires-clause-number
next_key-key-requires-clause-number g c =
    one_room c.args.parent.now (message c.args.delay c.args.payload c.args.mapping.now) c.args.self.now.counts.items c.args.self.now.pending c.requires
