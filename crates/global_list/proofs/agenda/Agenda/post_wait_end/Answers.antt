use Rattle.ssf_model.specs.declared.wait.Kind.TheVariants.{Timer}
use Rattle.global_list.proofs.Posts.{one_room}
use Rattle.global_list.proofs.agenda.Agenda.post_wait_end.Goals as goal

pub next_key-key-requires-clause-number : goal.next_key-key-requires-clause-number
next_key-key-requires-clause-number g c =
    one_room c.args.parent.now (record { channel = c.args.channel; priority = 0; delay = c.args.delay; entity = c.args.entity; kind = Timer c.args.process c.args.ticket })
    c.args.self.now.counts.items c.args.self.now.pending c.requires
