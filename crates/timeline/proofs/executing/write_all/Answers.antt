use Rattle.std.proofs.Common.{ap, ◌∙◌}
use Rattle.std.specs.List.{flat_map}
use Rattle.ssf_model.specs.Channels.{numbered}
use Rattle.timeline_parts.specs.RouteMap.{route}
use Rattle.timeline_parts.specs.Tables.{numbers_of}
use Rattle.timeline_parts.specs.Sending.{sent_on, count_of}
use Rattle.timeline_parts.proofs.Tables.{numbered_same}
use Rattle.timeline_parts.proofs.Sending.{numbers_all_counted, numbers_all_put}
use Rattle.timeline.proofs.executing.write_all.Goals as goal

pub make_room-requires-clause-counts_rise : goal.make_room-requires-clause-counts_rise
make_room-requires-clause-counts_rise g c =
    let old = c.args.desk.now in
    let es = numbered c.args.parent.now (count_of old.counts.items) (flat_map (sent_on (route c.args.routes.now.by_out) c.args.entity c.args.processes.now) c.args.writes.now) in
    numbered_same c.send_all.new.self.counts.items old.counts.items (ap numbers_of c.in-Ok.ensures.sent.counts ∙ numbers_all_counted es old.counts.items) c.requires.counts_rise

pub make_room-requires-clause-ends_rise : goal.make_room-requires-clause-ends_rise
make_room-requires-clause-ends_rise g c =
    let old = c.args.desk.now in
    let es = numbered c.args.parent.now (count_of old.counts.items) (flat_map (sent_on (route c.args.routes.now.by_out) c.args.entity c.args.processes.now) c.args.writes.now) in
    numbered_same c.send_all.new.self.ends.items old.ends.items (ap numbers_of c.in-Ok.ensures.sent.ends ∙ numbers_all_put es old.ends.items) c.requires.ends_rise

pub undo-requires-clause-counts : goal.undo-requires-clause-counts
undo-requires-clause-counts g c =
    let old = c.args.desk.now in
    numbered_same c.send_all.new.self.counts.items old.counts.items (ap numbers_of c.in-Err.ensures.in_part.counts ∙ numbers_all_counted c.in-Err.ensures.in_part.some old.counts.items) c.requires.counts_rise

pub undo-requires-clause-ends : goal.undo-requires-clause-ends
undo-requires-clause-ends g c =
    let old = c.args.desk.now in
    numbered_same c.send_all.new.self.ends.items old.ends.items (ap numbers_of c.in-Err.ensures.in_part.ends ∙ numbers_all_put c.in-Err.ensures.in_part.some old.ends.items) c.requires.ends_rise
