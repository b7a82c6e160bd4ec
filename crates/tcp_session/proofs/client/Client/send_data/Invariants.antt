use Rattle.std.proofs.Common.{◌≡◌, ◌+◌, ◌<◌, ◌≤◌, vec_len, vec_capacity}
use Rattle.tcp_session.proofs.DataLoop.{IsDataLoop}
use Rattle.tcp_session.proofs.client.Client.send_data.Given as goal

abbrev pub invariant-loop-index : goal.invariant-loop-index
invariant-loop-index l = record {
  loop : IsDataLoop l.count l.stop l.now l.initial.self l.initial.acts.items l._index l.self l.acts.items;
  stop : l.self.nxt < l.stop → l.stop ≤ l.self.end;
  len : vec_len l.acts ≡ vec_len l.initial.acts + l._index;
  capacity : vec_capacity l.acts ≡ vec_capacity l.initial.acts;
}
