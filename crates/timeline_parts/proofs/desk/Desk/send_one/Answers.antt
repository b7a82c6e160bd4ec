use Rattle.std.proofs.Common.{◌≡◌, ◌<◌, ◌+◌, ◌++◌, ◌∷◌, [], ℕ, length, get_or, set, sym, ap, ◌∙◌, subst, arith}
use Rattle.event_order.specs.declared.key.Key.{Key}
use Rattle.timeline_parts.specs.Tables.{numbers_of}
use Rattle.timeline_parts.specs.Sending.{sent_as, count_of, count_on, written_of}
use Rattle.timeline_parts.proofs.Tables.{reads_same, changed_here}
use Rattle.timeline_parts.proofs.Sending.{one_room, one_room_out, count_here, sent_one}
use Rattle.timeline_parts.proofs.desk.Desk.send_one.Goals as goal

pub put_out-requires-clause-room : goal.put_out-requires-clause-room
put_out-requires-clause-room g c =
    let self = c.args.self.now in
    let room = one_room_out c.args.parent.now (sent_as c.args.delay c.args.priority c.args.channel c.args.entity c.args.kind) self.counts.items self.ends.items c.requires in
    let same : written_of self.ends.items c.child_key.result.channel ≡ written_of self.ends.items c.args.channel = ap (λ (k : Key). written_of self.ends.items k.channel) c.child_key.ensures.child in
    omega (arith, room, same)

pub overflow_add-number : goal.overflow_add-number
overflow_add-number g c =
    let items = c.args.self.now.counts.items in
    let there : c.known_place-place.result < length items = subst (λ xs. c.known_place-place.result < length xs) c.deref.ensures.value c.known_place-place.ensures.within in
    let found : get_or (numbers_of items) c.known_place-place.result 0 ≡ c.args.channel = subst (λ xs. get_or (numbers_of xs) c.known_place-place.result 0 ≡ c.args.channel) c.deref.ensures.value c.known_place-place.ensures.found in
    let room = one_room c.args.parent.now (sent_as c.args.delay c.args.priority c.args.channel c.args.entity c.args.kind) items c.args.self.now.ends.items c.requires in
    let count = count_here items c.args.channel c.known_place-place.result c.index.result.now c.requires.counts_rise there found c.index.ensures in
    omega (arith, room, count)

pub returns-clause-sent : goal.returns-clause-sent
returns-clause-sent g c =
    let self = c.args.self.now in
    let items = self.counts.items in
    let place : ℕ = c.known_place-place.result in
    let there : place < length items = subst (λ xs. place < length xs) c.deref.ensures.value c.known_place-place.ensures.within in
    let found : get_or (numbers_of items) place 0 ≡ c.args.channel = subst (λ xs. get_or (numbers_of xs) place 0 ≡ c.args.channel) c.deref.ensures.value c.known_place-place.ensures.found in
    let old = c.index.result.now in
    let write = c.index_mut.result.now in
    let same : old ≡ write = reads_same items place old write there c.index.ensures c.index_mut.ensures.value in
    let counts : set items place (write.0, old.1 + 1) ≡ count_on c.args.channel items =
    ap (λ (x : ℕ × ℕ). set items place (write.0, x.1 + 1)) same ∙ changed_here items c.args.channel place (λ n. n + 1) write c.requires.counts_rise there found c.index_mut.ensures.value in
    sent_one c.args.parent.now c.args.delay c.args.priority c.args.channel c.args.entity c.args.kind items (set items place (write.0, old.1 + 1)) self.ends.items c.put_out.new.ends.items
    self.written.items c.push_reserved.new.self.items c.child_key.result old.1 c.requires.sendable.0.channel
    (count_here items c.args.channel place old c.requires.counts_rise there found c.index.ensures) c.child_key.ensures.child counts c.in_ok-put_out.ensures.put
    (c.push_reserved.ensures.items ∙ ap (λ ws. ws ++ record { key = c.child_key.result; entity = c.args.entity; kind = c.args.kind } ∷ []) c.in_ok-reserve.ensures.items)
