use Rattle.std.proofs.Common.{◌<◌, length, arith}
use Rattle.ssf_model.proofs.Delivering.{ready_at, ticket_ahead, delivering_next}
use Rattle.ssf_model.proofs.entity.Entity.deliver.Goals as goal

pub react-requires-clause-ready : goal.react-requires-clause-ready
react-requires-clause-ready g c κs within = λ p e.
    let half = c.loop-index.invariant.0 in
    let b = c.args.behaviour.now in
    let h : c.loop-index.index < length c.loop-index.self.processes = omega (arith, half.size, c.len-index-end.ensures, c.loop-index-test.true) in (
      ticket_ahead c.loop-index.self.processes c.args.self.now.processes c.loop-index.index _ p h half.size half.ahead e c.requires.tickets,
      ready_at (g.B.Behaviour.valid b) (g.B.Behaviour.carried b) c.args.event.now.key.time c.args.event.now.kind c.loop-index.self.state
          c.loop-index.self.in_channels c.loop-index.self.out_channels c.loop-index.self.processes c.args.self.now.processes c.loop-index.index
          c.loop-index.invariant.1 c.requires.time c.requires.timely c.known_kind.ensures half.ahead half.size h p e,
    )

pub loop-index-preserved : goal.loop-index-preserved
loop-index-preserved g c =
    let b = c.args.behaviour.now in
    let half = c.loop-index.invariant.0 in
    let h : c.loop-index.index < length c.loop-index.self.processes = omega (arith, half.size, c.len-index-end.ensures, c.loop-index-test.true) in
    let both = delivering_next (g.B.Behaviour.valid b) (g.B.Behaviour.carried b) (g.B.Behaviour.reaction b) (g.met.B.Behaviour.sound b)
    c.args.event.now.key.time c.args.event.now.kind c.requires.time c.known_kind.ensures _ c.args.self.now.processes
    c.args.out.now.writes c.args.out.now.lines c.loop-index.self.in_channels c.loop-index.self.out_channels c.loop-index.index
    c.loop-index.self.state c.react.new.state c.loop-index.self.processes c.react.new.processes
    c.loop-index.out.writes c.react.new.out.writes c.loop-index.out.lines c.react.new.out.lines c.requires.timely h
    c.in_ok-react.ensures.state c.in_ok-react.ensures.process c.in_ok-react.ensures.writes c.in_ok-react.ensures.lines
    c.loop-index.invariant.0 c.loop-index.invariant.1 in
    (both.0, both.1, c.loop-index.invariant.2, c.loop-index.invariant.3)
