use Rattle.std.proofs.Common.{ap, arith}
use Rattle.tcp_clock.specs.Congestion.{Window, first_window}
use Rattle.tcp_rules.proofs.ClientRanges.{sized}
use Rattle.tcp_session.proofs.client.Client.synchronize.Goals as goal

pub invariant_of-self : goal.invariant_of-self
unfolding first_window
invariant_of-self c =
    let mss = ap (λ (w : Window). w.mss) c.new-window.ensures in
    let some = c.self.invariant.config.settings.mss.0 in
    record {
      config = c.self.invariant.config;
      rto = c.known-3.ensures;
      window = c.known-2.ensures;
      iss_una = omega arith;
      iss_nxt = c.self.invariant.iss_nxt;
      una_nxt = c.self.invariant.iss_nxt;
      nxt_top = c.self.invariant.nxt_top;
      top_end = c.self.invariant.top_end;
      iss_end = c.self.invariant.iss_end;
      end = c.self.invariant.end;
      rcv = omega arith;
      peer = c.segment.invariant.window;
      segments = sized c.self.inside.config.mss c.segment.inside.window c.new-window.result.mss (omega arith) some;
      tries = omega arith;
      duplicates = c.self.invariant.duplicates;
    }
