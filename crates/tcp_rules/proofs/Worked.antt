-- A transfer of 1,500 bytes, as the client sees it and as the server does.
use Rattle.std.proofs.Common.{◌≡◌, ℕ, Bool, true, false, Option, Some, None, List, [], ◌∷◌, refl}
use Rattle.sim_base.specs.declared.records.TcpConfig.{TcpConfig}
use Rattle.sim_base.specs.declared.records.TcpState.{TcpState}
use Rattle.sim_base.specs.declared.records.TcpState.TheVariants.{SynSent, SynReceived, Established, FinWait1, FinWait2, TimeWait, LastAck, Closed}
use Rattle.sim_base.specs.SegmentFields.{SegmentFields}
use Rattle.tcp_clock.specs.Retransmission.{first_timeout, sampled, backed_off}
use Rattle.tcp_clock.specs.Congestion.{first_window, grown, third_duplicate, timed_out}
use Rattle.tcp_rules.specs.declared.records.Act.{Act}
use Rattle.tcp_rules.specs.declared.records.Act.TheVariants.{Entered, Delivered, Send}
use Rattle.tcp_rules.specs.declared.records.Timing.{Timing}
use Rattle.tcp_rules.specs.Segments.{Turn}
use Rattle.tcp_rules.specs.Clients.{first_segment, at_duplicate, window_after_timeout, at_client_timeout, measured, timing_at_send, deadline_at, opened, edge, data_stop, data_count, fin_sent, sent, at_syn_ack, at_new_ack, at_ack, at_acknowledgment, at_plain, at_opening, at_later, at_last_fin}
use Rattle.tcp_rules.specs.Servers.{added, hole, listened, kept_with, fin_with, at_end, at_kept, at_data, at_start, at_last}
use Rattle.tcp_rules.specs.Sessions.{End, Client, Server, connecting, accepting, at_segment, at_timeout, deadline_of, state_of, delivered_of}

abbrev settings : ℕ → TcpConfig
settings iss = record { iss = iss; mss = 1000; receive = 32; send = 32; tries = 12; msl = 60000000000; frequency = 1000000000 }

-- what shows of a session
record Seen : Type 0 where
  state : TcpState
  deadline : Option ℕ
  delivered : ℕ
  acts : List Act

abbrev seen : Turn End → Seen
seen t = record { state = state_of t.after; deadline = deadline_of t.after; delivered = delivered_of t.after; acts = t.acts }

abbrev segment : (seq : ℕ) → Option ℕ → (syn fin : Bool) → (length : ℕ) → SegmentFields
segment seq ack syn fin length = record { seq = seq; ack = ack; syn = syn; fin = fin; length = length; window = 32000 }

abbrev client0 : Turn End
client0 = connecting (settings 100) 1500 0

abbrev client1 : Turn End
client1 = at_segment client0.after (segment 500 (Some 101) true false 0) 200000000

abbrev client2 : Turn End
client2 = at_segment client1.after (segment 501 (Some 1101) false false 0) 400000000

abbrev client3 : Turn End
client3 = at_segment client2.after (segment 501 (Some 1602) false true 0) 600000000

client_opens : seen client0 ≡ record {
  state = SynSent;
  deadline = Some 1000000000;
  delivered = 0;
  acts = Entered SynSent ∷ Send (segment 100 None true false 0) ∷ [];
}
unfolding connecting opened first_timeout first_window
client_opens = refl

client_sends : seen client1 ≡ record {
  state = Established;
  deadline = Some 1200000000;
  delivered = 0;
  acts = Entered Established ∷ Send (segment 101 (Some 501) false false 0) ∷ Send (segment 101 (Some 501) false false 1000) ∷ [];
}
unfolding connecting opened first_timeout first_window at_opening at_syn_ack sent data_stop data_count fin_sent edge measured timing_at_send deadline_at sampled
client_sends = refl

client_ends : seen client2 ≡ record {
  state = FinWait1;
  deadline = Some 1400000000;
  delivered = 0;
  acts = Send (segment 1101 (Some 501) false false 500) ∷ Entered FinWait1 ∷ Send (segment 1601 (Some 501) false true 0) ∷ [];
}
unfolding connecting opened first_timeout first_window at_opening at_syn_ack sent data_stop data_count fin_sent edge measured timing_at_send deadline_at sampled at_later at_plain at_acknowledgment at_ack at_new_ack grown
client_ends = refl

client_waits : seen client3 ≡ record {
  state = TimeWait;
  deadline = Some 120600000000;
  delivered = 0;
  acts = Entered FinWait2 ∷ Entered TimeWait ∷ Send (segment 1602 (Some 502) false false 0) ∷ [];
}
unfolding connecting opened first_timeout first_window at_opening at_syn_ack sent data_stop data_count fin_sent edge measured timing_at_send deadline_at sampled at_later at_plain at_acknowledgment at_ack at_new_ack grown at_last_fin
client_waits = refl

client_closes : seen (at_timeout client3.after 120600000000) ≡ record {
  state = Closed;
  deadline = None;
  delivered = 0;
  acts = Entered Closed ∷ [];
}
unfolding connecting opened first_timeout first_window at_opening at_syn_ack sent data_stop data_count fin_sent edge measured timing_at_send deadline_at sampled at_later at_plain at_acknowledgment at_ack at_new_ack grown at_last_fin
client_closes = refl

abbrev server0 : Turn End
server0 = accepting (settings 500) (segment 100 None true false 0) 0

abbrev server1 : Turn End
server1 = at_segment server0.after (segment 101 (Some 501) false false 0) 1

abbrev server2 : Turn End
server2 = at_segment server1.after (segment 1101 (Some 501) false false 500) 2

abbrev server3 : Turn End
server3 = at_segment server2.after (segment 101 (Some 501) false false 1000) 3

abbrev server4 : Turn End
server4 = at_segment server3.after (segment 101 (Some 501) false false 1000) 4

abbrev server5 : Turn End
server5 = at_segment server4.after (segment 1601 (Some 501) false true 0) 5

server_accepts : seen server0 ≡ record {
  state = SynReceived;
  deadline = Some 1000000000;
  delivered = 0;
  acts = Entered SynReceived ∷ Send (segment 500 (Some 101) true false 0) ∷ [];
}
unfolding accepting listened first_timeout
server_accepts = refl

server_opens : seen server1 ≡ record { state = Established; deadline = None; delivered = 0; acts = Entered Established ∷ [] }
unfolding accepting listened first_timeout at_start at_data
server_opens = refl

server_keeps : seen server2 ≡ record {
  state = Established;
  deadline = None;
  delivered = 0;
  acts = Send (segment 501 (Some 101) false false 0) ∷ [];
}
unfolding accepting listened first_timeout at_start at_data kept_with fin_with added at_kept hole at_end
server_keeps = refl

server_delivers : seen server3 ≡ record {
  state = Established;
  deadline = None;
  delivered = 1500;
  acts = Delivered 1500 ∷ Send (segment 501 (Some 1601) false false 0) ∷ [];
}
unfolding accepting listened first_timeout at_start at_data kept_with fin_with added at_kept hole at_end
server_delivers = refl

server_hears_again : seen server4 ≡ record {
  state = Established;
  deadline = None;
  delivered = 1500;
  acts = Send (segment 501 (Some 1601) false false 0) ∷ [];
}
unfolding accepting listened first_timeout at_start at_data kept_with fin_with added at_kept hole at_end
server_hears_again = refl

server_ends : seen server5 ≡ record {
  state = LastAck;
  deadline = Some 1000000005;
  delivered = 1500;
  acts = Entered LastAck ∷ Send (segment 501 (Some 1602) false true 0) ∷ [];
}
unfolding accepting listened first_timeout at_start at_data kept_with fin_with added at_kept hole at_end
server_ends = refl

server_closes : seen (at_segment server5.after (segment 1602 (Some 502) false false 0) 6) ≡ record {
  state = Closed;
  deadline = None;
  delivered = 1500;
  acts = Entered Closed ∷ [];
}
unfolding accepting listened first_timeout at_start at_data kept_with fin_with added at_kept hole at_end at_last
server_closes = refl

-- The own FIN is acknowledged alone: no timer runs.
client_half_closes : seen (at_segment client2.after (segment 501 (Some 1602) false false 0) 600000000) ≡ record {
  state = FinWait2;
  deadline = None;
  delivered = 0;
  acts = Entered FinWait2 ∷ [];
}
unfolding connecting opened first_timeout first_window at_opening at_syn_ack sent data_stop data_count fin_sent edge measured timing_at_send deadline_at sampled at_later at_plain at_acknowledgment at_ack at_new_ack grown at_duplicate third_duplicate first_segment at_client_timeout window_after_timeout timed_out backed_off
client_half_closes = refl

-- A first sample of 900 ms. The third duplicate sends the first segment again, and its acknowledgment gives no sample.
abbrev loss1 : Turn End
loss1 = at_segment client0.after (segment 500 (Some 101) true false 0) 900000000

abbrev loss2 : Turn End
loss2 = at_segment loss1.after (segment 501 (Some 101) false false 0) 1000000000

abbrev loss3 : Turn End
loss3 = at_segment loss2.after (segment 501 (Some 101) false false 0) 1010000000

abbrev loss4 : Turn End
loss4 = at_segment loss3.after (segment 501 (Some 101) false false 0) 1020000000

abbrev loss5 : Turn End
loss5 = at_segment loss4.after (segment 501 (Some 1101) false false 0) 1800000000

-- the timer runs out, and what is sent again is acknowledged: the FIN goes out again, and is not timed
abbrev loss6 : Turn End
loss6 = at_timeout loss5.after 4500000000

abbrev loss7 : Turn End
loss7 = at_segment loss6.after (segment 501 (Some 1601) false false 0) 5000000000

abbrev timed_of : End → Option Timing
timed_of (Client c) = c.timed
timed_of (Server s) = None

second_duplicate_waits : seen loss3 ≡ record { state = Established; deadline = Some 3600000000; delivered = 0; acts = [] }
unfolding connecting opened first_timeout first_window at_opening at_syn_ack sent data_stop data_count fin_sent edge measured timing_at_send deadline_at sampled at_later at_plain at_acknowledgment at_ack at_new_ack grown at_duplicate third_duplicate first_segment at_client_timeout window_after_timeout timed_out backed_off
second_duplicate_waits = refl

third_duplicate_sends : seen loss4 ≡ record {
  state = Established;
  deadline = Some 3600000000;
  delivered = 0;
  acts = Send (segment 101 (Some 501) false false 1000) ∷ [];
}
unfolding connecting opened first_timeout first_window at_opening at_syn_ack sent data_stop data_count fin_sent edge measured timing_at_send deadline_at sampled at_later at_plain at_acknowledgment at_ack at_new_ack grown at_duplicate third_duplicate first_segment at_client_timeout window_after_timeout timed_out backed_off
third_duplicate_sends = refl

retransmission_gives_no_sample : seen loss5 ≡ record {
  state = FinWait1;
  deadline = Some 4500000000;
  delivered = 0;
  acts = Send (segment 1101 (Some 501) false false 500) ∷ Entered FinWait1 ∷ Send (segment 1601 (Some 501) false true 0) ∷ [];
}
unfolding connecting opened first_timeout first_window at_opening at_syn_ack sent data_stop data_count fin_sent edge measured timing_at_send deadline_at sampled at_later at_plain at_acknowledgment at_ack at_new_ack grown at_duplicate third_duplicate first_segment at_client_timeout window_after_timeout timed_out backed_off
retransmission_gives_no_sample = refl

timeout_sends_again : seen loss6 ≡ record {
  state = FinWait1;
  deadline = Some 9900000000;
  delivered = 0;
  acts = Send (segment 1101 (Some 501) false false 500) ∷ [];
}
unfolding connecting opened first_timeout first_window at_opening at_syn_ack sent data_stop data_count fin_sent edge measured timing_at_send deadline_at sampled at_later at_plain at_acknowledgment at_ack at_new_ack grown at_duplicate third_duplicate first_segment at_client_timeout window_after_timeout timed_out backed_off
timeout_sends_again = refl

fin_goes_again : seen loss7 ≡ record {
  state = FinWait1;
  deadline = Some 10400000000;
  delivered = 0;
  acts = Send (segment 1601 (Some 501) false true 0) ∷ [];
}
unfolding connecting opened first_timeout first_window at_opening at_syn_ack sent data_stop data_count fin_sent edge measured timing_at_send deadline_at sampled at_later at_plain at_acknowledgment at_ack at_new_ack grown at_duplicate third_duplicate first_segment at_client_timeout window_after_timeout timed_out backed_off
fin_goes_again = refl

fin_again_is_not_timed : timed_of loss7.after ≡ None
unfolding connecting opened first_timeout first_window at_opening at_syn_ack sent data_stop data_count fin_sent edge measured timing_at_send deadline_at sampled at_later at_plain at_acknowledgment at_ack at_new_ack grown at_duplicate third_duplicate first_segment at_client_timeout window_after_timeout timed_out backed_off
fin_again_is_not_timed = refl
