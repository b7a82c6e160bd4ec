-- A transfer stays sound, whatever steps are taken.
use Rattle.std.proofs.Common.{◌≡◌, ℕ, zero, suc, ◌+◌, ◌≤◌, Option, Some, None, is_some, List, [], ◌∷◌, slice_get, refl, inl, inr, subst, arith}
use Rattle.sim_base.specs.declared.records.TcpConfig.{TcpConfig}
use Rattle.sim_base.specs.SegmentFields.{SegmentFields}
use Rattle.std.specs.List.{Contains}
use Rattle.tcp_rules.specs.Segments.{Turn, sent_of, Each}
use Rattle.tcp_rules.specs.Clients.{ClientFields, opened, client_segment, client_timeout}
use Rattle.tcp_rules.specs.Servers.{ServerFields, listened, server_segment, server_timeout}
use Rattle.tcp_rules.specs.Transfers.{World, Step, ToClient, ToServer, ClientTimeout, ServerTimeout, client_did, server_did, client_gets, server_gets, after_step, after_steps, beginning, IsSound, HoldsOnly}
use Rattle.tcp_rules.proofs.Cases.{if_case, each_append}
use Rattle.tcp_rules.proofs.Sending.{IsProper, IsHeld, IsGood, AtMost, good_segment, good_timeout}
use Rattle.tcp_rules.proofs.Receiving.{holds_only_more, IsBounded, IsTaken, only_segment, only_timeout, taken_segment, taken_timeout}

each_at : {A : Type 0} (P : A → Type 0) (xs : List A) (i : ℕ) (x : A) → Each P xs → slice_get xs i ≡ Some x → P x
each_at P [] i x each at = absurd (cc)
each_at {A} P (y ∷ ys) zero x each at = let same : y ≡ x = cc in subst P same each.0
each_at P (y ∷ ys) (suc i) x each at = each_at P ys i x each.1 at

among_at : (xs : List SegmentFields) (i : ℕ) (x : SegmentFields) → slice_get xs i ≡ Some x → Contains xs x
among_at [] i x at = absurd (cc)
among_at (y ∷ ys) zero x at = let same : y ≡ x = cc in (0, omega arith, same)
among_at (y ∷ ys) (suc i) x at = let found = among_at ys i x at in (suc found.0, omega (arith, found.1), found.2)

at_most_more : (m n : ℕ) (o : Option ℕ) → m ≤ n → AtMost m o → AtMost n o
at_most_more m n None le h = tt
at_most_more m n (Some a) le h = omega arith

acks_more : (m n : ℕ) (ss : List SegmentFields) → m ≤ n → Each (λ g. AtMost m g.ack) ss → Each (λ g. AtMost n g.ack) ss
acks_more m n [] le each = tt
acks_more m n (s ∷ ss) le each = (at_most_more m n s.ack le each.0, acks_more m n ss le each.1)

-- what every step keeps of a transfer of data from iss on, that ends before end
record Keeps (iss end : ℕ) (w : World) : Type 0 where
  client : IsHeld end iss w.server.rcv w.client
  proper : Each (IsProper end) w.from_client
  acks : Each (λ g. AtMost w.server.rcv g.ack) w.from_server
  server : IsBounded iss end w.server
  only : HoldsOnly iss w.from_client w.server

module _ (iss end : ℕ) where
  client_did_keeps : (w : World) (t : Turn ClientFields) → Keeps iss end w → IsGood end iss w.server.rcv t → Keeps iss end (client_did w t)
  client_did_keeps w t keeps good = record {
    client = good.held;
    proper = each_append (IsProper end) w.from_client (sent_of t.acts) keeps.proper good.proper;
    acks = keeps.acks;
    server = keeps.server;
    only = holds_only_more iss w.from_client (sent_of t.acts) w.server keeps.only;
  }

  server_did_keeps : (w : World) (t : Turn ServerFields) → Keeps iss end w → IsTaken iss end w.server.rcv t → HoldsOnly iss w.from_client t.after
      → Keeps iss end (server_did w t)
  server_did_keeps w t keeps taken only =
      let una = keeps.client.una in
      let risen = taken.risen in
      record {
        client = record { end_is = keeps.client.end_is; iss_is = keeps.client.iss_is; una = omega arith };
        proper = keeps.proper;
        acks = each_append (λ g. AtMost t.after.rcv g.ack) w.from_server (sent_of t.acts) (acks_more w.server.rcv t.after.rcv w.from_server risen keeps.acks) taken.acks;
        server = taken.bounded;
        only = only;
      }

  client_gets_keeps : (w : World) (now : ℕ) (o : Option SegmentFields) → ((s : SegmentFields) → o ≡ Some s → AtMost w.server.rcv s.ack)
      → Keeps iss end w → Keeps iss end (client_gets w now o)
  client_gets_keeps w now None acks keeps = keeps
  client_gets_keeps w now (Some s) acks keeps =
      client_did_keeps w (client_segment w.client s now) keeps (good_segment end iss w.server.rcv w.client s now keeps.server.begun (acks s refl) keeps.client)

  server_gets_keeps : (w : World) (now : ℕ) (o : Option SegmentFields) → ((s : SegmentFields) → o ≡ Some s → IsProper end s × Contains w.from_client s)
      → Keeps iss end w → Keeps iss end (server_gets w now o)
  server_gets_keeps w now None sent keeps = keeps
  server_gets_keeps w now (Some s) sent keeps =
      server_did_keeps w (server_segment w.server s now) keeps
      (taken_segment iss end w.server s now (sent s refl).0 keeps.server)
      (only_segment iss w.from_client w.server s now (sent s refl).1 keeps.only)

  step_keeps : (w : World) (step : Step) → Keeps iss end w → Keeps iss end (after_step w step)
  step_keeps w (ToClient which now) keeps = client_gets_keeps w now (slice_get w.from_server which)
      (λ s at. each_at (λ g. AtMost w.server.rcv g.ack) w.from_server which s keeps.acks at) keeps
  step_keeps w (ToServer which now) keeps = server_gets_keeps w now (slice_get w.from_client which)
      (λ s at. (each_at (IsProper end) w.from_client which s keeps.proper at, among_at w.from_client which s at)) keeps
  step_keeps w (ClientTimeout now) keeps = if_case (Keeps iss end) (is_some w.client.deadline)
      (λ e. client_did_keeps w (client_timeout w.client now) keeps (good_timeout end iss w.server.rcv w.client now keeps.client))
      (λ e. keeps)
  step_keeps w (ServerTimeout now) keeps = if_case (Keeps iss end) (is_some w.server.deadline)
      (λ e. server_did_keeps w (server_timeout w.server now) keeps
      (taken_timeout iss end w.server now keeps.server) (only_timeout iss w.from_client w.server now keeps.only))
      (λ e. keeps)

  steps_keep : (w : World) (steps : List Step) → Keeps iss end w → Keeps iss end (after_steps w steps)
  steps_keep w [] keeps = keeps
  steps_keep w (step ∷ steps) keeps = steps_keep (after_step w step) steps (step_keeps w step keeps)

beginning_keeps : (mine theirs : TcpConfig) (bytes opened_at accepted_at : ℕ)
    → Keeps mine.iss (mine.iss + 1 + bytes) (beginning mine theirs bytes opened_at accepted_at)
unfolding opened listened
beginning_keeps mine theirs bytes opened_at accepted_at = record {
  client = record { end_is = refl; iss_is = refl; una = omega arith };
  proper = (record { within = λ some. absurd (omega arith); fin = λ e. absurd (cc) }, tt);
  acks = (omega arith, tt);
  server = record {
    begun = omega arith;
    counted = omega arith;
    within = omega arith;
    before_fin = λ e. omega arith;
    keeps = λ p held. absurd (cc);
    fin = λ p is. absurd (cc);
  };
  only = record {
    passed = λ p low high. inl (low, omega arith);
    keeps = λ p held. absurd (cc);
    fin = λ p is. absurd (cc);
  };
}

sound : (iss bytes : ℕ) (w : World) → Keeps iss (iss + 1 + bytes) w → IsSound iss bytes w
sound iss bytes w keeps =
    let within = keeps.server.within in
    let counted = keeps.server.counted in
    record { delivered = omega arith; in_order = omega arith; sent = keeps.only.passed; acknowledged = keeps.client.una }

-- every transfer is sound after any steps
pub transfers_sound : (mine theirs : TcpConfig) (bytes opened_at accepted_at : ℕ) (steps : List Step)
    → IsSound mine.iss bytes (after_steps (beginning mine theirs bytes opened_at accepted_at) steps)
transfers_sound mine theirs bytes opened_at accepted_at steps =
    let w = beginning mine theirs bytes opened_at accepted_at in
    let end = mine.iss + 1 + bytes in
    sound mine.iss bytes (after_steps w steps) (steps_keep mine.iss end w steps (beginning_keeps mine theirs bytes opened_at accepted_at))
