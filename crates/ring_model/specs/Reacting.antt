-- How a node reacts, and its valid states.
use Rattle.std.specs.Prelude.{ℕ, ◌≡◌, ◌≤◌, Bool, false, List, [], ◌∷◌, replicate, None}
use Rattle.ssf_model.specs.declared.wait.Wait.{Wait}
use Rattle.ssf_model.specs.declared.wait.Wait.TheVariants.{On}
use Rattle.ssf_model.specs.declared.wait.Wake.{Wake}
use Rattle.ssf_model.specs.declared.wait.Wake.TheVariants.{Begin, Timer, Message}
use Rattle.ssf_model.specs.declared.out.Written.{Written}
use Rattle.ssf_model.specs.declared.out.Written.TheVariants.{Channel}
use Rattle.ssf_model.specs.Wake.{timer_delay}
use Rattle.ssf_model.specs.Reaction.{Reaction}
use Rattle.ssf_model.specs.Deliver.{MostWrites}
use Rattle.ring_model.specs.declared.ring.RingState.{RingState}
use Rattle.ring_model.specs.declared.ring.RingPayload.{RingPayload}

-- the write of one token by a node
abbrev pub token : ℕ → Written RingPayload
token node = Channel node 0 (record {})

-- a node writes its tokens at its start, and one at each message
abbrev pub tokens_at : RingState → Wake RingPayload → ℕ
tokens_at s Begin = s.tokens
tokens_at s Timer = 0
tokens_at s (Message channel payload) = 1

abbrev pub ring_reaction : Reaction RingState RingPayload
ring_reaction s process now wake = record {
  state = s;
  wait = On (s.node ∷ []);
  writes = replicate (tokens_at s wake) (token s.node);
  lines = [];
}

-- a wait that does not end by itself
abbrev pub IsPatient : Wait → Type 0
IsPatient wait = timer_delay wait ≡ None

-- the waits are those of one process that is not timed
abbrev pub AreOnePatient : List Wait → Type 0
AreOnePatient [] = ⊥
AreOnePatient (wait ∷ []) = IsPatient wait
AreOnePatient (_ ∷ _ ∷ _) = ⊥

-- there is one process, which is untimed and waits on channels or for nothing; the node numbers its entity's only
-- in-channel and its only out-channel, and has at most so many tokens as one event may write
pub record IsRing (s : RingState) (ins outs : List ℕ) (timed : List Bool) (waits : List Wait) : Type 0 where
  pub in_channel : ins ≡ s.node ∷ []
  pub out_channel : outs ≡ s.node ∷ []
  pub untimed : timed ≡ false ∷ []
  pub patient : AreOnePatient waits
  pub few : s.tokens ≤ MostWrites

abbrev pub AnyPayload : RingPayload → Type 0
AnyPayload payload = Unit {0}
