-- Two entities with timers: how their processes react, and their valid states.
use Rattle.std.specs.Prelude.{ℕ, zero, suc, ◌≡◌, Bool, true, false, List, [], ◌∷◌}
use Rattle.ssf_model.specs.declared.wait.Wait.{Wait}
use Rattle.ssf_model.specs.declared.wait.Wait.TheVariants.{For, OnFor, Forever}
use Rattle.ssf_model.specs.declared.wait.Wake.TheVariants.{Begin, Timer, Message}
use Rattle.ssf_model.specs.declared.out.Written.TheVariants.{Channel}
use Rattle.ssf_model.specs.Reaction.{Outcome, Reaction, Validity}
use Rattle.ssf_model.specs.Drafts.{Draft, empty_draft, with_entity, with_in_channel, with_out_channel, with_mapping}
use Rattle.list_examples.specs.declared.timers.Idle.{Idle}
use Rattle.list_examples.specs.declared.timers.Signal.{Signal}
use Rattle.list_examples.specs.declared.timers.Ticker.{Ticker}
use Rattle.list_examples.specs.declared.timers.Listener.{Listener}
use Rattle.list_examples.specs.declared.timers.Sleeper.{Sleeper}

abbrev pub waits_for : Idle → Wait → Outcome Idle Signal
waits_for s wait = record { state = s; wait = wait; writes = []; lines = [] }

-- a process that waits for no time at its start, and for two ticks whenever its timer runs out
abbrev pub ticker_reaction : Reaction Idle Signal
ticker_reaction s process now Begin = waits_for s (For 0)
ticker_reaction s process now Timer = waits_for s (For 2)
ticker_reaction s process now (Message channel payload) = waits_for s Forever

-- one timed process
abbrev pub IsTicker : Validity Idle
IsTicker s ins outs timed waits = timed ≡ true ∷ []

-- process 0 always waits for a message or four ticks; process 1 waits for two ticks and then writes one message
abbrev pub listener_reaction : Reaction Idle Signal
listener_reaction s zero now wake = waits_for s (OnFor (0 ∷ []) 4)
listener_reaction s (suc process) now Begin = waits_for s (For 2)
listener_reaction s (suc process) now Timer = record { state = s; wait = Forever; writes = Channel 0 0 (record {}) ∷ []; lines = [] }
listener_reaction s (suc process) now (Message channel payload) = waits_for s Forever

-- two timed processes, the in-channel 0 and the out-channel 0
pub record IsListener (s : Idle) (ins outs : List ℕ) (timed : List Bool) (waits : List Wait) : Type 0 where
  pub in_channel : ins ≡ 0 ∷ []
  pub out_channel : outs ≡ 0 ∷ []
  pub timed_is : timed ≡ true ∷ true ∷ []

-- processes that wait for nothing more, whatever wakes them
abbrev pub sleeper_reaction : Reaction Idle Signal
sleeper_reaction s process now wake = waits_for s Forever

-- whatever they wait for
abbrev pub IsSleeper : Validity Idle
IsSleeper s ins outs timed waits = Unit {0}

abbrev pub AnySignal : Signal → Type 0
AnySignal payload = Unit {0}

-- one entity that ticks
abbrev pub ticker_draft : Draft Ticker Idle
ticker_draft = with_entity (empty_draft (record {})) (record {}) (true ∷ [])

-- one entity whose out-channel is mapped to its in-channel without delay
abbrev pub listener_draft : Draft Listener Idle
listener_draft =
    let entity = with_entity (empty_draft (record {})) (record {}) (true ∷ true ∷ []) in
    with_mapping (with_out_channel (with_in_channel entity 0) 0 0) 0 0 0 0

-- two entities, each with an in-channel and an out-channel that is mapped to the other's; the first process is not timed
abbrev pub sleepers_draft : Draft Sleeper Idle
sleepers_draft =
    let first = with_entity (empty_draft (record {})) (record {}) (false ∷ true ∷ []) in
    let entities = with_entity first (record {}) (true ∷ []) in
    let ins = with_in_channel (with_in_channel entities 0) 1 in
    let outs = with_out_channel (with_out_channel ins 0 0) 1 0 in
    with_mapping (with_mapping outs 0 1 0 0) 1 0 0 0
