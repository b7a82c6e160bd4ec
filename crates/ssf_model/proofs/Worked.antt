-- Worked runs, computed from the definitions: processes that wait for a time, and a wait that ends after its process
-- was woken by a message.
use Rattle.std.proofs.Common.{◌≡◌, ℕ, zero, suc, true, [], ◌∷◌, map, Some, option_map, refl}
use Rattle.event_order.specs.declared.key.Key.{Key}
use Rattle.event_order.specs.Order.{comes_before}
use Rattle.event_order.specs.Machine.{all_kept}
use Rattle.ssf_model.specs.declared.wait.Wait.TheVariants.{For, OnFor, Forever}
use Rattle.ssf_model.specs.declared.wait.Wake.TheVariants.{Begin, Timer, Message}
use Rattle.ssf_model.specs.declared.wait.Kind.TheVariants.{Timer as WaitEnd}
use Rattle.ssf_model.specs.declared.out.Written.TheVariants.{Channel}
use Rattle.ssf_model.specs.declared.plan.Plan.{Plan}
use Rattle.ssf_model.specs.declared.event.Event.{Event}
use Rattle.ssf_model.specs.Reaction.{Reaction}
use Rattle.ssf_model.specs.Drafts.{empty_draft, with_entity, with_in_channel, with_out_channel, with_mapping, planned}
use Rattle.ssf_model.specs.Run.{machine_of, run_event, run_events}

unfoldable pub key : ℕ → ℕ → ℕ → ℕ → Key
key time round channel number = record { time = time; round = round; priority = 0; channel = channel; number = number }

-- a process that waits for no time at its start, and for two ticks whenever its timer runs out
ticks : Reaction (Unit {0}) (Unit {0})
ticks s i now Begin = record { state = s; wait = For 0; writes = []; lines = [] }
ticks s i now Timer = record { state = s; wait = For 2; writes = []; lines = [] }
ticks s i now (Message channel payload) = record { state = s; wait = Forever; writes = []; lines = [] }

ticking : Plan (Unit {0}) (Unit {0}) (Unit {0})
ticking = planned (with_entity (empty_draft tt) tt (true ∷ []))

a_wait_for_no_time_takes_one_tick :
    map (λ (e : Event (Unit {0})). e.key) (run_events ticks ticking 5 all_kept 9) ≡ key 0 0 0 0 ∷ key 1 0 1 0 ∷ key 3 0 1 1 ∷ key 5 0 1 2 ∷ []
unfolding machine_of comes_before planned ticks ticking key
a_wait_for_no_time_takes_one_tick = refl

-- process 0 waits for a message or four ticks; process 1 writes one message after two ticks
unfoldable pub listens : Reaction (Unit {0}) (Unit {0})
listens s zero now wake = record { state = s; wait = OnFor (0 ∷ []) 4; writes = []; lines = [] }
listens s (suc i) now Begin = record { state = s; wait = For 2; writes = []; lines = [] }
listens s (suc i) now Timer = record { state = s; wait = Forever; writes = Channel 0 0 tt ∷ []; lines = [] }
listens s (suc i) now (Message channel payload) = record { state = s; wait = Forever; writes = []; lines = [] }

unfoldable pub listening : Plan (Unit {0}) (Unit {0}) (Unit {0})
listening = planned (with_mapping (with_out_channel (with_in_channel (with_entity (empty_draft tt) tt (true ∷ true ∷ [])) 0) 0 0) 0 0 0 0)

-- the event at 4 is the end of a wait that the message at 2 cut off: it is executed, and wakes nobody. If it woke
-- process 0, there would be an event at 8
a_late_wait_wakes_nobody :
    map (λ (e : Event (Unit {0})). e.key) (run_events listens listening 11 all_kept 12)
    ≡ key 0 0 0 0 ∷ key 2 0 2 0 ∷ key 2 1 3 0 ∷ key 4 0 1 0 ∷ key 6 0 1 1 ∷ key 10 0 1 2 ∷ []
unfolding machine_of comes_before planned listens listening key
a_late_wait_wakes_nobody = refl

-- it carries the ticket of the first wait of process 0
it_has_the_first_ticket : option_map (λ (e : Event (Unit {0})). e.kind) (run_event listens listening 11 all_kept 3) ≡ Some (WaitEnd 0 1)
unfolding machine_of comes_before planned listens listening
it_has_the_first_ticket = refl
