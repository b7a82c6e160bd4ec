-- Two worked runs by the six steps, computed from the definitions: bounds, promises, windows and least times ahead.
use Rattle.std.proofs.Common.{◌≡◌, ℕ, Bool, true, false, nat_eq, List, [], ◌∷◌, map, cond, nat_le, refl, Some, None}
use Rattle.event_order.specs.Order.{comes_before}
use Rattle.event_order.specs.Machine.{all_kept}
use Rattle.ssf_model.specs.declared.wait.Wait.TheVariants.{On}
use Rattle.ssf_model.specs.declared.wait.Wake.TheVariants.{Begin, Timer, Message}
use Rattle.ssf_model.specs.declared.out.Written.{Written}
use Rattle.ssf_model.specs.declared.out.Written.TheVariants.{Channel}
use Rattle.ssf_model.specs.declared.event.Event.{Event}
use Rattle.ssf_model.specs.declared.plan.Plan.{Plan}
use Rattle.ssf_model.specs.Reaction.{Reaction}
use Rattle.ssf_model.specs.Drafts.{empty_draft, with_entity, with_in_channel, with_out_channel, with_mapping, planned}
use Rattle.ssf_model.specs.Run.{States, machine_of}
use Rattle.ssf_model.specs.Scene.{Scene, scene_of, world_at}
use Rattle.ssf_model.proofs.Worked.{key}
use Rattle.sync_rules.specs.Parts.{Line, MailOf, BarrierOf}
use Rattle.sync_rules.specs.Bounds.{bound_of, low_of, promise_of, least_ahead_of}
use Rattle.sync_rules.specs.Steps.{first_line, first_mail, first_barrier, executed_line, posted_mail, taken_line, entered_line, reported_barrier, least_report, next_barrier}

-- a node whose state is the number of its in-channel and out-channel, and whether it has a token: it writes its token at
-- the start, and passes on each that comes
record Node : Type 0 where
  number : ℕ
  has_token : Bool

sends : Node → Bool → List (Written (Unit {0}))
sends s true = Channel s.number 0 tt ∷ []
sends s false = []

passes_on : Reaction Node (Unit {0})
passes_on s i now Begin = record { state = s; wait = On (s.number ∷ []); writes = sends s s.has_token; lines = [] }
passes_on s i now Timer = record { state = s; wait = On (s.number ∷ []); writes = []; lines = [] }
passes_on s i now (Message channel payload) = record { state = s; wait = On (s.number ∷ []); writes = Channel s.number 0 tt ∷ []; lines = [] }

node : ℕ → Bool → Node
node number has_token = record { number = number; has_token = has_token }

abbrev Ring : Type 0
Ring = Scene (States (Unit {0}) Node (Unit {0})) (Event (Unit {0}))

abbrev RingLine : Type 0
RingLine = Line (Event (Unit {0}))

-- timeline i after its first pending event, which is event number n of the run
executed_first : Ring → ℕ → ℕ → List (Event (Unit {0})) → RingLine → RingLine
executed_first s i n [] l = l
executed_first s i n (e ∷ rest) l = executed_line s i n (s.machine.writes (world_at s n).state e) rest l

run_first : Ring → ℕ → ℕ → RingLine → RingLine
run_first s i n l = executed_first s i n l.pending l

-- ---- two nodes, of which the first has a token, and a mapping from each to the other, with delays of 5 and 3

two : Plan (Unit {0}) Node (Unit {0})
two =
    let nodes = with_entity (with_entity (empty_draft tt) (node 0 true) (false ∷ [])) (node 1 false) (false ∷ []) in
    let ins = with_in_channel (with_in_channel nodes 0) 1 in
    let outs = with_out_channel (with_out_channel ins 0 0) 1 0 in
    planned (with_mapping (with_mapping outs 0 1 5 0) 1 0 3 0)

-- each node on a timeline of its own, up to time 10: channel 2 is a windowed one, and channel 3 an appointed one
two_run : Ring
two_run = scene_of passes_on two 10 all_kept (λ k. k) (record {
  timelines = 2;
  channels = 4;
  cross = λ c. nat_le 2 c;
  appointed = λ c. nat_eq c 3;
  sender = λ c. cond (nat_eq c 2) 0 1;
  receiver = λ c. cond (nat_eq c 2) 1 0;
  delay = λ c. cond (nat_eq c 2) 5 3;
  lookahead = Some 5;
})

-- both report the window 0, and the barrier crosses to the window 5, which they enter
two_crossed : BarrierOf
two_crossed =
    let b = reported_barrier two_run 1 (first_line two_run 1) (reported_barrier two_run 0 (first_line two_run 0) first_barrier) in
    next_barrier two_run (least_report 10 b.least 2) b

line_zero : RingLine
line_zero = entered_line two_run two_crossed.window (first_line two_run 0)

line_one : RingLine
line_one = entered_line two_run two_crossed.window (first_line two_run 1)

first_window_crossed : two_crossed.window ≡ 5
unfolding machine_of comes_before planned key node two two_run two_crossed passes_on sends
first_window_crossed = refl

-- timeline 0 is held by the appointed channel, and timeline 1 by its window alone
bounds_at_first : bound_of two_run.net 0 line_zero ∷ bound_of two_run.net 1 line_one ∷ low_of two_run 1 line_one ∷ [] ≡ 0 ∷ 5 ∷ 0 ∷ []
unfolding machine_of comes_before planned key node two two_run two_crossed line_zero line_one passes_on sends
bounds_at_first = refl

-- timeline 1 can promise the delay after its start event, and after that the window and the delay
promises_of_one : promise_of two_run 1 3 line_one ∷ promise_of two_run 1 3 (run_first two_run 1 1 line_one) ∷ promise_of two_run 0 2 line_zero ∷ [] ≡ 3 ∷ 8 ∷ 0 ∷ []
unfolding machine_of comes_before planned key node two two_run two_crossed line_zero line_one run_first executed_first passes_on sends
promises_of_one = refl

-- timeline 0 takes the promise of 3, and executes its start event, which writes the event at 5
zero_taken : RingLine
zero_taken = taken_line two_run 3 line_zero (posted_mail two_run 1 3 line_one first_mail)

zero_after : RingLine
zero_after = run_first two_run 0 0 zero_taken

bounds_after : bound_of two_run.net 0 zero_taken ∷ low_of two_run 0 zero_taken ∷ low_of two_run 0 zero_after ∷ least_ahead_of two_run zero_after ∷ [] ≡ 3 ∷ 0 ∷ 3 ∷ 5 ∷ []
unfolding machine_of comes_before planned key node two two_run two_crossed line_zero line_one zero_taken zero_after run_first executed_first passes_on sends
bounds_after = refl

its_outbox : map (λ (e : Event (Unit {0})). e.key) (zero_after.outbox 2) ≡ key 5 0 2 0 ∷ []
unfolding machine_of comes_before planned key node two two_run two_crossed line_zero line_one zero_taken zero_after run_first executed_first passes_on sends
its_outbox = refl

-- timeline 1 takes that event, which is held back by the window
one_after : RingLine
one_after = taken_line two_run 2 (run_first two_run 1 1 line_one) (posted_mail two_run 0 2 zero_after first_mail)

held_by_window : bound_of two_run.net 1 one_after ∷ low_of two_run 1 one_after ∷ one_after.taken 2 ∷ one_after.executed ∷ [] ≡ 5 ∷ 5 ∷ 1 ∷ 1 ∷ []
unfolding machine_of comes_before planned key node two two_run two_crossed line_zero line_one zero_taken zero_after one_after run_first executed_first passes_on sends
held_by_window = refl

-- ---- three nodes, of which the first two have a token and send to the third, with delays of 4

three : Plan (Unit {0}) Node (Unit {0})
three =
    let nodes = with_entity (with_entity (with_entity (empty_draft tt) (node 0 true) (false ∷ [])) (node 1 true) (false ∷ [])) (node 2 false) (false ∷ []) in
    let ins = with_in_channel (with_in_channel (with_in_channel nodes 0) 1) 2 in
    let outs = with_out_channel (with_out_channel (with_out_channel ins 0 0) 1 0) 2 0 in
    planned (with_mapping (with_mapping outs 0 2 4 0) 1 2 4 0)

-- each node on a timeline of its own, up to time 5: channels 3 and 4 are appointed ones
three_run : Ring
three_run = scene_of passes_on three 5 all_kept (λ k. k) (record {
  timelines = 3;
  channels = 5;
  cross = λ c. nat_le 3 c;
  appointed = λ c. nat_le 3 c;
  sender = λ c. cond (nat_eq c 3) 0 1;
  receiver = λ c. 2;
  delay = λ c. 4;
  lookahead = None;
})

-- all report the window 0, and the barrier crosses to the end
three_crossed : BarrierOf
three_crossed =
    let first = reported_barrier three_run 0 (first_line three_run 0) first_barrier in
    let second = reported_barrier three_run 1 (first_line three_run 1) first in
    let third = reported_barrier three_run 2 (first_line three_run 2) second in
    next_barrier three_run (least_report 5 third.least 3) third

three_windows : three_crossed.window ∷ [] ≡ 6 ∷ []
unfolding machine_of comes_before planned key node three three_run three_crossed passes_on sends
three_windows = refl

-- timeline 1 enters, executes its start event, and posts it with its promise; timeline 2 takes it, and enters
sender_one : RingLine
sender_one = run_first three_run 1 1 (entered_line three_run three_crossed.window (first_line three_run 1))

mail_four : MailOf (Event (Unit {0}))
mail_four = posted_mail three_run 1 4 sender_one first_mail

line_two : RingLine
line_two = entered_line three_run three_crossed.window (taken_line three_run 4 (first_line three_run 2) mail_four)

-- its start event is at 0 and not below the appointment of 0 that it holds of channel 3
held_by_channel : mail_four.appointment ∷ line_two.held 4 ∷ line_two.held 3 ∷ bound_of three_run.net 2 line_two ∷ low_of three_run 2 line_two ∷ [] ≡ 6 ∷ 6 ∷ 0 ∷ 0 ∷ 0 ∷ []
unfolding machine_of comes_before planned key node three three_run three_crossed sender_one mail_four line_two run_first executed_first passes_on sends
held_by_channel = refl

its_pending : map (λ (e : Event (Unit {0})). e.key) line_two.pending ≡ key 0 0 2 0 ∷ key 4 0 4 0 ∷ []
unfolding machine_of comes_before planned key node three three_run three_crossed sender_one mail_four line_two run_first executed_first passes_on sends
its_pending = refl
