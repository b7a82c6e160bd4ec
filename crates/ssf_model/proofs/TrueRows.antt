-- Shares, writes, parcels and windows of worked runs, computed from the definitions.
use Rattle.std.proofs.Common.{◌≡◌, ℕ, Bool, true, false, nat_eq, List, [], ◌∷◌, map, cond, nat_le, refl, Option, Some, None}
use Rattle.event_order.specs.Order.{comes_before}
use Rattle.event_order.specs.Machine.{all_kept}
use Rattle.ssf_model.specs.declared.wait.Wait.TheVariants.{On}
use Rattle.ssf_model.specs.declared.wait.Wake.TheVariants.{Begin, Timer, Message}
use Rattle.ssf_model.specs.declared.wait.Kind.TheVariants.{Message as MessageKind}
use Rattle.ssf_model.specs.declared.out.Written.{Written}
use Rattle.ssf_model.specs.declared.out.Written.TheVariants.{Channel}
use Rattle.ssf_model.specs.declared.event.Event.{Event}
use Rattle.ssf_model.specs.declared.event.Entry.{Entry}
use Rattle.ssf_model.specs.declared.plan.Plan.{Plan}
use Rattle.ssf_model.specs.Reaction.{Reaction}
use Rattle.ssf_model.specs.Drafts.{empty_draft, with_entity, with_in_channel, with_out_channel, with_mapping, planned}
use Rattle.ssf_model.specs.Run.{States, machine_of}
use Rattle.ssf_model.specs.Scene.{Net, Scene, scene_of}
use Rattle.ssf_model.specs.Truth.{line_events, line_entries, entries_below, writes_on, IsWrite, IsStretch, window_at}
use Rattle.ssf_model.proofs.Worked.{key}

-- a node whose state is the number of its in-channel and out-channel, and whether it has a token: it writes its token at
-- the start, and passes on each that comes
pub record Node : Type 0 where
  pub number : ℕ
  pub has_token : Bool

sends : Node → Bool → List (Written (Unit {0}))
sends s true = Channel s.number 0 tt ∷ []
sends s false = []

passes_on : Reaction Node (Unit {0})
passes_on s i now Begin = record { state = s; wait = On (s.number ∷ []); writes = sends s s.has_token; lines = [] }
passes_on s i now Timer = record { state = s; wait = On (s.number ∷ []); writes = []; lines = [] }
passes_on s i now (Message channel payload) = record { state = s; wait = On (s.number ∷ []); writes = Channel s.number 0 tt ∷ []; lines = [] }

node : ℕ → Bool → Node
node number has_token = record { number = number; has_token = has_token }

-- two nodes, of which the first has a token, and a mapping from each to the other, with delays of 5 and 3
two : Plan (Unit {0}) Node (Unit {0})
two =
    let nodes = with_entity (with_entity (empty_draft tt) (node 0 true) (false ∷ [])) (node 1 false) (false ∷ []) in
    let ins = with_in_channel (with_in_channel nodes 0) 1 in
    let outs = with_out_channel (with_out_channel ins 0 0) 1 0 in
    planned (with_mapping (with_mapping outs 0 1 5 0) 1 0 3 0)

-- each node on a timeline of its own: both mappings cross. `appointed` says which are appointed ones, and `lookahead` is
-- the least delay of the others
two_lines : (ℕ → Bool) → Option ℕ → Net
two_lines appointed lookahead = record {
  timelines = 2;
  channels = 4;
  cross = λ c. nat_le 2 c;
  appointed = appointed;
  sender = λ c. cond (nat_eq c 2) 0 1;
  receiver = λ c. cond (nat_eq c 2) 1 0;
  delay = λ c. cond (nat_eq c 2) 5 3;
  lookahead = lookahead;
}

-- up to time 10, where a channel with a delay below 4 is an appointed one
two_run : Scene (States (Unit {0}) Node (Unit {0})) (Event (Unit {0}))
two_run = scene_of passes_on two 10 all_kept (λ k. k) (two_lines (λ c. nat_eq c 3) (Some 5))

-- where all of them are windowed, and where all are appointed
all_windowed : Scene (States (Unit {0}) Node (Unit {0})) (Event (Unit {0}))
all_windowed = scene_of passes_on two 10 all_kept (λ k. k) (two_lines (λ c. false) (Some 3))

all_appointed : Scene (States (Unit {0}) Node (Unit {0})) (Event (Unit {0}))
all_appointed = scene_of passes_on two 10 all_kept (λ k. k) (two_lines (λ c. true) None)

-- ---- events and entries

first_line : map (λ (e : Event (Unit {0})). e.key) (line_events two_run 0 4) ≡ key 0 0 0 0 ∷ key 8 0 3 0 ∷ []
unfolding machine_of comes_before planned key node two two_lines two_run passes_on sends
first_line = refl

second_line : map (λ (e : Entry). e.key) (line_entries two_run 1 4) ≡ key 0 0 1 0 ∷ key 5 0 2 0 ∷ []
unfolding machine_of comes_before planned key node two two_lines two_run passes_on sends
second_line = refl

before_eight : map (λ (e : Entry). e.key) (entries_below two_run 8 9) ≡ key 0 0 0 0 ∷ key 0 0 1 0 ∷ key 5 0 2 0 ∷ []
unfolding machine_of comes_before planned key node two two_lines two_run passes_on sends
before_eight = refl

-- ---- windows

its_windows : map (window_at two_run 4) (0 ∷ 1 ∷ 2 ∷ 3 ∷ []) ≡ Some 0 ∷ Some 5 ∷ Some 10 ∷ None ∷ []
unfolding machine_of comes_before planned key node two two_lines two_run passes_on sends
its_windows = refl

windows_of_windowed : map (window_at all_windowed 4) (0 ∷ 1 ∷ 2 ∷ 3 ∷ 4 ∷ []) ≡ Some 0 ∷ Some 3 ∷ Some 8 ∷ Some 11 ∷ None ∷ []
unfolding machine_of comes_before planned key node two two_lines all_windowed passes_on sends
windows_of_windowed = refl

windows_of_appointed : map (window_at all_appointed 4) (0 ∷ 1 ∷ 2 ∷ []) ≡ Some 0 ∷ Some 11 ∷ None ∷ []
unfolding machine_of comes_before planned key node two two_lines all_appointed passes_on sends
windows_of_appointed = refl

-- ---- writes

-- the token makes one message on channel 2 and then one on channel 3, which makes another on channel 2 that no event up
-- to time 10 is
its_writes : map (λ (e : Event (Unit {0})). e.key) (writes_on two_run 2 4) ≡ key 5 0 2 0 ∷ key 13 0 2 1 ∷ []
unfolding machine_of comes_before planned key node two two_lines two_run passes_on sends
its_writes = refl

late : Event (Unit {0})
late = record { key = key 13 0 2 1; entity = 1; kind = MessageKind 1 tt }

late_is_write_one : IsWrite two_run 2 1 late
unfolding machine_of comes_before planned key node two two_lines two_run passes_on sends late
late_is_write_one = record { within = 4; is = refl }

-- a parcel of channel 2 with what is written after the first
its_stretch : IsStretch two_run 2 1 (late ∷ []) 2
its_stretch = (late_is_write_one, refl)
