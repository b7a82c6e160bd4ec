-- Facts on a run alone: which of its events are on a timeline, which of its writes has which place on a channel, what a
-- promise says, which parcels are true, where windows stand, and what a timeline holds at a moment of the run.
use Rattle.std.specs.Prelude.{ℕ, zero, suc, ◌≡◌, ◌+◌, ◌<◌, ◌≤◌, Bool, true, false, cond, nat_eq, nat_lt, nat_le, min, List, [], ◌∷◌, ◌++◌, length, Option, Some, None, option_map, slice_get}
use Rattle.std.specs.List.{filter, flat_map}
use Rattle.event_order.specs.Pending.{Among, IsRising}
use Rattle.event_order.specs.Machine.{option_list}
use Rattle.event_order.specs.Run.{WrittenAt, Arises, NoneBetween, share}
use Rattle.ssf_model.specs.declared.event.Entry.{Entry}
use Rattle.ssf_model.specs.Scene.{Scene, world_at, event_at, time_of, channel_of}

-- ---- timelines

-- the event is on timeline i
abbrev pub is_on_line : {X E : Type 0} → Scene X E → ℕ → E → Bool
is_on_line s i e = nat_eq (s.line e) i

-- the events of timeline i among the first n of the run: its share of them
abbrev pub line_events : {X E : Type 0} → Scene X E → ℕ → ℕ → List E
line_events s i n = share s.machine s.until s.kept s.opening (is_on_line s i) n

-- those of them at one time
abbrev pub line_events_at : {X E : Type 0} → Scene X E → ℕ → ℕ → ℕ → List E
line_events_at s i time n = filter (λ e. nat_eq (time_of s e) time) (line_events s i n)

-- no timeline has more than so many events
abbrev pub AreFew : {X E : Type 0} → Scene X E → ℕ → Type 0
AreFew s most = (i n : ℕ) → length (line_events s i n) ≤ most

-- the entries of those of the first n events that pass a test
abbrev pub entries_that : {X E : Type 0} → Scene X E → (E → Bool) → ℕ → List Entry
entries_that s test zero = []
entries_that s test (suc n) = entries_that s test n ++ flat_map (λ e. cond (test e) (s.entry (world_at s n).state e ∷ []) []) (option_list (event_at s n))

-- the entries of all of them
abbrev pub all_entries : {X E : Type 0} → Scene X E → ℕ → List Entry
all_entries s n = entries_that s (λ e. true) n

-- the entries of timeline i, which it keeps as its history
abbrev pub line_entries : {X E : Type 0} → Scene X E → ℕ → ℕ → List Entry
line_entries s i n = entries_that s (is_on_line s i) n

-- the entries of those of the first n events that come before a time
abbrev pub entries_below : {X E : Type 0} → Scene X E → ℕ → ℕ → List Entry
entries_below s bound n = entries_that s (λ e. nat_lt (time_of s e) bound) n

-- each event of the run before the time v is one of the first n
abbrev pub IsPassed : {X E : Type 0} → Scene X E → ℕ → ℕ → Type 0
IsPassed {X} {E} s v n = (j : ℕ) (e : E) → event_at s j ≡ Some e → time_of s e < v → j < n

-- each timeline i has reached the time v at its moment: its events before v are among the first `at i` of the run
abbrev pub HasReached : {X E : Type 0} → Scene X E → ℕ → (ℕ → ℕ) → Type 0
HasReached {X} {E} s v at = (j : ℕ) (e : E) → event_at s j ≡ Some e → time_of s e < v → j < at (s.line e)

-- these are, in key order, the entries before the time v that the timelines have kept, each at a moment of its own
pub record IsMerged {X E : Type 0} (s : Scene X E) (v : ℕ) (at : ℕ → ℕ) (entries : List Entry) : Type 0 where
  pub rising : IsRising (λ x. x.key) entries
  pub from : (x : Entry) → Among x entries → (i : ℕ) × Among x (line_entries s i (at i)) × (x.key.time < v)
  pub whole : (x : Entry) (i : ℕ) → Among x (line_entries s i (at i)) → x.key.time < v → Among x entries

-- ---- writes

-- the writes of the first n events of the run, in the order in which they are made. The cut may have dropped some of
-- them from what is pending; they count all the same
abbrev pub writes_within : {X E : Type 0} → Scene X E → ℕ → List E
writes_within s zero = []
writes_within s (suc n) = writes_within s n ++ flat_map (s.machine.writes (world_at s n).state) (option_list (event_at s n))

-- those of them on channel c
abbrev pub has_channel : {X E : Type 0} → Scene X E → ℕ → E → Bool
has_channel s c d = nat_eq (channel_of s d) c

abbrev pub writes_on : {X E : Type 0} → Scene X E → ℕ → ℕ → List E
writes_on s c n = filter (has_channel s c) (writes_within s n)

-- d is the write on channel c before which the run wrote k times on c
pub record IsWrite {X E : Type 0} (s : Scene X E) (c k : ℕ) (d : E) : Type 0 where
  pub within : ℕ
  pub is : slice_get (writes_on s c within) k ≡ Some d

-- some event of the run writes d. The cut may drop d
pub record IsRunWrite {X E : Type 0} (s : Scene X E) (d : E) : Type 0 where
  pub at : ℕ
  pub by : E
  pub is : event_at s at ≡ Some by
  pub written : Among d (s.machine.writes (world_at s at).state by)

-- the writes on channel c from number `first` on and before number `end`, in a row
abbrev pub IsStretch : {X E : Type 0} → Scene X E → ℕ → ℕ → List E → ℕ → Type 0
IsStretch s c first [] end = first ≡ end
IsStretch s c first (d ∷ ds) end = IsWrite s c first d × IsStretch s c (suc first) ds end

-- every write of the run on channel c with a time below `bound` is one of the first n
abbrev pub IsPromise : {X E : Type 0} → Scene X E → ℕ → ℕ → ℕ → Type 0
IsPromise {X} {E} s c bound n = (k : ℕ) (d : E) → IsWrite s c k d → time_of s d < bound → k < n

-- a parcel of channel c, with some events and a promise of the time `bound`: the events are the writes on c from number
-- `first` on and before number `end`, and on an appointed channel the promise holds after them
pub record IsTrueParcel {X E : Type 0} (s : Scene X E) (c first : ℕ) (ds : List E) (end bound : ℕ) : Type 0 where
  pub events : IsStretch s c first ds end
  pub least : s.net.appointed c ≡ true → bound ≤ s.until + 1
  pub promise : s.net.appointed c ≡ true → IsPromise s c bound end

-- ---- windows

-- n is the moment of the time v: the first n events are those before v
pub record IsCut {X E : Type 0} (s : Scene X E) (v n : ℕ) : Type 0 where
  pub early : (j : ℕ) (e : E) → event_at s j ≡ Some e → j < n → time_of s e < v
  pub late : (j : ℕ) (e : E) → event_at s j ≡ Some e → n ≤ j → v ≤ time_of s e

-- some event has the time m, which is the least of all from v on
pub record IsLeastFrom {X E : Type 0} (s : Scene X E) (v m : ℕ) : Type 0 where
  pub number : ℕ
  pub event : E
  pub is : event_at s number ≡ Some event
  pub at : time_of s event ≡ m
  pub from : v ≤ m
  pub least : (j : ℕ) (e : E) → event_at s j ≡ Some e → v ≤ time_of s e → m ≤ time_of s e

-- the window after one from which on m is the least time: what is written from there on arrives on a windowed channel no
-- sooner. Where no channel is windowed it is the end
abbrev pub next_window : Option ℕ → ℕ → ℕ → ℕ
next_window None until m = until + 1
next_window (Some lookahead) until m = min (m + lookahead) (until + 1)

-- window number k is x, and the one before it is v. The first is 0, and 0 before it
abbrev pub IsWindow : {X E : Type 0} → Scene X E → ℕ → ℕ → ℕ → Type 0
IsWindow s zero v x = (v ≡ 0) × (x ≡ 0)
IsWindow s (suc k) v x = (u : ℕ) × (m : ℕ) × IsWindow s k u v × IsLeastFrom s v m × (x ≡ next_window s.net.lookahead s.until m)

-- the same by computation, for a run that ends within `end` events: the least time from v on, and window number k
abbrev pub lesser : Option ℕ → ℕ → Option ℕ
lesser None m = Some m
lesser (Some n) m = Some (min n m)

abbrev pub least_of : {X E : Type 0} → Scene X E → ℕ → List E → Option ℕ → Option ℕ
least_of s v [] found = found
least_of s v (e ∷ es) found = least_of s v es (cond (nat_le v (time_of s e)) (lesser found (time_of s e)) found)

abbrev pub least_time : {X E : Type 0} → Scene X E → ℕ → ℕ → Option ℕ
least_time s v zero = None
least_time s v (suc n) = least_of s v (option_list (event_at s n)) (least_time s v n)

abbrev pub window_from : {X E : Type 0} → Scene X E → ℕ → Option ℕ → Option ℕ
window_from s end None = None
window_from s end (Some v) = option_map (next_window s.net.lookahead s.until) (least_time s v end)

abbrev pub window_at : {X E : Type 0} → Scene X E → ℕ → ℕ → Option ℕ
window_at s end zero = Some 0
window_at s end (suc k) = window_from s end (window_at s end k)

-- ---- a timeline at a moment of the run

-- h is the next event of timeline i from number n on
pub record IsNext {X E : Type 0} (s : Scene X E) (i n : ℕ) (h : E) : Type 0 where
  pub wait : ℕ
  pub is : event_at s (wait + n) ≡ Some h
  pub none : NoneBetween s.machine s.until s.kept s.opening (is_on_line s i) n (wait + n)

-- d was executed before number n
abbrev pub WasExecuted : {X E : Type 0} → Scene X E → ℕ → E → Type 0
WasExecuted s n d = (j : ℕ) × (j < n) × (event_at s j ≡ Some d)

-- event number k writes d, and the cut keeps it
abbrev pub IsKeptWrite : {X E : Type 0} → Scene X E → ℕ → E → Type 0
IsKeptWrite s k d = WrittenAt s.machine s.until s.kept s.opening k d

-- whatever is written for timeline i on another one, with a time below `bound`, came already
abbrev pub IsPromised : {X E : Type 0} → Scene X E → ℕ → ℕ → (E → Type 0) → Type 0
IsPromised {X} {E} s i bound came = (d : E) (k : ℕ) → is_on_line s i d ≡ true → (w : IsKeptWrite s k d) → is_on_line s i w.by ≡ false → time_of s d < bound → came d

-- what timeline i has pending at the moment n: the events of the opening, of its own events before n and of what came to
-- it from others, those that are on it and were not executed, in the order of their keys
pub record IsStanding {X E : Type 0} (s : Scene X E) (i n : ℕ) (came : E → Type 0) (pending : List E) : Type 0 where
  pub rising : IsRising s.machine.key pending
  pub own : (d : E) → Among d pending → is_on_line s i d ≡ true
  pub arises : (d : E) → Among d pending → Arises s.machine s.until s.kept s.opening d
  pub ahead : (d : E) (j : ℕ) → Among d pending → event_at s j ≡ Some d → n ≤ j
  pub before : (d : E) (k : ℕ) → Among d pending → (w : IsKeptWrite s k d) → is_on_line s i w.by ≡ true → k < n
  pub came_across : (d : E) (k : ℕ) → Among d pending → (w : IsKeptWrite s k d) → is_on_line s i w.by ≡ false → came d
  pub opening : (d : E) → is_on_line s i d ≡ true → Among d s.opening.pending → (WasExecuted s n d → ⊥) → Among d pending
  pub inside : (d : E) (k : ℕ) → is_on_line s i d ≡ true → (w : IsKeptWrite s k d) → is_on_line s i w.by ≡ true → k < n → (WasExecuted s n d → ⊥) → Among d pending
  pub across : (d : E) (k : ℕ) → is_on_line s i d ≡ true → (w : IsKeptWrite s k d) → is_on_line s i w.by ≡ false → came d → (WasExecuted s n d → ⊥) → Among d pending
