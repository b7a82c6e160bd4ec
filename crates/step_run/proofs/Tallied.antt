-- The numbers of a report do not depend on the order of its events; and those of entries below a bound, one history after
-- another.
use Rattle.std.proofs.Common.{◌≡◌, ℕ, ◌+◌, ◌<◌, Bool, true, false, cond, List, [], ◌∷◌, ◌++◌, length, take, map, Some, slice_get, get_or, option_map, refl, sym, ap, ◌∙◌, inl, inr, arith, add-one, append_assoc, length-append, nat_lt}
use Rattle.std.specs.Prelude.{max}
use Rattle.std.specs.List.{filter, fold, sum_by}
use Rattle.std.proofs.lemmas.List.{append-nil}
use Rattle.std.proofs.lemmas.List.Elements.{filter-append}
use Rattle.std.proofs.lemmas.List.Sums.{fold-append, sum_by-append, sum_by-cons}
use Rattle.std.proofs.lemmas.Grind.{flat_map-append}
use Rattle.std.proofs.lemmas.Option.{get_or_from_slice_get, slice_get_within, slice_get_read, slice_get-map}
use Rattle.std.proofs.Math.Seq.{take-suc}
use Rattle.event_order.specs.declared.key.Key.{Key}
use Rattle.event_order.specs.Order.{comes_before}
use Rattle.event_order.specs.Pending.{put, put_all}
use Rattle.event_order.proofs.Pending.{test_cases}
use Rattle.ssf_model.specs.declared.event.Entry.{Entry}
use Rattle.ssf_model.specs.declared.event.Line.{Line}
use Rattle.trace_writer.specs.declared.total.Total.{Total}
use Rattle.trace_writer.specs.Merging.{entries_before, in_key_order, merged}
use Rattle.trace_writer.specs.Report.{capped, is_sent, is_dropped, is_datagram, is_delivery, bytes_of, total_of, lines_of, Totals, totals_of, events_of}
use Rattle.trace_writer.specs.Tallying.{with_entry}
use Rattle.trace_writer.proofs.Tallies.{with_entry-totals_of}
use Rattle.timeline.specs.View.{TimelineOf}
use Rattle.core_traces.specs.Kept.{history_in}
use Rattle.step_run.specs.Telling.{IsTallied}

-- ---- sums over entries in key order

abbrev key_of_entry : Entry → Key
key_of_entry e = e.key

sum_put : (f : Entry → ℕ) (x : Entry) (ys : List Entry) → sum_by f (put key_of_entry x ys) ≡ f x + sum_by f ys
sum_put f x [] = sum_by-cons f x []
sum_put f x (y ∷ ys) =
    let first : sum_by f (x ∷ y ∷ ys) ≡ f x + sum_by f (y ∷ ys) = sum_by-cons f x (y ∷ ys) in
    let later : sum_by f (y ∷ put key_of_entry x ys) ≡ f x + sum_by f (y ∷ ys) =
    omega (arith, sum_by-cons f y (put key_of_entry x ys), sum_put f x ys, sum_by-cons f y ys) in
    elim (test_cases (comes_before x.key y.key)) [ inl t ↦ rw t first | inr n ↦ rw n later ]

sum_put_all : (f : Entry → ℕ) (xs ys : List Entry) → sum_by f (put_all key_of_entry xs ys) ≡ sum_by f xs + sum_by f ys
sum_put_all f [] ys = (let none : sum_by f [] ≡ 0 = refl in omega arith)
sum_put_all f (x ∷ xs) ys = omega (arith, sum_put_all f xs (put key_of_entry x ys), sum_put f x ys, sum_by-cons f x xs)

sum_in_order : (f : Entry → ℕ) (xs : List Entry) → sum_by f (in_key_order xs) ≡ sum_by f xs
sum_in_order f xs = (let none : sum_by f [] ≡ 0 = refl in omega (arith, sum_put_all f xs []))

-- ---- the greatest time

abbrev later_of : ℕ → Entry → ℕ
later_of latest e = max latest e.key.time

last_max : (m k : ℕ) (xs : List Entry) → fold later_of (max m k) xs ≡ max (fold later_of m xs) k
last_max m k [] = refl
last_max m k (y ∷ ys) =
    let turned : max (max m k) y.key.time ≡ max (max m y.key.time) k = omega arith in
    ap (λ n. fold later_of n ys) turned ∙ last_max (max m y.key.time) k ys

last_put : (m : ℕ) (x : Entry) (ys : List Entry) → fold later_of m (put key_of_entry x ys) ≡ fold later_of (max m x.key.time) ys
last_put m x [] = refl
last_put m x (y ∷ ys) =
    let turned : max (max m y.key.time) x.key.time ≡ max (max m x.key.time) y.key.time = omega arith in
    let later : fold later_of m (y ∷ put key_of_entry x ys) ≡ fold later_of (max m x.key.time) (y ∷ ys) =
    last_put (max m y.key.time) x ys ∙ ap (λ n. fold later_of n ys) turned in
    elim (test_cases (comes_before x.key y.key)) [ inl t ↦ rw t refl | inr n ↦ rw n later ]

last_put_all : (m : ℕ) (xs ys : List Entry) → fold later_of m (put_all key_of_entry xs ys) ≡ fold later_of (fold later_of m xs) ys
last_put_all m [] ys = refl
last_put_all m (x ∷ xs) ys =
    last_put_all m xs (put key_of_entry x ys) ∙ last_put (fold later_of m xs) x ys
    ∙ ap (λ n. fold later_of n ys) (sym (last_max m x.key.time xs))

-- ---- the numbers of a report

length_sum : (xs : List Entry) → length xs ≡ sum_by (λ (e : Entry). 1) xs
length_sum [] = refl
length_sum (x ∷ xs) = omega (arith, length_sum xs, sum_by-cons (λ (e : Entry). 1) x xs)

kind_count : (kind : Line → Bool) (xs : List Entry) → length (filter kind (lines_of xs)) ≡ sum_by (λ (e : Entry). length (filter kind e.lines)) xs
kind_count kind [] = refl
kind_count kind (x ∷ xs) =
    ap (λ ls. length ls) (filter-append kind x.lines (lines_of xs))
    ∙ omega (arith, length-append (filter kind x.lines) (filter kind (lines_of xs)), kind_count kind xs, sum_by-cons (λ (e : Entry). length (filter kind e.lines)) x xs)

kind_bytes : (kind : Line → Bool) (xs : List Entry) → sum_by bytes_of (filter kind (lines_of xs)) ≡ sum_by (λ (e : Entry). sum_by bytes_of (filter kind e.lines)) xs
kind_bytes kind [] = refl
kind_bytes kind (x ∷ xs) =
    ap (λ ls. sum_by bytes_of ls) (filter-append kind x.lines (lines_of xs))
    ∙ omega (arith, sum_by-append bytes_of (filter kind x.lines) (filter kind (lines_of xs)), kind_bytes kind xs, sum_by-cons (λ (e : Entry). sum_by bytes_of (filter kind e.lines)) x xs)

-- two lists have the same sums and the same greatest time
record AreAlike (xs ys : List Entry) : Type 0 where
  same_sums : (f : Entry → ℕ) → sum_by f xs ≡ sum_by f ys
  same_last : fold later_of 0 xs ≡ fold later_of 0 ys

total_by : (a a' b b' : ℕ) → a ≡ a' → b ≡ b' → let x : Total = record { count = a; bytes = b } in let y : Total = record { count = a'; bytes = b' } in x ≡ y
total_by a a' b b' e f = cc

total_alike : (kind : Line → Bool) (xs ys : List Entry) → AreAlike xs ys → total_of kind (lines_of xs) ≡ total_of kind (lines_of ys)
total_alike kind xs ys h =
    total_by _ _ _ _
    (ap capped (kind_count kind xs ∙ h.same_sums (λ (e : Entry). length (filter kind e.lines)) ∙ sym (kind_count kind ys)))
    (ap capped (kind_bytes kind xs ∙ h.same_sums (λ (e : Entry). sum_by bytes_of (filter kind e.lines)) ∙ sym (kind_bytes kind ys)))

abbrev numbers : ℕ → ℕ → Total → Total → Total → Total → Totals
numbers events last sent dropped datagrams delivered = record { events = events; last = last; sent = sent; dropped = dropped; datagrams = datagrams; delivered = delivered }

numbers_by : (a a' b b' : ℕ) (c c' d d' e e' f f' : Total) → a ≡ a' → b ≡ b' → c ≡ c' → d ≡ d' → e ≡ e' → f ≡ f' → numbers a b c d e f ≡ numbers a' b' c' d' e' f'
numbers_by a a' b b' c c' d d' e e' f f' p q r s t u = cc

totals_alike : (xs ys : List Entry) → AreAlike xs ys → totals_of xs ≡ totals_of ys
unfolding totals_of
totals_alike xs ys h =
    numbers_by _ _ _ _ _ _ _ _ _ _ _ _
    (ap capped (length_sum xs ∙ h.same_sums (λ (e : Entry). 1) ∙ sym (length_sum ys)))
    h.same_last (total_alike is_sent xs ys h) (total_alike is_dropped xs ys h) (total_alike is_datagram xs ys h) (total_alike is_delivery xs ys h)

-- entries behind others may stand in key order
pub totals_in_order : (told xs : List Entry) → totals_of (told ++ in_key_order xs) ≡ totals_of (told ++ xs)
totals_in_order told xs = totals_alike (told ++ in_key_order xs) (told ++ xs) (record {
  same_sums = λ f. omega (arith, sum_by-append f told (in_key_order xs), sum_by-append f told xs, sum_in_order f xs);
  same_last =
      fold-append later_of 0 told (in_key_order xs) ∙ last_put_all (fold later_of 0 told) xs [] ∙ sym (fold-append later_of 0 told xs);
})

-- ---- tallies

fold_totals : (es fs : List Entry) → fold with_entry (totals_of es) fs ≡ totals_of (es ++ fs)
fold_totals es [] = ap totals_of (sym (append-nil es))
fold_totals es (f ∷ fs) =
    ap (λ t. fold with_entry t fs) (with_entry-totals_of es f) ∙ fold_totals (es ++ f ∷ []) fs
    ∙ ap totals_of (append_assoc es (f ∷ []) fs)

pub tallied_merged : (before after : Totals) (histories : List (List Entry)) (below : ℕ) → after ≡ fold with_entry before (entries_before below (events_of histories)) → IsTallied before after (merged histories below)
tallied_merged before after histories below is told first =
    is ∙ ap (λ t. fold with_entry t (entries_before below (events_of histories))) first
    ∙ fold_totals told (entries_before below (events_of histories)) ∙ sym (totals_in_order told (entries_before below (events_of histories)))

-- ---- one more entry of a history, and one more history

taken_more : {T : Type 0} (xs : List T) (i : ℕ) (x : T) → slice_get xs i ≡ Some x → take (i + 1) xs ≡ take i xs ++ x ∷ []
taken_more xs i x is =
    ap (λ n. take n xs) (add-one i) ∙ take-suc xs i x (slice_get_within xs i x is)
    ∙ ap (λ y. take i xs ++ y ∷ []) (get_or_from_slice_get xs i x x is)

before_more : (below : ℕ) (xs : List Entry) (i : ℕ) (x : Entry) → slice_get xs i ≡ Some x → entries_before below (take (i + 1) xs) ≡ entries_before below (take i xs) ++ cond (nat_lt x.key.time below) (x ∷ []) []
before_more below xs i x is =
    ap (λ ys. entries_before below ys) (taken_more xs i x is) ∙ filter-append (λ (e : Entry). nat_lt e.key.time below) (take i xs) (x ∷ [])

pub entry_counts : (old now : Totals) (below : ℕ) (xs : List Entry) (i : ℕ) (x : Entry) → slice_get xs i ≡ Some x → nat_lt x.key.time below ≡ true
    → now ≡ fold with_entry old (entries_before below (take i xs)) → with_entry now x ≡ fold with_entry old (entries_before below (take (i + 1) xs))
entry_counts old now below xs i x is early h =
    ap (λ t. with_entry t x) h
    ∙ sym (fold-append with_entry old (entries_before below (take i xs)) (x ∷ []))
    ∙ ap (λ ys. fold with_entry old ys) (ap (λ b. entries_before below (take i xs) ++ cond b (x ∷ []) []) (sym early) ∙ sym (before_more below xs i x is))

pub entry_waits : (old now : Totals) (below : ℕ) (xs : List Entry) (i : ℕ) (x : Entry) → slice_get xs i ≡ Some x → nat_lt x.key.time below ≡ false
    → now ≡ fold with_entry old (entries_before below (take i xs)) → now ≡ fold with_entry old (entries_before below (take (i + 1) xs))
entry_waits old now below xs i x is late h =
    h ∙ ap (λ ys. fold with_entry old ys)
    (sym (append-nil (entries_before below (take i xs))) ∙ ap (λ b. entries_before below (take i xs) ++ cond b (x ∷ []) []) (sym late) ∙ sym (before_more below xs i x is))

pub history_counts : (old now after : Totals) (below : ℕ) (hs : List (List Entry)) (i : ℕ) (h : List Entry) → slice_get hs i ≡ Some h
    → now ≡ fold with_entry old (entries_before below (events_of (take i hs))) → after ≡ fold with_entry now (entries_before below h)
    → after ≡ fold with_entry old (entries_before below (events_of (take (i + 1) hs)))
history_counts old now after below hs i h is before step =
    let joined : events_of (take (i + 1) hs) ≡ events_of (take i hs) ++ h =
    ap (λ ls. events_of ls) (taken_more hs i h is) ∙ flat_map-append (λ (x : List Entry). x) (take i hs) (h ∷ []) ∙ ap (λ x. events_of (take i hs) ++ x) (append-nil h) in
    step ∙ ap (λ t. fold with_entry t (entries_before below h)) before
    ∙ sym (fold-append with_entry old (entries_before below (events_of (take i hs))) (entries_before below h))
    ∙ ap (λ ys. fold with_entry old ys) (sym (filter-append (λ (e : Entry). nat_lt e.key.time below) (events_of (take i hs)) h) ∙ ap (λ ys. entries_before below ys) (sym joined))

pub history_at : {B S P : Type 0} (ts : List (TimelineOf B S P)) (i : ℕ) (t : TimelineOf B S P) (h : List Entry) → i < length ts → t ≡ get_or ts i t → h ≡ t.history → slice_get (map history_in ts) i ≡ Some h
history_at ts i t h within is own =
    slice_get-map history_in ts i ∙ ap (λ o. option_map history_in o) (slice_get_read ts (length ts) i t refl within is) ∙ ap (λ x. Some x) (sym own)
