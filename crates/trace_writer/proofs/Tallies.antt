-- The numbers of a report with one more event, and with the events of several lists.
use Rattle.std.proofs.Common.{◌≡◌, ℕ, ◌+◌, Bool, true, false, cond, List, [], ◌∷◌, ◌++◌, length, take, Some, refl, sym, ap, ◌∙◌, arith, add-one, append_assoc, length-append}
use Rattle.std.specs.Prelude.{if◌then◌else◌, max}
use Rattle.std.specs.List.{filter, fold, slice_get, sum_by}
use Rattle.std.proofs.lemmas.List.{append-nil}
use Rattle.std.proofs.lemmas.List.Elements.{filter-append}
use Rattle.std.proofs.lemmas.List.Sums.{fold-append, sum_by-append}
use Rattle.std.proofs.lemmas.Grind.{flat_map-append}
use Rattle.std.proofs.lemmas.Option.{get_or_from_slice_get, slice_get_within}
use Rattle.std.proofs.Math.Seq.{take-length, take-suc}
use Rattle.ssf_model.specs.declared.event.Entry.{Entry}
use Rattle.ssf_model.specs.declared.event.Line.{Line}
use Rattle.trace_writer.specs.declared.total.Total.{Total}
use Rattle.trace_writer.specs.Report.{capped, is_sent, is_dropped, is_datagram, is_delivery, bytes_of, sums, total_of, lines_of, Totals, totals_of, events_of}
use Rattle.trace_writer.specs.Tallying.{added, counted, with_line, with_entry}

capped-more : (a b : ℕ) → capped (capped a + b) ≡ capped (a + b)
capped-more a b = omega arith

total_by : (a a' b b' : ℕ) → a ≡ a' → b ≡ b' → let x : Total = record { count = a; bytes = b } in let y : Total = record { count = a'; bytes = b' } in x ≡ y
total_by a a' b b' e f = cc

-- one more line
added-sums : (ls : List Line) (y : Line) → added (sums ls) (bytes_of y) ≡ sums (ls ++ y ∷ [])
added-sums ls y =
    total_by _ _ _ _ (capped-more (length ls) 1 ∙ ap capped (sym (length-append ls (y ∷ []))))
    (capped-more (sum_by bytes_of ls) (bytes_of y) ∙ ap capped (omega (arith, sum_by-append bytes_of ls (y ∷ []))))

counted-sums : (b : Bool) (ls : List Line) (y : Line) → (if b then added (sums ls) (bytes_of y) else sums ls) ≡ sums (ls ++ cond b (y ∷ []) [])
counted-sums true ls y = added-sums ls y
counted-sums false ls y = ap sums (sym (append-nil ls))

counted-total_of : (kind : Line → Bool) (ls : List Line) (y : Line) → counted kind (total_of kind ls) y ≡ total_of kind (ls ++ y ∷ [])
counted-total_of kind ls y =
    counted-sums (kind y) (filter kind ls) y ∙ ap sums (sym (filter-append kind ls (y ∷ [])))

-- the numbers of a report with these lines
abbrev summed : ℕ → ℕ → List Line → Totals
summed events last ls =
    record {
      events = events;
      last = last;
      sent = total_of is_sent ls;
      dropped = total_of is_dropped ls;
      datagrams = total_of is_datagram ls;
      delivered = total_of is_delivery ls;
    }

with_line-summed : (events last : ℕ) (ls : List Line) (y : Line) → with_line (summed events last ls) y ≡ summed events last (ls ++ y ∷ [])
unfolding with_line
with_line-summed events last ls y =
    rw (counted-total_of is_sent ls y, counted-total_of is_dropped ls y, counted-total_of is_datagram ls y, counted-total_of is_delivery ls y) refl

fold-summed : (events last : ℕ) (xs ys : List Line) → fold with_line (summed events last xs) ys ≡ summed events last (xs ++ ys)
fold-summed events last xs [] = ap (summed events last) (sym (append-nil xs))
fold-summed events last xs (y ∷ ys) =
    ap (λ t. fold with_line t ys) (with_line-summed events last xs y) ∙ fold-summed events last (xs ++ y ∷ []) ys
    ∙ ap (summed events last) (append_assoc xs (y ∷ []) ys)

summed_by : (a a' b b' : ℕ) (c c' : List Line) → a ≡ a' → b ≡ b' → c ≡ c' → summed a b c ≡ summed a' b' c'
summed_by a a' b b' c c' e f g = ap (λ n. summed n b c) e ∙ ap (λ n. summed a' n c) f ∙ ap (λ l. summed a' b' l) g

-- one more event
pub with_entry-totals_of : (es : List Entry) (e : Entry) → with_entry (totals_of es) e ≡ totals_of (es ++ e ∷ [])
unfolding totals_of with_entry
with_entry-totals_of es e =
    fold-summed _ _ (lines_of es) e.lines
    ∙ summed_by _ _ _ _ _ _ (capped-more (length es) 1 ∙ ap capped (sym (length-append es (e ∷ []))))
    (sym (fold-append (λ latest x. max latest x.key.time) 0 es (e ∷ [])))
    (ap (λ l. lines_of es ++ l) (sym (append-nil e.lines)) ∙ sym (flat_map-append (λ x. x.lines) es (e ∷ [])))

-- the tally of some events becomes that of these and one more
pub tally-with_entry : (old counted_event new : Totals) (e : Entry) (ls : List Line) (es : List Entry) → counted_event ≡ record old { events = capped (old.events + 1); last = max old.last e.key.time } → ls ≡ e.lines → new ≡ fold with_line counted_event ls → old ≡ totals_of es → new ≡ totals_of (es ++ e ∷ [])
unfolding with_entry
tally-with_entry old counted_event new e ls es counted_is lines_are new_is old_is =
    new_is ∙ ap (λ t. fold with_line t ls) counted_is
    ∙ ap (λ l. fold with_line (record old { events = capped (old.events + 1); last = max old.last e.key.time }) l) lines_are
    ∙ ap (λ t. with_entry t e) old_is ∙ with_entry-totals_of es e

-- the tally of no event becomes that of all that are added
fold-totals_of : (es fs : List Entry) → fold with_entry (totals_of es) fs ≡ totals_of (es ++ fs)
fold-totals_of es [] = ap totals_of (sym (append-nil es))
fold-totals_of es (f ∷ fs) =
    ap (λ t. fold with_entry t fs) (with_entry-totals_of es f) ∙ fold-totals_of (es ++ f ∷ []) fs
    ∙ ap totals_of (append_assoc es (f ∷ []) fs)

pub fold-with_entry : (fs : List Entry) → fold with_entry (totals_of []) fs ≡ totals_of fs
fold-with_entry fs = fold-totals_of [] fs

events_of-take-suc : (hs : List (List Entry)) (i : ℕ) (h : List Entry) → slice_get hs i ≡ Some h → events_of (take (i + 1) hs) ≡ events_of (take i hs) ++ h
events_of-take-suc hs i h is =
    ap (λ n. events_of (take n hs)) (add-one i) ∙ ap events_of (take-suc hs i h (slice_get_within hs i h is))
    ∙ ap (λ x. events_of (take i hs ++ x ∷ [])) (get_or_from_slice_get hs i h h is)
    ∙ flat_map-append (λ x. x) (take i hs) (h ∷ []) ∙ ap (λ x. events_of (take i hs) ++ x) (append-nil h)

-- the events of one list more
pub tally-next_history : (old new : Totals) (hs : List (List Entry)) (i : ℕ) (h : List Entry) → slice_get hs i ≡ Some h → old ≡ fold with_entry (totals_of []) (events_of (take i hs)) → new ≡ fold with_entry old h → new ≡ fold with_entry (totals_of []) (events_of (take (i + 1) hs))
tally-next_history old new hs i h is old_is new_is =
    new_is ∙ ap (λ t. fold with_entry t h) old_is
    ∙ sym (fold-append with_entry (totals_of []) (events_of (take i hs)) h)
    ∙ ap (λ es. fold with_entry (totals_of []) es) (sym (events_of-take-suc hs i h is))

-- the events of all lists
pub tally-all_histories : (t : Totals) (hs : List (List Entry)) (n : ℕ) → n ≡ length hs → t ≡ fold with_entry (totals_of []) (events_of (take n hs)) → t ≡ totals_of (events_of hs)
tally-all_histories t hs n all is =
    is ∙ ap (λ k. fold with_entry (totals_of []) (events_of (take k hs))) all
    ∙ ap (λ l. fold with_entry (totals_of []) (events_of l)) (take-length hs) ∙ fold-with_entry (events_of hs)
