-- Lines that are written in pieces.
use Rattle.std.proofs.Common.{ℕ, ◌≡◌, ◌++◌, ◌∷◌, ap, ◌∙◌, sym, subst, arith, codes, decimal, length, length-append, List, [], append_assoc, append-nil, Option, Result, Ok, Err, OnOk, OnErr, inl, inr}
use Rattle.sim_base.specs.Outside.{Rose, Appends, AppendsPrefix}
use Rattle.sim_base.specs.declared.outside.Failed.{Failed}
use Rattle.trace_writer.proofs.Writing.{appends_then, prefix_then, prefix_first}
use Rattle.ssfnet_top.specs.declared.refusal.Refusal.{Refusal}
use Rattle.ssfnet_top.specs.declared.refusal.Refusal.TheVariants as refusal
use Rattle.ssfnet_top.specs.Refusals.{status_of, line_of}
use Rattle.ssfnet_top.specs.Outcome.{refusal_line, windows_line}
use Rattle.ssfnet_top.specs.Answering.{IsAnswered, IsReportTold}

-- a part of the second text behind the first
pub part_then : (a b : List ℕ) (old mid new : Option (List ℕ)) → Appends a old mid → AppendsPrefix b mid new → AppendsPrefix (a ++ b) old new
part_then a b old mid new all part = subst (λ (t : List ℕ). AppendsPrefix (a ++ t) old new) (append-nil b) (prefix_then a b [] old mid new all part)

-- a line that was written, or cut short
pub told_by : (r : Refusal) (written : Result (Unit {0}) Failed) (status result faults faults' : ℕ) (held held' : Option (List ℕ)) → status ≡ status_of r
    → OnOk written (result ≡ status) → OnErr written (result ≡ 7)
    → OnOk written (Appends (refusal_line r) held held') → OnErr written (AppendsPrefix (refusal_line r) held held') → OnErr written (Rose faults faults') → IsAnswered r result faults faults' held held'
told_by r (Ok unit) status result faults faults' held held' is well failed all part rose = inl (inl (well ∙ is, all))
told_by r (Err fault) status result faults faults' held held' is well failed all part rose = inl (inr (failed, rose, part))

pub reported_by : (text : List ℕ) (written : Result (Unit {0}) Failed) (result faults faults' : ℕ) (held held' : Option (List ℕ)) → ¬ (text ≡ [])
    → OnOk written (result ≡ 0) → OnErr written (result ≡ 7)
    → OnOk written (Appends text held held') → OnErr written (AppendsPrefix text held held') → OnErr written (Rose faults faults') → IsReportTold text result faults faults' held held'
reported_by text (Ok unit) result faults faults' held held' some well failed all part rose = inl (well, all)
reported_by text (Err fault) result faults faults' held held' some well failed all part rose = inr (some, (failed, rose, part))

-- what is so where a write was done, and where it failed
pub if_done : {T E : Type 0} (r : Result T E) (P Q : Type 0) → (P → Q) → OnOk r P → OnOk r Q
if_done (Ok x) P Q f h = f h
if_done (Err e) P Q f h = tt

pub if_failed : {T E : Type 0} (r : Result T E) (P Q : Type 0) → (P → Q) → OnErr r P → OnErr r Q
if_failed (Ok x) P Q f h = tt
if_failed (Err e) P Q f h = f h

pub failed_with : {T E : Type 0} (r : Result T E) (Q : Type 0) → Q → OnErr r Q
failed_with (Ok x) Q q = tt
failed_with (Err e) Q q = q

-- the line of a timeline whose budget ends, in its three pieces
regrouped : (a b c d e f : List ℕ) → (a ++ b) ++ (c ++ (d ++ (e ++ f))) ≡ (a ++ (b ++ (c ++ (d ++ e)))) ++ f
regrouped a b c d e f =
    append_assoc a b (c ++ (d ++ (e ++ f)))
    ∙ sym (append_assoc a (b ++ (c ++ (d ++ e))) f ∙ ap (λ t. a ++ t) (append_assoc b (c ++ (d ++ e)) f ∙ ap (λ t. b ++ t) (append_assoc c (d ++ e) f ∙ ap (λ t. c ++ t) (append_assoc d e f))))

module _ (timeline budget below : ℕ) where
  abbrev pub first_piece : List ℕ
  first_piece = codes "budget timeline " ++ decimal timeline

  abbrev pub second_piece : List ℕ
  second_piece = 32 ∷ decimal budget

  abbrev pub third_piece : List ℕ
  third_piece = codes " below " ++ (decimal below ++ 10 ∷ [])

  three_pieces : first_piece ++ (second_piece ++ third_piece) ≡ refusal_line (refusal.TimelineBudget timeline budget below)
  unfolding line_of
  three_pieces = regrouped (codes "budget timeline ") (decimal timeline) (32 ∷ decimal budget) (codes " below ") (decimal below) (10 ∷ [])

  module _ (old mid next new : Option (List ℕ)) where
    pub all_pieces : Appends first_piece old mid → Appends second_piece mid next → Appends third_piece next new → Appends (refusal_line (refusal.TimelineBudget timeline budget below)) old new
    all_pieces p q r = subst (λ (t : List ℕ). Appends t old new) three_pieces (appends_then first_piece (second_piece ++ third_piece) old mid new p (appends_then second_piece third_piece mid next new q r))

    pub cut_in_first : AppendsPrefix first_piece old new → AppendsPrefix (refusal_line (refusal.TimelineBudget timeline budget below)) old new
    cut_in_first p = subst (λ (t : List ℕ). AppendsPrefix t old new) three_pieces (prefix_first first_piece (second_piece ++ third_piece) old new p)

    pub cut_in_second : Appends first_piece old mid → AppendsPrefix second_piece mid new → AppendsPrefix (refusal_line (refusal.TimelineBudget timeline budget below)) old new
    cut_in_second p q = subst (λ (t : List ℕ). AppendsPrefix t old new) three_pieces (part_then first_piece (second_piece ++ third_piece) old mid new p (prefix_first second_piece third_piece mid new q))

    pub cut_in_third : Appends first_piece old mid → Appends second_piece mid next → AppendsPrefix third_piece next new → AppendsPrefix (refusal_line (refusal.TimelineBudget timeline budget below)) old new
    cut_in_third p q r = subst (λ (t : List ℕ). AppendsPrefix t old new) three_pieces (part_then first_piece (second_piece ++ third_piece) old mid new p (part_then second_piece third_piece mid next new q r))

-- the line of a worker that was stopped, in its two pieces
module _ (worker below : ℕ) where
  abbrev pub worker_piece : List ℕ
  worker_piece = codes "stopped worker " ++ decimal worker

  abbrev pub below_piece : List ℕ
  below_piece = codes " below " ++ (decimal below ++ 10 ∷ [])

  stop_pieces : worker_piece ++ below_piece ≡ refusal_line (refusal.Stopped worker below)
  unfolding line_of
  stop_pieces =
      let a = codes "stopped worker " in
      let b = decimal worker in
      let c = codes " below " in
      let d = decimal below in
      let e : List ℕ = 10 ∷ [] in
      append_assoc a b (c ++ (d ++ e)) ∙ sym (append_assoc a (b ++ (c ++ d)) e ∙ ap (λ t. a ++ t) (append_assoc b (c ++ d) e ∙ ap (λ t. b ++ t) (append_assoc c d e)))

  module _ (old mid new : Option (List ℕ)) where
    pub all_of_stop : Appends worker_piece old mid → Appends below_piece mid new → Appends (refusal_line (refusal.Stopped worker below)) old new
    all_of_stop p q = subst (λ (t : List ℕ). Appends t old new) stop_pieces (appends_then worker_piece below_piece old mid new p q)

    pub cut_in_worker : AppendsPrefix worker_piece old new → AppendsPrefix (refusal_line (refusal.Stopped worker below)) old new
    cut_in_worker p = subst (λ (t : List ℕ). AppendsPrefix t old new) stop_pieces (prefix_first worker_piece below_piece old new p)

    pub cut_in_below : Appends worker_piece old mid → AppendsPrefix below_piece mid new → AppendsPrefix (refusal_line (refusal.Stopped worker below)) old new
    cut_in_below p q = subst (λ (t : List ℕ). AppendsPrefix t old new) stop_pieces (part_then worker_piece below_piece old mid new p q)

-- the line of windows, in two pieces
module _ (crossed last : ℕ) where
  abbrev pub crossed_piece : List ℕ
  crossed_piece = codes "windows " ++ decimal crossed

  abbrev pub last_piece : List ℕ
  last_piece = 32 ∷ (decimal last ++ 10 ∷ [])

  two_pieces : crossed_piece ++ last_piece ≡ windows_line crossed last
  two_pieces = append_assoc (codes "windows ") (decimal crossed) last_piece

  pub cut_in_crossed : (old new : Option (List ℕ)) → AppendsPrefix crossed_piece old new → AppendsPrefix (windows_line crossed last) old new
  cut_in_crossed old new p = subst (λ (t : List ℕ). AppendsPrefix t old new) two_pieces (prefix_first crossed_piece last_piece old new p)

  pub cut_in_last : (old mid new : Option (List ℕ)) → Appends crossed_piece old mid → AppendsPrefix last_piece mid new → AppendsPrefix (windows_line crossed last) old new
  cut_in_last old mid new p q = subst (λ (t : List ℕ). AppendsPrefix t old new) two_pieces (part_then crossed_piece last_piece old mid new p q)

-- a report with the line of windows behind it is not empty
pub some_told : (report : List ℕ) (crossed last : ℕ) → ¬ (report ++ windows_line crossed last ≡ [])
some_told report crossed last none = (let long = ap length none in let parts = length-append report (windows_line crossed last) in omega (arith, long, parts))
