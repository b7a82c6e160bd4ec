-- How the parts of a draft grow, and of the plan that is made of it.
use Rattle.std.proofs.Common.{◌≡◌, ℕ, zero, suc, ◌+◌, ◌<◌, ◌≤◌, Bool, false, cond, List, [], ◌∷◌, ◌++◌, map, length, take, get_or, sym, ap, ◌∙◌, arith, add-zero, add-one, zero-add, add_assoc, length-take-le}
use Rattle.std.specs.List.{range_with_len}
use Rattle.std.proofs.lemmas.List.{take_more, map-append}
use Rattle.std.proofs.lemmas.List.Sums.{sum_by-append, sum_by-cons, sum_by-take-le}
use Rattle.ssf_model.specs.declared.builder.DraftEntity.{DraftEntity}
use Rattle.ssf_model.specs.declared.plan.Mapping.{Mapping}
use Rattle.ssf_model.specs.declared.process.Process.{Process}
use Rattle.ssf_model.specs.declared.entity.Entity.{Entity}
use Rattle.ssf_model.specs.Drafts.{all_timers, timers, first_process, first_processes, first_entity, first_entities, with_channel, with_channels, start}

pub all_timers_push : {S : Type 0} (xs : List (DraftEntity S)) (x : DraftEntity S) → all_timers (xs ++ x ∷ []) ≡ all_timers xs + timers x.timed
all_timers_push xs x = grind (arith, sum_by-append)

timers_push : (xs : List Bool) (x : Bool) → timers (xs ++ x ∷ []) ≡ timers xs + cond x 1 0
timers_push xs x = grind (arith, sum_by-append)

timers_cons : (y : Bool) (xs : List Bool) → timers (y ∷ xs) ≡ cond y 1 0 + timers xs
timers_cons y xs = sum_by-cons (λ (t : Bool). cond t 1 0) y xs

pub first_processes_push : (n : ℕ) (xs : List Bool) (x : Bool) → first_processes n (xs ++ x ∷ []) ≡ first_processes n xs ++ first_process (n + timers xs) x ∷ []
first_processes_push n [] x = ap (λ k. first_process k x ∷ []) (sym (add-zero n))
first_processes_push n (y ∷ xs) x =
    let c : (n + cond y 1 0) + timers xs ≡ n + timers (y ∷ xs) = add_assoc n (cond y 1 0) (timers xs) ∙ ap (λ k. n + k) (sym (timers_cons y xs)) in
    ap (λ ps. first_process n y ∷ ps) (first_processes_push (n + cond y 1 0) xs x ∙ ap (λ k. first_processes (n + cond y 1 0) xs ++ first_process k x ∷ []) c)

pub first_entities_push : {B S P : Type 0} (n : ℕ) (xs : List (DraftEntity S)) (x : DraftEntity S) →
    first_entities {B = B} {S = S} {P = P} n (xs ++ x ∷ []) ≡ first_entities n xs ++ first_entity (n + all_timers xs) x ∷ []
first_entities_push n [] x = ap (λ k. first_entity k x ∷ []) (sym (add-zero n))
first_entities_push n (y ∷ xs) x =
    let k = timers y.timed in
    let c : (n + k) + all_timers xs ≡ n + all_timers (y ∷ xs) = add_assoc n k (all_timers xs) ∙ ap (λ j. n + j) (sym (sum_by-cons (λ e. timers e.timed) y xs)) in
    ap (λ es. first_entity n y ∷ es) (first_entities_push (n + k) xs x ∙ ap (λ j. first_entities (n + k) xs ++ first_entity j x ∷ []) c)

pub with_channels_push : (n : ℕ) (xs : List Mapping) (x : Mapping) → with_channels n (xs ++ x ∷ []) ≡ with_channels n xs ++ with_channel (n + length xs) x ∷ []
with_channels_push n [] x = ap (λ k. with_channel k x ∷ []) (sym (add-zero n))
with_channels_push n (y ∷ xs) x =
    let c : (n + 1) + length xs ≡ n + length (y ∷ xs) = omega arith in
    ap (λ ms. with_channel n y ∷ ms) (with_channels_push (n + 1) xs x ∙ ap (λ k. with_channels (n + 1) xs ++ with_channel k x ∷ []) c)

pub range_suc : (a n : ℕ) → range_with_len a (suc n) ≡ range_with_len a n ++ (a + n) ∷ []
range_suc a zero = ap (λ k. k ∷ []) (sym (add-zero a))
range_suc a (suc n) =
    let c : (a + 1) + n ≡ a + suc n = omega arith in
    ap (λ ns. a ∷ ns) (range_suc (a + 1) n ∙ ap (λ k. range_with_len (a + 1) n ++ k ∷ []) c)

pub starts_push : {P : Type 0} (n : ℕ) → map (start {P = P}) (range_with_len 0 (n + 1)) ≡ map start (range_with_len 0 n) ++ start n ∷ []
starts_push n =
    let r : range_with_len 0 (n + 1) ≡ range_with_len 0 n ++ n ∷ [] = rw add-one (range_suc 0 n ∙ ap (λ k. range_with_len 0 n ++ k ∷ []) (zero-add n)) in
    ap (λ ns. map start ns) r ∙ map-append start (range_with_len 0 n) (n ∷ [])

pub flags_next : (n i next : ℕ) (xs : List Bool) (ps ps' : List Process) → i < length xs → ps ≡ first_processes n (take i xs) → next ≡ n + timers (take i xs) →
    ps' ≡ ps ++ first_process next (get_or xs i false) ∷ [] →
    (ps' ≡ first_processes n (take (i + 1) xs)) × (next + cond (get_or xs i false) 1 0 ≡ n + timers (take (i + 1) xs))
flags_next n i next xs ps ps' h e f g =
    let t = take_more xs i false h in (
      rw (t, first_processes_push, ← e, ← f) g,
      rw (t, timers_push, f) (add_assoc n (timers (take i xs)) (cond (get_or xs i false) 1 0)),
    )

-- the timer channels of the flags up to this one are among those of all
pub flags_fit : (n i next : ℕ) (xs : List Bool) → i < length xs → next ≡ n + timers (take i xs) → next + cond (get_or xs i false) 1 0 ≤ n + timers xs
flags_fit n i next xs h f =
    let t : timers (take (i + 1) xs) ≡ timers (take i xs) + cond (get_or xs i false) 1 0 =
    ap timers (take_more xs i false h) ∙ timers_push (take i xs) (get_or xs i false) in
    omega (arith, t, sum_by-take-le (λ (b : Bool). cond b 1 0) xs (i + 1))

pub channels_next : (n i next : ℕ) (xs : List Mapping) (d : Mapping) (ms ms' : List Mapping) → i < length xs → ms ≡ with_channels n (take i xs) → next ≡ n + i →
    ms' ≡ ms ++ with_channel next (get_or xs i d) ∷ [] → (ms' ≡ with_channels n (take (i + 1) xs)) × (next + 1 ≡ n + (i + 1))
channels_next n i next xs d ms ms' h e f g =
    let t = take_more xs i d h in
    let l : length (take i xs) ≡ i = length-take-le i xs (omega arith) in
    (rw (t, with_channels_push, ← e, l, ← f) g, omega arith)

pub entities_next : {B S P : Type 0} (n next : ℕ) (xs : List (DraftEntity S)) (x : DraftEntity S) (es es' : List (Entity B S P)) →
    es ≡ first_entities n xs → next ≡ n + all_timers xs → es' ≡ es ++ first_entity next x ∷ [] →
    (es' ≡ first_entities n (xs ++ x ∷ [])) × (next + timers x.timed ≡ n + all_timers (xs ++ x ∷ []))
entities_next n next xs x es es' e f g = (
  rw (first_entities_push, ← e, ← f) g,
  rw (all_timers_push xs x, f) (add_assoc n (all_timers xs) (timers x.timed)),
)
