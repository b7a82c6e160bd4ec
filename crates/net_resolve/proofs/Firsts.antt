-- The table of the first interface of each host.
use Rattle.std.proofs.Common.{◌≡◌, ℕ, zero, suc, ◌+◌, ◌<◌, ◌≢◌, Bool, true, false, cond, nat_eq, nat_lt, List, [], ◌∷◌, length, get_or, set, replicate, Option, Some, None, position, refl, ap, sym, ◌∙◌, arith, eqb-true, ltb-true, get_or-set_same, get_or-set_other, length-set, subst}
use Rattle.std.proofs.lemmas.Bool.{eqb-false}
use Rattle.std.specs.List.{position_from, position_or_len}
use Rattle.std.specs.Option.{ForSome}
use Rattle.std.proofs.lemmas.List.{length-replicate, get_or-replicate}
use Rattle.std.proofs.lemmas.Iterator.Adapters.{position_from-zero}
use Rattle.net_graph.specs.declared.rows.InterfaceRow.{InterfaceRow}
use Rattle.net_graph.specs.declared.seen.Seen.{Seen}
use Rattle.net_resolve.specs.Tables.{noted_at, noted, firsts_after, IsFirsts}

-- what is read below the end is no default
pub same_read : {A : Type 0} (xs : List A) (i : ℕ) (d e : A) → i < length xs → get_or xs i d ≡ get_or xs i e
same_read [] i d e lt = absurd (omega arith)
same_read (x ∷ xs) zero d e lt = refl
same_read (x ∷ xs) (suc i) d e lt = same_read xs i d e (omega arith)

abbrev pub or_else : Option ℕ → Option ℕ → Option ℕ
or_else None b = b
or_else (Some a) b = Some a

or_none : (o : Option ℕ) → o ≡ or_else o None
or_none None = refl
or_none (Some a) = refl

noted_by : (firsts : List (Option ℕ)) (host n h : ℕ) (rest now : Option ℕ) (b : Bool) → h < length firsts → get_or firsts host (Some 0) ≡ now → nat_eq host h ≡ b →
    or_else (get_or (noted_at firsts host n now) h None) rest ≡ or_else (get_or firsts h None) (cond b (Some n) rest)
noted_by firsts host n h rest (Some m) false lt was other = refl
noted_by firsts host n h rest None false lt was other =
    let ne : h ≢ host = λ e. eqb-false host h other (sym e) in
    ap (λ o. or_else o rest) (get_or-set_other firsts host h (Some n) None ne)
noted_by firsts host n h rest (Some m) true lt was here =
    let at : get_or firsts h None ≡ Some m = same_read firsts h None (Some 0) lt ∙ (ap (λ (k : ℕ). get_or firsts k (Some 0)) (sym (eqb-true host h here)) ∙ was) in
    ap (λ o. or_else o rest) at ∙ sym (ap (λ o. or_else o (Some n)) at)
noted_by firsts host n h rest None true lt was here =
    let same : h ≡ host = sym (eqb-true host h here) in
    let at : get_or firsts h None ≡ None = same_read firsts h None (Some 0) lt ∙ (ap (λ (k : ℕ). get_or firsts k (Some 0)) same ∙ was) in
    let put : get_or (set firsts host (Some n)) h None ≡ Some n =
    ap (λ (k : ℕ). get_or (set firsts host (Some n)) k None) same ∙ get_or-set_same firsts host (Some n) None (subst (λ (k : ℕ). k < length firsts) same lt) in
    ap (λ o. or_else o rest) put ∙ sym (ap (λ o. or_else o (Some n)) at)

noted_long : (firsts : List (Option ℕ)) (host n : ℕ) (now : Option ℕ) → length (noted_at firsts host n now) ≡ length firsts
noted_long firsts host n (Some m) = refl
noted_long firsts host n None = length-set firsts host (Some n)

pub firsts_are : (firsts : List (Option ℕ)) (n : ℕ) (rows : List InterfaceRow) (h : ℕ) → h < length firsts →
    get_or (firsts_after firsts n rows) h None ≡ or_else (get_or firsts h None) (position_from (λ (row : InterfaceRow). nat_eq row.host h) n rows)
unfolding firsts_after
firsts_are firsts n [] h lt = or_none (get_or firsts h None)
firsts_are firsts n (row ∷ rows) h lt =
    let long : length (noted firsts row.host n) ≡ length firsts = noted_long firsts row.host n (get_or firsts row.host (Some 0)) in
    firsts_are (noted firsts row.host n) (n + 1) rows h (omega (arith, long))
    ∙ noted_by firsts row.host n h (position_from (λ (r : InterfaceRow). nat_eq r.host h) (n + 1) rows) (get_or firsts row.host (Some 0)) (nat_eq row.host h) lt refl refl

pub firsts_table : (seen : Seen) (firsts : List (Option ℕ)) → firsts ≡ firsts_after (replicate (length seen.host_names) None) 0 seen.interfaces → IsFirsts seen firsts
firsts_table seen firsts e = record {
  each = λ h lt.
      let n = length seen.host_names in
      let none : Option ℕ = None in
      let long : length (replicate n none) ≡ n = length-replicate n none in
      ap (λ (t : List (Option ℕ)). get_or t h None) e
      ∙ (firsts_are (replicate n None) 0 seen.interfaces h (omega (arith, long))
      ∙ (ap (λ (o : Option ℕ). or_else o (position_from (λ (r : InterfaceRow). nat_eq r.host h) 0 seen.interfaces)) (get_or-replicate n h None None lt)
      ∙ sym (position_from-zero (λ (r : InterfaceRow). nat_eq r.host h) seen.interfaces)));
}

-- one turn of the loop over interfaces
pub note_turn : (whole firsts after : List (Option ℕ)) (n : ℕ) (now rows : List InterfaceRow) (row : InterfaceRow) → whole ≡ firsts_after firsts n now → now ≡ row ∷ rows → after ≡ noted firsts row.host n → whole ≡ firsts_after after (n + 1) rows
unfolding firsts_after
note_turn whole firsts after n now rows row e is put = e ∙ (ap (firsts_after firsts n) is ∙ ap (λ (t : List (Option ℕ)). firsts_after t (n + 1) rows) (sym put))

pub note_end : (whole firsts : List (Option ℕ)) (n : ℕ) (now : List InterfaceRow) → whole ≡ firsts_after firsts n now → now ≡ [] → firsts ≡ whole
unfolding firsts_after
note_end whole firsts n now e is = sym (e ∙ ap (firsts_after firsts n) is)

-- positions are below the end

below_by : (b : Bool) (k n : ℕ) → nat_lt k n ≡ b → ForSome (cond b (Some k) None) (λ m. m < n)
below_by true k n lt m is = let same : k ≡ m = cc in let here : k < n = ltb-true k n lt in omega (arith, here, same)
below_by false k n lt m is = cc

pub position_below : {A : Type 0} (p : A → Bool) (xs : List A) → ForSome (position p xs) (λ m. m < length xs)
position_below p xs = below_by (nat_lt (position_or_len p xs) (length xs)) (position_or_len p xs) (length xs) refl
