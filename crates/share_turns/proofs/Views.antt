-- What a view says after a step.
use Rattle.std.proofs.Common.{◌≡◌, ◌≢◌, ℕ, suc, ◌<◌, ◌≤◌, ◌⊎◌, Bool, true, false, cond, ltb, lt-ltb, List, ◌∷◌, refl, sym, ap, ◌∙◌, inl, inr, ⊎_elim, arith}
use Rattle.std.proofs.lemmas.Bool.{cases_lt}
use Rattle.turn_table.specs.declared.view.View.{View}
use Rattle.turn_table.specs.Changes.{at}
use Rattle.turn_table.specs.Shapes.{words_in, Speaks, spoken, is_marked}
use Rattle.turn_table.specs.Views.{held, lost, note, mark, is_spoken_for, moving_out, moving_home, taking, losing, giving, writing, reading, marking}
use Rattle.turn_table.specs.Steps.{Above}
use Rattle.turn_table.proofs.Lookups.{alike, cond_here, cond_else, at_here, at_else, first_put, first_left, first_one, second_one}
use Rattle.share_turns.specs.Holdings.{HoldsOne, HoldsTwo, HasLostOne}
use Rattle.share_turns.specs.Loads.{HasLoaded}

-- ---- a number that was put, or not

pub put_or : (b : Bool) (l : List (ℕ × ℕ)) (c x q : ℕ) → (at (cond b ((c, x) ∷ l) l) q ≡ at l q) ⊎ ((q ≡ c) × (at (cond b ((c, x) ∷ l) l) q ≡ x))
put_or true l c x q = alike q c (λ same. inr (same, cond_here q c x (at l q) same)) (λ ne. inl (cond_else q c x (at l q) ne))
put_or false l c x q = inl refl

pub put_there : (b : Bool) (l : List (ℕ × ℕ)) (c x : ℕ) → b ≡ true → at (cond b ((c, x) ∷ l) l) c ≡ x
put_there b l c x e = ap (λ (k : Bool). at (cond k ((c, x) ∷ l) l) c) e ∙ at_here l c x

pub put_none : (b : Bool) (l : List (ℕ × ℕ)) (c x q : ℕ) → b ≡ false → at (cond b ((c, x) ∷ l) l) q ≡ at l q
put_none b l c x q e = ap (λ (k : Bool). at (cond k ((c, x) ∷ l) l) q) e

pub put_else : (b : Bool) (l : List (ℕ × ℕ)) (c x q : ℕ) → q ≢ c → at (cond b ((c, x) ∷ l) l) q ≡ at l q
put_else true l c x q ne = cond_else q c x (at l q) ne
put_else false l c x q ne = refl

-- ---- loads

pub loaded_none : (v : View) → HasLoaded v v
loaded_none v = record { places = λ p. refl; tries = λ p. refl; notes = λ c h. refl; marks = λ c. omega arith }

pub loaded_on : (u v w : View) → HasLoaded u v → HasLoaded v w → HasLoaded u w
loaded_on u v w a b = record {
  places = λ p. b.places p ∙ a.places p;
  tries = λ p. b.tries p ∙ a.tries p;
  notes = λ c h. (let one = a.notes c h in b.notes c (omega arith) ∙ one);
  marks = λ c. (let one = a.marks c in let two = b.marks c in omega arith);
}

-- a note stays a note
pub noted_on : (v w : View) (c : ℕ) → HasLoaded v w → 0 < note v c → 0 < note w c
noted_on v w c h some = (let same = h.notes c some in omega arith)

module _ (v : View) (c n : ℕ) where
  -- a load, as it is told
  pub loaded_one : mark v c ≤ suc n → (0 < note v c → note v c ≡ suc n) → HasLoaded v (reading v c n)
  loaded_one low fits = record {
    places = λ p. refl;
    tries = λ p. refl;
    notes = λ q some. ⊎_elim (λ same. same)
        (λ put. (let here : note v q ≡ note v c = ap (note v) put.0 in put.1 ∙ sym (here ∙ fits (omega arith))))
        (put_or (is_spoken_for v.shape (at v.held) c) v.notes c (suc n) q);
    marks = λ q. ⊎_elim (λ (same : mark (reading v c n) q ≡ mark v q). omega arith)
        (λ (put : (q ≡ c) × (mark (reading v c n) q ≡ suc n)). (let here : mark v q ≡ mark v c = ap (mark v) put.0 in let is = put.1 in omega arith))
        (put_or (is_marked v.shape c) v.marks c (suc n) q);
  }

  pub loaded_mark : is_marked v.shape c ≡ true → mark (reading v c n) c ≡ suc n
  loaded_mark is = put_there (is_marked v.shape c) v.marks c (suc n) is

  pub loaded_else : (q : ℕ) → q ≢ c → mark (reading v c n) q ≡ mark v q
  loaded_else q ne = put_else (is_marked v.shape c) v.marks c (suc n) q ne

  pub loaded_note : (p : ℕ) → Speaks v.shape c p → 0 < held v p → note (reading v c n) c ≡ suc n
  loaded_note p says some = put_there (is_spoken_for v.shape (at v.held) c) v.notes c (suc n) (⊎_elim
      (λ e. first_one (ltb 0 (held v (spoken v.shape c).0)) (ltb 0 (held v (spoken v.shape c).1))
      (lt-ltb 0 (held v (spoken v.shape c).0) (let same : held v (spoken v.shape c).0 ≡ held v p = ap (held v) e in omega arith)))
      (λ e. second_one (ltb 0 (held v (spoken v.shape c).0)) (ltb 0 (held v (spoken v.shape c).1))
      (lt-ltb 0 (held v (spoken v.shape c).1) (let same : held v (spoken v.shape c).1 ≡ held v p = ap (held v) e in omega arith)))
      says.1)

-- all count words were marked
pub loaded_all : (v w : View) (f : ℕ → ℕ) → HasLoaded v w → Above w f → HasLoaded v (marking w f)
loaded_all v w f h above = record {
  places = h.places;
  tries = h.tries;
  notes = h.notes;
  marks = λ c. (let low = h.marks c in ⊎_elim
      (λ small. let is = first_put f (words_in w.shape) w.marks c small in let reached = above c in omega (arith, is, reached, low))
      (λ high. let same = first_left f (words_in w.shape) w.marks c high in omega (arith, same, low))
      (cases_lt c (words_in w.shape)));
}

-- ---- writes

module _ (v : View) (c n : ℕ) where
  pub wrote_note : note (writing v c n) c ≡ suc n
  wrote_note = at_here v.notes c (suc n)

  pub wrote_else : (q : ℕ) → q ≢ c → note (writing v c n) q ≡ note v q
  wrote_else q ne = at_else v.notes c (suc n) q ne

  pub wrote_mark : is_marked v.shape c ≡ true → mark (writing v c n) c ≡ suc n
  wrote_mark is = put_there (is_marked v.shape c) v.marks c (suc n) is

  pub wrote_mark_else : (q : ℕ) → q ≢ c → mark (writing v c n) q ≡ mark v q
  wrote_mark_else q ne = put_else (is_marked v.shape c) v.marks c (suc n) q ne

  pub wrote_marks : is_marked v.shape c ≡ false → (q : ℕ) → mark (writing v c n) q ≡ mark v q
  wrote_marks is q = put_none (is_marked v.shape c) v.marks c (suc n) q is

-- ---- places

module _ (v : View) (p : ℕ) where
  out_here : held (moving_out v p) p ≡ 2
  out_here = at_here ((p, 3) ∷ v.held) p 2

  out_else : (q : ℕ) → q ≢ p → held (moving_out v p) q ≡ held v q
  out_else q ne = at_else ((p, 3) ∷ v.held) p 2 q ne ∙ at_else v.held p 3 q ne

  pub home_else : (q : ℕ) → q ≢ p → held (moving_home v p) q ≡ held v q
  home_else q ne = at_else ((p, 3) ∷ v.held) p 1 q ne ∙ at_else v.held p 3 q ne

  pub given_here : held (giving (moving_home v p) p) p ≡ 0
  given_here = at_here (moving_home v p).held p 0

  pub given_else : (q : ℕ) → q ≢ p → held (giving (moving_home v p) p) q ≡ held v q
  given_else q ne = at_else (moving_home v p).held p 0 q ne ∙ home_else q ne

  pub taken_here : held (taking v p) p ≡ 1
  taken_here = at_here v.held p 1

  pub taken_else : (q : ℕ) → q ≢ p → held (taking v p) q ≡ held v q
  taken_else q ne = at_else v.held p 1 q ne

  pub lost_one : HasLostOne v (losing v p) p
  lost_one = record { own = at_here v.lost p (suc (lost v p)); others = λ q ne. at_else v.lost p (suc (lost v p)) q ne }

  pub out_one : ((q : ℕ) → q ≢ p → held v q ≡ 0) → HoldsOne (moving_out v p) p
  out_one none = record { out = out_here; others = λ q ne. out_else q ne ∙ none q ne }

  pub out_two : (u : View) (i : ℕ) → HoldsOne u i → i ≢ p → ((q : ℕ) → held v q ≡ held (taking u p) q) → HoldsTwo (moving_out v p) i p
  out_two u i one ne same = record {
    first = out_else i ne ∙ (same i ∙ (at_else u.held p 1 i ne ∙ one.out));
    second = out_here;
    others = λ q other apart. out_else q apart ∙ (same q ∙ (at_else u.held p 1 q apart ∙ one.others q other));
  }

  pub given_one : (i : ℕ) → HoldsTwo v i p → i ≢ p → HoldsOne (giving (moving_home v p) p) i
  given_one i two ne = record {
    out = given_else i ne ∙ two.first;
    others = λ q other. alike q p (λ same. ap (held (giving (moving_home v p) p)) same ∙ given_here) (λ apart. given_else q apart ∙ two.others q other apart);
  }

  pub given_none : HoldsOne v p → (q : ℕ) → held (giving (moving_home v p) p) q ≡ 0
  given_none one q = alike q p (λ same. ap (held (giving (moving_home v p) p)) same ∙ given_here) (λ apart. given_else q apart ∙ one.others q apart)
