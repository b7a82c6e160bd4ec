-- Steps that write a word which no turn hangs on: the stop word and the count words.
use Rattle.std.proofs.Common.{◌≡◌, ◌≢◌, ℕ, suc, ◌+◌, ◌<◌, ◌≤◌, ◌⊎◌, Bool, true, false, cond, ltb, ltb-true, lt-ltb, List, ◌∷◌, length, set, refl, sym, ap, subst, ◌∙◌, inl, inr, ⊎_elim, arith, length-set, get_or-set_other}
use Rattle.std.proofs.lemmas.Grind.{get_or-set_at}
use mathlib.Core.Option.{some, some-injective}
use lib.ListN.{get_elem?}
use Rattle.atomic_table.specs.Table.{State}
use Rattle.atomic_table.proofs.Lists.{set_else}
use Rattle.turn_table.specs.declared.cell.Cell.{Cell}
use Rattle.turn_table.specs.declared.cell.Cell.TheVariants.{Empty}
use Rattle.turn_table.specs.declared.tenant.Tenant.{Ghosts}
use Rattle.turn_table.specs.declared.view.Shape.{Shape}
use Rattle.turn_table.specs.declared.view.View.{View}
use Rattle.turn_table.specs.Changes.{at, put}
use Rattle.turn_table.specs.Shapes.{places_in, words_in, spoken, Speaks, is_marked}
use Rattle.turn_table.specs.Views.{held, note, mark, is_spoken_for, writing}
use Rattle.turn_table.specs.Rule.{turn_word, count_word, Each, IsHome, Kept}
use Rattle.turn_table.specs.Steps.{Fits, Above}
use Rattle.turn_table.proofs.Lookups.{alike, set_there, cond_here, cond_else, one_of, first_one, second_one}
use Rattle.turn_table.proofs.Seats.{each, each_else, seats_same}
use Rattle.turn_table.proofs.Core.{board, seats_of, sole}

-- a word that speaks of a held place: one of its two places is held
pub spoken_by : (sh : Shape) (h : ℕ → ℕ) (c : ℕ) → is_spoken_for sh h c ≡ true → (0 < h (spoken sh c).0) ⊎ (0 < h (spoken sh c).1)
spoken_by sh h c e = ⊎_elim (λ a. inl (ltb-true 0 (h (spoken sh c).0) a)) (λ b. inr (ltb-true 0 (h (spoken sh c).1) b)) (one_of (ltb 0 (h (spoken sh c).0)) (ltb 0 (h (spoken sh c).1)) e)

pub speaks_for : (sh : Shape) (h : ℕ → ℕ) (c : ℕ) → ((0 < h (spoken sh c).0) ⊎ (0 < h (spoken sh c).1)) → is_spoken_for sh h c ≡ true
speaks_for sh h c = ⊎_elim (λ a. first_one (ltb 0 (h (spoken sh c).0)) (ltb 0 (h (spoken sh c).1)) (lt-ltb 0 (h (spoken sh c).0) a)) (λ b. second_one (ltb 0 (h (spoken sh c).0)) (ltb 0 (h (spoken sh c).1)) (lt-ltb 0 (h (spoken sh c).1) b))

pub spoken_more : (sh : Shape) (h k : ℕ → ℕ) (c : ℕ) → ((q : ℕ) → 0 < h q → 0 < k q) → is_spoken_for sh h c ≡ true → is_spoken_for sh k c ≡ true
spoken_more sh h k c more e = speaks_for sh k c (⊎_elim (λ a. inl (more (spoken sh c).0 a)) (λ b. inr (more (spoken sh c).1 b)) (spoken_by sh h c e))

-- the marks after a word was marked or not
pub marks_of : (b : Bool) (m : List (ℕ × ℕ)) (c n : ℕ) → (at (cond b ((c, n) ∷ m) m) ≡ put (at m) c n) ⊎ (at (cond b ((c, n) ∷ m) m) ≡ at m)
marks_of true m c n = inl refl
marks_of false m c n = inr refl

-- whatever holds of a number put there and of the others, holds of each
pub put_each : (P : ℕ → ℕ → Type 0) (f : ℕ → ℕ) (c n : ℕ) → P c n → ((q : ℕ) → q ≢ c → P q (f q)) → (q : ℕ) → P q (put f c n q)
put_each P f c n here there q = alike q c
    (λ same. subst (P q) (sym (cond_here q c n (f q) same)) (subst (λ k. P k n) (sym same) here))
    (λ ne. subst (P q) (sym (cond_else q c n (f q) ne)) (there q ne))

module _ {T K : Type 0} (g : Ghosts T K) (key : K) where
  -- only words that no line of the rule reads were changed
  pub reworded : (s : State (Cell T) View) → Kept g key s → (ws : List ℕ) → length ws ≡ length s.words → ((q : ℕ) → turn_word ws q ≡ turn_word s.words q)
      → ((c : ℕ) → count_word (g.shape key) ws c ≡ count_word (g.shape key) s.words c) → Kept g key (board g key ws s.homes s.views)
  reworded s r ws wide turns counts =
      let turned : turn_word s.words ≡ turn_word ws = (let back : turn_word ws ≡ turn_word s.words = λ i q. turns q i in sym back) in
      let counted : count_word (g.shape key) s.words ≡ count_word (g.shape key) ws = (let back : count_word (g.shape key) ws ≡ count_word (g.shape key) s.words = λ i c. counts c i in sym back) in
      record {
        wide = wide ∙ r.wide;
        deep = r.deep;
        room = r.room;
        shaped = r.shaped;
        named = subst (λ (f : ℕ → ℕ). Each s.views (λ v. (p : ℕ) → 0 < held v p → (0 < v.number) × (f p ≡ v.number) × (p < places_in (g.shape key)))) turned r.named;
        apart = r.apart;
        home = subst (λ f. (p : ℕ) → p < places_in (g.shape key) → Each s.views (λ v. held v p < 2) → IsHome g key f s.views s.homes p) counted r.home;
        empty = r.empty;
        unheld = λ q within none. turns q ∙ r.unheld q within none;
        noted = subst (λ (f : ℕ → ℕ). Each s.views (λ v. (c : ℕ) → 0 < note v c → (c < words_in (g.shape key)) × (is_spoken_for (g.shape key) (held v) c ≡ true) × (note v c ≡ suc (f c)))) counted r.noted;
        lower = subst (λ (f : ℕ → ℕ). Each s.views (λ v. (c : ℕ) → mark v c ≤ suc (f c))) counted r.lower;
        kept = subst (g.keeps key) counted r.kept;
        numbered = r.numbered;
        counted = r.counted;
      }

  -- what a pass owes where it writes the count word c: it holds both places as out, has a note, the number does not fall, and the counts still keep what they keep
  pub record Writes (v : View) (c n : ℕ) : Type 0 where
    pub first : held v (spoken (g.shape key) c).0 ≡ 2
    pub second : held v (spoken (g.shape key) c).1 ≡ 2
    pub noted : 0 < note v c
    pub rises : note v c ≤ suc n
    pub keeps : (f : ℕ → ℕ) → g.keeps key f → Fits v f → Above v f → g.keeps key (put f c n)

  module _ (s : State (Cell T) View) (r : Kept g key s) (id : ℕ) (v : View) (c n i : ℕ) (e : get_elem? s.views id ≡ some v) (at_i : i ≡ places_in (g.shape key) + 1 + c) (t : Writes v c n) where
    abbrev F : ℕ → ℕ
    F = count_word (g.shape key) s.words

    abbrev ws : List ℕ
    ws = set s.words i n

    abbrev w : View
    w = writing v c n

    in_words : c < words_in (g.shape key)
    in_words = (r.noted id v e c t.noted).0

    was : note v c ≡ suc (F c)
    was = (r.noted id v e c t.noted).2

    word_at : (q : ℕ) → count_word (g.shape key) ws q ≡ put F c n q
    word_at q = alike q c
        (λ same. get_or-set_at s.words i (places_in (g.shape key) + 1 + q) n 0 (omega arith) (let l = r.wide in let b = in_words in omega arith) ∙ sym (cond_here q c n (F q) same))
        (λ ne. get_or-set_other s.words i (places_in (g.shape key) + 1 + q) n 0 (λ same. ne (omega arith)) ∙ sym (cond_else q c n (F q) ne))

    words_at : put F c n ≡ count_word (g.shape key) ws
    words_at = let there : count_word (g.shape key) ws ≡ put F c n = λ k q. word_at q k in sym there

    turn_at : (q : ℕ) → q < places_in (g.shape key) → turn_word ws q ≡ turn_word s.words q
    turn_at q within = get_or-set_other s.words i (q + 1) n 0 (λ same. omega arith)

    rise : (q : ℕ) → F q ≤ put F c n q
    rise = put_each (λ q m. F q ≤ m) F c n (let a = was in let b = t.rises in omega arith) (λ q ne. omega arith)

    new_kept : g.keeps key (put F c n)
    new_kept = t.keeps F r.kept (λ q h. (r.noted id v e q h).2) (r.lower id v e)

    -- the word does not speak of a place whose value is at home
    silent : (p : ℕ) → held v p < 2 → (q : ℕ) → Speaks (g.shape key) q p → F q ≡ put F c n q
    silent p free q says = put_each (λ q m. Speaks (g.shape key) q p → F q ≡ m) F c n
        (λ says. let a = t.first in let b = t.second in
        ⊎_elim (λ same. let h : held v (spoken (g.shape key) c).0 ≡ held v p = ap (held v) same in absurd (omega arith)) (λ same. let h : held v (spoken (g.shape key) c).1 ≡ held v p = ap (held v) same in absurd (omega arith)) says.1)
        (λ q ne says. refl) q says

    marked_on : (p : ℕ) (x : T) → g.owes key (put F c n) p x → g.marked key (mark v) p x → g.marked key (mark w) p x
    marked_on p x owed m = ⊎_elim
        (λ same. subst (λ f. g.marked key f p x) (sym same)
        (let here : put F c n c ≡ n = cond_here c c n (F c) refl in
        subst (λ (k : ℕ). g.marked key (put (mark v) c (suc k)) p x) here (g.marks key (put F c n) (mark v) p x c new_kept owed m)))
        (λ same. subst (λ f. g.marked key f p x) (sym same) m)
        (marks_of (is_marked v.shape c) v.marks c (suc n))

    -- another pass has no note of the word, since it holds neither place
    foreign : (j : ℕ) (u : View) → j ≢ id → get_elem? s.views j ≡ some u → 0 < note u c → ⊥
    foreign j u ne at h = let a = t.first in let b = t.second in ⊎_elim
        (λ x. let o = sole g key s r id v e (spoken (g.shape key) c).0 (omega arith) j u ne at in omega arith)
        (λ x. let o = sole g key s r id v e (spoken (g.shape key) c).1 (omega arith) j u ne at in omega arith)
        (spoken_by (g.shape key) (held u) c (r.noted j u at c h).1)

    written_home : (p : ℕ) → p < places_in (g.shape key) → Each (set s.views id w) (λ u. held u p < 2) → IsHome g key (put F c n) (set s.views id w) s.homes p
    written_home p within free =
        let mine : held v p < 2 = free id w (set_there s.views id v w e) in
        let old = r.home p within (λ j u at. alike j id
        (λ me. let u_v : v ≡ u = some-injective v u (sym e ∙ ap (λ k. get_elem? s.views k) (sym me) ∙ at) in subst (λ k. held k p < 2) u_v mine)
        (λ other. free j u (set_else s.views id j w other ∙ at))) in
        let owed : g.owes key (put F c n) p old.value = g.stays key F (put F c n) p old.value (silent p mine) rise old.owed in
        record {
          value = old.value;
          stands = old.stands;
          sound = old.sound;
          owed = owed;
          marked = each s.views id w (λ u. held u p ≡ 1 → g.marked key (mark u) p old.value) old.marked
              (λ one. marked_on p old.value owed (old.marked id v e one));
        }

    Noted : View → Type 0
    Noted u = (q : ℕ) → 0 < note u q → (q < words_in (g.shape key)) × (is_spoken_for (g.shape key) (held u) q ≡ true) × (note u q ≡ suc (put F c n q))

    abbrev IsNoted : View → ℕ → ℕ → Type 0
    IsNoted u q m = 0 < note u q → (q < words_in (g.shape key)) × (is_spoken_for (g.shape key) (held u) q ≡ true) × (note u q ≡ suc m)

    noted_else : (j : ℕ) (u : View) → j ≢ id → get_elem? s.views j ≡ some u → (q : ℕ) → IsNoted u q (put F c n q)
    noted_else j u ne at = put_each (IsNoted u) F c n (λ h. absurd (foreign j u ne at h)) (λ q other h. r.noted j u at q h)

    noted_here : (q : ℕ) → IsNoted w q (put F c n q)
    noted_here = put_each (IsNoted w) F c n
        (λ h. (in_words, speaks_for (g.shape key) (held v) c (inl (let a = t.first in omega arith)), cond_here c c (suc n) (note v c) refl))
        (λ q ne h. let same : note w q ≡ note v q = cond_else q c (suc n) (note v q) ne in let old = r.noted id v e q (omega arith) in (old.0, old.1, same ∙ old.2))

    lower_here : (q : ℕ) → mark w q ≤ suc (put F c n q)
    lower_here q = ⊎_elim
        (λ same. let m : mark w q ≡ put (mark v) c (suc n) q = ap (λ (f : ℕ → ℕ). f q) same in
        subst (λ k. k ≤ suc (put F c n q)) (sym m)
        (alike q c
        (λ h. let a = cond_here q c (suc n) (mark v q) h in let b = cond_here q c n (F q) h in omega arith)
        (λ h. let a = cond_else q c (suc n) (mark v q) h in let b = cond_else q c n (F q) h in let l = r.lower id v e q in omega arith)))
        (λ same. let m : mark w q ≡ mark v q = ap (λ (f : ℕ → ℕ). f q) same in let l = r.lower id v e q in let up = rise q in omega arith)
        (marks_of (is_marked v.shape c) v.marks c (suc n))

    pub wrote : Kept g key (board g key ws s.homes (set s.views id w))
    wrote = let seats = seats_same (g.shape key) s.views id v w e (record { root = refl; number = refl; made = refl; back = refl; shape = refl }) (seats_of g key s r) in record {
      wide = length-set s.words i n ∙ r.wide;
      deep = r.deep;
      room = r.room;
      shaped = seats.shaped;
      named = λ j u at p h.
          let old = each s.views id w (λ u. (p : ℕ) → 0 < held u p → (0 < u.number) × (turn_word s.words p ≡ u.number) × (p < places_in (g.shape key))) r.named (r.named id v e) j u at p h in
          (old.0, turn_at p old.2 ∙ old.1, old.2);
      apart = seats.apart;
      unheld = λ q within none. turn_at q within ∙ r.unheld q within (λ j u at. alike j id (λ me. let u_v : v ≡ u = some-injective v u (sym e ∙ ap (λ k. get_elem? s.views k) (sym me) ∙ at) in subst (λ k. held k q ≡ 0) u_v (none id w (set_there s.views id v w e))) (λ other. none j u (set_else s.views id j w other ∙ at)));
      home = subst (λ f. (p : ℕ) → p < places_in (g.shape key) → Each (set s.views id w) (λ u. held u p < 2) → IsHome g key f (set s.views id w) s.homes p) words_at written_home;
      empty = each s.views id w (λ u. (q : ℕ) → held u q ≡ 2 → get_elem? s.homes q ≡ some (some Empty)) r.empty (r.empty id v e);
      noted = subst (λ (f : ℕ → ℕ). Each (set s.views id w) (λ u. (q : ℕ) → IsNoted u q (f q))) words_at
          (each_else s.views id w (λ u. (q : ℕ) → IsNoted u q (put F c n q)) noted_else noted_here);
      lower = subst (λ (f : ℕ → ℕ). Each (set s.views id w) (λ u. (q : ℕ) → mark u q ≤ suc (f q))) words_at
          (each s.views id w (λ u. (q : ℕ) → mark u q ≤ suc (put F c n q)) (λ j u at q. let l = r.lower j u at q in let up = rise q in omega arith) lower_here);
      kept = subst (g.keeps key) words_at new_kept;
      numbered = seats.numbered;
      counted = seats.counted;
    }
