-- Each kind of step keeps the rule and tells what it is to tell.
use Rattle.std.proofs.Common.{◌≡◌, ◌≢◌, ℕ, zero, suc, ◌+◌, ◌<◌, ◌≤◌, ◌==◌, ◌⊎◌, Bool, true, false, cond, not, List, [], ◌∷◌, length, get_or, set, refl, sym, ap, subst, ◌∙◌, inl, inr, ⊎_elim, arith, eq-zero-or-pos, length-set, get_or-set_other, slice_index, Some, IfSome, true≢false}
use Rattle.std.proofs.Common as std
use Rattle.std.proofs.lemmas.Bool.{cases_lt}
use Rattle.std.proofs.lemmas.Grind.{get_or-set_at}
use Rattle.std.proofs.lemmas.List.{set-get_or}
use mathlib.Core.Option.{Option, some, none, some-injective}
use lib.ListN.{get_elem?}
use prog.Atomic.{either}
use Rattle.atomic_table.specs.Table.{State, Act, keeps, takes, gives, step, stepped, Allows, Me, Valid, carried_after}
use Rattle.atomic_table.proofs.Lists.{set_here, set_else, exchanged}
use Rattle.turn_table.specs.declared.cell.Cell.{Cell}
use Rattle.turn_table.specs.declared.cell.Cell.TheVariants.{Value, Empty}
use Rattle.turn_table.specs.declared.tenant.Tenant.{Ghosts}
use Rattle.turn_table.specs.declared.view.View.{View}
use Rattle.turn_table.specs.Changes.{at, put, put_first}
use Rattle.turn_table.specs.Shapes.{places_in, words_in, is_marked, is_cleared}
use Rattle.turn_table.specs.Views.{held, note, mark, is_spoken_for, holding, taking, losing, giving, reading, writing, marking, looking}
use Rattle.turn_table.specs.Rule.{turn_word, count_word, IsHome, Kept}
use Rattle.turn_table.specs.Steps.{Tells, Pays, tried, reached, emptied, entered, settled, given, read, written, marked_all, looked, raised}
use Rattle.turn_table.proofs.Lookups.{alike, at_here, at_else, first_put, first_left, forgotten, forget_or, forget_left, cond_here, cond_else}
use Rattle.turn_table.proofs.Seats.{itself}
use Rattle.turn_table.proofs.Core.{board, sole, Touch, touched, viewed}
use Rattle.turn_table.proofs.Words.{spoken_more, marks_of, reworded, Writes, wrote}

-- a word is spoken of by a held place, so its negation is false
shown : (b : Bool) → not b ≡ false → b ≡ true
shown true e = refl
shown false e = absurd (true≢false e)

-- the notes after a word was noted or not
notes_of : (b : Bool) (l : List (ℕ × ℕ)) (c n q : ℕ) → (at (cond b ((c, n) ∷ l) l) q ≡ at l q) ⊎ ((b ≡ true) × (q ≡ c) × (at (cond b ((c, n) ∷ l) l) q ≡ n))
notes_of true l c n q = alike q c (λ same. inr (refl, same, cond_here q c n (at l q) same)) (λ ne. inl (cond_else q c n (at l q) ne))
notes_of false l c n q = inl refl

abbrev Is : {T : Type 0} → Me (Cell T) View → Me (Cell T) View → Type 0
Is n m = n ≡ m

module _ {T K : Type 0} (g : Ghosts T K) (key : K) where
  -- a load leaves the words as they are
  again : (s : State (Cell T) View) (hs : List (Option (Cell T))) (vs : List View) (i : ℕ) → Kept g key (board g key s.words hs vs) → Kept g key (board g key (set s.words i (get_or s.words i 0)) hs vs)
  again s hs vs i k = subst (λ ws. Kept g key (board g key ws hs vs)) (sym (set-get_or s.words i 0)) k

  -- the place of a turn word
  of_turn : (p q : ℕ) (P : ℕ → Type 0) → p + 1 ≡ q + 1 → P p → P q
  of_turn p q P e x = let same : p ≡ q = omega arith in subst P same x

  -- where no other seat holds the place, and this one not as out, its value is at home
  free_of : (s : State (Cell T) View) → Kept g key s → (id : ℕ) (v : View) → get_elem? s.views id ≡ some v → (p : ℕ) → held v p < 2 → ((j : ℕ) (u : View) → j ≢ id → get_elem? s.views j ≡ some u → held u p ≡ 0)
      → p < places_in (g.shape key) → IsHome g key (count_word (g.shape key) s.words) s.views s.homes p
  free_of s r id v e p mine others within = r.home p within (λ j u at. alike j id
      (λ me. let u_v : v ≡ u = some-injective v u (sym e ∙ ap (λ k. get_elem? s.views k) (sym me) ∙ at) in subst (λ k. held k p < 2) u_v mine)
      (λ ne. let o = others j u ne at in omega arith))

  module _ (slots id : ℕ) (v : View) (hand : List (ℕ × Cell T)) (p : ℕ) (within : p < places_in (g.shape key)) (same_shape : v.shape ≡ g.shape key) where
    turn_counts : (s : State (Cell T) View) (n c : ℕ) → count_word (g.shape key) (set s.words (p + 1) n) c ≡ count_word (g.shape key) s.words c
    turn_counts s n c = get_or-set_other s.words (p + 1) (places_in (g.shape key) + 1 + c) n 0 (λ h. omega arith)

    turn_others : (s : State (Cell T) View) (n q : ℕ) → q ≢ p → turn_word (set s.words (p + 1) n) q ≡ turn_word s.words q
    turn_others s n q ne = get_or-set_other s.words (p + 1) (q + 1) n 0 (λ h. ne (omega arith))

    in_hand : (k : ℕ) (q : ℕ) → 0 < k → 0 < held v q → 0 < at ((p, k) ∷ v.held) q
    in_hand k q pos h = alike q p (λ same. let a = cond_here q p k (held v q) same in omega arith) (λ ne. let a = cond_else q p k (held v q) ne in omega arith)

    module _ (num : ℕ) (pos : 0 < num) (number : v.number ≡ num) (none_held : held v p ≡ 0) where
      nobody : (s : State (Cell T) View) → Kept g key s → slice_index s.words (p + 1) ≡ 0 → (j : ℕ) (u : View) → get_elem? s.views j ≡ some u → held u p ≡ 0
      nobody s r zero_there j u at = ⊎_elim (λ z. z) (λ some_held. let n = r.named j u at p some_held in absurd (let a = n.0 in let b = n.1 in omega arith)) (eq-zero-or-pos (held u p))

      won : (s : State (Cell T) View) → Kept g key s → length s.homes ≡ slots → get_elem? s.views id ≡ some v → slice_index s.words (p + 1) ≡ 0
          → Touch g key s id v (taking v p) (set s.words (p + 1) num) s.homes p
      won s r deep e found = record {
        self = record { root = refl; number = refl; made = refl; back = refl; shape = refl };
        within = within;
        wide = length-set s.words (p + 1) num;
        deep = refl;
        counts = turn_counts s num;
        turns = turn_others s num;
        slots = λ q ne. refl;
        helds = at_else v.held p 1;
        others = λ j u ne at. nobody s r found j u at;
        named = λ h. (omega arith, get_or-set_at s.words (p + 1) (p + 1) num 0 refl (let l = r.wide in omega arith) ∙ sym number);
        freed = λ h. let a = at_here v.held p 1 in absurd (omega arith);
        home = λ h. let old = free_of s r id v e p (omega arith) (λ j u ne at. nobody s r found j u at) within in
            (old.value, old.stands, old.sound, old.owed, λ one. g.cleared key (mark (taking v p)) p old.value (λ c listed. forgotten (is_cleared v.shape p) v.marks c (ap (λ sh. is_cleared sh p c) same_shape ∙ listed)));
        empty = λ h. let a = at_here v.held p 1 in absurd (omega arith);
        notes = λ c h. (refl, spoken_more (g.shape key) (held v) (held (taking v p)) c (λ q. in_hand 1 q (omega arith)) (r.noted id v e c h).1);
        marks = forget_or (is_cleared v.shape p) v.marks;
      }

      pub tries : Allows (Kept g key) slots id (v, hand) (p + 1) (λ n. either (n == 0) num n) (tried (step slots (p + 1) 0 num none) (v, hand))
      tries s r deep e small = exchanged (slice_index s.words (p + 1)) 0 num
          (λ m. (w : View) × (a : Act (Cell T)) × Valid s.homes hand a × Kept g key (stepped s (p + 1) m id hand w a) × tried (step slots (p + 1) 0 num none) (v, hand) (slice_index s.words (p + 1)) (w, carried_after hand a))
          (λ found. (
            taking v p,
            keeps,
            tt,
            touched g key s r id v (taking v p) (set s.words (p + 1) num) s.homes p e (won s r deep e found),
            λ q at. of_turn p q (λ q. (slice_index s.words (p + 1) ≡ 0 → Is (taking v p, hand) (taking v q, hand)) × (slice_index s.words (p + 1) ≢ 0 → Is (taking v p, hand) (losing v q, hand))) at (λ h. refl, λ ne. absurd (ne found)),
          ))
          (λ other. (
            losing v p,
            keeps,
            tt,
            again s s.homes (set s.views id (losing v p)) (p + 1) (viewed g key s r id v (losing v p) e
                (record { self = record { root = refl; number = refl; made = refl; back = refl; shape = refl }; helds = λ q. refl; notes = λ c h. inl refl; lower = r.lower id v e; marked = λ q x o m. m })),
            λ q at. of_turn p q (λ q. (slice_index s.words (p + 1) ≡ 0 → Is (losing v p, hand) (taking v q, hand)) × (slice_index s.words (p + 1) ≢ 0 → Is (losing v p, hand) (losing v q, hand))) at (λ h. absurd (other h), λ ne. refl),
          ))

    -- a step at a held place, by which its slot or how it is held changes, but not the words
    stirs : (s : State (Cell T) View) → Kept g key s → get_elem? s.views id ≡ some v → 0 < held v p → (k : ℕ) → 0 < k → (h : Option (Cell T))
        → (k < 2 → (x : T) × (get_elem? (set s.homes p h) p ≡ some (some (Value x))) × g.sound key p x × g.owes key (count_word (g.shape key) s.words) p x × (k ≡ 1 → g.marked key (mark v) p x))
        → (k ≡ 2 → get_elem? (set s.homes p h) p ≡ some (some Empty))
        → Kept g key (board g key s.words (set s.homes p h) (set s.views id (holding v p k)))
    stirs s r e mine k pos h home empty = let now = at_here v.held p k in touched g key s r id v (holding v p k) s.words (set s.homes p h) p e (record {
      self = record { root = refl; number = refl; made = refl; back = refl; shape = refl };
      within = within;
      wide = refl;
      deep = length-set s.homes p h;
      counts = λ c. refl;
      turns = λ q ne. refl;
      slots = λ q ne. set_else s.homes p q h ne;
      helds = at_else v.held p k;
      others = sole g key s r id v e p mine;
      named = λ a. let n = r.named id v e p mine in (n.0, n.1);
      freed = λ h. absurd (omega arith);
      home = λ a. let b = home (omega arith) in (b.0, b.1, b.2, b.3, λ one. b.4 (sym now ∙ one));
      empty = λ two. empty (sym now ∙ two);
      notes = λ c a. (refl, spoken_more (g.shape key) (held v) (held (holding v p k)) c (λ q. in_hand k q pos) (r.noted id v e c a).1);
      marks = λ c. inr refl;
    })

    pub reaches : held v p ≡ 1 → (o : std.Option K) → o ≡ Some key → Allows (Kept g key) slots id (v, hand) (p + 1) (λ n. n) (reached g o (step slots (p + 1) 0 0 none) (v, hand))
    reaches one o is s r deep e small =
        let old = free_of s r id v e p (omega arith) (sole g key s r id v e p (omega arith)) within in
        let told : Tells g key v p old.value = record {
          sound = old.sound;
          marked = old.marked id v e one;
          owing = record { counts = count_word (g.shape key) s.words; kept = r.kept; fits = λ c h. (r.noted id v e c h).2; above = r.lower id v e; owed = old.owed };
        } in (
          holding v p 3,
          takes p (Value old.value),
          old.stands,
          again s (set s.homes p none) (set s.views id (holding v p 3)) (p + 1) (stirs s r e (omega arith) 3 (omega arith) none (λ h. absurd (omega arith)) (λ h. absurd (omega arith))),
          λ q at. of_turn p q (λ q. (x : T) × IfSome o (λ k. Tells g k v q x) × Is (holding v p 3, (p, Value old.value) ∷ hand) (holding v q 3, (q, Value x) ∷ hand)) at (old.value, subst (λ z. IfSome z (λ k. Tells g k v p old.value)) (sym is) told, refl),
        )

    pub enters : held v p ≡ 2 → Allows (Kept g key) slots id (v, hand) (p + 1) (λ n. n) (entered (step slots (p + 1) 0 0 none) (v, hand))
    enters two s r deep e small = (
      holding v p 3,
      takes p Empty,
      r.empty id v e p two,
      again s (set s.homes p none) (set s.views id (holding v p 3)) (p + 1) (stirs s r e (omega arith) 3 (omega arith) none (λ h. absurd (omega arith)) (λ h. absurd (omega arith))),
      λ q at. of_turn p q (λ q. Is (holding v p 3, (p, Empty) ∷ hand) (holding v q 3, (q, Empty) ∷ hand)) at refl,
    )

    pub clears : held v p ≡ 3 → Allows (Kept g key) slots id (v, (p, Empty) ∷ hand) (p + 1) (λ n. n) (emptied (step slots (p + 1) 0 0 none) (v, (p, Empty) ∷ hand))
    clears three s r deep e small = (
      holding v p 2,
      gives,
      tt,
      again s (set s.homes p (some Empty)) (set s.views id (holding v p 2)) (p + 1)
          (stirs s r e (omega arith) 2 (omega arith) (some Empty) (λ h. absurd (omega arith)) (λ h. set_here s.homes p (some Empty) (let d = r.deep in omega arith))),
      λ q at. of_turn p q (λ q. Is (holding v p 2, hand) (holding v q 2, hand)) at refl,
    )

    pub settles : (x : T) → held v p ≡ 3 → Pays g key v p x → Allows (Kept g key) slots id (v, (p, Value x) ∷ hand) (p + 1) (λ n. n) (settled (step slots (p + 1) 0 0 none) (v, (p, Value x) ∷ hand))
    settles x three pays s r deep e small = (
      holding v p 1,
      gives,
      tt,
      again s (set s.homes p (some (Value x))) (set s.views id (holding v p 1)) (p + 1)
          (stirs s r e (omega arith) 1 (omega arith) (some (Value x))
          (λ h. (x, set_here s.homes p (some (Value x)) (let d = r.deep in omega arith), pays.sound, pays.owed (count_word (g.shape key) s.words) r.kept (λ c h. (r.noted id v e c h).2) (r.lower id v e), λ one. pays.marked))
          (λ h. absurd (omega arith))),
      λ q at. of_turn p q (λ q. Is (holding v p 1, hand) (holding v q 1, hand)) at refl,
    )

    pub gives_up : held v p ≡ 1 → Allows (Kept g key) slots id (v, hand) (p + 1) (λ n. 0) (λ n. given (step slots (p + 1) 0 0 none) (v, hand) 0)
    gives_up one s r deep e small = let now = at_here v.held p 0 in (
      giving v p,
      keeps,
      tt,
      touched g key s r id v (giving v p) (set s.words (p + 1) 0) s.homes p e (record {
        self = record { root = refl; number = refl; made = refl; back = refl; shape = refl };
        within = within;
        wide = length-set s.words (p + 1) 0;
        deep = refl;
        counts = turn_counts s 0;
        turns = turn_others s 0;
        slots = λ q ne. refl;
        helds = at_else v.held p 0;
        others = sole g key s r id v e p (omega arith);
        named = λ h. absurd (omega arith);
        freed = λ h. get_or-set_at s.words (p + 1) (p + 1) 0 0 refl (let l = r.wide in omega arith);
        home = λ h. let old = free_of s r id v e p (omega arith) (sole g key s r id v e p (omega arith)) within in (old.value, old.stands, old.sound, old.owed, λ h. absurd (omega arith));
        empty = λ h. absurd (omega arith);
        notes = λ c h. let l = forget_left (λ c. not (is_spoken_for v.shape (at ((p, 0) ∷ v.held)) c)) v.notes c h in
            (l.1, ap (λ sh. is_spoken_for sh (at ((p, 0) ∷ v.held)) c) (sym same_shape) ∙ shown (is_spoken_for v.shape (at ((p, 0) ∷ v.held)) c) l.0);
        marks = λ c. inr refl;
      }),
      λ q at. of_turn p q (λ q. Is (giving v p, hand) (giving v q, hand)) at refl,
    )

  module _ (slots id : ℕ) (v : View) (hand : List (ℕ × Cell T)) (c : ℕ) (i : ℕ) (is_slots : slots ≡ places_in (g.shape key) + 1) (at_i : i ≡ places_in (g.shape key) + 1 + c) (in_words : c < words_in (g.shape key)) (same_shape : v.shape ≡ g.shape key) where
    of_count : (q : ℕ) (P : ℕ → Type 0) → i ≡ slots + q → P c → P q
    of_count q P e x = let same : c ≡ q = omega arith in subst P same x

    pub reads : Allows (Kept g key) slots id (v, hand) i (λ n. n) (read (step slots i 0 0 none) (v, hand))
    reads s r deep e small = let n : ℕ = slice_index s.words i in let now : n ≡ count_word (g.shape key) s.words c = ap (slice_index s.words) at_i in (
      reading v c n,
      keeps,
      tt,
      again s s.homes (set s.views id (reading v c n)) i (viewed g key s r id v (reading v c n) e (record {
        self = record { root = refl; number = refl; made = refl; back = refl; shape = refl };
        helds = λ q. refl;
        notes = λ q h. ⊎_elim (λ same. inl same)
            (λ t. inr ((let b = t.1 in omega arith), (ap (λ sh. is_spoken_for sh (held v) q) (sym same_shape) ∙ ap (is_spoken_for v.shape (held v)) t.1 ∙ t.0), t.2 ∙ ap suc (now ∙ ap (count_word (g.shape key) s.words) (sym t.1))))
            (notes_of (is_spoken_for v.shape (at v.held) c) v.notes c (suc n) q);
        lower = λ q. let l = r.lower id v e q in ⊎_elim (λ same. omega arith)
            (λ t. let a = t.2 in let b : count_word (g.shape key) s.words q ≡ count_word (g.shape key) s.words c = ap (count_word (g.shape key) s.words) t.1 in omega arith)
            (notes_of (is_marked v.shape c) v.marks c (suc n) q);
        marked = λ q x owed m. ⊎_elim
            (λ same. subst (λ f. g.marked key f q x) (sym same) (subst (λ (k : ℕ). g.marked key (put (mark v) c (suc k)) q x) (sym now) (g.marks key (count_word (g.shape key) s.words) (mark v) q x c r.kept owed m)))
            (λ same. subst (λ f. g.marked key f q x) (sym same) m)
            (marks_of (is_marked v.shape c) v.marks c (suc n));
      })),
      λ q at. of_count q (λ q. Is (reading v c n, hand) (reading v q n, hand) × (mark v q ≤ suc n) × (0 < note v q → note v q ≡ suc n)) at
          (refl, (let l = r.lower id v e c in omega arith), λ h. (r.noted id v e c h).2 ∙ ap suc (sym now)),
    )

    pub writes : (n : ℕ) → Writes g key v c n → Allows (Kept g key) slots id (v, hand) i (λ m. n) (λ m. written (step slots i n 0 none) (v, hand) n)
    writes n t s r deep e small = (writing v c n, keeps, tt, wrote g key s r id v c n i e at_i t, λ q at. of_count q (λ q. Is (writing v c n, hand) (writing v q n, hand)) at refl)

  -- what the marks say stays so where the first words are marked, too
  first_marked : (F : ℕ → ℕ) (n : ℕ) (l : List (ℕ × ℕ)) (q : ℕ) (x : T) → g.keeps key F → g.owes key F q x → g.marked key (at l) q x → g.marked key (at (put_first F n l)) q x
  first_marked F zero l q x kept owed m = m
  first_marked F (suc n) l q x kept owed m = g.marks key F (at (put_first F n l)) q x n kept owed (first_marked F n l q x kept owed m)

  -- a number that was put at the first places, or not, has been reached
  first_lower : (F : ℕ → ℕ) (n : ℕ) (l : List (ℕ × ℕ)) (q : ℕ) → at l q ≤ suc (F q) → at (put_first F n l) q ≤ suc (F q)
  first_lower F n l q low = ⊎_elim
      (λ h. let here = first_put F n l q h in omega arith)
      (λ h. let left = first_left F n l q h in omega arith)
      (cases_lt q n)

  module _ (slots id : ℕ) (v : View) (hand : List (ℕ × Cell T)) where
    pub marks_all : Allows (Kept g key) slots id (v, hand) 0 (λ n. n) (marked_all (step slots 0 0 0 none) (v, hand))
    marks_all s r deep e small = let F = count_word (g.shape key) s.words in (
      marking v F,
      keeps,
      tt,
      again s s.homes (set s.views id (marking v F)) 0 (viewed g key s r id v (marking v F) e (record {
        self = record { root = refl; number = refl; made = refl; back = refl; shape = refl };
        helds = λ q. refl;
        notes = λ c h. inl refl;
        lower = λ q. first_lower F (words_in v.shape) v.marks q (r.lower id v e q);
        marked = λ q x owed m. first_marked F (words_in v.shape) v.marks q x r.kept owed m;
      })),
      (F, (λ c h. (r.noted id v e c h).2), r.lower id v e, refl),
    )

    pub looks : Allows (Kept g key) slots id (v, hand) 0 (λ n. n) (looked (step slots 0 0 0 none) (v, hand))
    looks s r deep e small = let n : ℕ = slice_index s.words 0 in (
      looking v n,
      keeps,
      tt,
      again s s.homes (set s.views id (looking v n)) 0 (viewed g key s r id v (looking v n) e
          (record { self = record { root = refl; number = refl; made = refl; back = refl; shape = refl }; helds = λ q. refl; notes = λ c h. inl refl; lower = r.lower id v e; marked = λ q x o m. m })),
      refl,
    )

    pub raises : (n : ℕ) → Allows (Kept g key) slots id (v, hand) 0 (λ m. n) (λ m. raised (step slots 0 n 0 none) (v, hand) n)
    raises n s r deep e small = (
      v,
      keeps,
      tt,
      reworded g key (board g key s.words s.homes (set s.views id v))
          (viewed g key s r id v v e (record { self = itself v; helds = λ q. refl; notes = λ c h. inl refl; lower = r.lower id v e; marked = λ q x o m. m }))
          (set s.words 0 n) (length-set s.words 0 n)
          (λ q. get_or-set_other s.words 0 (q + 1) n 0 (λ h. omega arith))
          (λ c. get_or-set_other s.words 0 (places_in (g.shape key) + 1 + c) n 0 (λ h. omega arith)),
      refl,
    )
