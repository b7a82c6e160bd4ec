-- A step at one place that its seat alone can hold.
use Rattle.std.proofs.Common.{◌≡◌, ◌≢◌, ℕ, suc, ◌<◌, ◌≤◌, ◌⊎◌, true, List, length, set, sym, ap, subst, ◌∙◌, ⊎_elim, arith, eq-zero-or-pos}
use mathlib.Core.Option.{Option, some, some-injective}
use lib.ListN.{get_elem?}
use Rattle.atomic_table.specs.Table.{State}
use Rattle.atomic_table.proofs.Lists.{set_else}
use Rattle.turn_table.specs.declared.cell.Cell.{Cell}
use Rattle.turn_table.specs.declared.cell.Cell.TheVariants.{Value, Empty}
use Rattle.turn_table.specs.declared.tenant.Tenant.{Ghosts}
use Rattle.turn_table.specs.declared.view.View.{View}
use Rattle.turn_table.specs.Shapes.{places_in, words_in}
use Rattle.turn_table.specs.Views.{held, note, mark, is_spoken_for}
use Rattle.turn_table.specs.Rule.{turn_word, count_word, Each, IsHome, Kept}
use Rattle.turn_table.proofs.Lookups.{alike, set_there}
use Rattle.turn_table.proofs.Seats.{each, each_else, IsSelf, Seats, seats_same}

module _ {T K : Type 0} (g : Ghosts T K) (key : K) where
  abbrev pub board : List ℕ → List (Option (Cell T)) → List View → State (Cell T) View
  board ws hs vs = record { words = ws; homes = hs; views = vs }

  pub seats_of : (s : State (Cell T) View) → Kept g key s → Seats (g.shape key) s.views
  seats_of s r = record { shaped = r.shaped; apart = r.apart; numbered = r.numbered; counted = r.counted }

  -- who holds a place holds it alone
  pub sole : (s : State (Cell T) View) → Kept g key s → (id : ℕ) (v : View) → get_elem? s.views id ≡ some v → (p : ℕ) → 0 < held v p → (j : ℕ) (u : View) → j ≢ id → get_elem? s.views j ≡ some u → held u p ≡ 0
  sole s r id v e p mine j u ne at = ⊎_elim (λ z. z) (λ theirs.
      let a = r.named id v e p mine in let b = r.named j u at p theirs in
      absurd (ne (r.apart j id u v at e b.0 (sym b.1 ∙ a.1)))) (eq-zero-or-pos (held u p))

  -- a step of the seat id at the place p: what it may change, and what it owes of the place
  pub record Touch (s : State (Cell T) View) (id : ℕ) (v w : View) (ws : List ℕ) (hs : List (Option (Cell T))) (p : ℕ) : Type 0 where
    pub self : IsSelf v w
    pub within : p < places_in (g.shape key)
    pub wide : length ws ≡ length s.words
    pub deep : length hs ≡ length s.homes
    pub counts : (c : ℕ) → count_word (g.shape key) ws c ≡ count_word (g.shape key) s.words c
    pub turns : (q : ℕ) → q ≢ p → turn_word ws q ≡ turn_word s.words q
    pub slots : (q : ℕ) → q ≢ p → get_elem? hs q ≡ get_elem? s.homes q
    pub helds : (q : ℕ) → q ≢ p → held w q ≡ held v q
    pub others : (j : ℕ) (u : View) → j ≢ id → get_elem? s.views j ≡ some u → held u p ≡ 0
    pub named : 0 < held w p → (0 < w.number) × (turn_word ws p ≡ w.number)
    pub freed : held w p ≡ 0 → turn_word ws p ≡ 0
    pub home : held w p < 2 → (x : T) × (get_elem? hs p ≡ some (some (Value x))) × g.sound key p x × g.owes key (count_word (g.shape key) s.words) p x × (held w p ≡ 1 → g.marked key (mark w) p x)
    pub empty : held w p ≡ 2 → get_elem? hs p ≡ some (some Empty)
    pub notes : (c : ℕ) → 0 < note w c → (note w c ≡ note v c) × (is_spoken_for (g.shape key) (held w) c ≡ true)
    pub marks : (c : ℕ) → (mark w c ≡ 0) ⊎ (mark w c ≡ mark v c)

  module _ (s : State (Cell T) View) (r : Kept g key s) (id : ℕ) (v w : View) (ws : List ℕ) (hs : List (Option (Cell T))) (p : ℕ) (e : get_elem? s.views id ≡ some v) (t : Touch s id v w ws hs p) where
    touched_named : Each (set s.views id w) (λ u. (q : ℕ) → 0 < held u q → (0 < u.number) × (turn_word ws q ≡ u.number) × (q < places_in (g.shape key)))
    touched_named = each_else s.views id w (λ u. (q : ℕ) → 0 < held u q → (0 < u.number) × (turn_word ws q ≡ u.number) × (q < places_in (g.shape key)))
        (λ j u ne at q h. let n = r.named j u at q h in (n.0, t.turns q (λ same. let o : held u q ≡ 0 = ap (held u) same ∙ t.others j u ne at in omega arith) ∙ n.1, n.2))
        (λ q h. alike q p
        (λ same. let n = t.named (subst (λ k. 0 < held w k) same h) in (n.0, ap (turn_word ws) same ∙ n.1, (let b = t.within in omega arith)))
        (λ ne. let x = t.helds q ne in let n = r.named id v e q (omega arith) in let m = t.self.number in ((let a = n.0 in omega arith), t.turns q ne ∙ n.1 ∙ sym m, n.2)))

    touched_counts : count_word (g.shape key) s.words ≡ count_word (g.shape key) ws
    touched_counts = let back : count_word (g.shape key) ws ≡ count_word (g.shape key) s.words = λ i c. t.counts c i in sym back

    touched_here : held w p < 2 → IsHome g key (count_word (g.shape key) ws) (set s.views id w) hs p
    touched_here free = let h = t.home free in record {
      value = h.0;
      stands = h.1;
      sound = h.2;
      owed = subst (λ f. g.owes key f p h.0) touched_counts h.3;
      marked = each_else s.views id w (λ u. held u p ≡ 1 → g.marked key (mark u) p h.0) (λ j u ne at one. let o = t.others j u ne at in absurd (omega arith)) h.4;
    }

    touched_there : (q : ℕ) → q ≢ p → q < places_in (g.shape key) → Each (set s.views id w) (λ u. held u q < 2) → IsHome g key (count_word (g.shape key) ws) (set s.views id w) hs q
    touched_there q ne within free = let same = t.helds q ne in
        let mine : held v q < 2 = (let f = free id w (set_there s.views id v w e) in omega arith) in
        let old = r.home q within (λ j u at. alike j id
        (λ me. let u_v : v ≡ u = some-injective v u (sym e ∙ ap (λ k. get_elem? s.views k) (sym me) ∙ at) in subst (λ k. held k q < 2) u_v mine)
        (λ other. free j u (set_else s.views id j w other ∙ at))) in
        record {
          value = old.value;
          stands = t.slots q ne ∙ old.stands;
          sound = old.sound;
          owed = subst (λ f. g.owes key f q old.value) touched_counts old.owed;
          marked = each s.views id w (λ u. held u q ≡ 1 → g.marked key (mark u) q old.value) old.marked
              (λ one. g.forgets key (mark v) (mark w) q old.value t.marks (old.marked id v e (sym same ∙ one)));
        }

    pub touched : Kept g key (board ws hs (set s.views id w))
    touched = let seats = seats_same (g.shape key) s.views id v w e t.self (seats_of s r) in record {
      wide = t.wide ∙ r.wide;
      deep = t.deep ∙ r.deep;
      room = record { room = r.room.room; stands = t.slots (places_in (g.shape key)) (λ same. let b = t.within in omega arith) ∙ r.room.stands; bare = r.room.bare; wide = r.room.wide };
      shaped = seats.shaped;
      named = touched_named;
      unheld = λ q within none. alike q p (λ same. ap (turn_word ws) same ∙ t.freed (ap (held w) (sym same) ∙ none id w (set_there s.views id v w e)))
          (λ ne. t.turns q ne ∙ r.unheld q within (λ j u at. alike j id (λ me. let u_v : v ≡ u = some-injective v u (sym e ∙ ap (λ k. get_elem? s.views k) (sym me) ∙ at) in subst (λ k. held k q ≡ 0) u_v (sym (t.helds q ne) ∙ none id w (set_there s.views id v w e))) (λ other. none j u (set_else s.views id j w other ∙ at))));
      apart = seats.apart;
      home = λ q within free. alike q p
          (λ same. subst (IsHome g key (count_word (g.shape key) ws) (set s.views id w) hs) (sym same) (touched_here (subst (λ k. held w k < 2) same (free id w (set_there s.views id v w e)))))
          (λ ne. touched_there q ne within free);
      empty = each_else s.views id w (λ u. (q : ℕ) → held u q ≡ 2 → get_elem? hs q ≡ some (some Empty))
          (λ j u ne at q two. t.slots q (λ same. let o : held u q ≡ 0 = ap (held u) same ∙ t.others j u ne at in omega arith) ∙ r.empty j u at q two)
          (λ q two. alike q p (λ same. ap (get_elem? hs) same ∙ t.empty (ap (held w) (sym same) ∙ two)) (λ ne. t.slots q ne ∙ r.empty id v e q (sym (t.helds q ne) ∙ two)));
      noted = each s.views id w (λ u. (c : ℕ) → 0 < note u c → (c < words_in (g.shape key)) × (is_spoken_for (g.shape key) (held u) c ≡ true) × (note u c ≡ suc (count_word (g.shape key) ws c)))
          (λ j u at c h. let n = r.noted j u at c h in (n.0, n.1, n.2 ∙ ap suc (sym (t.counts c))))
          (λ c h. let k = t.notes c h in let n = r.noted id v e c (let l = k.0 in omega arith) in (n.0, k.1, k.0 ∙ n.2 ∙ ap suc (sym (t.counts c))));
      lower = each s.views id w (λ u. (c : ℕ) → mark u c ≤ suc (count_word (g.shape key) ws c))
          (λ j u at c. let l = r.lower j u at c in let k = t.counts c in omega arith)
          (λ c. let l = r.lower id v e c in let k = t.counts c in ⊎_elim (λ z. omega arith) (λ m. omega arith) (t.marks c));
      kept = subst (g.keeps key) touched_counts r.kept;
      numbered = seats.numbered;
      counted = seats.counted;
    }

  -- a step of the seat id that changes none of the words and slots, and not how it holds places
  pub record Look (s : State (Cell T) View) (id : ℕ) (v w : View) : Type 0 where
    pub self : IsSelf v w
    pub helds : (q : ℕ) → held w q ≡ held v q
    pub notes : (c : ℕ) → 0 < note w c → (note w c ≡ note v c) ⊎ ((c < words_in (g.shape key)) × (is_spoken_for (g.shape key) (held w) c ≡ true) × (note w c ≡ suc (count_word (g.shape key) s.words c)))
    pub lower : (c : ℕ) → mark w c ≤ suc (count_word (g.shape key) s.words c)
    pub marked : (q : ℕ) (x : T) → g.owes key (count_word (g.shape key) s.words) q x → g.marked key (mark v) q x → g.marked key (mark w) q x

  module _ (s : State (Cell T) View) (r : Kept g key s) (id : ℕ) (v w : View) (e : get_elem? s.views id ≡ some v) (t : Look s id v w) where
    viewed_home : (q : ℕ) → q < places_in (g.shape key) → Each (set s.views id w) (λ u. held u q < 2) → IsHome g key (count_word (g.shape key) s.words) (set s.views id w) s.homes q
    viewed_home q within free = let same = t.helds q in
        let mine : held v q < 2 = (let f = free id w (set_there s.views id v w e) in omega arith) in
        let old = r.home q within (λ j u at. alike j id
        (λ me. let u_v : v ≡ u = some-injective v u (sym e ∙ ap (λ k. get_elem? s.views k) (sym me) ∙ at) in subst (λ k. held k q < 2) u_v mine)
        (λ other. free j u (set_else s.views id j w other ∙ at))) in
        record {
          value = old.value;
          stands = old.stands;
          sound = old.sound;
          owed = old.owed;
          marked = each s.views id w (λ u. held u q ≡ 1 → g.marked key (mark u) q old.value) old.marked
              (λ one. t.marked q old.value old.owed (old.marked id v e (sym same ∙ one)));
        }

    helds_eq : held v ≡ held w
    helds_eq = let back : held w ≡ held v = λ i q. t.helds q i in sym back

    pub viewed : Kept g key (board s.words s.homes (set s.views id w))
    viewed = let seats = seats_same (g.shape key) s.views id v w e t.self (seats_of s r) in record {
      wide = r.wide;
      deep = r.deep;
      room = r.room;
      shaped = seats.shaped;
      named = each s.views id w (λ u. (q : ℕ) → 0 < held u q → (0 < u.number) × (turn_word s.words q ≡ u.number) × (q < places_in (g.shape key))) r.named
          (λ q h. let x = t.helds q in let n = r.named id v e q (omega arith) in let m = t.self.number in ((let a = n.0 in omega arith), n.1 ∙ sym m, n.2));
      apart = seats.apart;
      home = viewed_home;
      unheld = λ q within none. r.unheld q within (λ j u at. alike j id (λ me. let u_v : v ≡ u = some-injective v u (sym e ∙ ap (λ k. get_elem? s.views k) (sym me) ∙ at) in subst (λ k. held k q ≡ 0) u_v (sym (t.helds q) ∙ none id w (set_there s.views id v w e))) (λ other. none j u (set_else s.views id j w other ∙ at)));
      empty = each s.views id w (λ u. (q : ℕ) → held u q ≡ 2 → get_elem? s.homes q ≡ some (some Empty)) r.empty (λ q two. r.empty id v e q (sym (t.helds q) ∙ two));
      noted = each s.views id w (λ u. (c : ℕ) → 0 < note u c → (c < words_in (g.shape key)) × (is_spoken_for (g.shape key) (held u) c ≡ true) × (note u c ≡ suc (count_word (g.shape key) s.words c))) r.noted
          (λ c h. ⊎_elim
          (λ k. let n = r.noted id v e c (omega arith) in (n.0, subst (λ f. is_spoken_for (g.shape key) f c ≡ true) helds_eq n.1, k ∙ n.2))
          (λ n. n) (t.notes c h));
      lower = each s.views id w (λ u. (c : ℕ) → mark u c ≤ suc (count_word (g.shape key) s.words c)) r.lower t.lower;
      kept = r.kept;
      numbered = seats.numbered;
      counted = seats.counted;
    }
