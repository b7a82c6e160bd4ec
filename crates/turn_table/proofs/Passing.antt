-- Making passes, taking them in, the opening and the end.
use Rattle.std.proofs.Common.{◌≡◌, ◌≢◌, ℕ, zero, suc, ◌+◌, ◌<◌, ◌≤◌, ◌⊎◌, true, List, [], ◌∷◌, ◌++◌, map, length, set, refl, sym, ap, subst, ◌∙◌, inl, inr, ⊎_elim, arith, eq-zero-or-pos, true≢false}
use mathlib.Core.Option.{some, some-injective, some-ne-none}
use lib.ListN.{get_elem?}
use Rattle.atomic_table.specs.Table.{State, Splits, Joins, opening}
use Rattle.atomic_table.proofs.Lists.{at_set, set_else, at_longer, at_map}
use Rattle.turn_table.specs.declared.cell.Cell.{Cell}
use Rattle.turn_table.specs.declared.cell.Cell.TheVariants.{Value, Empty}
use Rattle.turn_table.specs.declared.tenant.Tenant.{Ghosts}
use Rattle.turn_table.specs.declared.view.View.{View}
use Rattle.turn_table.specs.Shapes.{places_in, words_in}
use Rattle.turn_table.specs.Views.{held, note, mark, is_spoken_for, rooted, made_one, fresh, taken_in, spent}
use Rattle.turn_table.specs.Rule.{turn_word, count_word, Each, IsInUse, live, living, HasRoom, IsHome, Kept}
use Rattle.turn_table.proofs.Lookups.{alike, set_there, cond_else}
use Rattle.turn_table.proofs.Seats.{each, living_set}
use Rattle.turn_table.proofs.Core.{board}

living_snoc : (vs : List View) (w : View) → living (vs ++ w ∷ []) ≡ living vs + live w
living_snoc [] w = omega arith
living_snoc (x ∷ xs) w = let h = living_snoc xs w in omega arith

-- a view that is among these and in use is counted
live_among : (vs : List View) (j : ℕ) (u : View) → get_elem? vs j ≡ some u → live u ≤ living vs
live_among [] j u e = absurd (some-ne-none u (sym e))
live_among (x ∷ xs) zero u e = let s : live x ≡ live u = ap live (some-injective x u e) in omega arith
live_among (x ∷ xs) (suc j) u e = let h = live_among xs j u e in omega arith

live_above : (v : View) → 0 < v.number → live v ≡ 1
live_above v h = cond_else v.number 0 0 1 (λ z. omega arith)

-- what stands in a list with one item more behind it
pub at_end : {A : Type 0} (l : List A) (a b : A) (j : ℕ) → get_elem? (l ++ a ∷ []) j ≡ some b → (get_elem? l j ≡ some b) ⊎ ((a ≡ b) × (j ≡ length l))
at_end [] a b zero e = inr (some-injective a b e, refl)
at_end [] a b (suc j) e = absurd (some-ne-none b (sym e))
at_end (x ∷ xs) a b zero e = inl e
at_end (x ∷ xs) a b (suc j) e = ⊎_elim inl (λ t. inr (t.0, ap suc t.1)) (at_end xs a b j e)

each_more : (vs : List View) (u : View) (P : View → Type 0) → Each vs P → P u → Each (vs ++ u ∷ []) P
each_more vs u P all here j x e = ⊎_elim (λ t. all j x t) (λ t. subst P t.0 here) (at_end vs u x j e)

each_one : (u : View) (P : View → Type 0) → P u → Each (u ∷ []) P
each_one u P here zero x e = subst P (some-injective u x e) here
each_one u P here (suc j) x e = absurd (some-ne-none x (sym e))

length_map : {A : Type 0} (l : List A) → length (map some l) ≡ length l
length_map [] = refl
length_map (x ∷ l) = ap suc (length_map l)

first_only : (v : View) (j : ℕ) (x : View) → get_elem? (v ∷ []) j ≡ some x → j ≡ 0
first_only v zero x e = refl
first_only v (suc j) x e = absurd (some-ne-none x (sym e))

module _ {T K : Type 0} (g : Ghosts T K) (key : K) where
  module _ (s : State (Cell T) View) (r : Kept g key s) (id : ℕ) (v : View) (e : get_elem? s.views id ≡ some v) (root : v.is_root ≡ true) where
    abbrev vs : List View
    vs = set s.views id (made_one v) ++ fresh v ∷ []

    -- a property of each view carries over to the views after a split, if the new ones have it
    over : (P : View → Type 0) → Each s.views P → P (made_one v) → P (fresh v) → Each vs P
    over P all left right = each_more (set s.views id (made_one v)) (fresh v) P (each s.views id (made_one v) P all left) right

    back_over : (P : View → Type 0) → (P (made_one v) → P v) → Each vs P → Each s.views P
    back_over P same all j u at = alike j id
        (λ me. let u_v : v ≡ u = some-injective v u (sym e ∙ ap (λ k. get_elem? s.views k) (sym me) ∙ at) in
        subst P u_v (same (all id (made_one v) (at_longer (set s.views id (made_one v)) (fresh v ∷ []) id (made_one v) (set_there s.views id v (made_one v) e)))))
        (λ ne. all j u (at_longer (set s.views id (made_one v)) (fresh v ∷ []) j u (set_else s.views id j (made_one v) ne ∙ at)))

    split_root : (j : ℕ) (u : View) → get_elem? vs j ≡ some u → u.is_root ≡ true → (j ≡ id) × (made_one v ≡ u)
    split_root j u at is = ⊎_elim
        (λ old. ⊎_elim (λ t. t) (λ t. absurd (t.0 ((r.numbered id j v u e t.1 root).1 is))) (at_set s.views id j (made_one v) u old))
        (λ new. absurd (true≢false (sym is ∙ ap (λ (k : View). k.is_root) (sym new.0))))
        (at_end (set s.views id (made_one v)) (fresh v) u j at)

    -- the numbers of the others are at most the root's count
    split_low : (j : ℕ) (u : View) → get_elem? (set s.views id (made_one v)) j ≡ some u → u.number ≤ v.made
    split_low j u at = ⊎_elim
        (λ t. let n = (r.numbered id id v v e e root).0 in let m : v.number ≡ u.number = ap (λ (k : View). k.number) t.1 in omega arith)
        (λ t. (r.numbered id j v u e t.1 root).0)
        (at_set s.views id j (made_one v) u at)

    was : (j : ℕ) (u : View) → get_elem? (set s.views id (made_one v)) j ≡ some u → (u' : View) × (get_elem? s.views j ≡ some u') × (u'.number ≡ u.number)
    was j u at = ⊎_elim (λ t. (v, ap (λ k. get_elem? s.views k) t.0 ∙ e, ap (λ (k : View). k.number) t.1)) (λ t. (u, t.1, refl)) (at_set s.views id j (made_one v) u at)

    split_apart : (i j : ℕ) (u x : View) → get_elem? vs i ≡ some u → get_elem? vs j ≡ some x → 0 < u.number → u.number ≡ x.number → i ≡ j
    split_apart i j u x ati atj pos same = ⊎_elim
        (λ a. ⊎_elim
        (λ b. let bi = was i u a in let bj = was j x b in r.apart i j bi.0 bj.0 bi.1 bj.1 (let m = bi.2 in omega arith) (bi.2 ∙ same ∙ sym bj.2))
        (λ b. let l = split_low i u a in let m : suc v.made ≡ x.number = ap (λ (k : View). k.number) b.0 in absurd (omega arith))
        (at_end (set s.views id (made_one v)) (fresh v) x j atj))
        (λ a. ⊎_elim
        (λ b. let l = split_low j x b in let m : suc v.made ≡ u.number = ap (λ (k : View). k.number) a.0 in absurd (omega arith))
        (λ b. a.1 ∙ sym b.1)
        (at_end (set s.views id (made_one v)) (fresh v) x j atj))
        (at_end (set s.views id (made_one v)) (fresh v) u i ati)

    split_counted : (v.number ≡ 0) × (living vs + length v.back ≡ suc v.made)
    split_counted = let c = r.counted id v e root in (
      c.0,
      (let a = living_snoc (set s.views id (made_one v)) (fresh v) in let b = living_set s.views id v (made_one v) e in let f = live_above (fresh v) (omega arith) in
          let same : live (made_one v) ≡ live v = refl in let h = c.1 in omega arith),
    )

    pub split : Kept g key (board g key s.words s.homes vs)
    split = record {
      wide = r.wide;
      deep = r.deep;
      room = r.room;
      kept = r.kept;
      shaped = over (λ u. IsInUse u → u.shape ≡ g.shape key) r.shaped (λ used. r.shaped id v e (inl root)) (λ used. r.shaped id v e (inl root));
      named = over (λ u. (q : ℕ) → 0 < held u q → (0 < u.number) × (turn_word s.words q ≡ u.number) × (q < places_in (g.shape key))) r.named (r.named id v e) (λ q h. absurd (omega arith));
      apart = split_apart;
      unheld = λ q within none. r.unheld q within (back_over (λ u. held u q ≡ 0) (λ h. h) none);
      home = λ p within free. let old = r.home p within (back_over (λ u. held u p < 2) (λ h. h) free) in record {
        value = old.value;
        stands = old.stands;
        sound = old.sound;
        owed = old.owed;
        marked = over (λ u. held u p ≡ 1 → g.marked key (mark u) p old.value) old.marked (old.marked id v e) (λ h. absurd (omega arith));
      };
      empty = over (λ u. (q : ℕ) → held u q ≡ 2 → get_elem? s.homes q ≡ some (some Empty)) r.empty (r.empty id v e) (λ q h. absurd (omega arith));
      noted = over (λ u. (c : ℕ) → 0 < note u c → (c < words_in (g.shape key)) × (is_spoken_for (g.shape key) (held u) c ≡ true) × (note u c ≡ suc (count_word (g.shape key) s.words c))) r.noted (r.noted id v e) (λ c h. absurd (omega arith));
      lower = over (λ u. (c : ℕ) → mark u c ≤ suc (count_word (g.shape key) s.words c)) r.lower (r.lower id v e) (λ c. omega arith);
      numbered = λ i j u x ati atj is. let a = split_root i u ati is in let made : suc v.made ≡ u.made = ap (λ (k : View). k.made) a.1 in (
        ⊎_elim (λ b. let l = split_low j x b in omega arith) (λ b. let m : suc v.made ≡ x.number = ap (λ (k : View). k.number) b.0 in omega arith) (at_end (set s.views id (made_one v)) (fresh v) x j atj),
        λ too. (split_root j x atj too).0 ∙ sym a.0,
      );
      counted = λ j u at is. let a = split_root j u at is in subst (λ k. (k.number ≡ 0) × (living vs + length k.back ≡ k.made)) a.1 split_counted;
    }

  pub splits : (id : ℕ) (v : View) → v.is_root ≡ true → Splits (Kept g key) id v (made_one v) (fresh v)
  splits id v root s r e = split s r id v e root

  module _ (s : State (Cell T) View) (r : Kept g key s) (id : ℕ) (v : View) (e : get_elem? s.views id ≡ some v) (root : v.is_root ≡ true) (other : ℕ) (w : View) (ne : other ≢ id) (there : get_elem? (set s.views id (taken_in v w)) other ≡ some w) (lives : 0 < w.number) (bare : (q : ℕ) → held w q ≡ 0) where
    abbrev both : View
    both = taken_in v w

    abbrev us : List View
    us = set (set s.views id both) other spent

    e_other : get_elem? s.views other ≡ some w
    e_other = sym (set_else s.views id other both ne) ∙ there

    over_join : (P : View → Type 0) → Each s.views P → P both → P spent → Each us P
    over_join P all mine gone = each (set s.views id both) other spent P (each s.views id both P all mine) gone

    back_join : (P : View → Type 0) → (P both → P v) → P w → Each us P → Each s.views P
    back_join P same theirs all j u at = alike j other
        (λ o. subst P (some-injective w u (sym e_other ∙ ap (λ k. get_elem? s.views k) (sym o) ∙ at)) theirs)
        (λ no. alike j id
        (λ me. let u_v : v ≡ u = some-injective v u (sym e ∙ ap (λ k. get_elem? s.views k) (sym me) ∙ at) in
        subst P u_v (same (all id both (set_else (set s.views id both) other id spent (λ x. ne (sym x)) ∙ set_there s.views id v both e))))
        (λ no_me. all j u (set_else (set s.views id both) other j spent no ∙ set_else s.views id j both no_me ∙ at)))

    -- what stands there is spent, or was there before with the same number
    was_there : (j : ℕ) (u : View) → get_elem? us j ≡ some u → (spent ≡ u) ⊎ ((u' : View) × (get_elem? s.views j ≡ some u') × (u'.number ≡ u.number) × (u'.is_root ≡ u.is_root) × ((j ≡ id) ⊎ (u' ≡ u)) × ((j ≡ id) → both ≡ u))
    was_there j u at = ⊎_elim (λ t. inl t.1)
        (λ t. inr (⊎_elim
        (λ m. (v, ap (λ k. get_elem? s.views k) m.0 ∙ e, ap (λ (k : View). k.number) m.1, ap (λ (k : View). k.is_root) m.1, inl m.0, λ x. m.1))
        (λ m. (u, m.1, refl, refl, inr refl, λ x. absurd (m.0 x)))
        (at_set s.views id j both u t.1)))
        (at_set (set s.views id both) other j spent u at)

    join_root : (j : ℕ) (u : View) → get_elem? us j ≡ some u → u.is_root ≡ true → (j ≡ id) × (both ≡ u)
    join_root j u at is = ⊎_elim (λ gone. absurd (true≢false (sym is ∙ ap (λ (k : View). k.is_root) (sym gone))))
        (λ t. let same = (r.numbered id j v t.0 e t.1 root).1 (t.3 ∙ is) in (same, t.5 same)) (was_there j u at)

    join_counted : (v.number ≡ 0) × (living us + suc (length v.back) ≡ v.made)
    join_counted = let c = r.counted id v e root in (
      c.0,
      (let a = living_set (set s.views id both) other w spent there in let b = living_set s.views id v both e in let f = live_above w lives in
          let same : live both ≡ live v = refl in let z : live spent ≡ 0 = refl in let h = c.1 in omega arith),
    )

    pub join : Kept g key (board g key s.words s.homes us)
    join = record {
      wide = r.wide;
      deep = r.deep;
      room = r.room;
      kept = r.kept;
      shaped = over_join (λ u. IsInUse u → u.shape ≡ g.shape key) r.shaped (λ used. r.shaped id v e (inl root)) (λ used. absurd (⊎_elim (λ f. true≢false (sym f)) (λ h. omega arith) used));
      named = over_join (λ u. (q : ℕ) → 0 < held u q → (0 < u.number) × (turn_word s.words q ≡ u.number) × (q < places_in (g.shape key))) r.named (r.named id v e) (λ q h. absurd (omega arith));
      apart = λ i j u x ati atj pos same. ⊎_elim
          (λ gone. let z : 0 ≡ u.number = ap (λ (k : View). k.number) gone in absurd (omega arith))
          (λ a. ⊎_elim
          (λ gone. let z : 0 ≡ x.number = ap (λ (k : View). k.number) gone in absurd (omega arith))
          (λ b. r.apart i j a.0 b.0 a.1 b.1 (let m = a.2 in omega arith) (a.2 ∙ same ∙ sym b.2)) (was_there j x atj))
          (was_there i u ati);
      home = λ p within free. let old = r.home p within (back_join (λ u. held u p < 2) (λ h. h) (let b = bare p in omega arith) free) in record {
        value = old.value;
        stands = old.stands;
        sound = old.sound;
        owed = old.owed;
        marked = over_join (λ u. held u p ≡ 1 → g.marked key (mark u) p old.value) old.marked (old.marked id v e) (λ h. absurd (omega arith));
      };
      unheld = λ q within none. r.unheld q within (back_join (λ u. held u q ≡ 0) (λ h. h) (bare q) none);
      empty = over_join (λ u. (q : ℕ) → held u q ≡ 2 → get_elem? s.homes q ≡ some (some Empty)) r.empty (r.empty id v e) (λ q h. absurd (omega arith));
      noted = over_join (λ u. (c : ℕ) → 0 < note u c → (c < words_in (g.shape key)) × (is_spoken_for (g.shape key) (held u) c ≡ true) × (note u c ≡ suc (count_word (g.shape key) s.words c))) r.noted (r.noted id v e) (λ c h. absurd (omega arith));
      lower = over_join (λ u. (c : ℕ) → mark u c ≤ suc (count_word (g.shape key) s.words c)) r.lower (r.lower id v e) (λ c. omega arith);
      numbered = λ i j u x ati atj is. let a = join_root i u ati is in let made : v.made ≡ u.made = ap (λ (k : View). k.made) a.1 in (
        ⊎_elim (λ gone. let z : 0 ≡ x.number = ap (λ (k : View). k.number) gone in omega arith) (λ b. let l = (r.numbered id j v b.0 e b.1 root).0 in let m = b.2 in omega arith) (was_there j x atj),
        λ too. (join_root j x atj too).0 ∙ sym a.0,
      );
      counted = λ j u at is. let a = join_root j u at is in subst (λ k. (k.number ≡ 0) × (living us + length k.back ≡ k.made)) a.1 join_counted;
    }

  pub joins : (id : ℕ) (v : View) (other : ℕ) (w : View) → v.is_root ≡ true → 0 < w.number → ((q : ℕ) → held w q ≡ 0) → Joins (Kept g key) id v other w (taken_in v w) spent
  joins id v other w root lives bare s r e ne there = join s r id v e root other w ne there lives bare

  -- the opening: cells with the values, then the room, and words with the counts
  pub opens : (ws : List ℕ) (xs : List (Cell T)) → length ws ≡ places_in (g.shape key) + 1 + words_in (g.shape key) → length xs ≡ places_in (g.shape key) + 1
      → ((p : ℕ) → p < places_in (g.shape key) → turn_word ws p ≡ 0) → HasRoom (places_in (g.shape key)) (map some xs) → g.keeps key (count_word (g.shape key) ws)
      → ((p : ℕ) → p < places_in (g.shape key) → (x : T) × (get_elem? xs p ≡ some (Value x)) × g.sound key p x × g.owes key (count_word (g.shape key) ws) p x)
      → Kept g key (opening ws xs (rooted (g.shape key)))
  opens ws xs wide deep zeros room keeps homes = let R : View = rooted (g.shape key) in record {
    wide = wide;
    deep = length_map xs ∙ deep;
    room = room;
    kept = keeps;
    unheld = λ q within none. zeros q within;
    shaped = each_one R (λ u. IsInUse u → u.shape ≡ g.shape key) (λ used. refl);
    named = each_one R (λ u. (q : ℕ) → 0 < held u q → (0 < u.number) × (turn_word ws q ≡ u.number) × (q < places_in (g.shape key))) (λ q h. absurd (omega arith));
    apart = λ i j u x ati atj pos same. each_one R (λ u. 0 < u.number → i ≡ j) (λ h. absurd (omega arith)) i u ati pos;
    home = λ p within free. let h = homes p within in record {
      value = h.0;
      stands = at_map some xs p (Value h.0) h.1;
      sound = h.2;
      owed = h.3;
      marked = each_one R (λ u. held u p ≡ 1 → g.marked key (mark u) p h.0) (λ one. absurd (omega arith));
    };
    empty = each_one R (λ u. (q : ℕ) → held u q ≡ 2 → get_elem? (map some xs) q ≡ some (some Empty)) (λ q h. absurd (omega arith));
    noted = each_one R (λ u. (c : ℕ) → 0 < note u c → (c < words_in (g.shape key)) × (is_spoken_for (g.shape key) (held u) c ≡ true) × (note u c ≡ suc (count_word (g.shape key) ws c))) (λ c h. absurd (omega arith));
    lower = each_one R (λ u. (c : ℕ) → mark u c ≤ suc (count_word (g.shape key) ws c)) (λ c. omega arith);
    numbered = λ i j u x ati atj is. (each_one R (λ u. (x : View) → get_elem? (R ∷ []) j ≡ some x → x.number ≤ u.made) (λ x at. each_one R (λ x. x.number ≤ 0) (omega arith) j x at) i u ati x atj, λ too. first_only R j x atj ∙ sym (first_only R i u ati));
    counted = each_one R (λ u. u.is_root ≡ true → (u.number ≡ 0) × (living (R ∷ []) + length u.back ≡ u.made)) (λ is. (refl, refl));
  }

  -- where the root took in as many as it made, all values are at home
  pub closes : (s : State (Cell T) View) → Kept g key s → (id : ℕ) (v : View) → get_elem? s.views id ≡ some v → v.is_root ≡ true → length v.back ≡ v.made
      → (p : ℕ) → p < places_in (g.shape key) → IsHome g key (count_word (g.shape key) s.words) s.views s.homes p
  closes s r id v e root all p within = r.home p within (λ j u at. ⊎_elim (λ z. omega arith)
      (λ h. let n = r.named j u at p h in let l = live_among s.views j u at in let o = live_above u n.0 in let c = (r.counted id v e root).1 in absurd (omega arith))
      (eq-zero-or-pos (held u p)))
