-- Lists of cells: how values go into them and come out, and the opening and the end of a table's slots.
use Rattle.std.proofs.Common.{◌≡◌, ℕ, zero, suc, ◌+◌, ◌<◌, Bool, true, false, List, [], ◌∷◌, ◌++◌, length, get_or, set, replicate, All, reverse, slice_index, refl, sym, ap, subst, ◌∙◌, arith, length-append, get_or-append-add}
use Rattle.std.proofs.lemmas.List.{reverse-append, length-replicate, get_or-replicate, get_or_append_left}
use mathlib.Core.Option.{some, some-injective, some-ne-none}
use lib.ListN.{get_elem?}
use Rattle.atomic_table.specs.Table.{opening, Final, Seen}
use Rattle.atomic_table.proofs.Lists.{at_last, at_longer, at_map}
use Rattle.turn_table.specs.declared.cell.Cell.{Cell}
use Rattle.turn_table.specs.declared.cell.Cell.TheVariants.{Value, Empty, Room}
use Rattle.turn_table.specs.declared.tenant.Tenant.{Ghosts}
use Rattle.turn_table.specs.declared.view.View.{View}
use Rattle.turn_table.specs.Cells.{IsValue, IsRoom, valued, values_in, AreCells, AreFull, StandIn}
use Rattle.turn_table.specs.Rule.{count_word, IsHome, Kept, AreHome}
use Rattle.turn_table.specs.Shapes.{places_in, words_in}
use Rattle.turn_table.specs.Views.{rooted}
use Rattle.turn_table.proofs.Lookups.{below}
use Rattle.turn_table.proofs.Hands.{same_value}
use Rattle.turn_table.proofs.Passing.{opens, closes}

module _ {A : Type 0} where
  init : List A → List A
  init [] = []
  init (x ∷ []) = []
  init (x ∷ y ∷ ys) = x ∷ init (y ∷ ys)

  last : A → List A → A
  last d [] = d
  last d (x ∷ xs) = last x xs

  init-snoc : (xs : List A) (a : A) → init (xs ++ a ∷ []) ≡ xs
  unfolding init
  init-snoc [] a = refl
  init-snoc (x ∷ []) a = refl
  init-snoc (x ∷ y ∷ ys) a = ap (λ l. x ∷ l) (init-snoc (y ∷ ys) a)

  last-snoc : (d : A) (xs : List A) (a : A) → last d (xs ++ a ∷ []) ≡ a
  unfolding last
  last-snoc d [] a = refl
  last-snoc d (x ∷ xs) a = last-snoc x xs a

  -- two lists that are equal have equal last items, and equal others
  pub same_snoc : (xs ys : List A) (a b : A) → xs ++ a ∷ [] ≡ ys ++ b ∷ [] → (xs ≡ ys) × (a ≡ b)
  same_snoc xs ys a b e = (sym (init-snoc xs a) ∙ ap init e ∙ init-snoc ys b, sym (last-snoc a xs a) ∙ ap (last a) e ∙ last-snoc a ys b)

  pub reverse-snoc : (xs ys : List A) (a : A) → xs ≡ ys ++ a ∷ [] → reverse xs ≡ a ∷ reverse ys
  reverse-snoc xs ys a e = ap reverse e ∙ reverse-append ys (a ∷ [])

  pub bare : (xs : List A) → length xs ≡ 0 → xs ≡ []
  bare [] e = refl
  bare (x ∷ xs) e = absurd (omega arith)

  pub present : (xs : List A) (i : ℕ) → i < length xs → (a : A) × (get_elem? xs i ≡ some a)
  present [] i h = absurd (omega arith)
  present (x ∷ xs) zero h = (x, refl)
  present (x ∷ xs) (suc i) h = present xs i (omega arith)

  all_cons : (P : A → Type 0) (y : A) (ys : List A) → P y → All P ys → All P (y ∷ ys)
  all_cons P y ys a h zero d b = a
  all_cons P y ys a h (suc k) d b = h k d (omega arith)

  -- what holds of each, holds of the last and of the others
  pub all_snoc : (P : A → Type 0) (xs : List A) (x : A) → All P (xs ++ x ∷ []) → P x × All P xs
  all_snoc P [] x h = (h 0 x (omega arith), λ k d b. absurd (omega arith))
  all_snoc P (y ∷ ys) x h = let t = all_snoc P ys x (λ k d b. h (suc k) d (omega arith)) in (t.0, all_cons P y ys (h 0 y (omega arith)) t.1)

  pub head_of : (xs : List A) → 0 < length xs → A
  head_of [] h = absurd (omega arith)
  head_of (x ∷ xs) h = x

-- a place that is not filled, also past the end
pub unset_here : (l : List Bool) (i : ℕ) → get_or (set l i false) i false ≡ false
unset_here [] i = refl
unset_here (x ∷ xs) zero = refl
unset_here (x ∷ xs) (suc i) = unset_here xs i

module _ {T : Type 0} where
  pub length-valued : (xs : List T) → length (valued xs) ≡ length xs
  length-valued [] = refl
  length-valued (x ∷ xs) = ap suc (length-valued xs)

  pub values-valued : (xs : List T) → values_in (valued xs) ≡ xs
  values-valued [] = refl
  values-valued (x ∷ xs) = ap (λ l. x ∷ l) (values-valued xs)

  pub values-room : (xs : List T) (last : Cell T) → IsRoom last → values_in (valued xs ++ last ∷ []) ≡ xs
  values-room [] (Value x) h = absurd h
  values-room [] Empty h = absurd h
  values-room [] (Room r) h = refl
  values-room (x ∷ xs) last h = ap (λ l. x ∷ l) (values-room xs last h)

  pub at_valued : (xs : List T) (p : ℕ) (x : T) → get_elem? xs p ≡ some x → get_elem? (valued xs) p ≡ some (Value x)
  at_valued [] p x e = absurd (some-ne-none x (sym e))
  at_valued (y ∷ ys) zero x e = ap (λ (k : T). some (Value k)) (some-injective y x e)
  at_valued (y ∷ ys) (suc p) x e = at_valued ys p x e

  AllValues : List (Cell T) → Type 0
  AllValues [] = Unit {0}
  AllValues (c ∷ cs) = IsValue c × AllValues cs

  all_valued : (xs : List T) → AllValues (valued xs)
  unfolding AllValues
  all_valued [] = tt
  all_valued (x ∷ xs) = (tt, all_valued xs)

  all_parts : (cs : List (Cell T)) (c : Cell T) → AllValues (cs ++ c ∷ []) → AllValues cs × IsValue c
  unfolding AllValues
  all_parts [] c h = (tt, h.0)
  all_parts (x ∷ cs) c h = let t = all_parts cs c h.1 in ((h.0, t.0), t.1)

  all_back : (cs : List (Cell T)) → AllValues cs → cs ≡ valued (values_in cs)
  unfolding AllValues
  all_back [] h = refl
  all_back (Value x ∷ cs) h = ap (λ l. Value x ∷ l) (all_back cs h.1)
  all_back (Empty ∷ cs) h = absurd h.0
  all_back (Room r ∷ cs) h = absurd h.0

  -- of cells that have values, the last one has one, and so have the others
  pub valued_snoc : (l cs : List (Cell T)) (c : Cell T) → l ≡ valued (values_in l) → l ≡ cs ++ c ∷ [] → (cs ≡ valued (values_in cs)) × IsValue c
  valued_snoc l cs c e s = let t = all_parts cs c (subst AllValues (sym e ∙ s) (all_valued (values_in l))) in (all_back cs t.0, t.1)

  pub values-snoc : (cs : List (Cell T)) (x : T) → values_in (cs ++ Value x ∷ []) ≡ values_in cs ++ x ∷ []
  values-snoc [] x = refl
  values-snoc (Value y ∷ cs) x = ap (λ l. y ∷ l) (values-snoc cs x)
  values-snoc (Empty ∷ cs) x = values-snoc cs x
  values-snoc (Room r ∷ cs) x = values-snoc cs x

  -- the values in such cells are those that were put there
  pub values_back : (cells : List (Cell T)) (values : List T) → AreCells cells values → values_in cells ≡ values
  values_back cells values a = ap values_in a.same ∙ values-room values (Room a.room) tt

  pub refilled : (cells : List (Cell T)) (values : List T) → AreCells cells values → AreCells cells (values_in cells)
  refilled cells values a = subst (AreCells cells) (sym (values_back cells values a)) a

  pub length_cells : (cells : List (Cell T)) (values : List T) (places : ℕ) → AreCells cells values → length values ≡ places → length cells ≡ places + 1
  length_cells cells values places a e = ap length a.same ∙ length-append (valued values) (Room a.room ∷ []) ∙ (let l = length-valued values in omega arith)

abbrev get_at : List ℕ → ℕ → ℕ
get_at l k = get_or l k 0

module _ {T K : Type 0} (g : Ghosts T K) (key : K) where
  -- the cells and words that `new` makes meet the rule
  pub opened : (values : List T) (cells : List (Cell T)) (ws counts : List ℕ) (places : ℕ) → AreCells cells values → ws ≡ replicate (places + 1) 0 ++ counts → places ≡ places_in (g.shape key) → length counts ≡ words_in (g.shape key)
      → AreHome g key (λ c. slice_index counts c) values → Kept g key (opening ws cells (rooted (g.shape key)))
  opened values cells ws counts places a made is_places words home =
      let Z : List ℕ = replicate (places + 1) 0 in
      let zeros : length Z ≡ places + 1 = length-replicate (places + 1) 0 in
      let lv = length-valued values in let hp = home.places in
      let word : (c : ℕ) → count_word (g.shape key) ws c ≡ slice_index counts c = λ c.
      let index : places_in (g.shape key) + 1 + c ≡ length Z + c = omega (arith, zeros, is_places) in
      ap (λ l. get_or l (places_in (g.shape key) + 1 + c) 0) made ∙ ap (get_at (Z ++ counts)) index ∙ get_or-append-add Z counts c 0 in
      let counted : (λ c. slice_index counts c) ≡ count_word (g.shape key) ws = (let back : count_word (g.shape key) ws ≡ (λ c. slice_index counts c) = λ i c. word c i in sym back) in
      opens g key ws cells
      (ap length made ∙ length-append Z counts ∙ omega (arith, zeros, is_places, words))
      (length_cells cells values (places_in (g.shape key)) a hp)
      (λ p within. ap (λ l. get_or l (p + 1) 0) made ∙ get_or_append_left Z counts 0 (p + 1) (omega (arith, zeros, is_places, within)) ∙ get_or-replicate (places + 1) (p + 1) 0 0 (omega (arith, is_places, within)))
      (record {
        room = a.room;
        stands = at_map some cells (places_in (g.shape key)) (Room a.room) (ap (λ l. get_elem? l (places_in (g.shape key))) a.same ∙ at_last (valued values) (Room a.room) (places_in (g.shape key)) (lv ∙ hp));
        bare = a.bare;
        wide = (let w = a.wide in omega arith);
      })
      (subst (g.keeps key) counted home.kept)
      (λ p within. let x = present values p (omega arith) in
      (x.0, ap (λ l. get_elem? l p) a.same ∙ at_longer (valued values) (Room a.room ∷ []) p (Value x.0) (at_valued values p x.0 x.1), home.sound p x.0 x.1, subst (λ f. g.owes key f p x.0) counted (home.owed p x.0 x.1)))

  module _ (id : ℕ) (v : View) (ws : List ℕ) (xs : List (Cell T)) (f : Final (Seen (Kept g key) id v) ws xs) (root : v.is_root ≡ true) (back : length v.back ≡ v.made) (places : ℕ) (len : length xs ≡ places + 1) where
    pub same_places : places ≡ places_in (g.shape key)
    same_places = let d = f.1.0.deep in let e = f.3 in omega arith

    here : (p : ℕ) → p < places → IsHome g key (count_word (g.shape key) f.0.words) f.0.views f.0.homes p
    here p within = closes g key f.0 f.1.0 id v f.1.1 root back p (let s = same_places in omega arith)

    -- at the end all slots are full
    pub gathered : AreFull xs places
    gathered = let r = f.1.0.room in record {
      valued = λ p within. let h = here p within in (h.value, f.4 p (Value h.value) h.stands);
      room = r.room;
      stands = ap (get_elem? xs) same_places ∙ f.4 (places_in (g.shape key)) (Room r.room) r.stands;
      bare = r.bare;
      wide = (let w = r.wide in let s = same_places in omega arith);
    }

    standing : (values : List T) → StandIn xs values → length values ≡ places → (p : ℕ) (x : T) → get_elem? values p ≡ some x → (g.sound key p x) × (g.owes key (count_word (g.shape key) f.0.words) p x)
    standing values stand count p x e = let b = below values p x e in let h = here p (omega arith) in
        let same : h.value ≡ x = same_value h.value x (some-injective (Value h.value) (Value x) (sym (f.4 p (Value h.value) h.stands) ∙ stand p x e)) in
        (subst (g.sound key p) same h.sound, subst (g.owes key (count_word (g.shape key) f.0.words) p) same h.owed)

    -- and the values in them are true to the counts at the end
    pub gathered_home : (values : List T) → StandIn xs values → length values ≡ places → (counts : ℕ → ℕ) × AreHome g key counts values
    gathered_home values stand count = (
      count_word (g.shape key) f.0.words,
      record {
        places = count ∙ same_places;
        sound = λ p x e. (standing values stand count p x e).0;
        owed = λ p x e. (standing values stand count p x e).1;
        kept = f.1.0.kept;
      },
    )
