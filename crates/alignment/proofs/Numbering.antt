-- From a forest to timelines: the numbers of the leasts of groups, and what they say of all entities.
use Rattle.std.proofs.Common.{◌≡◌, subst, ℕ, zero, suc, ◌+◌, ◌<◌, ◌≤◌, max, get_or, List, [], ◌∷◌, ◌++◌, length, length-append, slice_index, refl, sym, ◌∙◌, ap, arith, ⊎_elim}
use Rattle.std.proofs.lemmas.Bool.{cases_eq}
use Rattle.std.proofs.lemmas.List.{get_or_append_left, get_or_default, get_or_push}
use Rattle.event_order.specs.Pending.{Among}
use Rattle.ssf_model.specs.declared.plan.Mapping.{Mapping}
use Rattle.ssf_model.specs.declared.plan.Plan.{Plan}
use Rattle.alignment.specs.declared.labels.Mode.{Mode}
use Rattle.alignment.specs.Alignment.{Ties, AreJoined, IsAlignment, label_of, ties_of, timeline_count}
use Rattle.std.specs.List.{range_with_len}
use Rattle.std.proofs.lemmas.List.FromFn.{length-range_with_len}
use Rattle.ssf_model.specs.Run.{IsWired, IsMappingOf}
use Rattle.ssf_model.proofs.Lists.{each_among, within_of}
use Rattle.alignment.specs.Forests.{IsForest, IsAlike, HasChains, IsNumbered, AreLabelsTied, AreEndsTied}
use Rattle.alignment.proofs.Growing.{alone_chains}
use Rattle.alignment.proofs.Joining.{joined_self, joined_then, joined_turned, joined_alike}

-- ---- how many timelines there are

pub line_below : (lines : List ℕ) (e : ℕ) → e < length lines → slice_index lines e < timeline_count lines
line_below [] e h = absurd (omega arith)
line_below (i ∷ is) zero h = omega arith
line_below (i ∷ is) (suc e) h = let rest = line_below is e (omega arith) in omega arith

pub count_push : (lines : List ℕ) (i : ℕ) → timeline_count (lines ++ i ∷ []) ≡ max (timeline_count lines) (i + 1)
count_push [] i = omega arith
count_push (j ∷ js) i = let rest = count_push js i in omega arith

-- ---- one more entity

-- the timelines of the first entities, and how many there are
pub record IsCounted (ps lines : List ℕ) (count : ℕ) : Type 0 where
  pub numbered : IsNumbered ps lines
  pub is : count ≡ timeline_count lines
  pub least : count ≤ length lines
  pub reached : (i : ℕ) → i < count → (d : ℕ) × (d < length lines) × (slice_index lines d ≡ i)

pub counted_none : (ps : List ℕ) → IsCounted ps [] 0
counted_none ps = record {
  numbered = record {
    alike = λ e h. absurd (omega arith);
    apart = λ a b i j p q s. absurd (omega arith);
    numbered = λ e i h k. absurd (omega arith);
  };
  is = refl;
  least = omega arith;
  reached = λ i h. absurd (omega arith);
}

at_old : (lines : List ℕ) (i e : ℕ) → e < length lines → slice_index (lines ++ i ∷ []) e ≡ slice_index lines e
at_old lines i e h = get_or_append_left lines (i ∷ []) 0 e h

at_new : (lines : List ℕ) (i : ℕ) → slice_index (lines ++ i ∷ []) (length lines) ≡ i
at_new lines i = get_or_push lines i 0 (length lines) refl

-- what holds of each entity before the new one and of the new one holds of all
each_more : (lines : List ℕ) (i : ℕ) (P : ℕ → Type 0) → ((e : ℕ) → e < length lines → P e) → P (length lines) → (e : ℕ) → e < length (lines ++ i ∷ []) → P e
each_more lines i P before here e h =
    let count = length-append lines (i ∷ []) in
    ⊎_elim (λ (last : e ≡ length lines). subst P (sym last) here)
    (λ (earlier : e ≡ length lines → ⊥). before e (omega arith))
    (cases_eq e (length lines))

old_alike : (ps lines : List ℕ) (i : ℕ) → IsForest ps → length lines < length ps → IsNumbered ps lines → (e : ℕ) → e < length lines → slice_index (lines ++ i ∷ []) (slice_index ps e) ≡ slice_index (lines ++ i ∷ []) e
old_alike ps lines i forest within numbered e h =
    let low = forest e (omega arith) in
    at_old lines i (slice_index ps e) (omega arith) ∙ (numbered.alike e h ∙ sym (at_old lines i e h))

old_numbered : (ps lines : List ℕ) (i : ℕ) → IsNumbered ps lines → (e : ℕ) → e < length lines → (k : ℕ) → k < slice_index (lines ++ i ∷ []) e → (d : ℕ) × (d < e) × (slice_index (lines ++ i ∷ []) d ≡ k)
old_numbered ps lines i numbered e h k below =
    let at = at_old lines i e h in
    let found = numbered.numbered e k h (omega arith) in
    (found.0, found.1, at_old lines i found.0 (omega arith) ∙ found.2)

-- an entity at the top of its group gets a new timeline
new_apart : (ps lines : List ℕ) (count : ℕ) → IsCounted ps lines count → (a : ℕ) → a < length lines → slice_index (lines ++ count ∷ []) a ≡ count → ⊥
new_apart ps lines count counted a h same = let at = at_old lines count a h in let below = line_below lines a h in let is = counted.is in omega arith

tops_apart : (ps lines : List ℕ) (count : ℕ) → IsCounted ps lines count → (a : ℕ) → a < length (lines ++ count ∷ []) → (b : ℕ) → b < length (lines ++ count ∷ [])
    → slice_index ps a ≡ a → slice_index ps b ≡ b → slice_index (lines ++ count ∷ []) a ≡ slice_index (lines ++ count ∷ []) b → a ≡ b
tops_apart ps lines count counted =
    let new = lines ++ count ∷ [] in
    let at = at_new lines count in
    each_more lines count (λ a. (b : ℕ) → b < length new → slice_index ps a ≡ a → slice_index ps b ≡ b → slice_index new a ≡ slice_index new b → a ≡ b)
    (λ a h. each_more lines count (λ b. slice_index ps a ≡ a → slice_index ps b ≡ b → slice_index new a ≡ slice_index new b → a ≡ b)
    (λ b k p q same. counted.numbered.apart a b h k p q (sym (at_old lines count a h) ∙ (same ∙ at_old lines count b k)))
    (λ p q same. absurd (new_apart ps lines count counted a h (same ∙ at))))
    (each_more lines count (λ b. slice_index ps (length lines) ≡ length lines → slice_index ps b ≡ b → slice_index new (length lines) ≡ slice_index new b → length lines ≡ b)
    (λ b k p q same. absurd (new_apart ps lines count counted b k (sym same ∙ at)))
    (λ p q same. refl))

pub counted_top : (ps lines : List ℕ) (count : ℕ) → IsForest ps → length lines < length ps → slice_index ps (length lines) ≡ length lines → IsCounted ps lines count → IsCounted ps (lines ++ count ∷ []) (count + 1)
counted_top ps lines count forest within top counted =
    let new = lines ++ count ∷ [] in
    let at = at_new lines count in
    let size = length-append lines (count ∷ []) in
    record {
      numbered = record {
        alike = each_more lines count (λ e. slice_index new (slice_index ps e) ≡ slice_index new e) (old_alike ps lines count forest within counted.numbered) (ap (λ x. slice_index new x) top);
        apart = λ a b h k. tops_apart ps lines count counted a h b k;
        numbered = λ e k h. each_more lines count (λ x. (i : ℕ) → i < slice_index new x → (d : ℕ) × (d < x) × (slice_index new d ≡ i)) (old_numbered ps lines count counted.numbered)
            (λ i below. let found = counted.reached i (omega arith) in (found.0, found.1, at_old lines count found.0 found.1 ∙ found.2)) e h k;
      };
      is = let pushed = count_push lines count in let is = counted.is in omega arith;
      least = let low = counted.least in omega arith;
      reached = λ i below. ⊎_elim (λ (last : i ≡ count). (length lines, omega arith, at ∙ sym last))
          (λ (earlier : i ≡ count → ⊥). let found = counted.reached i (omega arith) in (found.0, omega arith, at_old lines count found.0 found.1 ∙ found.2))
          (cases_eq i count);
    }

-- any other entity has the timeline of its parent
other_apart : (ps lines : List ℕ) (i : ℕ) → IsNumbered ps lines → (slice_index ps (length lines) ≡ length lines → ⊥) → (a : ℕ) → a < length (lines ++ i ∷ []) → (b : ℕ) → b < length (lines ++ i ∷ [])
    → slice_index ps a ≡ a → slice_index ps b ≡ b → slice_index (lines ++ i ∷ []) a ≡ slice_index (lines ++ i ∷ []) b → a ≡ b
other_apart ps lines i numbered lower =
    let new = lines ++ i ∷ [] in
    each_more lines i (λ a. (b : ℕ) → b < length new → slice_index ps a ≡ a → slice_index ps b ≡ b → slice_index new a ≡ slice_index new b → a ≡ b)
    (λ a h. each_more lines i (λ b. slice_index ps a ≡ a → slice_index ps b ≡ b → slice_index new a ≡ slice_index new b → a ≡ b)
    (λ b k p q same. numbered.apart a b h k p q (sym (at_old lines i a h) ∙ (same ∙ at_old lines i b k)))
    (λ p q same. absurd (lower q)))
    (λ b k p q same. absurd (lower p))

pub counted_other : (ps lines : List ℕ) (count p : ℕ) → IsForest ps → length lines < length ps → slice_index ps (length lines) ≡ p → (p ≡ length lines → ⊥) → IsCounted ps lines count → IsCounted ps (lines ++ slice_index lines p ∷ []) count
counted_other ps lines count p forest within is lower counted =
    let i = slice_index lines p in
    let new = lines ++ i ∷ [] in
    let at : slice_index new (length lines) ≡ i = at_new lines i in
    let size = length-append lines (i ∷ []) in
    let low = forest (length lines) within in
    let below : p < length lines = omega arith in
    let here : slice_index new p ≡ i = at_old lines i p below in
    record {
      numbered = record {
        alike = each_more lines i (λ e. slice_index new (slice_index ps e) ≡ slice_index new e) (old_alike ps lines i forest within counted.numbered) (ap (λ x. slice_index new x) is ∙ (here ∙ sym at));
        apart = λ a b h k. other_apart ps lines i counted.numbered (λ top. lower (sym is ∙ top)) a h b k;
        numbered = λ e k h. each_more lines i (λ x. (j : ℕ) → j < slice_index new x → (d : ℕ) × (d < x) × (slice_index new d ≡ j)) (old_numbered ps lines i counted.numbered)
            (λ j under. let found = counted.numbered.numbered p j below (omega arith) in (found.0, omega arith, at_old lines i found.0 (omega arith) ∙ found.2)) e h k;
      };
      is = let pushed = count_push lines i in let of = counted.is in let under = line_below lines p below in omega arith;
      least = let fewer = counted.least in omega arith;
      reached = λ j under. let found = counted.reached j under in (found.0, omega arith, at_old lines i found.0 found.1 ∙ found.2);
    }

-- the same as the code has it: `items` is the list behind a forest, and `parents` what a loop goes over
pub top_step : (ps items parents lines lines' : List ℕ) (count count' e : ℕ) → items ≡ ps → parents ≡ items → IsForest items → IsCounted ps lines count → length lines ≡ e → e < length parents → slice_index parents e ≡ e
    → lines' ≡ lines ++ count ∷ [] → count' ≡ count + 1 → IsCounted ps lines' count' × (length lines' ≡ e + 1)
top_step ps items parents lines lines' count count' e same read forest counted size within top pushed more =
    let all : parents ≡ ps = read ∙ same in
    let F : List ℕ → Type 0 = λ xs. IsForest xs in
    let W : List ℕ → Type 0 = λ xs. length lines < length xs in
    let T : List ℕ → Type 0 = λ xs. slice_index xs (length lines) ≡ length lines in
    let E : ℕ → Type 0 = λ n. slice_index parents n ≡ n in
    let forest' : IsForest ps = subst F same forest in
    let within' : length lines < length parents = omega arith in
    let next = counted_top ps lines count forest' (subst W all within') (subst T all (subst E (sym size) top)) counted in
    let long = length-append lines (count ∷ []) in
    let L : List ℕ → Type 0 = λ ls. IsCounted ps ls count' × (length ls ≡ e + 1) in
    subst L (sym pushed) (subst (λ n. IsCounted ps (lines ++ count ∷ []) n) (sym more) next, omega arith)

pub other_step : (ps items parents lines lines' : List ℕ) (count count' e i : ℕ) → items ≡ ps → parents ≡ items → IsForest items → IsCounted ps lines count → length lines ≡ e → e < length parents → (slice_index parents e ≡ e → ⊥)
    → i ≡ get_or lines (slice_index parents e) i → lines' ≡ lines ++ i ∷ [] → count' ≡ count → IsCounted ps lines' count' × (length lines' ≡ e + 1)
other_step ps items parents lines lines' count count' e i same read forest counted size within lower line pushed kept =
    let all : parents ≡ ps = read ∙ same in
    let F : List ℕ → Type 0 = λ xs. IsForest xs in
    let W : List ℕ → Type 0 = λ xs. length lines < length xs in
    let A : ℕ → Type 0 = λ n. slice_index ps n ≡ slice_index parents e in
    let forest' : IsForest ps = subst F same forest in
    let here : slice_index ps e ≡ slice_index parents e = ap (λ xs. slice_index xs e) (sym all) in
    let within' : length lines < length parents = omega arith in
    let inside : length lines < length ps = subst W all within' in
    let low = forest' (length lines) inside in
    let at : slice_index ps (length lines) ≡ slice_index parents e = subst A (sym size) here in
    let ne : slice_index parents e ≡ length lines → ⊥ = λ is. lower (is ∙ size) in
    let next = counted_other ps lines count (slice_index parents e) forest' inside at ne counted in
    let below : slice_index parents e < length lines = omega arith in
    let its : slice_index lines (slice_index parents e) ≡ i = get_or_default lines (slice_index parents e) 0 i below ∙ sym line in
    let long = length-append lines (i ∷ []) in
    let L : List ℕ → Type 0 = λ ls. IsCounted ps ls count' × (length ls ≡ e + 1) in
    subst L (sym pushed) (subst (λ n. IsCounted ps (lines ++ i ∷ []) n) (sym kept) (subst (λ x. IsCounted ps (lines ++ x ∷ []) count) its next), omega arith)

-- ---- what the numbers say of all entities

-- the top of the group of an entity
pub record IsTopOf (t : Ties) (ps lines : List ℕ) (e top : ℕ) : Type 0 where
  pub low : top ≤ e
  pub is : slice_index ps top ≡ top
  pub joined : AreJoined t e top
  pub line : slice_index lines top ≡ slice_index lines e

top_of : (t : Ties) (ps lines : List ℕ) → IsForest ps → length lines ≡ length ps → IsNumbered ps lines → HasChains t ps → (fuel e : ℕ) → e < fuel → e < length ps → (top : ℕ) × IsTopOf t ps lines e top
top_of t ps lines forest size numbered chains zero e h within = absurd (omega arith)
top_of t ps lines forest size numbered chains (suc fuel) e h within =
    let low = forest e within in
    ⊎_elim (λ (top : slice_index ps e ≡ e). (e, record { low = omega arith; is = top; joined = joined_self t e; line = refl }))
    (λ (other : slice_index ps e ≡ e → ⊥).
    let above = top_of t ps lines forest size numbered chains fuel (slice_index ps e) (omega arith) (omega arith) in (
      above.0,
      record {
        low = let lower = above.1.low in omega arith;
        is = above.1.is;
        joined = joined_then t e (slice_index ps e) above.0 (chains e within) above.1.joined;
        line = above.1.line ∙ numbered.alike e (omega arith);
      },
    ))
    (cases_eq (slice_index ps e) e)

joined_of : (t : Ties) (ps lines : List ℕ) → IsForest ps → length lines ≡ length ps → IsNumbered ps lines → HasChains t ps → (a b : ℕ) → a < length lines → b < length lines → slice_index lines a ≡ slice_index lines b → AreJoined t a b
joined_of t ps lines forest size numbered chains a b h k same =
    let x = top_of t ps lines forest size numbered chains (suc a) a (omega arith) (omega arith) in
    let y = top_of t ps lines forest size numbered chains (suc b) b (omega arith) (omega arith) in
    let x_low = x.1.low in
    let y_low = y.1.low in
    let one : x.0 ≡ y.0 = numbered.apart x.0 y.0 (omega arith) (omega arith) x.1.is y.1.is (x.1.line ∙ (same ∙ sym y.1.line)) in
    joined_then t a x.0 b x.1.joined (subst (λ z. AreJoined t z b) (sym one) (joined_turned t b y.0 y.1.joined))

pub aligned : {B S P : Type 0} (plan : Plan B S P) (nets : List ℕ) (mode : Mode) (ps lines : List ℕ) → IsForest ps → IsNumbered ps lines → length lines ≡ length ps → length ps ≡ length plan.entities → HasChains (ties_of plan nets mode) ps
    → ((f : ℕ → ℕ) → IsAlike f ps → ((a b : ℕ) → a < length plan.entities → b < length plan.entities → label_of mode nets (length plan.entities) a ≡ label_of mode nets (length plan.entities) b → f a ≡ f b) × ((m : Mapping) → Among m plan.mappings → m.delay ≡ 0 → f m.from ≡ f m.to))
    → IsAlignment plan nets mode lines
aligned plan nets mode ps lines forest numbered size count chains tied =
    let same = tied (λ e. slice_index lines e) (λ e h. numbered.alike e (omega arith)) in
    record {
      entities = size ∙ count;
      shared = λ a b h k. (joined_of (ties_of plan nets mode) ps lines forest size numbered chains a b h k, joined_alike (ties_of plan nets mode) (λ e. slice_index lines e) same.0 same.1 a b);
      numbered = numbered.numbered;
    }

-- ---- a plan

pub ends_within : {B S P : Type 0} (plan : Plan B S P) → IsWired plan → (m : Mapping) → Among m plan.mappings → (m.from < length plan.entities) × (m.to < length plan.entities)
ends_within plan wired m among =
    let is = each_among (IsMappingOf plan.entities) plan.mappings m wired.mappings among in
    (within_of plan.entities m.from is.from.0 is.from.1, within_of plan.entities m.to is.to.0 is.to.1)

pub ends_within_all : {B S P : Type 0} (plan : Plan B S P) (ms : List Mapping) (n : ℕ) → IsWired plan → ms ≡ plan.mappings → n ≡ length plan.entities → (m : Mapping) → Among m ms → (m.from < n) × (m.to < n)
ends_within_all plan ms n wired same count m among =
    let A : List Mapping → Type 0 = λ xs. Among m xs in
    let ends = ends_within plan wired m (subst A same among) in
    let from = ends.0 in
    let to = ends.1 in
    (omega arith, omega arith)

pub aligned_in : {B S P : Type 0} (plan : Plan B S P) (nets : List ℕ) (mode : Mode) (first labelled joined : List ℕ) (ms : List Mapping) (n : ℕ) (lines : List ℕ) → n ≡ length plan.entities → length nets ≡ length plan.entities → ms ≡ plan.mappings
    → first ≡ range_with_len 0 n → AreLabelsTied first labelled (label_of mode nets (length nets)) → AreEndsTied labelled joined ms → IsForest joined → IsNumbered joined lines → length lines ≡ length joined → IsAlignment plan nets mode lines
aligned_in plan nets mode first labelled joined ms n lines count size same made labels ends forest numbered full =
    let t = ties_of plan nets mode in
    let labels' = subst (λ k. AreLabelsTied first labelled (label_of mode nets k)) size labels in
    let ends' = subst (λ xs. AreEndsTied labelled joined xs) same ends in
    let long : length first ≡ n = ap length made ∙ length-range_with_len 0 n in
    let labels_count = labels'.count in
    let ends_count = ends'.count in
    let chains = subst (λ xs. HasChains t xs) (sym made) (alone_chains t n) in
    let labelled_chains = labels'.chains t chains (omega arith) (λ e. refl) in
    aligned plan nets mode joined lines forest numbered full (omega arith) (ends'.chains t labelled_chains (omega arith) (λ m among. among))
    (λ f alike.
    let later = ends'.alike f alike in
    let earlier = labels'.alike f later.0 in
    (λ a b h k. earlier.1 a b (omega arith) (omega arith), later.1))
