-- Enabled steps, listed one after the other.
use Rattle.std.proofs.Common.{ℕ, ◌≡◌, ◌+◌, ◌<◌, Bool, refl, sym, ap, ◌∙◌, arith, List, [], ◌∷◌, ◌++◌, map, take, length, get_or, Some, slice_get}
use Rattle.std.specs.List.{filter, flat_map, range_with_len, enumerate_from}
use Rattle.std.proofs.lemmas.List.{append_assoc, take_more, take_all}
use Rattle.std.proofs.lemmas.List.Elements.{filter-append}
use Rattle.std.proofs.lemmas.List.Concat.{flat_map-append}
use Rattle.std.proofs.lemmas.List.FromFn.{map-range_with_len_more, length-enumerate_from, get_or-enumerate_from}
use Rattle.std.proofs.lemmas.Option.{slice_get_within, get_or_from_slice_get}
use Rattle.timeline.specs.View.{TimelineOf}
use Rattle.sync_steps.specs.declared.steps.Step.{Step}
use Rattle.sync_steps.specs.declared.steps.Step.TheVariants.{Execute, Take, Enter, Report, Cross as CrossStep}
use Rattle.core_rules.specs.Cores.{CoreView}
use Rattle.core_rules.specs.Stepping.{is_enabled}
use Rattle.sync_core.specs.Steps.{posts_of, numbers_in, enabled_steps}

-- what passes the test of some more steps is put behind that of those before
pub listed_more : (p : Step → Bool) (before now next some more all : List Step) → now ≡ before ++ filter p some → next ≡ now ++ filter p more → all ≡ some ++ more → next ≡ before ++ filter p all
listed_more p before now next some more all is then split =
    then ∙ (ap (λ l. l ++ filter p more) is ∙ (append_assoc before (filter p some) (filter p more)
    ∙ ap (λ l. before ++ l) (sym (filter-append p some more) ∙ ap (filter p) (sym split))))

pub number_more : (p : Step → Bool) (kind : ℕ → Step) (n : ℕ) (before now next : List Step) → now ≡ before ++ filter p (map kind (range_with_len 0 n)) → next ≡ now ++ filter p (kind n ∷ [])
    → next ≡ before ++ filter p (map kind (range_with_len 0 (n + 1)))
number_more p kind n before now next is then =
    listed_more p before now next (map kind (range_with_len 0 n)) (kind n ∷ []) (map kind (range_with_len 0 (n + 1))) is then (map-range_with_len_more kind 0 n n (omega arith))

module _ {A : Type 0} where
  next_taken : (xs : List A) (i : ℕ) (x : A) → i < length xs → x ≡ get_or xs i x → take (i + 1) xs ≡ take i xs ++ x ∷ []
  next_taken xs i x h e = take_more xs i x h ∙ ap (λ z. take i xs ++ z ∷ []) (sym e)

module _ {A X : Type 0} where
  map_append : (f : A → X) (xs ys : List A) → map f (xs ++ ys) ≡ map f xs ++ map f ys
  map_append f [] ys = refl
  map_append f (x ∷ xs) ys = ap (λ zs. f x ∷ zs) (map_append f xs ys)

  pub mapped_more : (f : A → X) (xs : List A) (i : ℕ) (x : A) → i < length xs → x ≡ get_or xs i x → map f (take (i + 1) xs) ≡ map f (take i xs) ++ f x ∷ []
  mapped_more f xs i x h e = ap (map f) (next_taken xs i x h e) ∙ map_append f (take i xs) (x ∷ [])

module _ {B S P : Type 0} where
  numbered_at : (ts : List (TimelineOf B S P)) (n : ℕ) (t : TimelineOf B S P) → slice_get ts n ≡ Some t → (n, t) ≡ get_or (enumerate_from 0 ts) n (n, t)
  numbered_at ts n t at =
      let within = slice_get_within ts n t at in
      let read = get_or-enumerate_from 0 ts n (n, t) within in
      let same : 0 + n ≡ n = omega arith in
      sym (read ∙ (ap (λ k. (k, get_or ts n t)) same ∙ ap (λ u. (n, u)) (get_or_from_slice_get ts n t t at)))

  pub posts_more : (ts : List (TimelineOf B S P)) (n : ℕ) (t : TimelineOf B S P) → slice_get ts n ≡ Some t
      → flat_map posts_of (take (n + 1) (enumerate_from 0 ts)) ≡ flat_map posts_of (take n (enumerate_from 0 ts)) ++ posts_of (n, t)
  posts_more ts n t at =
      let within = slice_get_within ts n t at in
      let size = length-enumerate_from 0 ts in
      let one : posts_of (n, t) ++ [] ≡ posts_of (n, t) = append_none (posts_of (n, t)) in
      ap (flat_map posts_of) (next_taken (enumerate_from 0 ts) n (n, t) (omega (arith, within, size)) (numbered_at ts n t at))
      ∙ (flat_map-append posts_of (take n (enumerate_from 0 ts)) ((n, t) ∷ []) ∙ ap (λ l. flat_map posts_of (take n (enumerate_from 0 ts)) ++ l) one)
    where
      append_none : (xs : List Step) → xs ++ [] ≡ xs
      append_none [] = refl
      append_none (x ∷ xs) = ap (λ l. x ∷ l) (append_none xs)

  pub all_posts : (ts : List (TimelineOf B S P)) (n : ℕ) → length ts ≡ n → flat_map posts_of (take n (enumerate_from 0 ts)) ≡ flat_map posts_of (enumerate_from 0 ts)
  all_posts ts n h = ap (flat_map posts_of) (take_all n (enumerate_from 0 ts) (omega (arith, length-enumerate_from 0 ts)))

  -- the lists of all kinds, one behind the other
  pub all_listed : (core : CoreView B S P) (z a b c d e f : List Step) → z ≡ []
      → a ≡ z ++ filter (is_enabled core) (map Execute (numbers_in core))
      → b ≡ a ++ filter (is_enabled core) (flat_map posts_of (enumerate_from 0 core.timelines))
      → c ≡ b ++ filter (is_enabled core) (map Take (numbers_in core))
      → d ≡ c ++ filter (is_enabled core) (map Enter (numbers_in core))
      → e ≡ d ++ filter (is_enabled core) (map Report (numbers_in core))
      → f ≡ e ++ filter (is_enabled core) (CrossStep ∷ [])
      → f ≡ enabled_steps core
  all_listed core z a b c d e f none ha hb hc hd he hf =
      let p = is_enabled core in
      let xs = map Execute (numbers_in core) in
      let ps = flat_map posts_of (enumerate_from 0 core.timelines) in
      let ts = map Take (numbers_in core) in
      let es = map Enter (numbers_in core) in
      let rs = map Report (numbers_in core) in
      let bb = listed_more p [] a b xs ps (xs ++ ps) (ha ∙ ap (λ l. l ++ filter p xs) none) hb refl in
      let cc_ = listed_more p [] b c (xs ++ ps) ts ((xs ++ ps) ++ ts) bb hc refl in
      let dd = listed_more p [] c d ((xs ++ ps) ++ ts) es (((xs ++ ps) ++ ts) ++ es) cc_ hd refl in
      let ee = listed_more p [] d e (((xs ++ ps) ++ ts) ++ es) rs ((((xs ++ ps) ++ ts) ++ es) ++ rs) dd he refl in
      let ff = listed_more p [] e f ((((xs ++ ps) ++ ts) ++ es) ++ rs) (CrossStep ∷ []) (((((xs ++ ps) ++ ts) ++ es) ++ rs) ++ CrossStep ∷ []) ee hf refl in
      ff ∙ ap (filter p) (joined xs ps ts es rs (CrossStep ∷ []))
    where
      joined : (xs ps ts es rs cs : List Step) → ((((xs ++ ps) ++ ts) ++ es) ++ rs) ++ cs ≡ xs ++ ps ++ ts ++ es ++ rs ++ cs
      joined xs ps ts es rs cs = simp append_assoc
