-- What follows from an alignment, and from the classes of mappings.
use Rattle.std.proofs.Common.{◌≡◌, ℕ, zero, suc, ◌+◌, ◌<◌, ◌≤◌, ◌⊎◌, min, true, false, not, nat_eq, List, [], ◌∷◌, length, map, slice_index, Option, Some, None, refl, sym, ◌∙◌, ap, inl, inr, arith, ⊎_elim}
use Rattle.std.specs.List.{filter, fold}
use Rattle.std.proofs.lemmas.Bool.{cases_eq, cases_lt, cases_order, eq-eqb}
use Rattle.event_order.specs.Pending.{Among}
use Rattle.event_order.proofs.Pending.{among_filter, filter_among}
use Rattle.ssf_model.specs.declared.plan.Mapping.{Mapping}
use Rattle.ssf_model.specs.declared.plan.Plan.{Plan}
use Rattle.ssf_model.specs.Reaction.{Each}
use Rattle.ssf_model.specs.Run.{IsWired}
use Rattle.alignment.specs.declared.labels.Mode.{Mode}
use Rattle.alignment.specs.Alignment.{IsAlignment, line_of, ties_of, timeline_count}
use Rattle.ssf_model.specs.Truth.{lesser}
use Rattle.alignment.specs.Classes.{is_cross, is_windowed, least_windowed}
use Rattle.alignment.proofs.Joining.{joined_mapping}
use Rattle.alignment.proofs.Numbering.{line_below, ends_within}

-- ---- one alignment

-- two timelines' numbers of an entity, where those of all lesser entities are the same
module _ {B S P : Type 0} (plan : Plan B S P) (nets : List ℕ) (mode : Mode) where
  same_joined : (xs ys : List ℕ) → IsAlignment plan nets mode xs → IsAlignment plan nets mode ys → (a b : ℕ) → a < length xs → b < length xs → line_of xs a ≡ line_of xs b → line_of ys a ≡ line_of ys b
  same_joined xs ys x y a b h k same =
      let count_x = x.entities in
      let count_y = y.entities in
      (y.shared a b (omega arith) (omega arith)).1 ((x.shared a b h k).0 same)

  not_less : (xs ys : List ℕ) → IsAlignment plan nets mode xs → IsAlignment plan nets mode ys → (e : ℕ) → e < length xs → ((d : ℕ) → d < e → line_of xs d ≡ line_of ys d) → line_of xs e < line_of ys e → ⊥
  not_less xs ys x y e h before less =
      let count_x = x.entities in
      let count_y = y.entities in
      let found = y.numbered e (line_of xs e) (omega arith) less in
      let earlier : line_of xs found.0 ≡ line_of xs e = before found.0 found.1 ∙ found.2 in
      let both : line_of ys found.0 ≡ line_of ys e = same_joined xs ys x y found.0 e (let low = found.1 in omega arith) h earlier in
      let is = found.2 in
      omega arith

  same_lines : (xs ys : List ℕ) → IsAlignment plan nets mode xs → IsAlignment plan nets mode ys → (fuel e : ℕ) → e < fuel → e < length xs → line_of xs e ≡ line_of ys e
  same_lines xs ys x y zero e h within = absurd (omega arith)
  same_lines xs ys x y (suc fuel) e h within =
      let count_x = x.entities in
      let count_y = y.entities in
      let before : (d : ℕ) → d < e → line_of xs d ≡ line_of ys d = λ d low. same_lines xs ys x y fuel d (omega arith) (omega arith) in
      ⊎_elim (λ (same : line_of xs e ≡ line_of ys e). same)
      (λ (other : (line_of xs e < line_of ys e) ⊎ (line_of ys e < line_of xs e)).
      ⊎_elim (λ (less : line_of xs e < line_of ys e). absurd (not_less xs ys x y e within before less))
      (λ (more : line_of ys e < line_of xs e). absurd (not_less ys xs y x e (omega arith) (λ d low. sym (before d low)) more))
      other)
      (cases_order (line_of xs e) (line_of ys e))

list_same : (xs ys : List ℕ) → length xs ≡ length ys → ((e : ℕ) → e < length xs → slice_index xs e ≡ slice_index ys e) → xs ≡ ys
list_same [] [] n each = refl
list_same [] (y ∷ ys) n each = absurd (omega arith)
list_same (x ∷ xs) [] n each = absurd (omega arith)
list_same (x ∷ xs) (y ∷ ys) n each =
    let first : x ≡ y = each 0 (omega arith) in
    let rest : xs ≡ ys = list_same xs ys (omega arith) (λ e h. each (suc e) (omega arith)) in
    cc

pub alignment_one : {B S P : Type 0} (plan : Plan B S P) (nets : List ℕ) (mode : Mode) (xs ys : List ℕ) → IsAlignment plan nets mode xs → IsAlignment plan nets mode ys → xs ≡ ys
alignment_one plan nets mode xs ys x y = list_same xs ys (x.entities ∙ sym y.entities) (λ e h. same_lines plan nets mode xs ys x y (suc e) e (omega arith) h)

-- ---- numbers

-- some entity has the greatest number
greatest_at : (lines : List ℕ) → 0 < timeline_count lines → (e : ℕ) × (e < length lines) × (slice_index lines e + 1 ≡ timeline_count lines)
greatest_at [] h = absurd (omega arith)
greatest_at (i ∷ is) h =
    ⊎_elim (λ (less : i + 1 < timeline_count is). let rest = greatest_at is (omega arith) in let at = rest.1 in let is_at = rest.2 in (suc rest.0, omega arith, omega arith))
    (λ (most : timeline_count is ≤ i + 1). (0, omega arith, omega arith))
    (cases_lt (i + 1) (timeline_count is))

pub each_number : {B S P : Type 0} (plan : Plan B S P) (nets : List ℕ) (mode : Mode) (lines : List ℕ) → IsAlignment plan nets mode lines → (i : ℕ) → i < timeline_count lines → (e : ℕ) × (e < length lines) × (line_of lines e ≡ i)
each_number plan nets mode lines a i h =
    let top = greatest_at lines (omega arith) in
    let within = top.1 in
    let most = top.2 in
    ⊎_elim (λ (less : i < line_of lines top.0). let found = a.numbered top.0 i within less in let low = found.1 in (found.0, omega arith, found.2))
    (λ (last : line_of lines top.0 ≤ i). (top.0, within, omega arith))
    (cases_lt i (line_of lines top.0))

pub by_least : {B S P : Type 0} (plan : Plan B S P) (nets : List ℕ) (mode : Mode) (lines : List ℕ) → IsAlignment plan nets mode lines
    → (a b : ℕ) → a < b → b < length lines → ((d : ℕ) → d < b → line_of lines d ≡ line_of lines b → b ≤ d) → line_of lines a < line_of lines b
by_least plan nets mode lines aligned a b less within least =
    ⊎_elim (λ (h : line_of lines a < line_of lines b). h)
    (λ (k : line_of lines b ≤ line_of lines a).
    ⊎_elim (λ (same : line_of lines a ≡ line_of lines b). let low = least a less same in absurd (omega arith))
    (λ (other : line_of lines a ≡ line_of lines b → ⊥).
    let found = aligned.numbered a (line_of lines b) (omega arith) (omega arith) in
    let earlier = found.1 in
    let low = least found.0 (omega arith) found.2 in
    absurd (omega arith))
    (cases_eq (line_of lines a) (line_of lines b)))
    (cases_lt (line_of lines a) (line_of lines b))

-- ---- mappings

pub together : {B S P : Type 0} (plan : Plan B S P) (nets : List ℕ) (mode : Mode) (lines : List ℕ) → IsWired plan → IsAlignment plan nets mode lines → (m : Mapping) → Among m plan.mappings → m.delay ≡ 0 → line_of lines m.from ≡ line_of lines m.to
together plan nets mode lines wired a m among at_once =
    let ends = ends_within plan wired m among in
    let from = ends.0 in
    let to = ends.1 in
    let count = a.entities in
    (a.shared m.from m.to (omega arith) (omega arith)).1 (joined_mapping (ties_of plan nets mode) m among from to at_once)

each_of_among : {T : Type 0} (Q : T → Type 0) (xs : List T) → ((x : T) → Among x xs → Q x) → Each Q xs
each_of_among Q [] f = tt
each_of_among Q (x ∷ xs) f = (f x (inl refl), each_of_among Q xs (λ y among. f y (inr among)))

pub together_each : {B S P : Type 0} (plan : Plan B S P) (nets : List ℕ) (mode : Mode) (lines : List ℕ) → IsWired plan → IsAlignment plan nets mode lines → Each (λ (m : Mapping). m.delay ≡ 0 → line_of lines m.from ≡ line_of lines m.to) plan.mappings
together_each plan nets mode lines wired a = each_of_among (λ (m : Mapping). m.delay ≡ 0 → line_of lines m.from ≡ line_of lines m.to) plan.mappings (together plan nets mode lines wired a)

cross_apart : (lines : List ℕ) (m : Mapping) → is_cross lines m ≡ true → line_of lines m.from ≡ line_of lines m.to → ⊥
cross_apart lines m cross same =
    let equal = eq-eqb (line_of lines m.from) (line_of lines m.to) same in
    let denied : not (nat_eq (line_of lines m.from) (line_of lines m.to)) ≡ false = ap not equal in
    let both : true ≡ false = sym cross ∙ denied in
    cc

pub cross_late : {B S P : Type 0} (plan : Plan B S P) (nets : List ℕ) (mode : Mode) (lines : List ℕ) → IsWired plan → IsAlignment plan nets mode lines → (m : Mapping) → Among m plan.mappings → is_cross lines m ≡ true → 1 ≤ m.delay
cross_late plan nets mode lines wired a m among cross =
    ⊎_elim (λ (at_once : m.delay ≡ 0). absurd (cross_apart lines m cross (together plan nets mode lines wired a m among at_once)))
    (λ (later : m.delay ≡ 0 → ⊥). omega arith)
    (cases_eq m.delay 0)

pub ends_have : {B S P : Type 0} (plan : Plan B S P) (nets : List ℕ) (mode : Mode) (lines : List ℕ) → IsWired plan → IsAlignment plan nets mode lines → (m : Mapping) → Among m plan.mappings → (line_of lines m.from < timeline_count lines) × (line_of lines m.to < timeline_count lines)
ends_have plan nets mode lines wired a m among =
    let ends = ends_within plan wired m among in
    let from = ends.0 in
    let to = ends.1 in
    let count = a.entities in
    (line_below lines m.from (omega arith), line_below lines m.to (omega arith))

-- ---- the least windowed delay

-- the least of some numbers and a first one
least_at_most : (ds : List ℕ) (n : ℕ) → (d : ℕ) × (fold lesser (Some n) ds ≡ Some d) × (d ≤ n)
least_at_most [] n = (n, refl, omega arith)
least_at_most (x ∷ xs) n = let rest = least_at_most xs (min n x) in let low = rest.2 in (rest.0, rest.1, omega arith)

least_within : (ds : List ℕ) (first : Option ℕ) (x : ℕ) → Among x ds → (d : ℕ) × (fold lesser first ds ≡ Some d) × (d ≤ x)
least_within [] first x among = absurd among
least_within (y ∷ ys) None x (inl e) = let rest = least_at_most ys y in let low = rest.2 in (rest.0, rest.1, omega arith)
least_within (y ∷ ys) (Some n) x (inl e) = let rest = least_at_most ys (min n y) in let low = rest.2 in (rest.0, rest.1, omega arith)
least_within (y ∷ ys) first x (inr among) = least_within ys (lesser first y) x among

least_is : (ds : List ℕ) (first : Option ℕ) (d : ℕ) → fold lesser first ds ≡ Some d → (first ≡ Some d) ⊎ Among d ds
least_is [] first d h = inl h
least_is (y ∷ ys) first d h = ⊎_elim (λ (e : lesser first y ≡ Some d). one_of y ys first d e) (λ (a : Among d ys). inr (inr a)) (least_is ys (lesser first y) d h)
  where
    one_of : (y : ℕ) (ys : List ℕ) (first : Option ℕ) (d : ℕ) → lesser first y ≡ Some d → (first ≡ Some d) ⊎ Among d (y ∷ ys)
    one_of y ys None d e = let same : y ≡ d = cc in inr (inl (sym same))
    one_of y ys (Some n) d e =
        let same : min n y ≡ d = cc in
        ⊎_elim (λ (less : n < y). let is : n ≡ d = omega arith in inl (ap (λ z. Some z) is)) (λ (more : y ≤ n). let is : d ≡ y = omega arith in inr (inl is)) (cases_lt n y)

mapped_among : (ms : List Mapping) (m : Mapping) → Among m ms → Among m.delay (map (λ (x : Mapping). x.delay) ms)
mapped_among [] m a = absurd a
mapped_among (x ∷ xs) m (inl e) = inl (ap (λ y. y.delay) e)
mapped_among (x ∷ xs) m (inr a) = inr (mapped_among xs m a)

among_mapped : (ms : List Mapping) (d : ℕ) → Among d (map (λ (x : Mapping). x.delay) ms) → (m : Mapping) × Among m ms × (m.delay ≡ d)
among_mapped [] d a = absurd a
among_mapped (x ∷ xs) d (inl e) = (x, inl refl, sym e)
among_mapped (x ∷ xs) d (inr a) = let rest = among_mapped xs d a in (rest.0, inr rest.1, rest.2)

pub least_each : (lines : List ℕ) (threshold : ℕ) (ms : List Mapping) (m : Mapping) → Among m ms → is_windowed lines threshold m ≡ true → (d : ℕ) × (least_windowed lines threshold ms ≡ Some d) × (d ≤ m.delay)
least_each lines threshold ms m among is = least_within (map (λ (x : Mapping). x.delay) (filter (is_windowed lines threshold) ms)) None m.delay (mapped_among (filter (is_windowed lines threshold) ms) m (among_filter (is_windowed lines threshold) m ms among is))

pub least_some : (lines : List ℕ) (threshold : ℕ) (ms : List Mapping) (d : ℕ) → least_windowed lines threshold ms ≡ Some d → (m : Mapping) × Among m ms × (is_windowed lines threshold m ≡ true) × (m.delay ≡ d)
least_some lines threshold ms d h =
    ⊎_elim (λ (none : None ≡ Some d). absurd (cc))
    (λ (a : Among d (map (λ (x : Mapping). x.delay) (filter (is_windowed lines threshold) ms))).
    let found = among_mapped (filter (is_windowed lines threshold) ms) d a in
    let kept = filter_among (is_windowed lines threshold) found.0 ms found.1 in
    (found.0, kept.among, kept.passes, found.2))
    (least_is (map (λ (x : Mapping). x.delay) (filter (is_windowed lines threshold) ms)) None d h)
