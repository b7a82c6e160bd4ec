-- Entries of a queue after a pop and a push.
use Rattle.std.proofs.Common.{◌≡◌, ℕ, zero, suc, ◌+◌, ◌<◌, ◌⊎◌, false, List, [], ◌∷◌, ◌++◌, length, get_or, take, is_lt, nat_cmp, Ordering, inl, inr, refl, sym, ap, subst, ◌∙◌, arith}
use Rattle.std.specs.Prelude.{Contains, IsPermutation}
use Rattle.std.specs.Ordering.{ordering_then}
use Rattle.std.specs.BinaryHeap.{IsUpperBound}
use Rattle.std.specs.declared.cmp.Reverse.{Reverse}
use Rattle.std.proofs.lemmas.Bool.Decides.{nat_tests}
use Rattle.std.proofs.lemmas.Bool.{cases_order}
use Rattle.std.proofs.lemmas.List.{take_more}
use Rattle.std.proofs.lemmas.List.Elements.{All-from_recursion, All-contains, Contains-append_left, Contains-push, Contains-push_cases}
use Rattle.std.proofs.lemmas.List.Sorted.{IsPermutation-sym, Contains-permutation}
use Rattle.spf_routes.specs.declared.search.Label.{Label}
use Rattle.spf_routes.specs.declared.search.Edge.{Edge}
use Rattle.spf_routes.specs.declared.search.Start.{Start}
use Rattle.spf_routes.specs.Walks.{IsAtMost}
use Rattle.spf_routes.specs.Paths.{Queue, order, label_cmp, IsQueued, behind, AreAdded, HoldsStarts}

pub Contains-cons_cases : {X : Type 0} (x : X) (xs : List X) (y : X) → Contains (x ∷ xs) y → (y ≡ x) ⊎ Contains xs y
Contains-cons_cases x xs y (zero, lt, e) = inl (sym e)
Contains-cons_cases x xs y (suc k, lt, e) = inr (k, omega arith, e)

pub Contains-there : {X : Type 0} (x : X) (xs : List X) (y : X) → Contains xs y → Contains (x ∷ xs) y
Contains-there x xs y (k, lt, e) = (suc k, omega arith, e)

pub Contains-here : {X : Type 0} (x : X) (xs : List X) → Contains (x ∷ xs) x
Contains-here x xs = (0, omega arith, refl)

-- ---- labels
pub at_most_refl : (a : Label) → IsAtMost a a
at_most_refl a = inr (refl, inr (refl, omega arith))

pub at_most_trans : (a b c : Label) → IsAtMost a b → IsAtMost b c → IsAtMost a c
at_most_trans a b c h k = grind arith

pub at_most_behind : (a : Label) (w : ℕ) → IsAtMost a (behind a w)
at_most_behind a w = grind arith

pub behind_at_most : (a b : Label) (w : ℕ) → IsAtMost a b → IsAtMost (behind a w) (behind b w)
behind_at_most a b w h = grind arith

at_most_from_cmp : (a b : Label) (o : Ordering) → is_lt (ordering_then (label_cmp b a) o) ≡ false → IsAtMost a b
at_most_from_cmp a b o h = elim (cases_order a.cost b.cost) [
  | inr (inl less) ↦ inl less
  | inr (inr more) ↦ absurd (grind (arith, nat_tests))
  | inl cost ↦ elim (cases_order a.interface b.interface) [
    | inr (inl less) ↦ inr (cost, inl less)
    | inr (inr more) ↦ absurd (grind (arith, nat_tests))
    | inl interface ↦ elim (cases_order a.next b.next) [
      | inr (inl less) ↦ inr (cost, inr (interface, omega arith))
      | inl same ↦ inr (cost, inr (interface, omega arith))
      | inr (inr more) ↦ absurd (grind (arith, nat_tests))
    ]
  ]
]

-- ---- a pop
module _ (old left : Queue) (top : Reverse (Label × ℕ)) (same : IsPermutation old (top ∷ left)) where
  pub left_was : (l : Label) (n : ℕ) → IsQueued left l n → IsQueued old l n
  left_was l n h = Contains-permutation (top ∷ left) old (record { 0 = (l, n) }) (IsPermutation-sym old (top ∷ left) same) (Contains-there top left (record { 0 = (l, n) }) h)

  pub top_was : IsQueued old top.0.0 top.0.1
  top_was = Contains-permutation (top ∷ left) old top (IsPermutation-sym old (top ∷ left) same) (Contains-here top left)

  pub old_is : (l : Label) (n : ℕ) → IsQueued old l n → ((l ≡ top.0.0) × (n ≡ top.0.1)) ⊎ IsQueued left l n
  old_is l n h = elim (Contains-cons_cases top left (record { 0 = (l, n) }) (Contains-permutation old (top ∷ left) (record { 0 = (l, n) }) same h)) [
    | inl e ↦ inl (ap (λ (x : Reverse (Label × ℕ)). x.0.0) e, ap (λ (x : Reverse (Label × ℕ)). x.0.1) e)
    | inr rest ↦ inr rest
  ]

  pub least_top : IsUpperBound order top left → (l : Label) (n : ℕ) → IsQueued left l n → IsAtMost top.0.0 l
  least_top bound l n h =
      let all = All-from_recursion (λ y. is_lt (order top y) ≡ false) left bound in
      at_most_from_cmp top.0.0 l (nat_cmp n top.0.1) (All-contains (λ y. is_lt (order top y) ≡ false) left (record { 0 = (l, n) }) all h)

-- ---- a push
pub pushed_is : (old after : Queue) (label : Label) (node : ℕ) → IsPermutation ((let new : Reverse (Label × ℕ) = record { 0 = (label, node) } in new) ∷ old) after → (l : Label) (n : ℕ) → IsQueued after l n → IsQueued old l n ⊎ ((l ≡ label) × (n ≡ node))
pushed_is old after label node same l n h =
    elim (Contains-cons_cases (record { 0 = (label, node) }) old (record { 0 = (l, n) }) (Contains-permutation after (record { 0 = (label, node) } ∷ old) (record { 0 = (l, n) }) (IsPermutation-sym (record { 0 = (label, node) } ∷ old) after same) h)) [
      | inl e ↦ inr (ap (λ (x : Reverse (Label × ℕ)). x.0.0) e, ap (λ (x : Reverse (Label × ℕ)). x.0.1) e)
      | inr rest ↦ inl rest
    ]

pub pushed_keeps : (old after : Queue) (new : Reverse (Label × ℕ)) → IsPermutation (new ∷ old) after → (l : Label) (n : ℕ) → IsQueued old l n → IsQueued after l n
pushed_keeps old after new same l n h = Contains-permutation (new ∷ old) after (record { 0 = (l, n) }) same (Contains-there new old (record { 0 = (l, n) }) h)

pub pushed_there : (old after : Queue) (new : Reverse (Label × ℕ)) → IsPermutation (new ∷ old) after → Contains after new
pushed_there old after new same = Contains-permutation (new ∷ old) after new same (Contains-here new old)

abbrev pub no_edge : Edge
no_edge = record { to = 0; weight = 0 }

-- one edge more
pub added_more : (queue old after : Queue) (label : Label) (edges : List Edge) (i : ℕ) → i < length edges → AreAdded queue label (take i edges) old → let edge : Edge = get_or edges i no_edge in IsPermutation ((let new : Reverse (Label × ℕ) = record { 0 = (behind label edge.weight, edge.to) } in new) ∷ old) after → AreAdded queue label (take (i + 1) edges) after
added_more queue old after label edges i lt h same =
    let edge : Edge = get_or edges i no_edge in
    let new : Reverse (Label × ℕ) = record { 0 = (behind label edge.weight, edge.to) } in
    rw (take_more edges i no_edge lt) (record {
      kept = λ l n q. pushed_keeps old after new same l n (h.kept l n q);
      new = λ e c. elim (Contains-push_cases (take i edges) edge e c) [
        | inl before ↦ pushed_keeps old after new same (behind label e.weight) e.to (h.new e before)
        | inr one ↦ subst (λ (x : Edge). IsQueued after (behind label x.weight) x.to) one (pushed_there old after new same)
      ];
      others = λ l n q. elim (pushed_is old after (behind label edge.weight) edge.to same l n q) [
        | inl before ↦ elim (h.others l n before) [
          | inl first ↦ inl first
          | inr added ↦ inr (added.0, Contains-append_left (take i edges) (edge ∷ []) added.0 added.1, added.2, added.3)
        ]
        | inr one ↦ inr (edge, Contains-push (take i edges) edge, one.0, one.1)
      ];
    })

abbrev pub no_start : Start
no_start = record { label = record { cost = 0; interface = 0; next = 0 }; node = 0 }

same_start : (start : Start) (l : Label) (n : ℕ) → l ≡ start.label → n ≡ start.node → ◌≡◌ {A = Start} start (record { label = l; node = n })
same_start start l n e f =
    let first : ◌≡◌ {A = Start} start (record { label = l; node = start.node }) = ap {B = Start} (λ (x : Label). record { label = x; node = start.node }) (sym e) in
    first ∙ ap {B = Start} (λ (k : ℕ). record { label = l; node = k }) (sym f)

-- one start more
pub starts_more : (starts : List Start) (old after : Queue) (i : ℕ) → i < length starts → HoldsStarts (take i starts) old → let start : Start = get_or starts i no_start in IsPermutation ((let new : Reverse (Label × ℕ) = record { 0 = (start.label, start.node) } in new) ∷ old) after → HoldsStarts (take (i + 1) starts) after
starts_more starts old after i lt h same =
    let start : Start = get_or starts i no_start in
    let new : Reverse (Label × ℕ) = record { 0 = (start.label, start.node) } in
    rw (take_more starts i no_start lt) (record {
      all = λ l n c. elim (Contains-push_cases (take i starts) start (record { label = l; node = n }) c) [
        | inl before ↦ pushed_keeps old after new same l n (h.all l n before)
        | inr one ↦ subst (λ (x : Start). IsQueued after x.label x.node) one (pushed_there old after new same)
      ];
      none_else = λ l n q. elim (pushed_is old after start.label start.node same l n q) [
        | inl before ↦ Contains-append_left (take i starts) (start ∷ []) (record { label = l; node = n }) (h.none_else l n before)
        | inr one ↦ let is : ◌≡◌ {A = Start} start (record { label = l; node = n }) = same_start start l n one.0 one.1 in subst (Contains (take i starts ++ start ∷ [])) is (Contains-push (take i starts) start)
      ];
    })
