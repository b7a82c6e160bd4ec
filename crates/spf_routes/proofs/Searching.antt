-- What a search keeps: settled nodes have the least labels, and what leads on from them is queued.
use Rattle.std.proofs.Common.{◌≡◌, ◌≢◌, ℕ, zero, suc, ◌+◌, ◌*◌, ◌<◌, ◌≤◌, ◌⊎◌, cond, List, [], ◌∷◌, length, get_or, set, slice_get, replicate, All, Option, Some, None, inl, inr, refl, sym, ap, subst, ◌∙◌, arith, Vec, Global, length-set, get_or-set_same, get_or-set_other}
use Rattle.std.specs.Prelude.{Contains, count_by, is_some}
use Rattle.std.proofs.lemmas.List.{get_or-replicate, get_or_past, length-replicate}
use Rattle.std.proofs.lemmas.Bool.{cases_eq, cases_lt}
use Rattle.std.proofs.lemmas.List.Sums.{sum_by-cons, count_by-le-length}
use Rattle.std.proofs.lemmas.List.Elements.{All-contains}
use Rattle.spf_routes.specs.declared.search.Label.{Label}
use Rattle.spf_routes.specs.declared.search.Edge.{Edge}
use Rattle.spf_routes.specs.declared.search.Start.{Start}
use Rattle.spf_routes.specs.Walks.{IsAtMost}
use Rattle.spf_routes.specs.Paths.{Queue, IsQueued, best_at, IsNextOf, behind, AreAdded, IsStart, HoldsStarts, IsEdge, IsPath, begins, goes_on, AreStarts, AreLeast}
use Rattle.spf_routes.proofs.Queues.{at_most_refl, at_most_trans, at_most_behind, behind_at_most}

-- a list of no labels
pub none_at : (n : ℕ) (k : ℕ) → get_or (replicate k (let none : Option Label = None in none)) n None ≡ None
none_at n k = elim (cases_lt n k) [
  | inl low ↦ get_or-replicate k n None None low
  | inr high ↦ get_or_past (replicate k None) n None (omega (arith, length-replicate k (let none : Option Label = None in none)))
]

abbrev pub Known : List (Option Label) → ℕ → Type 0
Known best n = (b : Label) × (best_at best n ≡ Some b)

pub cases_known : (best : List (Option Label)) (n : ℕ) → (best_at best n ≡ None) ⊎ Known best n
cases_known best n = of_option (best_at best n) refl
  where
    of_option : (o : Option Label) → best_at best n ≡ o → (best_at best n ≡ None) ⊎ Known best n
    of_option None e = inl e
    of_option (Some b) e = inr (b, e)

pub record IsSearch (starts : List Start) (edges : List (Vec Edge Global)) (best : List (Option Label)) (queue : Queue) (round : ℕ) : Type 0 where
  pub as_many : length best ≡ length edges
  pub settled : (n : ℕ) (l : Label) → best_at best n ≡ Some l → IsPath starts edges n l
  pub queued : (l : Label) (n : ℕ) → IsQueued queue l n → IsPath starts edges n l
  pub nodes : (l : Label) (n : ℕ) → IsQueued queue l n → n < length edges
  pub started : (l : Label) (n : ℕ) → IsStart starts l n → Known best n ⊎ IsQueued queue l n
  pub followed : (m : ℕ) (l : Label) (edge : Edge) → best_at best m ≡ Some l → IsEdge edges m edge → Known best edge.to ⊎ IsQueued queue (behind l edge.weight) edge.to
  pub starts_least : (l : Label) (n : ℕ) (b : Label) → IsStart starts l n → best_at best n ≡ Some b → IsAtMost b l
  pub edges_least : (m : ℕ) (l : Label) (edge : Edge) (b : Label) → best_at best m ≡ Some l → IsEdge edges m edge → best_at best edge.to ≡ Some b → IsAtMost b (behind l edge.weight)
  pub ordered : (n : ℕ) (b l : Label) (m : ℕ) → best_at best n ≡ Some b → IsQueued queue l m → IsAtMost b l
  pub costs : (l : Label) (n : ℕ) → IsQueued queue l n → l.cost ≤ (round + 1) * 65535
  pub count : count_by (λ (o : Option Label). is_some o) best ≡ round

-- one more settled
count_set : (best : List (Option Label)) (n : ℕ) (b : Label) → n < length best → best_at best n ≡ None → count_by (λ (o : Option Label). is_some o) (set best n (Some b)) ≡ count_by (λ (o : Option Label). is_some o) best + 1
count_set [] n b lt e = absurd (omega arith)
count_set (None ∷ best) zero b lt e = omega (arith, sum_by-cons (λ (o : Option Label). cond (is_some o) 1 0) (Some b) best, sum_by-cons (λ (o : Option Label). cond (is_some o) 1 0) None best)
count_set (Some a ∷ best) zero b lt e = cc
count_set (o ∷ best) (suc n) b lt e = omega (arith, sum_by-cons (λ (o : Option Label). cond (is_some o) 1 0) o (set best n (Some b)), sum_by-cons (λ (o : Option Label). cond (is_some o) 1 0) o best, count_set best n b (omega arith) e)

-- where all are counted, each is known
pub all_known : (best : List (Option Label)) → length best ≤ count_by (λ (o : Option Label). is_some o) best → (n : ℕ) → n < length best → Known best n
all_known [] h n lt = absurd (omega arith)
all_known (None ∷ best) h n lt = absurd (omega (arith, sum_by-cons (λ (o : Option Label). cond (is_some o) 1 0) None best, count_by-le-length (λ (o : Option Label). is_some o) best))
all_known (Some b ∷ best) h zero lt = (b, refl)
all_known (Some b ∷ best) h (suc n) lt = all_known best (omega (arith, sum_by-cons (λ (o : Option Label). cond (is_some o) 1 0) (Some b) best)) n (omega arith)

module _ (starts : List Start) (edges : List (Vec Edge Global)) where
  module _ (best : List (Option Label)) (queue left after : Queue) (round : ℕ) (label : Label) (node : ℕ) (row : Vec Edge Global) (s : IsSearch starts edges best queue round) (next : IsNextOf queue best label node left) (added : AreAdded left label row.items after) (at_node : slice_get edges node ≡ Some row) (weights : All (λ (edge : Edge). (edge.to < length edges) × (edge.weight ≤ 65535)) row.items) where
    abbrev best' : List (Option Label)
    best' = set best node (Some label)

    at_node' : best_at best' node ≡ Some label
    at_node' = get_or-set_same best node (Some label) None next.there

    at_other : (n : ℕ) → n ≢ node → best_at best' n ≡ best_at best n
    at_other n ne = get_or-set_other best node n (Some label) None ne

    set_cases : (n : ℕ) (b : Label) → best_at best' n ≡ Some b → ((n ≡ node) × (b ≡ label)) ⊎ ((n ≢ node) × (best_at best n ≡ Some b))
    set_cases n b e = elim (cases_eq n node) [
      | inl same ↦ inl (same, let both : Some label ≡ Some b = sym at_node' ∙ ap (best_at best') (sym same) ∙ e in cc)
      | inr other ↦ inr (other, sym (at_other n other) ∙ e)
    ]

    still_known : (n : ℕ) → Known best n → Known best' n
    still_known n k = elim (cases_eq n node) [
      | inl same ↦ (label, ap (best_at best') same ∙ at_node')
      | inr other ↦ (k.0, at_other n other ∙ k.1)
    ]

    not_known : Known best node → ⊥
    not_known k = let both : None ≡ Some k.0 = sym next.unsettled ∙ k.1 in cc

    carried : (l : Label) (n : ℕ) → IsQueued queue l n → Known best' n ⊎ IsQueued after l n
    carried l n q = elim (cases_known best n) [
      | inr known ↦ inl (still_known n known)
      | inl none ↦ elim (next.none_lost l n q none) [
        | inl still ↦ inr (added.kept l n still)
        | inr it ↦ inl (label, ap (best_at best') it.1 ∙ at_node')
      ]
    ]

    least_unsettled : (l : Label) (n : ℕ) → IsQueued queue l n → best_at best n ≡ None → IsAtMost label l
    least_unsettled l n q none = elim (next.none_lost l n q none) [
      | inl still ↦ next.least l n still
      | inr it ↦ subst (IsAtMost label) (sym it.0) (at_most_refl label)
    ]

    row_edge : (edge : Edge) → Contains row.items edge → IsEdge edges node edge
    row_edge edge c = (row, at_node, c)

    edge_row : (edge : Edge) → IsEdge edges node edge → Contains row.items edge
    edge_row edge e =
        let same : Some e.0 ≡ Some row = sym e.1 ∙ at_node in
        let one : e.0 ≡ row = cc in
        subst (λ (r : Vec Edge Global). Contains r.items edge) one e.2

    pub step : IsSearch starts edges best' after (round + 1)
    step = record {
      as_many = length-set best node (Some label) ∙ s.as_many;
      settled = λ n l e. elim (set_cases n l e) [
        | inl it ↦ subst (λ k. IsPath starts edges k l) (sym it.0) (subst (IsPath starts edges node) (sym it.1) (s.queued label node next.queued))
        | inr old ↦ s.settled n l old.1
      ];
      queued = λ l n q. elim (added.others l n q) [
        | inl old ↦ s.queued l n (next.none_new l n old)
        | inr new ↦ subst (λ k. IsPath starts edges k l) (sym new.3) (subst (IsPath starts edges new.0.to) (sym new.2) (goes_on new.0 (s.queued label node next.queued) (row_edge new.0 new.1)))
      ];
      nodes = λ l n q. elim (added.others l n q) [
        | inl old ↦ s.nodes l n (next.none_new l n old)
        | inr new ↦ subst (λ k. k < length edges) (sym new.3) (All-contains (λ (edge : Edge). (edge.to < length edges) × (edge.weight ≤ 65535)) row.items new.0 weights new.1).0
      ];
      started = λ l n h. elim (s.started l n h) [
        | inl known ↦ inl (still_known n known)
        | inr q ↦ carried l n q
      ];
      followed = λ m l edge e h. elim (set_cases m l e) [
        | inl it ↦ inr (subst (λ (x : Label). IsQueued after (behind x edge.weight) edge.to) (sym it.1) (added.new edge (edge_row edge (subst (λ k. IsEdge edges k edge) it.0 h))))
        | inr old ↦ elim (s.followed m l edge old.1 h) [
          | inl known ↦ inl (still_known edge.to known)
          | inr q ↦ carried (behind l edge.weight) edge.to q
        ]
      ];
      starts_least = λ l n b h e. elim (set_cases n b e) [
        | inl it ↦ elim (s.started l n h) [
          | inl known ↦ absurd (not_known (subst (Known best) it.0 known))
          | inr q ↦ subst (λ (x : Label). IsAtMost x l) (sym it.1) (least_unsettled l n q (ap (best_at best) it.0 ∙ next.unsettled))
        ]
        | inr old ↦ s.starts_least l n b h old.1
      ];
      edges_least = λ m l edge b e h f. elim (set_cases edge.to b f) [
        | inl to ↦ elim (set_cases m l e) [
          | inl it ↦ subst (λ (x : Label). IsAtMost x (behind l edge.weight)) (sym to.1) (subst (λ (x : Label). IsAtMost label (behind x edge.weight)) (sym it.1) (at_most_behind label edge.weight))
          | inr old ↦ elim (s.followed m l edge old.1 h) [
            | inl known ↦ absurd (not_known (subst (Known best) to.0 known))
            | inr q ↦ subst (λ (x : Label). IsAtMost x (behind l edge.weight)) (sym to.1) (least_unsettled (behind l edge.weight) edge.to q (ap (best_at best) to.0 ∙ next.unsettled))
          ]
        ]
        | inr other ↦ elim (set_cases m l e) [
          | inl it ↦ subst (λ (x : Label). IsAtMost b (behind x edge.weight)) (sym it.1) (at_most_trans b label (behind label edge.weight) (s.ordered edge.to b label node other.1 next.queued) (at_most_behind label edge.weight))
          | inr old ↦ s.edges_least m l edge b old.1 h other.1
        ]
      ];
      ordered = λ n b l m e q. elim (set_cases n b e) [
        | inl it ↦ subst (λ (x : Label). IsAtMost x l) (sym it.1) (elim (added.others l m q) [
          | inl old ↦ next.least l m old
          | inr new ↦ subst (IsAtMost label) (sym new.2) (at_most_behind label new.0.weight)
        ])
        | inr was ↦ elim (added.others l m q) [
          | inl old ↦ s.ordered n b l m was.1 (next.none_new l m old)
          | inr new ↦ subst (IsAtMost b) (sym new.2) (at_most_trans b label (behind label new.0.weight) (s.ordered n b label node was.1 next.queued) (at_most_behind label new.0.weight))
        ]
      ];
      costs = λ l n q. elim (added.others l n q) [
        | inl old ↦ omega (arith, s.costs l n (next.none_new l n old))
        | inr new ↦ omega (arith, s.costs label node next.queued, ap (λ (x : Label). x.cost) new.2, (All-contains (λ (edge : Edge). (edge.to < length edges) × (edge.weight ≤ 65535)) row.items new.0 weights new.1).1)
      ];
      count = omega (arith, count_set best node label next.there next.unsettled, s.count);
    }

  -- at the end the labels are the least
  module _ (best : List (Option Label)) (queue : Queue) (round : ℕ) (s : IsSearch starts edges best queue round) (all : (l : Label) (n : ℕ) → IsQueued queue l n → Known best n) where
    least_at : {n : ℕ} {l : Label} → IsPath starts edges n l → (b : Label) × (best_at best n ≡ Some b) × IsAtMost b l
    least_at {n} {l} (begins h) =
        let known : Known best n = elim (s.started l n h) [ inl k ↦ k | inr q ↦ all l n q ] in
        (known.0, known.1, s.starts_least l n known.0 h known.1)
    least_at (goes_on {node = m} {label = l} edge p e) =
        let before = least_at p in
        let known : Known best edge.to = elim (s.followed m before.0 edge before.1 e) [ inl k ↦ k | inr q ↦ all (behind before.0 edge.weight) edge.to q ] in
        (known.0, known.1, at_most_trans known.0 (behind before.0 edge.weight) (behind l edge.weight) (s.edges_least m before.0 edge known.0 before.1 e known.1) (behind_at_most before.0 l edge.weight before.2))

    pub finished : AreLeast starts edges best
    finished = record { as_many = s.as_many; reached = s.settled; least = λ n l p. least_at p }

pub first_search : (starts : List Start) (edges : List (Vec Edge Global)) (best : List (Option Label)) (queue : Queue) → AreStarts starts (length edges) → HoldsStarts starts queue → ((n : ℕ) → best_at best n ≡ None) → length best ≡ length edges → count_by (λ (o : Option Label). is_some o) best ≡ 0 → IsSearch starts edges best queue 0
first_search starts edges best queue fit h none long count =
    let never : (n : ℕ) (b : Label) → best_at best n ≡ Some b → ⊥ = λ n b e. never_both (best_at best n) b (none n) e in
    record {
      as_many = long;
      settled = λ n l e. absurd (never n l e);
      queued = λ l n q. begins (h.none_else l n q);
      nodes = λ l n q. (All-contains (λ (start : Start). (start.node < length edges) × (start.label.cost ≤ 65535)) starts (record { label = l; node = n }) fit (h.none_else l n q)).0;
      started = λ l n s. inr (h.all l n s);
      followed = λ m l edge e f. absurd (never m l e);
      starts_least = λ l n b s e. absurd (never n b e);
      edges_least = λ m l edge b e f g. absurd (never m l e);
      ordered = λ n b l m e q. absurd (never n b e);
      costs = λ l n q. omega (arith, (All-contains (λ (start : Start). (start.node < length edges) × (start.label.cost ≤ 65535)) starts (record { label = l; node = n }) fit (h.none_else l n q)).1);
      count = count;
    }
  where
    never_both : (o : Option Label) (b : Label) → o ≡ None → o ≡ Some b → ⊥
    never_both None b h e = cc
    never_both (Some x) b h e = cc
