-- Where the periods of a network begin: at 0, and at each tick at which a down begins or ends.
use Rattle.std.proofs.Common.{◌≡◌, ℕ, ◌<◌, ◌⊎◌, zero, suc, inl, inr, List, [], ◌∷◌, length, get_or, sym, subst, add-one, arith}
use Rattle.std.specs.List.{Contains, fold}
use Rattle.std.specs.List.Sorted.{IsStrictlyIncreasing}
use Rattle.std.proofs.lemmas.Bool.{cases_order}
use Rattle.std.proofs.lemmas.List.Elements.{Contains-append_left, Contains-append_right, Contains-append_cases, Contains-push, Contains-push_cases, Contains-get_or}
use Rattle.net_graph.specs.declared.rows.Network.{Network}
use Rattle.net_graph.specs.declared.rows.LinkRow.{LinkRow}
use Rattle.net_graph.specs.declared.rows.Down.{Down}
use Rattle.net_layout.specs.Periods.{with_tick, with_down, with_link, periods_of, BeginsOrEnds, ChangesAt, ArePeriods}
use Rattle.net_layout.proofs.Ticks.{before_head, at_head, behind_head}

pub head_in : {A : Type 0} (x : A) (xs : List A) → Contains (x ∷ xs) x
head_in x xs = Contains-append_left (x ∷ []) xs x (Contains-push [] x)

pub tail_in : {A : Type 0} (x : A) (xs : List A) (y : A) → Contains xs y → Contains (x ∷ xs) y
tail_in x xs y h = Contains-append_right (x ∷ []) xs y h

pub none_in : {A : Type 0} (y : A) → Contains [] y → ⊥
none_in y h = let lt : h.0 < 0 = h.1 in omega arith

pub in_cases : {A : Type 0} (x : A) (xs : List A) (y : A) → Contains (x ∷ xs) y → (x ≡ y) ⊎ Contains xs y
in_cases x xs y h = elim (Contains-append_cases (x ∷ []) xs y h) [
  | inl one ↦ elim (Contains-push_cases [] x y one) [ inl none ↦ absurd (none_in y none) | inr e ↦ inl e ]
  | inr rest ↦ inr rest
]

-- the new list has what the old one has and the ticks with P, and nothing else
record Adds (old new : List ℕ) (P : ℕ → Type 0) : Type 0 where
  has : (q : ℕ) → P q → Contains new q
  keeps : (q : ℕ) → Contains old q → Contains new q
  only : (q : ℕ) → Contains new q → Contains old q ⊎ P q

adds_head : (ts : List ℕ) (tick : ℕ) → Adds ts (tick ∷ ts) (λ q. q ≡ tick)
adds_head ts tick = record {
  has = λ q e. subst (λ (x : ℕ). Contains (tick ∷ ts) x) (sym e) (head_in tick ts);
  keeps = λ q h. tail_in tick ts q h;
  only = λ q h. elim (in_cases tick ts q h) [ inl e ↦ inr (sym e) | inr rest ↦ inl rest ];
}

adds_none : (ts : List ℕ) (tick : ℕ) → Contains ts tick → Adds ts ts (λ q. q ≡ tick)
adds_none ts tick inside = record {
  has = λ q e. subst (λ (x : ℕ). Contains ts x) (sym e) inside;
  keeps = λ q h. h;
  only = λ q h. inl h;
}

adds_behind : (t : ℕ) (old new : List ℕ) (P : ℕ → Type 0) → Adds old new P → Adds (t ∷ old) (t ∷ new) P
adds_behind t old new P a = record {
  has = λ q p. tail_in t new q (a.has q p);
  keeps = λ q h. elim (in_cases t old q h) [
    | inl e ↦ subst (λ (x : ℕ). Contains (t ∷ new) x) e (head_in t new)
    | inr rest ↦ tail_in t new q (a.keeps q rest)
  ];
  only = λ q h. elim (in_cases t new q h) [
    | inl e ↦ inl (subst (λ (x : ℕ). Contains (t ∷ old) x) e (head_in t old))
    | inr rest ↦ elim (a.only q rest) [ inl was ↦ inl (tail_in t old q was) | inr p ↦ inr p ]
  ];
}

adds_both : (old mid new : List ℕ) (P Q : ℕ → Type 0) → Adds old mid P → Adds mid new Q → Adds old new (λ q. P q ⊎ Q q)
adds_both old mid new P Q a b = record {
  has = λ q pq. elim pq [ inl p ↦ b.keeps q (a.has q p) | inr r ↦ b.has q r ];
  keeps = λ q h. b.keeps q (a.keeps q h);
  only = λ q h. elim (b.only q h) [
    | inl m ↦ elim (a.only q m) [ inl was ↦ inl was | inr p ↦ inr (inl p) ]
    | inr r ↦ inr (inr r)
  ];
}

with_tick_adds : (ts : List ℕ) (tick : ℕ) → Adds ts (with_tick ts tick) (λ q. q ≡ tick)
with_tick_adds [] tick = adds_head [] tick
with_tick_adds (t ∷ ts) tick =
    let Goal = λ (x : List ℕ). Adds (t ∷ ts) x (λ q. q ≡ tick) in
    elim (cases_order tick t) [
      | inl same ↦ subst Goal (sym (at_head t ts tick same)) (adds_none (t ∷ ts) tick (subst (λ (x : ℕ). Contains (t ∷ ts) x) (sym same) (head_in t ts)))
      | inr other ↦ elim other [
        | inl less ↦ subst Goal (sym (before_head t ts tick less)) (adds_head (t ∷ ts) tick)
        | inr more ↦ subst Goal (sym (behind_head t ts tick more)) (adds_behind t ts (with_tick ts tick) (λ q. q ≡ tick) (with_tick_adds ts tick))
      ]
    ]

with_down_adds : (ts : List ℕ) (down : Down) → Adds ts (with_down ts down) (BeginsOrEnds down)
with_down_adds ts down =
    let mid = with_tick ts down.from in
    adds_both ts mid (with_tick mid down.to) (λ q. q ≡ down.from) (λ q. q ≡ down.to) (with_tick_adds ts down.from) (with_tick_adds mid down.to)

-- a fold adds what its steps add
fold_adds : {A : Type 0} (step : List ℕ → A → List ℕ) (Has : A → ℕ → Type 0) → ((ts : List ℕ) (a : A) → Adds ts (step ts a) (Has a)) → (xs : List A) (ts : List ℕ) → Adds ts (fold step ts xs) (λ q. (a : A) × Contains xs a × Has a q)
fold_adds step Has each [] ts = record {
  has = λ q w. absurd (none_in w.0 w.1);
  keeps = λ q h. h;
  only = λ q h. inl h;
}
fold_adds step Has each (x ∷ xs) ts =
    let first = each ts x in
    let rest = fold_adds step Has each xs (step ts x) in
    record {
      has = λ q w. elim (in_cases x xs w.0 w.1) [
        | inl e ↦ rest.keeps q (first.has q (subst (λ a. Has a q) (sym e) w.2))
        | inr inside ↦ rest.has q (w.0, inside, w.2)
      ];
      keeps = λ q h. rest.keeps q (first.keeps q h);
      only = λ q h. elim (rest.only q h) [
        | inl mid ↦ elim (first.only q mid) [ inl was ↦ inl was | inr p ↦ inr (x, head_in x xs, p) ]
        | inr w ↦ inr (w.0, tail_in x xs w.0 w.1, w.2)
      ];
    }

with_link_adds : (ts : List ℕ) (link : LinkRow) → Adds ts (with_link ts link) (ChangesAt link)
with_link_adds ts link = fold_adds with_down BeginsOrEnds with_down_adds link.downs ts

-- each tick is below those behind it
abbrev pub Rises : List ℕ → Type 0
Rises [] = Unit {0}
Rises (x ∷ xs) = ((y : ℕ) → Contains xs y → x < y) × Rises xs

with_tick_rises : (ts : List ℕ) (tick : ℕ) → Rises ts → Rises (with_tick ts tick)
with_tick_rises [] tick h = (λ y inside. absurd (none_in y inside), tt)
with_tick_rises (t ∷ ts) tick h =
    elim (cases_order tick t) [
      | inl same ↦ subst Rises (sym (at_head t ts tick same)) h
      | inr other ↦ elim other [
        | inl less ↦ subst Rises (sym (before_head t ts tick less)) (λ y inside. elim (in_cases t ts y inside) [ inl e ↦ omega arith | inr rest ↦ omega (arith, h.0 y rest) ], h)
        | inr more ↦ subst Rises (sym (behind_head t ts tick more)) (λ y inside. elim ((with_tick_adds ts tick).only y inside) [ inl was ↦ h.0 y was | inr e ↦ omega arith ], with_tick_rises ts tick h.1)
      ]
    ]

fold_rises : {A : Type 0} (step : List ℕ → A → List ℕ) → ((ts : List ℕ) (a : A) → Rises ts → Rises (step ts a)) → (xs : List A) (ts : List ℕ) → Rises ts → Rises (fold step ts xs)
fold_rises step each [] ts h = h
fold_rises step each (x ∷ xs) ts h = fold_rises step each xs (step ts x) (each ts x h)

with_down_rises : (ts : List ℕ) (down : Down) → Rises ts → Rises (with_down ts down)
with_down_rises ts down h = with_tick_rises (with_tick ts down.from) down.to (with_tick_rises ts down.from h)

with_link_rises : (ts : List ℕ) (link : LinkRow) → Rises ts → Rises (with_link ts link)
with_link_rises ts link h = fold_rises with_down with_down_rises link.downs ts h

each_below_next : (xs : List ℕ) → Rises xs → (k : ℕ) → suc k < length xs → get_or xs k 0 < get_or xs (suc k) 0
each_below_next [] h k lt = absurd (omega arith)
each_below_next (x ∷ xs) h zero lt = h.0 (get_or xs 0 0) (Contains-get_or xs 0 0 (omega arith))
each_below_next (x ∷ xs) h (suc k) lt = each_below_next xs h.1 k (omega arith)

increasing : (xs : List ℕ) → Rises xs → IsStrictlyIncreasing xs
increasing xs h k lt = let below = each_below_next xs h k (omega arith) in rw (add-one k) below

pub rises : (network : Network) → Rises (periods_of network)
unfolding periods_of
rises network = fold_rises with_link with_link_rises network.links (0 ∷ []) (λ y inside. absurd (none_in y inside), tt)

pub are_periods : (network : Network) → ArePeriods network (periods_of network)
unfolding periods_of
are_periods network =
    let all = fold_adds with_link ChangesAt with_link_adds network.links (0 ∷ []) in
    record {
      rising = increasing (fold with_link (0 ∷ []) network.links) (rises network);
      zero = all.keeps 0 (head_in 0 []);
      changes = all.has;
      nothing_else = λ tick h. elim (all.only tick h) [
        | inl first ↦ elim (in_cases 0 [] tick first) [ inl e ↦ inl (sym e) | inr none ↦ absurd (none_in tick none) ]
        | inr change ↦ inr change
      ];
    }
