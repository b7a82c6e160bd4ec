-- The periods of each host, and its routes at a tick.
use Rattle.std.proofs.Common.{◌≡◌, ℕ, ◌+◌, ◌<◌, ◌≤◌, Bool, List, [], ◌∷◌, ◌++◌, length, map, get_or, set, take, replicate, Some, refl, sym, ap, subst, ◌∙◌, inl, inr, arith, if◌then◌else◌}
use Rattle.std.specs.Prelude.{option_to_list}
use Rattle.std.specs.List.{Contains, All}
use Rattle.std.proofs.lemmas.List.{get_or-replicate, length-replicate, length-set, get_or-set_same, get_or-set_other, take_more, take_all, map_push, ext_get_or}
use Rattle.std.proofs.lemmas.List.Elements.{All-nil, All-push, All-head, All-tail}
use Rattle.std.proofs.lemmas.Bool.{cases_eq, cases_lt, le-leb, lt-leb}
use Rattle.spf_routes.specs.declared.graph.Graph.{Graph}
use Rattle.spf_routes.specs.declared.graph.Route.{Route}
use Rattle.spf_routes.specs.declared.graph.Period.{Period}
use Rattle.spf_routes.specs.Walks.{IsTable}
use Rattle.spf_routes.proofs.Unique.{one_table}
use Rattle.net_graph.specs.declared.rows.Network.{Network}
use Rattle.net_layout.specs.Periods.{periods_of, NoneBegins}
use Rattle.net_layout.specs.Arms.{graph_of}
use Rattle.net_layout.specs.Gateways.{gateway_route}
use Rattle.net_layout.specs.Gathered.{appended_at}
use Rattle.net_layout.specs.HostRoutes.{AreHostRoutes, IsPeriodOf, begin_of, AreFirstPeriods, ArePeriodsOf, AreTables, AreTablesSoFar, routes_since, routes_at}
use Rattle.net_layout.proofs.Changes.{head_in, tail_in, none_in, in_cases, are_periods, Rises, rises}
use Rattle.net_layout.proofs.Keeping.{graph_same}

-- filling

pub tables_none : (network : Network) (tables : List (List Period)) → tables ≡ replicate (length network.hosts) [] → AreTablesSoFar network 0 0 tables
tables_none network tables e = record {
  as_many = ap length e ∙ length-replicate (length network.hosts) [];
  more = λ h lt. absurd (omega arith);
  rest = λ h le lt.
      let none : get_or tables h [] ≡ [] = ap (λ (ts : List (List Period)). get_or ts h []) e ∙ get_or-replicate (length network.hosts) h [] [] lt in
      subst (AreFirstPeriods network h 0) (sym none) (record { begins = refl; routes = All-nil (IsPeriodOf network h) });
}

-- one period more of a host
periods_push : (network : Network) (h count : ℕ) (periods : List Period) (period : Period) → count < length (periods_of network) → AreFirstPeriods network h count periods → period.from ≡ get_or (periods_of network) count 0 → IsPeriodOf network h period → AreFirstPeriods network h (count + 1) (periods ++ period ∷ [])
periods_push network h count periods period lt are from is = record {
  begins =
      map_push begin_of periods period
      ∙ ap (λ (l : List ℕ). l ++ period.from ∷ []) are.begins
      ∙ ap (λ t. take count (periods_of network) ++ t ∷ []) from
      ∙ sym (take_more (periods_of network) count 0 lt);
  routes = All-push (IsPeriodOf network h) periods period are.routes is;
}

pub tables_more : (network : Network) (count h : ℕ) (tables : List (List Period)) (period : Period) → count < length (periods_of network) → h < length network.hosts → AreTablesSoFar network count h tables → period.from ≡ get_or (periods_of network) count 0 → IsPeriodOf network h period → AreTablesSoFar network count (h + 1) (appended_at tables h (Some period))
tables_more network count h tables period lt there are from is =
    let longer : List Period = get_or tables h [] ++ period ∷ [] in
    record {
      as_many = length-set tables h longer ∙ are.as_many;
      more = λ k low. elim (cases_eq k h) [
        | inl same ↦
            subst (λ m. AreFirstPeriods network m (count + 1) (get_or (set tables h longer) m [])) (sym same)
            (subst (AreFirstPeriods network h (count + 1)) (sym (get_or-set_same tables h longer [] (omega (arith, are.as_many))))
            (periods_push network h count (get_or tables h []) period lt (are.rest h (omega arith) there) from is))
        | inr other ↦ subst (AreFirstPeriods network k (count + 1)) (sym (get_or-set_other tables h k longer [] other)) (are.more k (omega arith))
      ];
      rest = λ k low less.
          let other : k ≡ h → ⊥ = λ e. omega arith in
          subst (AreFirstPeriods network k count) (sym (get_or-set_other tables h k longer [] other)) (are.rest k (omega arith) less);
    }

-- all hosts have the period
pub tables_next : (network : Network) (count h : ℕ) (tables : List (List Period)) → length network.hosts ≤ h → AreTablesSoFar network count h tables → AreTablesSoFar network (count + 1) 0 tables
tables_next network count h tables end are = record {
  as_many = are.as_many;
  more = λ k lt. absurd (omega arith);
  rest = λ k le lt. are.more k (omega arith);
}

pub tables_all : (network : Network) (count : ℕ) (tables : List (List Period)) → length (periods_of network) ≤ count → AreTablesSoFar network count 0 tables → AreTables network tables
tables_all network count tables end are = record {
  as_many = are.as_many;
  each = λ h lt.
      let first = are.rest h (omega arith) lt in
      record { begins = first.begins ∙ take_all count (periods_of network) end; routes = first.routes };
}

-- routes are one

pub routes_one : (network : Network) (h tick : ℕ) (a b : List Route) → AreHostRoutes network h tick a → AreHostRoutes network h tick b → a ≡ b
routes_one network h tick a b x y =
    x.whole
    ∙ ap (λ (table : List Route). table ++ option_to_list (gateway_route network h)) (one_table (graph_of network tick) h x.table y.table x.least y.least)
    ∙ sym y.whole

abbrev beginning : ℕ → List Route → Period
beginning from routes = record { from = from; routes = routes }

period_one : (network : Network) (h : ℕ) (a b : Period) → a.from ≡ b.from → IsPeriodOf network h a → IsPeriodOf network h b → a ≡ b
period_one network h a b from x y =
    let same : a.routes ≡ b.routes = routes_one network h b.from a.routes b.routes (subst (λ t. AreHostRoutes network h t a.routes) from x) y in
    ap (λ t. beginning t a.routes) from ∙ ap (beginning b.from) same

all_one : (network : Network) (h : ℕ) (a b : List Period) → map begin_of a ≡ map begin_of b → All (IsPeriodOf network h) a → All (IsPeriodOf network h) b → a ≡ b
all_one network h [] [] e x y = refl
all_one network h [] (p ∷ ps) e x y = let no : ◌≡◌ {A = List ℕ} [] (p.from ∷ map begin_of ps) = e in cc
all_one network h (p ∷ ps) [] e x y = let no : ◌≡◌ {A = List ℕ} (p.from ∷ map begin_of ps) [] = e in cc
all_one network h (p ∷ ps) (q ∷ qs) e x y =
    let both : p.from ∷ map begin_of ps ≡ q.from ∷ map begin_of qs = e in
    let from : p.from ≡ q.from = cc in
    let more : map begin_of ps ≡ map begin_of qs = cc in
    let first = period_one network h p q from (All-head (IsPeriodOf network h) p ps x) (All-head (IsPeriodOf network h) q qs y) in
    let rest = all_one network h ps qs more (All-tail (IsPeriodOf network h) p ps x) (All-tail (IsPeriodOf network h) q qs y) in
    ap (λ (r : Period). r ∷ ps) first ∙ ap (λ (rs : List Period). q ∷ rs) rest

pub periods_one : (network : Network) (h : ℕ) (a b : List Period) → ArePeriodsOf network h a → ArePeriodsOf network h b → a ≡ b
periods_one network h a b x y = all_one network h a b (x.begins ∙ sym y.begins) x.routes y.routes

pub tables_one : (network : Network) (a b : List (List Period)) → AreTables network a → AreTables network b → a ≡ b
tables_one network a b x y =
    ext_get_or [] a b (x.as_many ∙ sym y.as_many) (λ h lt.
    let there : h < length network.hosts = omega (arith, x.as_many) in
    periods_one network h (get_or a h []) (get_or b h []) (x.each h there) (y.each h there))

-- routes at a tick

-- the routes were found of a period that has begun, and no later one of these has
record Found (network : Network) (h tick first : ℕ) (periods : List Period) (routes : List Route) : Type 0 where
  begin : ℕ
  begun : begin ≤ tick
  are : AreHostRoutes network h begin routes
  from : first ≤ begin
  last : (q : ℕ) → Contains (map begin_of periods) q → q ≤ tick → q ≤ begin

found_in : (network : Network) (h tick first : ℕ) (routes : List Route) (periods : List Period) → first ≤ tick → AreHostRoutes network h first routes → All (IsPeriodOf network h) periods → Rises (first ∷ map begin_of periods) → Found network h tick first periods (routes_since routes periods tick)
found_in network h tick first routes [] le are all rise = record {
  begin = first;
  begun = le;
  are = are;
  from = omega arith;
  last = λ q has most. absurd (none_in q has);
}
found_in network h tick first routes (p ∷ ps) le are all rise =
    let here : IsPeriodOf network h p = All-head (IsPeriodOf network h) p ps all in
    let more = All-tail (IsPeriodOf network h) p ps all in
    let above : first < p.from = rise.0 p.from (head_in p.from (map begin_of ps)) in
    elim (cases_lt tick p.from) [
      | inl later ↦
          let rest = found_in network h tick first routes ps le are more ((λ q has. rise.0 q (tail_in p.from (map begin_of ps) q has)), rise.1.1) in
          subst (λ (b : Bool). Found network h tick first (p ∷ ps) (routes_since (if b then p.routes else routes) ps tick)) (sym (lt-leb p.from tick later))
          (record {
            begin = rest.begin;
            begun = rest.begun;
            are = rest.are;
            from = rest.from;
            last = λ q has most. elim (in_cases p.from (map begin_of ps) q has) [ inl e ↦ absurd (omega arith) | inr inside ↦ rest.last q inside most ];
          })
      | inr begun ↦
          let rest = found_in network h tick p.from p.routes ps begun here more rise.1 in
          let up = rest.from in
          subst (λ (b : Bool). Found network h tick first (p ∷ ps) (routes_since (if b then p.routes else routes) ps tick)) (sym (le-leb p.from tick begun))
          (record {
            begin = rest.begin;
            begun = rest.begun;
            are = rest.are;
            from = omega arith;
            last = λ q has most. elim (in_cases p.from (map begin_of ps) q has) [ inl e ↦ omega arith | inr inside ↦ rest.last q inside most ];
          })
    ]

-- the routes of the last period that has begun are those of the tick
kept : (network : Network) (h tick begin : ℕ) (routes : List Route) → begin ≤ tick → NoneBegins network begin tick → AreHostRoutes network h begin routes → AreHostRoutes network h tick routes
kept network h tick begin routes le none are = record {
  table = are.table;
  least = subst (λ (g : Graph). IsTable g h are.table) (sym (graph_same begin tick le network none)) are.least;
  whole = are.whole;
}

routes_from : (network : Network) (h tick : ℕ) (periods : List Period) → ArePeriodsOf network h periods → Rises (map begin_of periods) → Contains (map begin_of periods) 0 → AreHostRoutes network h tick (routes_at periods tick)
routes_from network h tick [] are rise has = absurd (none_in 0 has)
routes_from network h tick (p ∷ ps) are rise has =
    let start : p.from ≡ 0 = elim (in_cases p.from (map begin_of ps) 0 has) [
      | inl e ↦ e
      | inr inside ↦ let less = rise.0 0 inside in absurd (omega arith)
    ] in
    let begun : p.from ≤ tick = omega arith in
    let found = found_in network h tick p.from p.routes ps begun (All-head (IsPeriodOf network h) p ps are.routes) (All-tail (IsPeriodOf network h) p ps are.routes) rise in
    let up = found.from in
    let none : NoneBegins network found.begin tick = λ q inside after most.
    elim (in_cases p.from (map begin_of ps) q (subst (λ (l : List ℕ). Contains l q) (sym are.begins) inside)) [
      | inl e ↦ omega arith
      | inr later ↦ let low = found.last q later most in omega arith
    ] in
    subst (λ (b : Bool). AreHostRoutes network h tick (routes_since (if b then p.routes else []) ps tick)) (sym (le-leb p.from tick begun))
    (kept network h tick found.begin (routes_since p.routes ps tick) found.begun none found.are)

pub routes_now : (network : Network) (h tick : ℕ) (periods : List Period) → ArePeriodsOf network h periods → AreHostRoutes network h tick (routes_at periods tick)
routes_now network h tick periods are =
    routes_from network h tick periods are
    (subst Rises (sym are.begins) (rises network))
    (subst (λ (l : List ℕ). Contains l 0) (sym are.begins) (are_periods network).zero)
