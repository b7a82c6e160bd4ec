-- One row and one arm more in the edges.
use Rattle.std.proofs.Common.{◌≡◌, ◌≢◌, ℕ, zero, suc, ◌+◌, ◌<◌, ◌⊎◌, Bool, true, false, List, [], ◌∷◌, ◌++◌, length, get_or, set, take, slice_get, Some, inl, inr, refl, sym, ap, subst, ◌∙◌, arith, Vec, Global, length-set}
use Rattle.std.specs.Prelude.{Contains}
use Rattle.std.proofs.lemmas.Bool.{cases_eq}
use Rattle.std.proofs.lemmas.List.{take_more}
use Rattle.std.proofs.lemmas.Option.{slice_get-get_or}
use Rattle.std.proofs.lemmas.List.Elements.{Contains-append_left, Contains-push, Contains-push_cases}
use Rattle.spf_routes.specs.declared.graph.Arm.{Arm}
use Rattle.spf_routes.specs.declared.search.Edge.{Edge}
use Rattle.spf_routes.specs.Paths.{IsEdge}
use Rattle.spf_routes.specs.Arms.{leaves, arrives, AreArms}
use Rattle.spf_routes.proofs.Direct.{no_arm}

slice_get-set_same : {X : Type 0} (xs : List X) (n : ℕ) (x : X) → n < length xs → slice_get (set xs n x) n ≡ Some x
slice_get-set_same [] n x lt = absurd (omega arith)
slice_get-set_same (y ∷ xs) zero x lt = refl
slice_get-set_same (y ∷ xs) (suc n) x lt = slice_get-set_same xs n x (omega arith)

slice_get-set_other : {X : Type 0} (xs : List X) (n m : ℕ) (x : X) → m ≢ n → slice_get (set xs n x) m ≡ slice_get xs m
slice_get-set_other [] n m x ne = refl
slice_get-set_other (y ∷ xs) zero zero x ne = absurd (ne refl)
slice_get-set_other (y ∷ xs) zero (suc m) x ne = refl
slice_get-set_other (y ∷ xs) (suc n) zero x ne = refl
slice_get-set_other (y ∷ xs) (suc n) (suc m) x ne = slice_get-set_other xs n m x (λ e. ne (omega arith))

module _ (edges : List (Vec Edge Global)) (n : ℕ) (row row' : Vec Edge Global) (new : Edge) (there : n < length edges) (at_n : slice_get edges n ≡ Some row) (pushed : row'.items ≡ row.items ++ new ∷ []) where
  pub edge_new : IsEdge (set edges n row') n new
  edge_new = (row', slice_get-set_same edges n row' there, rw pushed (Contains-push row.items new))

  pub edge_kept : (m : ℕ) (edge : Edge) → IsEdge edges m edge → IsEdge (set edges n row') m edge
  edge_kept m edge e = elim (cases_eq m n) [
    | inl same ↦
        let both : Some e.0 ≡ Some row = sym e.1 ∙ ap (slice_get edges) same ∙ at_n in
        let one : e.0 ≡ row = cc in
        (row', ap (slice_get (set edges n row')) same ∙ slice_get-set_same edges n row' there, rw pushed (Contains-append_left row.items (new ∷ []) edge (subst (λ (r : Vec Edge Global). Contains r.items edge) one e.2)))
    | inr other ↦ (e.0, slice_get-set_other edges n m row' other ∙ e.1, e.2)
  ]

  pub edge_cases : (m : ℕ) (edge : Edge) → IsEdge (set edges n row') m edge → IsEdge edges m edge ⊎ ((m ≡ n) × (edge ≡ new))
  edge_cases m edge e = elim (cases_eq m n) [
    | inl same ↦
        let both : Some e.0 ≡ Some row' = sym e.1 ∙ ap (slice_get (set edges n row')) same ∙ slice_get-set_same edges n row' there in
        let one : e.0 ≡ row' = cc in
        let held : Contains (row.items ++ new ∷ []) edge = rw pushed at (subst (λ (r : Vec Edge Global). Contains r.items edge) one e.2) in
        elim (Contains-push_cases row.items new edge held) [
          | inl before ↦ inl (row, ap (slice_get edges) same ∙ at_n, before)
          | inr it ↦ inr (same, sym it)
        ]
    | inr other ↦ inl (e.0, sym (slice_get-set_other edges n m row' other) ∙ e.1, e.2)
  ]

slice_get_push_cases : {X : Type 0} (xs : List X) (x y : X) (n : ℕ) → slice_get (xs ++ x ∷ []) n ≡ Some y → (slice_get xs n ≡ Some y) ⊎ (y ≡ x)
slice_get_push_cases [] x y zero e = inr (cc)
slice_get_push_cases [] x y (suc n) e = absurd (cc)
slice_get_push_cases (z ∷ xs) x y zero e = inl e
slice_get_push_cases (z ∷ xs) x y (suc n) e = slice_get_push_cases xs x y n e

-- an empty row has no edge
pub no_edge_more : (edges : List (Vec Edge Global)) (row : Vec Edge Global) → row.items ≡ [] → ((n : ℕ) (edge : Edge) → IsEdge edges n edge → ⊥) → (n : ℕ) (edge : Edge) → IsEdge (edges ++ row ∷ []) n edge → ⊥
no_edge_more edges row empty none n edge e = elim (slice_get_push_cases edges row e.0 n e.1) [
  | inl before ↦ none n edge (e.0, before, e.2)
  | inr one ↦ let held : Contains [] edge = subst (λ xs. Contains xs edge) (ap (λ (r : Vec Edge Global). r.items) one ∙ empty) e.2 in absurd (omega (arith, held.1))
]

pub first_arms : (links nodes : ℕ) (edges : List (Vec Edge Global)) → length edges ≡ nodes → ((n : ℕ) (edge : Edge) → IsEdge edges n edge → ⊥) → AreArms [] links nodes edges
first_arms links nodes edges many none = record {
  as_many = many;
  from_arms = λ n edge e. absurd (none n edge e);
  all_arms = λ a c r. absurd (omega (arith, c.1));
}

module _ (arms : List Arm) (links nodes i : ℕ) (edges : List (Vec Edge Global)) (lt : i < length arms) (h : AreArms (take i arms) links nodes edges) where
  abbrev arm : Arm
  arm = get_or arms i no_arm

  older : (n : ℕ) (edge : Edge) → IsEdge edges n edge → (a : Arm) × Contains (take i arms ++ arm ∷ []) a × (a.relays ≡ true) × (((n ≡ links + a.host) × (edge ≡ leaves a)) ⊎ ((n ≡ a.link) × (edge ≡ arrives links a)))
  older n edge e = let a = h.from_arms n edge e in (a.0, Contains-append_left (take i arms) (arm ∷ []) a.0 a.1, a.2, a.3)

  -- an arm of a host that does not relay
  pub arms_skip : (get_or arms i no_arm).relays ≡ false → AreArms (take (i + 1) arms) links nodes edges
  arms_skip not_relays = rw (take_more arms i no_arm lt) (record {
    as_many = h.as_many;
    from_arms = older;
    all_arms = λ a c r. elim (Contains-push_cases (take i arms) arm a c) [
      | inl before ↦ h.all_arms a before r
      | inr one ↦ let both : ◌≡◌ {A = Bool} false true = sym not_relays ∙ ap (λ (x : Arm). x.relays) one ∙ r in absurd (cc)
    ];
  })

  -- an arm of a host that relays
  pub arms_more : (out out' back back' : Vec Edge Global) → (get_or arms i no_arm).relays ≡ true → links + (get_or arms i no_arm).host < nodes → (get_or arms i no_arm).link < nodes → out ≡ get_or edges (links + (get_or arms i no_arm).host) out → out'.items ≡ out.items ++ leaves (get_or arms i no_arm) ∷ [] → back ≡ get_or (set edges (links + (get_or arms i no_arm).host) out') (get_or arms i no_arm).link back → back'.items ≡ back.items ++ arrives links (get_or arms i no_arm) ∷ [] → AreArms (take (i + 1) arms) links nodes (set (set edges (links + (get_or arms i no_arm).host) out') (get_or arms i no_arm).link back')
  arms_more out out' back back' relays host_there link_there at_host pushed at_link pushed_back =
      let node : ℕ = links + arm.host in
      let between : List (Vec Edge Global) = set edges node out' in
      let long : length between ≡ nodes = length-set edges node out' ∙ h.as_many in
      let low : node < length edges = omega (arith, h.as_many) in
      let low_link : arm.link < length between = omega (arith, long) in
      let row : slice_get edges node ≡ Some out = slice_get-get_or edges node out low ∙ ap Some (sym at_host) in
      let row_back : slice_get between arm.link ≡ Some back = slice_get-get_or between arm.link back low_link ∙ ap Some (sym at_link) in
      let out_kept = edge_kept edges node out out' (leaves arm) low row pushed in
      let back_kept = edge_kept between arm.link back back' (arrives links arm) low_link row_back pushed_back in
      rw (take_more arms i no_arm lt) (record {
        as_many = length-set between arm.link back' ∙ long;
        from_arms = λ n edge e. elim (edge_cases between arm.link back back' (arrives links arm) low_link row_back pushed_back n edge e) [
          | inl first ↦ elim (edge_cases edges node out out' (leaves arm) low row pushed n edge first) [
            | inl old ↦ older n edge old
            | inr new ↦ (arm, Contains-push (take i arms) arm, relays, inl new)
          ]
          | inr new ↦ (arm, Contains-push (take i arms) arm, relays, inr new)
        ];
        all_arms = λ a c r. elim (Contains-push_cases (take i arms) arm a c) [
          | inl before ↦
              let old = h.all_arms a before r in
              (back_kept (links + a.host) (leaves a) (out_kept (links + a.host) (leaves a) old.0), back_kept a.link (arrives links a) (out_kept a.link (arrives links a) old.1))
          | inr one ↦ subst (λ (x : Arm). IsEdge (set between arm.link back') (links + x.host) (leaves x) × IsEdge (set between arm.link back') x.link (arrives links x)) one
              (back_kept node (leaves arm) (edge_new edges node out out' (leaves arm) low row pushed), edge_new between arm.link back back' (arrives links arm) low_link row_back pushed_back)
        ];
      })
