-- Of two parts one lies in the other, at any depth, or they lie in two siblings; so their blocks are
-- nested or apart.
use Rattle.std.proofs.Common.{◌≡◌, ◌≢◌, ℕ, zero, suc, ◌+◌, ◌<◌, ◌≤◌, List, length, Some, None, ◌⊎◌, inl, inr, refl, sym, ap, subst, ◌∙◌, arith}
use Rattle.std.proofs.lemmas.Bool.{cases_order}
use Rattle.ip_blocks.specs.Blocks.{Part, size_of, sum_in}
use Rattle.ip_blocks.specs.Tree.{IsTree, at}
use Rattle.ip_blocks.proofs.Bases.{parent_at, cases_net, base_of, base_of-net, offset_within, offset_behind, before_cases}
use Rattle.ip_blocks.proofs.Exponents.{exponent-room, pow_back}

-- the part u holds the part x, at any depth, or is it
pub data Above (parts : List Part) : ℕ → ℕ → Type 0 where
  here : {x : ℕ} → Above parts x x
  up : {u p x : ℕ} → (at parts x).net ≡ Some p → Above parts u p → Above parts u x

-- two parts lie in two different siblings, at any depth
pub record InSiblings (parts : List Part) (a b : ℕ) : Type 0 where
  pub net : ℕ
  pub u : ℕ
  pub v : ℕ
  pub u_there : u < length parts
  pub v_there : v < length parts
  pub u_net : (at parts u).net ≡ Some net
  pub v_net : (at parts v).net ≡ Some net
  pub differ : u ≢ v
  pub above_a : Above parts u a
  pub above_b : Above parts v b

abbrev pub Related : List Part → ℕ → ℕ → Type 0
Related parts a b = Above parts a b ⊎ (Above parts b a ⊎ InSiblings parts a b)

-- what holds a part and is not it has a child that holds it
pub child_above : (parts : List Part) {q a : ℕ} → Above parts q a → (q ≡ a) ⊎ ((z : ℕ) × ((at parts z).net ≡ Some q) × Above parts z a)
child_above parts here = inl refl
child_above parts (up {u} {p} {x} e r) = elim (child_above parts r) [
  | inl same ↦ inr (x, e ∙ ap Some (sym same), here)
  | inr child ↦ inr (child.0, child.1, up e child.2)
]

module _ (parts : List Part) (count : ℕ) (t : IsTree parts count) where
  pub above_le : {u x : ℕ} → x < length parts → Above parts u x → u ≤ x
  above_le lt here = omega arith
  above_le {u} {x} lt (up {p = p} e r) =
      let less : p < x = (parent_at parts count t x p lt e).0 in
      let rest : u ≤ p = above_le (omega arith) r in
      omega arith

  swap_related : (a b : ℕ) → Related parts a b → Related parts b a
  swap_related a b (inl above) = inr (inl above)
  swap_related a b (inr (inl above)) = inl above
  swap_related a b (inr (inr s)) = inr (inr (record { net = s.net; u = s.v; v = s.u; u_there = s.v_there; v_there = s.u_there; u_net = s.v_net; v_net = s.u_net; differ = λ e. s.differ (sym e); above_a = s.above_b; above_b = s.above_a }))

  -- from the Net of b to b
  from_parent : (a b q : ℕ) → a < b → b < length parts → (at parts b).net ≡ Some q → Related parts a q → Related parts a b
  from_parent a b q less lt h (inl above) = inl (up h above)
  from_parent a b q less lt h (inr (inr s)) =
      inr (inr (record { net = s.net; u = s.u; v = s.v; u_there = s.u_there; v_there = s.v_there; u_net = s.u_net; v_net = s.v_net; differ = s.differ; above_a = s.above_a; above_b = up h s.above_b }))
  from_parent a b q less lt h (inr (inl below)) = elim (child_above parts below) [
    | inl same ↦ inl (up h (subst (λ n. Above parts a n) (sym same) here))
    | inr child ↦
        let z : ℕ = child.0 in
        let most : z ≤ a = above_le (omega arith) child.2 in
        inr (inr (record { net = q; u = z; v = b; u_there = omega arith; v_there = lt; u_net = child.1; v_net = h; differ = λ e. absurd (omega arith); above_a = child.2; above_b = here }))
  ]

  step_related : (k : ℕ) → ((a b : ℕ) → a < length parts → b < length parts → a + b ≤ k → Related parts a b) → (a b : ℕ) → a < b → b < length parts → a + b ≤ suc k → Related parts a b
  step_related k ih a b less lt most = elim (cases_net parts count t (at parts b).net) [
    | inl top ↦ absurd (omega (arith, top_is b lt top))
    | inr in_net ↦
        let q : ℕ = in_net.0 in
        let lower : q < b = (parent_at parts count t b q lt in_net.1).0 in
        from_parent a b q less lt in_net.1 (ih a q (omega arith) (omega arith) (omega arith))
  ]
    where
      top_is : (b : ℕ) → b < length parts → (at parts b).net ≡ None → b ≡ 0
      top_is b lt h = let m = t.parents b lt in rw h at m

  related_within : (k a b : ℕ) → a < length parts → b < length parts → a + b ≤ k → Related parts a b
  related_within zero a b la lb most = inl (let same : a ≡ b = omega arith in subst (λ n. Above parts a n) same here)
  related_within (suc k) a b la lb most = elim (cases_order a b) [
    | inl same ↦ inl (subst (λ n. Above parts a n) same here)
    | inr (inl less) ↦ step_related k (related_within k) a b less lb most
    | inr (inr more) ↦ swap_related b a (step_related k (related_within k) b a more la (omega arith))
  ]

  pub related : (a b : ℕ) → a < length parts → b < length parts → Related parts a b
  related a b la lb = related_within (a + b) a b la lb (omega arith)

  pub top_above : (k x : ℕ) → x < length parts → x ≤ k → Above parts 0 x
  top_above zero x lt h = let same : 0 ≡ x = omega arith in subst (λ n. Above parts 0 n) same here
  top_above (suc k) x lt h = elim (cases_net parts count t (at parts x).net) [
    | inl top ↦ let m = t.parents x lt in let is_top : x ≡ 0 = rw top at m in subst (λ n. Above parts 0 n) (sym is_top) here
    | inr in_net ↦
        let less : in_net.0 < x = (parent_at parts count t x in_net.0 lt in_net.1).0 in
        up in_net.1 (top_above k in_net.0 (omega arith) (omega arith))
  ]

  -- ---- in addresses
  in_parent : (x n : ℕ) → x < length parts → (at parts x).net ≡ Some n → (base_of parts n ≤ base_of parts x) × (base_of parts x + size_of (at parts x) ≤ base_of parts n + size_of (at parts n))
  in_parent x n lt h =
      let there : n < count = (parent_at parts count t x n lt h).1 in
      let base = base_of-net parts count t x n lt h in
      let room : sum_in n parts ≤ size_of (at parts n) = rw (t.filled n there) (exponent-room (sum_in n parts)) in
      let fits = offset_within parts n x lt h in
      (omega arith, omega arith)

  pub within : {u x : ℕ} → x < length parts → Above parts u x → (base_of parts u ≤ base_of parts x) × (base_of parts x + size_of (at parts x) ≤ base_of parts u + size_of (at parts u))
  within lt here = (omega arith, omega arith)
  within {u} {x} lt (up {p = p} e r) =
      let less : p < x = (parent_at parts count t x p lt e).0 in
      let outer = within {u = u} {x = p} (omega arith) r in
      let inner = in_parent x p lt e in
      (omega arith, omega arith)

  siblings_apart : (n u v : ℕ) → u < length parts → v < length parts → (at parts u).net ≡ Some n → (at parts v).net ≡ Some n → u ≢ v → (base_of parts u + size_of (at parts u) ≤ base_of parts v) ⊎ (base_of parts v + size_of (at parts v) ≤ base_of parts u)
  siblings_apart n u v lu lv hu hv ne =
      let bu = base_of-net parts count t u n lu hu in
      let bv = base_of-net parts count t v n lv hv in
      elim (before_cases (at parts u) (at parts v) (λ same. ne (t.differ u v lu lv (hu ∙ sym hv) same))) [
        | inl first ↦ inl (omega (arith, offset_behind parts n u v lu hu first))
        | inr second ↦ inr (omega (arith, offset_behind parts n v u lv hv second))
      ]

  pub apart : (a b : ℕ) → a < length parts → b < length parts → InSiblings parts a b → (base_of parts a + size_of (at parts a) ≤ base_of parts b) ⊎ (base_of parts b + size_of (at parts b) ≤ base_of parts a)
  apart a b la lb s =
      let in_u = within {u = s.u} {x = a} la s.above_a in
      let in_v = within {u = s.v} {x = b} lb s.above_b in
      elim (siblings_apart s.net s.u s.v s.u_there s.v_there s.u_net s.v_net s.differ) [
        | inl first ↦ inl (omega arith)
        | inr second ↦ inr (omega arith)
      ]

  -- no part is larger than the top Net
  pub exponent_most : (x : ℕ) → x < length parts → (at parts x).exponent ≤ (at parts 0).exponent
  exponent_most x lt =
      let in_top = within {u = 0} {x = x} lt (top_above x x lt (omega arith)) in
      pow_back (at parts x).exponent (at parts 0).exponent (omega arith)
