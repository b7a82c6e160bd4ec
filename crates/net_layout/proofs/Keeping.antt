-- Where no period begins, no link goes down or comes up.
use Rattle.std.proofs.Common.{◌≡◌, ℕ, ◌<◌, ◌≤◌, Bool, ◌&&◌, not, nat_lt, nat_le, inl, inr, List, [], ◌∷◌, length, Option, Some, None, refl, sym, ap, ◌∙◌, if◌then◌else◌, arith}
use Rattle.std.specs.List.{Contains, list_any, flat_map}
use Rattle.std.proofs.lemmas.Bool.{cases_lt, le-leb, lt-leb, lt-ltb, le-ltb}
use Rattle.std.proofs.lemmas.List.{get_or_past}
use Rattle.std.proofs.lemmas.List.Elements.{Contains-get_or}
use Rattle.spf_routes.specs.declared.graph.Arm.{Arm}
use Rattle.net_graph.specs.declared.rows.Network.{Network}
use Rattle.net_graph.specs.declared.rows.LinkRow.{LinkRow}
use Rattle.net_graph.specs.declared.rows.Down.{Down}
use Rattle.net_graph.specs.Networks.{no_link, numbers, interface_at, link_at}
use Rattle.net_layout.specs.Periods.{is_down_at, is_up, BeginsOrEnds, ChangesAt, NoneBegins}
use Rattle.net_layout.specs.Addresses.{network_blocks}
use Rattle.net_layout.specs.Arms.{arm_at, arm_on, arm_of, arms_of, graph_of}
use Rattle.net_layout.proofs.Changes.{head_in, tail_in, are_periods}

any_same : {A : Type 0} (f g : A → Bool) (xs : List A) → ((x : A) → Contains xs x → f x ≡ g x) → list_any f xs ≡ list_any g xs
any_same f g [] each = refl
any_same f g (x ∷ xs) each = rw (each x (head_in x xs), any_same f g xs (λ y h. each y (tail_in x xs y h))) refl

flat_map_same : {A B : Type 0} (f g : A → List B) (xs : List A) → ((x : A) → f x ≡ g x) → flat_map f xs ≡ flat_map g xs
flat_map_same f g [] each = refl
flat_map_same f g (x ∷ xs) each = rw (each x, flat_map_same f g xs each) refl

module _ (begin tick : ℕ) (le : begin ≤ tick) where
  from_same : (from : ℕ) → (begin < from → from ≤ tick → ⊥) → nat_le from tick ≡ nat_le from begin
  from_same from none = elim (cases_lt begin from) [
    | inl later ↦ elim (cases_lt tick from) [
      | inl past ↦ lt-leb from tick past ∙ sym (lt-leb from begin later)
      | inr reached ↦ absurd (none later reached)
    ]
    | inr was ↦ le-leb from tick (omega arith) ∙ sym (le-leb from begin was)
  ]

  to_same : (to : ℕ) → (begin < to → to ≤ tick → ⊥) → nat_lt tick to ≡ nat_lt begin to
  to_same to none = elim (cases_lt begin to) [
    | inl later ↦ elim (cases_lt tick to) [
      | inl past ↦ lt-ltb tick to past ∙ sym (lt-ltb begin to later)
      | inr reached ↦ absurd (none later reached)
    ]
    | inr was ↦ le-ltb tick to (omega arith) ∙ sym (le-ltb begin to was)
  ]

  down_same : (down : Down) → ((q : ℕ) → BeginsOrEnds down q → begin < q → q ≤ tick → ⊥) → is_down_at tick down ≡ is_down_at begin down
  down_same down none =
      ap (λ b. b && nat_lt tick down.to) (from_same down.from (none down.from (inl refl)))
      ∙ ap (λ b. nat_le down.from begin && b) (to_same down.to (none down.to (inr refl)))

  link_same : (link : LinkRow) → ((q : ℕ) → ChangesAt link q → begin < q → q ≤ tick → ⊥) → is_up link tick ≡ is_up link begin
  link_same link none = ap not (any_same (is_down_at tick) (is_down_at begin) link.downs (λ down h. down_same down (λ q ends. none q (down, h, ends))))

  module _ (network : Network) (none : NoneBegins network begin tick) where
    pub links_same : (link : LinkRow) → Contains network.links link → is_up link tick ≡ is_up link begin
    links_same link h = link_same link (λ q change. none q ((are_periods network).changes q (link, h, change)))

    same_at : (l : ℕ) → is_up (link_at network l) tick ≡ is_up (link_at network l) begin
    same_at l = elim (cases_lt l (length network.links)) [
      | inl lt ↦ links_same (link_at network l) (Contains-get_or network.links l no_link lt)
      | inr past ↦ rw (get_or_past network.links l no_link past) refl
    ]

    arm_same : (i : ℕ) (at : Option (ℕ × ℕ)) → arm_on network tick i at ≡ arm_on network begin i at
    arm_same i None = refl
    arm_same i (Some at) = ap (λ (up : Bool). if up then arm_at network i at.0 at.1 ∷ [] else []) (same_at at.0)

    arms_same : arms_of network tick ≡ arms_of network begin
    unfolding arm_of arms_of
    arms_same = flat_map_same (arm_of network tick) (arm_of network begin) (numbers (length network.interfaces)) (λ i. arm_same i (interface_at network i).link)

    pub graph_same : graph_of network tick ≡ graph_of network begin
    graph_same = ap (λ (arms : List Arm). record { hosts = length network.hosts; blocks = (network_blocks network).links; arms = arms }) arms_same
