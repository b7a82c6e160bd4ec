-- Walks of several arms and the paths of the search have the same least labels.
use Rattle.std.proofs.Common.{◌≡◌, ◌≢◌, ℕ, ◌+◌, ◌<◌, ◌⊎◌, true, List, [], ◌∷◌, length, All, Option, Some, None, inl, inr, refl, sym, ap, subst, ◌∙◌, arith, Vec, Global}
use Rattle.std.specs.Prelude.{Contains}
use Rattle.std.proofs.lemmas.Bool.{cases_eq}
use Rattle.std.proofs.lemmas.List.Sums.{sum_by-cons}
use Rattle.std.proofs.lemmas.List.Elements.{All-contains}
use Rattle.spf_routes.specs.declared.graph.Arm.{Arm}
use Rattle.spf_routes.specs.declared.search.Label.{Label}
use Rattle.spf_routes.specs.declared.search.Edge.{Edge}
use Rattle.spf_routes.specs.declared.search.Start.{Start}
use Rattle.spf_routes.specs.Walks.{IsWalk, last_arm, cost_of, IsAtMost}
use Rattle.spf_routes.specs.Paths.{best_at, behind, IsEdge, IsPath, begins, goes_on, AreLeast}
use Rattle.spf_routes.specs.Arms.{Enters, entered, AreEntries, leaves, arrives, AreArms}
use Rattle.spf_routes.proofs.Queues.{at_most_refl, at_most_trans, at_most_behind, behind_at_most}

at_most_both : (a b : Label) → IsAtMost a b → IsAtMost b a → (a.cost ≡ b.cost) × (a.interface ≡ b.interface) × (a.next ≡ b.next)
at_most_both a b h k = (grind arith, grind arith, grind arith)

pub labels_same : (a b : Label) → IsAtMost a b → IsAtMost b a → a ≡ b
labels_same a b h k =
    let both = at_most_both a b h k in
    let first : ◌≡◌ {A = Label} a (record { cost = b.cost; interface = a.interface; next = a.next }) = ap {B = Label} (λ (x : ℕ). record { cost = x; interface = a.interface; next = a.next }) both.0 in
    let second : ◌≡◌ {A = Label} (record { cost = b.cost; interface = a.interface; next = a.next }) (record { cost = b.cost; interface = b.interface; next = a.next }) = ap {B = Label} (λ (x : ℕ). record { cost = b.cost; interface = x; next = a.next }) both.1 in
    first ∙ second ∙ ap {B = Label} (λ (x : ℕ). record { cost = b.cost; interface = b.interface; next = x }) both.2

-- a relaying host is entered with this label
pub data Arrives (arms : List Arm) (from : ℕ) : ℕ → Label → Type 0 where
  enter : (a e : Arm) → Enters arms from a e → Arrives arms from e.host (entered a e)
  on : {l : Label} (b e : Arm) → Arrives arms from b.host l → Contains arms b → b.relays ≡ true → Contains arms e → e.relays ≡ true → e.link ≡ b.link → e.host ≢ b.host → Arrives arms from e.host (behind l b.cost)

-- a link is reached by an arrival and an arm of that host
pub record ByArm (arms : List Arm) (from link : ℕ) (r : Label) : Type 0 where
  pub arm : Arm
  pub label : Label
  pub known : Contains arms arm
  pub relays : arm.relays ≡ true
  pub on_link : arm.link ≡ link
  pub there : Arrives arms from arm.host label
  pub is : r ≡ behind label arm.cost

-- at each link the least label of an arrival and an arm, and none where there is no such
pub record IsFound (arms : List Arm) (from links : ℕ) (best : List (Option Label)) : Type 0 where
  pub walked : (link : ℕ) (r : Label) → link < links → best_at best link ≡ Some r → ByArm arms from link r
  pub least : (b : Arm) (l : Label) → Contains arms b → b.relays ≡ true → Arrives arms from b.host l → (r : Label) × (best_at best b.link ≡ Some r) × IsAtMost r (behind l b.cost)

behind_zero : (l : Label) → IsAtMost (behind l 0) l
behind_zero l = grind arith

module _ (arms : List Arm) (from links nodes : ℕ) (starts : List Start) (edges : List (Vec Edge Global)) (ins : AreEntries arms from links starts) (net : AreArms arms links nodes edges) (low : All (λ (arm : Arm). arm.link < links) arms) where
  -- an arrival has a path that is no longer
  pub path_of : {host : ℕ} {l : Label} → Arrives arms from host l → (p : Label) × IsPath starts edges (links + host) p × IsAtMost p l
  path_of (enter a e h) = let s = ins.least a e h in (s.0, begins s.1, s.2)
  path_of (on {l = l} b e before known relays there relays_too shared other) =
      let s = path_of before in
      let out = (net.all_arms b known relays).0 in
      let back = (net.all_arms e there relays_too).1 in
      let at_link : IsPath starts edges b.link (behind s.0 b.cost) = goes_on (leaves b) s.1 out in
      let here : IsEdge edges b.link (arrives links e) = subst (λ n. IsEdge edges n (arrives links e)) shared back in
      (behind (behind s.0 b.cost) 0, goes_on (arrives links e) at_link here, at_most_trans (behind (behind s.0 b.cost) 0) (behind s.0 b.cost) (behind l b.cost) (behind_zero (behind s.0 b.cost)) (behind_at_most s.0 l b.cost s.2))

  -- a path of the search has an arrival, or an arrival and an arm, that is no longer
  record AtHost (n : ℕ) (l : Label) : Type 0 where
    host : ℕ
    label : Label
    node : n ≡ links + host
    arrives_there : Arrives arms from host label
    no_more : IsAtMost label l

  pub record AtLink (n : ℕ) (l : Label) : Type 0 where
    pub arm : Arm
    pub label : Label
    pub known : Contains arms arm
    pub relays : arm.relays ≡ true
    pub node : n ≡ arm.link
    pub arrives_there : Arrives arms from arm.host label
    pub no_more : IsAtMost (behind label arm.cost) l

  walk_of : {n : ℕ} {l : Label} → IsPath starts edges n l → AtHost n l ⊎ AtLink n l
  walk_of {n} {l} (begins h) =
      let w = ins.walked l n h in
      inl (record { host = w.1.host; label = entered w.0 w.1; node = w.3; arrives_there = enter w.0 w.1 w.2; no_more = subst (IsAtMost (entered w.0 w.1)) (sym w.4) (at_most_refl (entered w.0 w.1)) })
  walk_of (goes_on {node = m} {label = l} edge p e) =
      let arm = net.from_arms m edge e in
      let before = walk_of p in
      elim arm.3 [
        | inl out ↦ inr (subst (λ (x : Edge). AtLink x.to (behind l x.weight)) (sym out.1) (leaving m l arm.0 arm.1 arm.2 out.0 before))
        | inr back ↦ inl (subst (λ (x : Edge). AtHost x.to (behind l x.weight)) (sym back.1) (returning m l arm.0 arm.1 arm.2 back.0 before))
      ]
    where
      leaving : (m : ℕ) (l : Label) (a : Arm) → Contains arms a → a.relays ≡ true → m ≡ links + a.host → AtHost m l ⊎ AtLink m l → AtLink a.link (behind l a.cost)
      leaving m l a known relays is (inl at) =
          let same : at.host ≡ a.host = omega (arith, at.node) in
          record { arm = a; label = at.label; known = known; relays = relays; node = refl; arrives_there = subst (λ h. Arrives arms from h at.label) same at.arrives_there; no_more = behind_at_most at.label l a.cost at.no_more }
      leaving m l a known relays is (inr at) = absurd (omega (arith, at.node, All-contains (λ (arm : Arm). arm.link < links) arms at.arm low at.known))

      returning : (m : ℕ) (l : Label) (a : Arm) → Contains arms a → a.relays ≡ true → m ≡ a.link → AtHost m l ⊎ AtLink m l → AtHost (links + a.host) (behind l 0)
      returning m l a known relays is (inl at) = absurd (omega (arith, at.node, All-contains (λ (arm : Arm). arm.link < links) arms a low known))
      returning m l a known relays is (inr at) =
          let longer : IsAtMost (behind at.label at.arm.cost) (behind l 0) = at_most_trans (behind at.label at.arm.cost) l (behind l 0) at.no_more (at_most_behind l 0) in
          elim (cases_eq a.host at.arm.host) [
            | inl same ↦ record { host = at.arm.host; label = at.label; node = ap (λ h. links + h) same; arrives_there = at.arrives_there; no_more = at_most_trans at.label (behind at.label at.arm.cost) (behind l 0) (at_most_behind at.label at.arm.cost) longer }
            | inr other ↦ record { host = a.host; label = behind at.label at.arm.cost; node = refl; arrives_there = on at.arm a at.arrives_there at.known at.relays known relays (sym is ∙ at.node) other; no_more = longer }
          ]

  -- what the search finds at a link is reached by an arrival and an arm, and nothing of the kind is less
  module _ (best : List (Option Label)) (found : AreLeast starts edges best) where
    found_least : (b : Arm) (l : Label) → Contains arms b → b.relays ≡ true → Arrives arms from b.host l → (r : Label) × (best_at best b.link ≡ Some r) × IsAtMost r (behind l b.cost)
    found_least b l known relays there =
        let p = path_of there in
        let r = found.least b.link (behind p.0 b.cost) (goes_on (leaves b) p.1 (net.all_arms b known relays).0) in
        (r.0, r.1, at_most_trans r.0 (behind p.0 b.cost) (behind l b.cost) r.2 (behind_at_most p.0 l b.cost p.2))

    found_walk : (link : ℕ) (r : Label) → link < links → best_at best link ≡ Some r → ByArm arms from link r
    found_walk link r lt e = elim (walk_of (found.reached link r e)) [
      | inl at ↦ absurd (omega (arith, at.node))
      | inr at ↦
          let least = found_least at.arm at.label at.known at.relays at.arrives_there in
          let same : Some least.0 ≡ Some r = sym least.1 ∙ ap (best_at best) (sym at.node) ∙ e in
          let one : least.0 ≡ r = cc in
          record { arm = at.arm; label = at.label; known = at.known; relays = at.relays; on_link = sym at.node; there = at.arrives_there; is = labels_same r (behind at.label at.arm.cost) (subst (λ (x : Label). IsAtMost x (behind at.label at.arm.cost)) one least.2) at.no_more }
    ]

    pub is_found : IsFound arms from links best
    is_found = record { walked = found_walk; least = found_least }

-- without starts no host is entered, and no link has a label
module _ (arms : List Arm) (from links : ℕ) (starts : List Start) (ins : AreEntries arms from links starts) (empty : length starts ≡ 0) where
  no_arrival : {host : ℕ} {l : Label} → Arrives arms from host l → ⊥
  no_arrival (enter a e h) = omega (arith, (ins.least a e h).1.1)
  no_arrival (on b e before known relays there relays_too shared other) = no_arrival before

  pub none_found : (best : List (Option Label)) → ((n : ℕ) → best_at best n ≡ None) → IsFound arms from links best
  none_found best none = record {
    walked = λ link r lt e. let both : None ≡ Some r = sym (none link) ∙ e in cc;
    least = λ b l known relays there. absurd (no_arrival there);
  }

-- ---- walks as lists of arms
module _ (arms : List Arm) (from : ℕ) (same_host : (a b : Arm) → Contains arms a → Contains arms b → a.host ≡ b.host → a.relays ≡ b.relays) where
  -- an arrival and the walk that goes on from it
  pub record Rest (l : Label) (b : Arm) (rest : List Arm) : Type 0 where
    pub label : Label
    pub there : Arrives arms from (last_arm b rest).host label
    pub known : Contains arms (last_arm b rest)
    pub relays : (last_arm b rest).relays ≡ true
    pub cost : label.cost + (last_arm b rest).cost ≡ l.cost + cost_of b rest
    pub interface : label.interface ≡ l.interface
    pub next : label.next ≡ l.next

  pub go_on : (l : Label) (b : Arm) (rest : List Arm) → Arrives arms from b.host l → Contains arms b → b.relays ≡ true → IsWalk arms b rest → Rest l b rest
  go_on l b [] at known relays walk = record { label = l; there = at; known = known; relays = relays; cost = omega arith; interface = refl; next = refl }
  go_on l b (c ∷ rest) at known relays walk =
      let step = walk.0 in
      let e : Arm = step.attached.1.0 in
      let in_arms = step.attached.1.1 in
      let host : e.host ≡ c.host = step.attached.1.2 in
      let e_relays : e.relays ≡ true = same_host e c in_arms step.known host ∙ step.other_relays in
      let here = on b e at known relays in_arms e_relays step.attached.1.3 (λ same. step.another (sym host ∙ same)) in
      let at_c : Arrives arms from c.host (behind l b.cost) = subst (λ h. Arrives arms from h (behind l b.cost)) host here in
      let r = go_on (behind l b.cost) c rest at_c step.known step.other_relays walk.1 in
      record { label = r.label; there = r.there; known = r.known; relays = r.relays; cost = omega (arith, r.cost, sum_by-cons (λ (x : Arm). x.cost) c rest); interface = r.interface; next = r.next }
