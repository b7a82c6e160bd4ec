-- The graph of a period is one that `shortest` takes.
use Rattle.std.proofs.Common.{◌≡◌, ℕ, zero, suc, ◌+◌, ◌<◌, ◌≤◌, Bool, true, false, cond, List, [], ◌∷◌, length, Option, Some, None, refl, sym, ap, subst, ◌∙◌, arith}
use Rattle.std.specs.Prelude.{All}
use Rattle.std.specs.List.{flat_map, range_with_len}
use Rattle.std.proofs.lemmas.List.Elements.{All-nil, All-cons, All-append, All-weaker, All-contains}
use Rattle.net_graph.specs.declared.rows.Network.{Network}
use Rattle.ip_blocks.specs.declared.block.Block.{Block}
use Rattle.ip_blocks.specs.Blocks.{BlockLists}
use Rattle.spf_routes.specs.declared.graph.Arm.{Arm}
use Rattle.spf_routes.specs.Walks.{IsGraph}
use Rattle.net_graph.specs.Networks.{IsNetwork, host_at, interface_at, link_at}
use Rattle.net_layout.specs.Periods.{is_up}
use Rattle.net_layout.specs.Addresses.{AreBlocks}
use Rattle.net_layout.specs.Arms.{arm_at, arm_on, arm_of, arms_of}

-- what holds of each number in range holds of all that is made of them
pub All_numbered : {B : Type 0} (P : B → Type 0) (f : ℕ → List B) (a n : ℕ) → ((i : ℕ) → a ≤ i → i < a + n → All P (f i)) → All P (flat_map f (range_with_len a n))
All_numbered P f a zero each = All-nil P
All_numbered P f a (suc n) each =
    All-append P (f a) (flat_map f (range_with_len (a + 1) n)) (each a (omega arith) (omega arith)) (All_numbered P f (a + 1) n (λ i low high. each i (omega arith) (omega arith)))

-- an arm of a network
pub record IsArm (network : Network) (arm : Arm) : Type 0 where
  pub host : arm.host < length network.hosts
  pub link : arm.link < length network.links
  pub cost : arm.cost ≤ 65535
  pub relays : arm.relays ≡ (host_at network arm.host).ospf

module _ (network : Network) (is : IsNetwork network) (tick i : ℕ) (lt : i < length network.interfaces) where
  on_up : (at : ℕ × ℕ) (up : Bool) → (interface_at network i).link ≡ Some at → All (IsArm network) (cond up (arm_at network i at.0 at.1 ∷ []) [])
  on_up at false e = All-nil (IsArm network)
  on_up at true e =
      let row = is.interfaces i lt in
      All-cons (IsArm network) (arm_at network i at.0 at.1) [] (record { host = row.host; link = row.link at e; cost = row.cost.1; relays = refl }) (All-nil (IsArm network))

  on_link : (o : Option (ℕ × ℕ)) → (interface_at network i).link ≡ o → All (IsArm network) (arm_on network tick i o)
  on_link None e = All-nil (IsArm network)
  on_link (Some at) e = on_up at (is_up (link_at network at.0) tick) e

  pub arms_of_interface : All (IsArm network) (arm_of network tick i)
  unfolding arm_of
  arms_of_interface = on_link (interface_at network i).link refl

pub all_arms : (network : Network) (tick : ℕ) → IsNetwork network → All (IsArm network) (arms_of network tick)
unfolding arms_of
all_arms network tick is = All_numbered (IsArm network) (arm_of network tick) 0 (length network.interfaces) (λ i low lt. arms_of_interface network is tick i (omega arith))

pub lawful : (network : Network) (blocks : List Block) (tick : ℕ) → IsNetwork network → length blocks ≡ length network.links → IsGraph (record { hosts = length network.hosts; blocks = blocks; arms = arms_of network tick })
lawful network blocks tick is as_many =
    let arms = all_arms network tick is in
    record {
      hosts = All-weaker (IsArm network) (λ (arm : Arm). arm.host < length network.hosts) (λ arm h. h.host) (arms_of network tick) arms;
      links = All-weaker (IsArm network) (λ (arm : Arm). arm.link < length blocks) (λ arm h. omega (arith, h.link, as_many)) (arms_of network tick) arms;
      costs = All-weaker (IsArm network) (λ (arm : Arm). arm.cost ≤ 65535) (λ arm h. h.cost) (arms_of network tick) arms;
      few_links = omega (arith, as_many, is.small.links);
      relays = λ a b first second same.
          (All-contains (IsArm network) (arms_of network tick) a arms first).relays
          ∙ ap (λ h. (host_at network h).ospf) same
          ∙ sym ((All-contains (IsArm network) (arms_of network tick) b arms second).relays);
    }

pub lawful_from : (network : Network) (blocks : BlockLists) (tick hosts : ℕ) (links : List Block) (arms : List Arm) → IsNetwork network → AreBlocks network blocks → hosts ≡ length network.hosts → links ≡ blocks.links → arms ≡ arms_of network tick → IsGraph (record { hosts = hosts; blocks = links; arms = arms })
lawful_from network blocks tick hosts links arms is are h b a =
    let lawful_one = lawful network links tick is (ap length b ∙ are.links) in
    let with_arms : IsGraph (record { hosts = length network.hosts; blocks = links; arms = arms }) =
    subst (λ (x : List Arm). IsGraph (record { hosts = length network.hosts; blocks = links; arms = x })) (sym a) lawful_one in
    subst (λ (x : ℕ). IsGraph (record { hosts = x; blocks = links; arms = arms })) (sym h) with_arms
