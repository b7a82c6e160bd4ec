use Rattle.std.proofs.Common.{◌≡◌, ℕ, ◌^◌, ◌<◌, ◌≤◌, Bool, false, List, length, get_or, All, ap, sym, ◌∙◌, arith}
use Rattle.std.proofs.lemmas.List.Elements.{All-push, All-contains}
use Rattle.ip_blocks.specs.declared.block.Block.{Block}
use Rattle.spf_routes.specs.declared.graph.Arm.{Arm}
use Rattle.spf_routes.specs.Walks.{IsGraph}
use Rattle.network_tests.proofs.routes.graph.Goals as goal

abbrev IsArm : List Bool → ℕ → Arm → Type 0
IsArm relays links arm = (arm.host < length relays) × (arm.link < links) × (arm.cost ≤ 65535) × (arm.relays ≡ get_or relays arm.host false)

is_graph : (relays : List Bool) (blocks : List Block) (arms : List Arm) → All (IsArm relays (length blocks)) arms → length blocks ≤ 2 ^ 32 → IsGraph (record { hosts = length relays; blocks = blocks; arms = arms })
is_graph relays blocks arms all few = record {
  hosts = λ k d lt. (all k d lt).0;
  links = λ k d lt. (all k d lt).1;
  costs = λ k d lt. (all k d lt).2;
  few_links = few;
  relays = λ a b in_a in_b same. (All-contains (IsArm relays (length blocks)) arms a all in_a).3 ∙ ap (λ (host : ℕ). get_or relays host false) same ∙ sym (All-contains (IsArm relays (length blocks)) arms b all in_b).3;
}

pub loop-row-preserved : goal.loop-row-preserved
loop-row-preserved g c =
    let links : ℕ = length c.loop-base.links.items in
    rw c.in_ok-push-2.ensures.items (All-push (IsArm c.args.relays.now links) c.loop-row.list.items c.arm.result c.loop-row.invariant (c.arm.ensures.host, omega (arith, c.arm.ensures.link, c.len-in-loop-row.ensures), c.arm.ensures.cost, c.arm.ensures.relays))

pub returns : goal.returns
returns g c = rw (c.from_vec.ensures, c.from_vec-2.ensures) (is_graph c.args.relays.now c.loop-base.links.items c.loop-row.list.items c.loop-row.invariant (omega arith))
