use Rattle.std.proofs.Common.{ℕ, ◌<◌, ◌≤◌, Option, IfSome, length, arith, sym, subst, codes}
use Rattle.dml_tree.specs.Attributes.{Attributes}
use Rattle.dml_tree.specs.TreeView.{attributes}
use Rattle.net_graph.specs.Keys.{values_of, lists_of, number_of_value}
use Rattle.net_build.specs.RingModel.{hop_of}
use Rattle.net_build.proofs.ReadingKeys.{read_all, hop_within, number_small}
use Rattle.net_build.proofs.Rooms.{IsWithin}
use Rattle.net_build.proofs.ring.ring_keys.Goals as goal

pub returns-clause-tokens : goal.returns-clause-tokens
returns-clause-tokens c =
    let nodes = c.in_ok-nodes.field-0 in
    rw c.from_vec.ensures
    (read_all (λ (t : ℕ). t < nodes) (number_of_value (codes "token") 0 nodes) (λ v n e. number_small (codes "token") 0 nodes v n e)
    (values_of (codes "token") (attributes c.in-Some.ring.now)) c.in_ok-tokens.tokens.items c.in_ok-tokens.ensures.read).0

pub returns-clause-hops : goal.returns-clause-hops
returns-clause-hops c =
    let nodes = c.in_ok-nodes.field-0 in
    rw c.from_vec-2.ensures
    (read_all (IsWithin nodes) (λ (hop : Attributes). hop_of nodes (attributes hop)) (λ hop h e. hop_within nodes (attributes hop) h e)
    (lists_of (codes "hop") (attributes c.in-Some.ring.now)) c.in_ok-hops.hops.items c.in_ok-hops.ensures.read).0

pub returns-clause-few : goal.returns-clause-few
returns-clause-few c = λ small.
    let nodes = c.in_ok-nodes.field-0 in
    let few = subst (λ (o : Option Attributes). IfSome o (λ ring. length (values_of (codes "token") (attributes ring)) ≤ 4194304)) (sym c.in-Some.ensures) small in
    let read = read_all (λ (t : ℕ). t < nodes) (number_of_value (codes "token") 0 nodes) (λ v n e. number_small (codes "token") 0 nodes v n e)
    (values_of (codes "token") (attributes c.in-Some.ring.now)) c.in_ok-tokens.tokens.items c.in_ok-tokens.ensures.read in
    rw c.from_vec.ensures (omega (arith, few, read.1))
