use Rattle.std.proofs.Common.{◌≡◌, true}
use Rattle.sync_rules.proofs.States.{next_writes, next_same, entries_next}
use Rattle.sync_rules.proofs.laws.next_events_do_the_same.Goals as goal

pub returns-clause-writes : goal.returns-clause-writes
returns-clause-writes g c = λ s i fine same local all n h q own x. next_writes s i (λ x e. fine x e ≡ true) (λ x y. same x y ≡ true) local all n h q own x

pub returns-clause-state : goal.returns-clause-state
returns-clause-state g c = λ s i fine same local all n h q own x. next_same s i (λ x e. fine x e ≡ true) (λ x y. same x y ≡ true) local all n h q own x

pub returns-clause-history : goal.returns-clause-history
returns-clause-history g c = λ s i. entries_next s i
