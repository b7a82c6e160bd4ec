-- A session that is given its next server is never given more than there are.
use Rattle.std.proofs.Common.{◌≡◌, ℕ, ◌+◌, ◌<◌, ◌≤◌, Bool, true, false, if◌then◌else◌, All, length, nat_lt, slice_index, slice_set, refl, arith}
use Rattle.std.proofs.lemmas.Bool.{ltb-true}
use Rattle.std.proofs.lemmas.List.Elements.{All-set}
use Rattle.traffic.specs.Progress.{Progress, IsProgress, after_next}

after_test : (p : Progress) (client : ℕ) (b : Bool) → (b ≡ true → slice_index p.given client + 1 ≤ length p.servers) → IsProgress p
    → IsProgress (if b then record p { given = slice_set p.given client (slice_index p.given client + 1) } else p)
after_test p client true room is = record { given = All-set (λ given. given ≤ length p.servers) p.given client (slice_index p.given client + 1) (room refl) is.given }
after_test p client false room is = is

pub giving_keeps : (p : Progress) (client : ℕ) → IsProgress p → IsProgress (after_next p client)
unfolding after_next
giving_keeps p client is =
    after_test p client (nat_lt (slice_index p.given client) (length p.servers)) (λ more.
    let below : slice_index p.given client < length p.servers = ltb-true (slice_index p.given client) (length p.servers) more in omega arith) is
