-- How far the client sessions of a host are: each goes through all servers of the host, in order.
use Rattle.std.specs.Prelude.{ℕ, ◌+◌, ◌≤◌, All, List, Option, length, nat_lt, if◌then◌else◌, replicate, slice_get, slice_index, slice_set}
use Rattle.sim_base.specs.declared.records.ClientRow.{ClientRow}
use Rattle.sim_base.specs.declared.records.ServerRow.{ServerRow}

-- the servers, and for each client session how many of them it was given
pub record Progress : Type 0 where
  pub servers : List ServerRow
  pub given : List ℕ

-- no session was given more servers than there are
pub record IsProgress (p : Progress) : Type 0 where
  pub given : All (λ given. given ≤ length p.servers) p.given

-- before any server was given
unfoldable pub at_first : List ClientRow → List ServerRow → Progress
at_first clients servers = record { servers = servers; given = replicate (length clients) 0 }

-- the server that a client session is given next
unfoldable pub next_server : Progress → ℕ → Option ServerRow
next_server p client = slice_get p.servers (slice_index p.given client)

-- afterwards that session was given one more, where there is one
unfoldable pub after_next : Progress → ℕ → Progress
after_next p client =
    let given = slice_index p.given client in
    if nat_lt given (length p.servers) then record p { given = slice_set p.given client (given + 1) } else p
